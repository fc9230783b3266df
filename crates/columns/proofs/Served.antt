-- The numbers of kinds that hosts may ask for are served, and so is a run's own.
use native.Mathlib.Omega.{arith}
use Rattle.columns.specs.Limits.{kinds, Served}

pub kinds-served : Served kinds
kinds-served = record { some = omega arith; known = omega arith; few = omega arith }
