-- Lent columns as the references that they are, and as a file's references.
use Rattle.std.specs.Prelude.{List, ℕ}
use Rattle.columns_refs.specs.References.{Referred, references_of}
use Rattle.columns_refs.specs.Resolved.{referred}
use Rattle.columns_refs.specs.declared.refs.Reference.{Reference}
use Rattle.columns_refs.specs.declared.refs.Lent.{Lent}

abbrev pub references : Lent → List Reference
references l = references_of l.kinds.now l.spaces.now l.targets.now l.known.now l.numbers.now

abbrev pub referred_lent : ℕ → ℕ → List ℕ → Lent → Referred
referred_lent first rows starts l = referred first rows starts l.kinds.now l.spaces.now l.targets.now l.known.now l.numbers.now
