-- What building is given and answers by numbers.
use Rattle.std.specs.Prelude.{cond, ℕ, Err, Ok, Result}
use Rattle.columns.specs.declared.refusal.Refusal.{Refusal}
use Rattle.columns.specs.declared.depth.Depth as depths
use Rattle.columns_encode.specs.declared.writing.Counts.{Counts}
use Rattle.ffi.specs.Numbers.{flag_at, edges, no_edges}
use Rattle.ffi.specs.declared.granule.Granule.{Granule}

-- a depth, which there is where the flag is set
unfoldable pub depth_at : ℕ → ℕ → ℕ → depths.Depth
depth_at deep low high = cond (flag_at deep) (depths.TheVariants.Between low high) depths.TheVariants.Unknown

unfoldable pub built_of : Result Counts Refusal → Granule
built_of (Ok c) = edges c.forward c.reverse c.inbound
built_of (Err r) = no_edges r
