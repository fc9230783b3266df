-- Document 01, "Archive records": how long the file of a group is, by the edges of its sets.
use Rattle.std.specs.Prelude.{◌≡◌, ℕ, ◌≤◌, Bool}
use Rattle.columns.specs.Limits.{max_numbers}
use Rattle.columns.specs.Building.{Built}
use Rattle.archive_store.specs.sizes.FileSize.{file_size}
use Rattle.run_section.specs.declared.Section.{Section}
use Rattle.run_section.specs.declared.sizes.Edges.{Edges}
use Rattle.run_section.specs.Files.{many}

-- how many edges each set has
pub record EdgesOf (b : Built) (e : Edges) : Type 0 where
  pub forward_is : e.forward ≡ b.forward.count
  pub reverse_is : e.reverse ≡ b.reverse.count
  pub inbound_is : e.inbound ≡ b.inbound.count
  pub few_forward : e.forward ≤ max_numbers
  pub few_reverse : e.reverse ≤ max_numbers
  pub few_inbound : e.inbound ≤ max_numbers

-- the size of a group's file by its section: the length of the subject, the edges, whether it has a cover, and how many ranges
unfoldable pub size_at : ℕ → Section → Edges → Bool → ℕ → ℕ
size_at subject s e covered ranges =
    file_size subject (many s.rows) e.forward e.reverse e.inbound (many s.unresolved) (many s.roots) covered ranges (many s.links)
