use Rattle.std.proofs.Common.{◌≡◌, ◌-◌}
use Rattle.cover.specs.Places.{rows_from}
use Rattle.cover_rows.specs.Links.{links_in, link_at}
use Rattle.cover_sort.specs.Kept.{level_from, links_level}
use Rattle.cover_sort.proofs.level.links_level.Given as goal

abbrev pub invariant-loop-i : goal.invariant-loop-i
invariant-loop-i l =
    links_level (links_in l.links)
    ≡ level_from (link_at l.links (l.i - 1)) (rows_from l.links.from_chains.now l.links.from_seqs.now l.links.to_chains.now l.links.to_seqs.now l.i)
