use Rattle.std.proofs.Common.{◌≡◌, ◌-◌}
use Rattle.cover.specs.Chains.{links_rise, links_above}
use Rattle.cover.specs.Places.{rows_from}
use Rattle.cover_rows.specs.Links.{links_in, link_at}
use Rattle.cover_rows.proofs.Links.rise.Given as goal

abbrev pub invariant-loop-i : goal.invariant-loop-i
invariant-loop-i l =
    links_rise (links_in l.self)
    ≡ links_above (link_at l.self (l.i - 1)) (rows_from l.self.from_chains.now l.self.from_seqs.now l.self.to_chains.now l.self.to_seqs.now l.i)
