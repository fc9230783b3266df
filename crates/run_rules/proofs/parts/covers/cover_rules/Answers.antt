use Rattle.run_rules.proofs.parts.CoverTurns.{ranges-bad, links-bad, cover-kept}
use Rattle.run_rules.proofs.parts.covers.cover_rules.Goals as goal

pub returns-then-not-ranges_ok : goal.returns-then-not-ranges_ok
returns-then-not-ranges_ok c = search ranges-bad

pub returns-then-not-links_ok : goal.returns-then-not-links_ok
returns-then-not-links_ok c = search links-bad

pub returns : goal.returns
returns c = search cover-kept
