use Rattle.run_rules.proofs.files.PartOrder.{no_cover, some-cover, cover-holds}
use Rattle.run_rules.proofs.files.one.cover_rule.Goals as goal

pub returns-then-not-t : goal.returns-then-not-t
returns-then-not-t c = search no_cover

pub covered_rule-requires-clause-holds_cover : goal.covered_rule-requires-clause-holds_cover
covered_rule-requires-clause-holds_cover c = search cover-holds

pub returns : goal.returns
returns c = search some-cover
