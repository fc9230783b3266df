use Rattle.run_rules.proofs.parts.HeadOrder.{none_before, back-group, back-source, back-cover, back-kept}
use Rattle.run_rules.proofs.parts.heads.back_rules.Goals as goal

pub returns-then-not-back : goal.returns-then-not-back
returns-then-not-back c = search none_before

pub returns-then-not-is_near : goal.returns-then-not-is_near
returns-then-not-is_near c = search back-group

pub returns-then-not-is_next : goal.returns-then-not-is_next
returns-then-not-is_next c = search back-source

pub returns-then-not-is_alike : goal.returns-then-not-is_alike
returns-then-not-is_alike c = search back-cover

pub returns : goal.returns
returns c = search back-kept
