use Rattle.run_store.proofs.sets.SetTurns.{place-forward, place-reverse, place-inbound}
use Rattle.run_store.proofs.sets.set_place.Goals as goal

pub returns-in-Forward : goal.returns-in-Forward
returns-in-Forward c = search place-forward

pub returns-in-Reverse : goal.returns-in-Reverse
returns-in-Reverse c = search place-reverse

pub returns-in-Inbound : goal.returns-in-Inbound
returns-in-Inbound c = search place-inbound
