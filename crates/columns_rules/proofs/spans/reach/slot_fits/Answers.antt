use Rattle.columns_rules.proofs.spans.SpanTurns.{gran-in, gran-next-in, gran-inside, gran-says}
use borrow.Author.Rules.{rules}
use Rattle.columns_rules.proofs.spans.reach.slot_fits.Goals as goal

pub bounds-offsets-s : goal.bounds-offsets-s
bounds-offsets-s c = search gran-in

pub bounds-offsets-s-2 : goal.bounds-offsets-s-2
bounds-offsets-s-2 c = search gran-next-in

pub all_fit-requires : goal.all_fit-requires
all_fit-requires c = search gran-inside

pub returns : goal.returns
returns c = search (rules, gran-says)
