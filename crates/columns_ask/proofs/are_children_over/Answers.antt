use Rattle.columns_ask.proofs.Asked.{many-children}
use Rattle.columns_ask.proofs.Found.{two-fit}
use Rattle.columns_ask.proofs.are_children_over.Goals as goal

pub overflow_add-result : goal.overflow_add-result
overflow_add-result c = search two-fit

pub returns : goal.returns
returns c = search many-children
