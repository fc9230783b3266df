use Rattle.columns_refs.proofs.Notes.{passed_over, in-children, in-kinds, in-handles, noted_one}
use Rattle.columns_refs.proofs.records.note.Goals as goal

pub returns-then-not-is_unresolved : goal.returns-then-not-is_unresolved
returns-then-not-is_unresolved c = search passed_over

pub bounds-children-at : goal.bounds-children-at
bounds-children-at c = search in-children

pub bounds-ukinds-at : goal.bounds-ukinds-at
bounds-ukinds-at c = search in-kinds

pub bounds-handles-at : goal.bounds-handles-at
bounds-handles-at c = search in-handles

pub returns : goal.returns
returns c = search noted_one
