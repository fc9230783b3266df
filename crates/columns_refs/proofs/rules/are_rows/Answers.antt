use Rattle.columns_refs.proofs.Ruled.{no-offsets, other-rows, starts-late, then-climbs}
use Rattle.columns_refs.proofs.rules.are_rows.Goals as goal

pub returns-then-starts-eq0 : goal.returns-then-starts-eq0
returns-then-starts-eq0 c = search no-offsets

pub returns-then-starts-rows : goal.returns-then-starts-rows
returns-then-starts-rows c = search other-rows

pub returns-then-starts-ne0 : goal.returns-then-starts-ne0
returns-then-starts-ne0 c = search starts-late

pub returns : goal.returns
returns c = search then-climbs
