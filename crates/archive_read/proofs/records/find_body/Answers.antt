use native.Mathlib.Omega.{arith}
use Rattle.archive_read.proofs.bodies.AtHead.{starts-late, no_start, too_small, too_long, no-version, no_kind, is_body}
use borrow.Author.Rules.{rules}
use Rattle.archive_read.proofs.records.find_body.Goals as goal

pub returns-then-bytes-p-clause-result_value : goal.returns-then-bytes-p-clause-result_value
returns-then-bytes-p-clause-result_value c = search starts-late

pub returns-then-bytes-p-clause-inside : goal.returns-then-bytes-p-clause-inside
returns-then-bytes-p-clause-inside c = tt

pub returns-then-bytes-p-lt6-clause-result_value : goal.returns-then-bytes-p-lt6-clause-result_value
returns-then-bytes-p-lt6-clause-result_value c = search no_start

pub returns-then-bytes-p-lt6-clause-inside : goal.returns-then-bytes-p-lt6-clause-inside
returns-then-bytes-p-lt6-clause-inside c = tt

pub returns-then-n-lt2-clause-result_value : goal.returns-then-n-lt2-clause-result_value
returns-then-n-lt2-clause-result_value c = search (rules, too_small)

pub returns-then-n-lt2-clause-inside : goal.returns-then-n-lt2-clause-inside
returns-then-n-lt2-clause-inside c = tt

pub returns-then-bytes-p-2-clause-result_value : goal.returns-then-bytes-p-2-clause-result_value
returns-then-bytes-p-2-clause-result_value c = search (rules, too_long)

pub returns-then-bytes-p-2-clause-inside : goal.returns-then-bytes-p-2-clause-inside
returns-then-bytes-p-2-clause-inside c = tt

pub returns-then-bytes-p-ne1-clause-result_value : goal.returns-then-bytes-p-ne1-clause-result_value
returns-then-bytes-p-ne1-clause-result_value c = search (rules, no-version)

pub returns-then-bytes-p-ne1-clause-inside : goal.returns-then-bytes-p-ne1-clause-inside
returns-then-bytes-p-ne1-clause-inside c = tt

pub returns-then-bytes-p-3-clause-result_value : goal.returns-then-bytes-p-3-clause-result_value
returns-then-bytes-p-3-clause-result_value c = search (rules, no_kind)

pub returns-then-bytes-p-3-clause-inside : goal.returns-then-bytes-p-3-clause-inside
returns-then-bytes-p-3-clause-inside c = tt

pub returns-clause-result_value : goal.returns-clause-result_value
returns-clause-result_value c = is_body _ _ _ c.load_u32.ensures.0 c.index-n.ensures (omega arith) (omega arith) (omega arith) (omega arith) c.if-bytes-p-ne1.false
    c.if-bytes-p-3.false

pub returns-clause-inside : goal.returns-clause-inside
returns-clause-inside c = (search rules, search rules, search rules)
