use Rattle.std.proofs.Common.{rules}
use Rattle.cover_sort.proofs.labels.Joining.{count_done, count_same, count_next, put-done, put_same, put_next}
use Rattle.cover_sort.proofs.labels.join_from.Goals.{then-key-last, else-key-last}
use Rattle.cover_sort.proofs.labels.join_from.Goals as goal

pub loop-i-init : goal.loop-i-init
loop-i-init c = (search rules, search rules, search rules, search rules, search rules, search rules)

pub loop-i-preserved : goal.loop-i-preserved
loop-i-preserved c =
    elim c.if-key-last.branch [
      | then-key-last w ↦ rw (w.ids-is, w.minima-is, w.maxima-is, w.first-is, w.at-is)
          (search rules, search rules, search rules, search rules, search count_next, search put_next)
      | else-key-last w ↦ rw (w.ids-is, w.minima-is, w.maxima-is, w.first-is, w.at-is)
          (search rules, search rules, search rules, search rules, search count_same, search put_same)
    ]

pub returns-clause-value : goal.returns-clause-value
returns-clause-value c = search count_done

pub returns-clause-maxima_after : goal.returns-clause-maxima_after
returns-clause-maxima_after c = search put-done
