use Rattle.cover_sort.proofs.labels.Joining.{none-count, none-put, some-count, some-put}
use Rattle.cover_sort.proofs.labels.join_runs.Goals as goal

pub returns-then-keys-eq0-clause-value : goal.returns-then-keys-eq0-clause-value
returns-then-keys-eq0-clause-value c = search none-count

pub returns-then-keys-eq0-clause-maxima_after : goal.returns-then-keys-eq0-clause-maxima_after
returns-then-keys-eq0-clause-maxima_after c = search none-put

pub returns-clause-value : goal.returns-clause-value
returns-clause-value c = search some-count

pub returns-clause-maxima_after : goal.returns-clause-maxima_after
returns-clause-maxima_after c = search some-put
