-- `archive_read::files::with_file` returns the sums with one file more.
use Rattle.archive_read.specs.Sums.{with_file}
use borrow.Author.Rules.{rules}
use Rattle.archive_read.proofs.files.with_file.Goals as goal

pub returns : goal.returns
unfolding with_file
returns c = search rules
