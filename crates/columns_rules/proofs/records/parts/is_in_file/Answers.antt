use Rattle.columns_rules.proofs.records.FileNumbers.{before-file, from_first}
use Rattle.columns_rules.proofs.records.parts.is_in_file.Goals as goal

pub returns-then-number-first : goal.returns-then-number-first
returns-then-number-first c = search before-file

pub returns : goal.returns
returns c = search from_first
