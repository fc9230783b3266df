use Rattle.std.proofs.Common.{rules}
use Rattle.cover_build.proofs.encode.Encoding.{diffs-over, diffs-done, diffs-on}
use Rattle.cover_build.proofs.encode.write_differences.Goals as goal

pub loop-i-init : goal.loop-i-init
loop-i-init c = (search rules, search rules, search diffs-over)

pub loop-i-preserved : goal.loop-i-preserved
loop-i-preserved c = (search rules, search rules, search diffs-on)

pub returns : goal.returns
returns c = search diffs-done
