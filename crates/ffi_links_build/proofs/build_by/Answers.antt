use Rattle.ffi_links_build.proofs.Covering.{links-wrote}
use Rattle.ffi_links_build.proofs.build_by.Goals as goal

pub returns : goal.returns
returns c = search links-wrote
