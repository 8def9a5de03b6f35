use Rattle.std.proofs.Common.{refl}
use Rattle.acd_files.proofs.Begun.{same_options}
use Rattle.acd_files.proofs.paging.one_page.Goals as goal

pub returns : goal.returns
returns c = same_options refl c.new.ensures.memory.1 c.new.ensures.log c.new.ensures.seed
