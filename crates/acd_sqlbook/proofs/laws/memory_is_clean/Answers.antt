use Rattle.std.proofs.Common.{refl}
use Rattle.sqlite_trees.specs.View.{doubt}
use Rattle.acd_sqlbook.proofs.laws.memory_is_clean.Goals as goal

pub returns : goal.returns
unfolding doubt
returns c h failures = refl
