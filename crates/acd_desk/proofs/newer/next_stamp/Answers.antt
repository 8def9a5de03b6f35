use Rattle.std.proofs.Common.{◌≤◌, arith}
use Rattle.acd_desk.proofs.Archives.ArchiveReplaySteps.{few_of_switch}
use Rattle.acd_desk.proofs.newer.next_stamp.Goals as goal

pub overflow_add-result : goal.overflow_add-result
overflow_add-result c = let few : c.last_stamp.result ≤ 1000000000 = few_of_switch c.last_stamp.result _ _ c.args.loaded.now.rules c.last_stamp.ensures c.deref.ensures in omega (arith, few)
