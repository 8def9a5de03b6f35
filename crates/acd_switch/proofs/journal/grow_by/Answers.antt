use Rattle.std.proofs.Common.{rules, ◌≡◌, Some}
use Rattle.acd_model.specs.Scans.{group_of}
use Rattle.acd_switch.proofs.RoomOfFigures.{found_fits}
use Rattle.acd_switch.proofs.journal.grow_by.Goals as goal

pub counting-requires : goal.counting-requires
counting-requires c =
    let found : group_of c.args.tables.now c.in-Some.device ≡ Some c.in-Some-group.group = search rules in
    found_fits c.args.tables.now c.args.event.now c.in-Some.device c.in-Some-group.group c.requires found
