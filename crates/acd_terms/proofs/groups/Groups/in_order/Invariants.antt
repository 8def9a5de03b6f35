use Rattle.std.proofs.Common.{◌≡◌, [], drop}
use Rattle.acd_terms.specs.Groups.{with_all}
use Rattle.acd_terms.proofs.groups.Groups.in_order.Given as goal

abbrev pub invariant-loop-device : goal.invariant-loop-device
invariant-loop-device l = with_all l.groups (drop l.device-index l.devices) ≡ with_all [] l.devices
