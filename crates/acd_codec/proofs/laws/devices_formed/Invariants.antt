use Rattle.std.proofs.Common.{drop}
use Rattle.acd_terms.specs.Lists.{Every}
use Rattle.acd_codec.specs.RequestForms.{IsDevice}
use Rattle.acd_codec.proofs.laws.devices_formed.Given as goal

abbrev pub invariant-loop-device : goal.invariant-loop-device
invariant-loop-device l = Every IsDevice (drop l.device-index l.devices) → Every IsDevice l.devices
