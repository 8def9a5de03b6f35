use Rattle.std.proofs.Common.{arith, ap, length, length-take-le}
use Rattle.acd_terms.proofs.DevicesInPlace.{pushed}
use Rattle.acd_terms.proofs.device_array.DeviceArray.push.Goals as goal

pub invariant_of-self : goal.invariant_of-self
invariant_of-self c =
    let h = c.self.invariant in
    pushed c.self.inside.cells c.self.inside.len c.args.device h
    (omega (arith, c.requires, ap length c.self.view_is, length-take-le c.self.inside.len c.self.inside.cells (omega (arith, h.fits, h.size_is))))
