use Rattle.std.proofs.Common.{ap, leb}
use Rattle.acd_rules.proofs.LookUpLemmas.{given}
use Rattle.acd_rules.proofs.grouped.fn.alike.partition_point+2.Goals as goal

pub returns : goal.returns
returns g c =
    λ key by.
    let call = (g.met.F.FnMut.1.post_iff _ _ _).0 c.number.ensures in
    ap (λ n. leb n c.captures.wanted) (given g.F.Fn _ _ _ _ _ by call.1)
