use Rattle.std.proofs.Common.{◌≡◌, sym, ◌∙◌}
use Rattle.std.proofs.lemmas.Bool.{eqb-true}
use Rattle.acd_sqlbook.proofs.ElidedPuts.{in_vain}
use Rattle.acd_sqlbook.proofs.commit.is_removed_next.Goals as goal

pub returns-then-connection-call-clause-vain : goal.returns-then-connection-call-clause-vain
returns-then-connection-call-clause-vain c same =
    let both = c.in-PutConnection-RemoveConnection in
    let same_device : both.connection.device ≡ both.device = eqb-true both.connection.device both.device (sym c.eq.ensures ∙ same) in
    in_vain c.args.first.now c.args.second.now both.connection both.call both.device both.is-0 both.is-1 c.if-connection-call.true same_device
