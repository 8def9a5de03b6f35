use Rattle.std.proofs.Common.{sym, ap, ◌&&◌, Bool, ◌∙◌}
use Rattle.acd_io.specs.Order.{begins_order}
use Rattle.acd_io.proofs.PassedBytes.{told_left}
use Rattle.acd_io.proofs.until_order.UntilOrder.is_told.Goals as goal

pub returns-then-self-clause-order : goal.returns-then-self-clause-order
returns-then-self-clause-order g c told =
    let self : _ = c.args.self.now in
    told_left self.ended self.starts self.pending (g.R.Read.remaining self.inner) (ap (λ (b : Bool). b && begins_order self.pending) c.if-self.true ∙ ap begins_order (sym c.as_slice.ensures) ∙ sym c.begins_order.ensures ∙ told)
