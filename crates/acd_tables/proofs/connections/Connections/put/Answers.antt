use Rattle.std.proofs.Common.{◌∙◌, ap, sym, subst, is_some}
use Rattle.acd_terms.specs.Lists.{find_by}
use Rattle.acd_model.specs.Scans.{at_connection}
use Rattle.acd_tables.specs.Near.{HasKeys}
use Rattle.acd_tables.proofs.KeyLemmas.{keys-put, keys-back, keys-same}
use Rattle.acd_tables.proofs.connections.Connections.put.Goals as goal

pub invariant_of-self : goal.invariant_of-self
invariant_of-self c = keys-same c.self.inside.records c.self.inside.keys c.insert_if.new.index c.self.invariant c.in_err-insert_if.ensures.err

pub invariant_of-self-in-Ok : goal.invariant_of-self-in-Ok
invariant_of-self-in-Ok c =
    let x = c.args.item in
    let held = c.self.inside.records in
    let keys = c.self.inside.keys in
    let new = ap is_some (ap (find_by (at_connection x.call x.device)) c.self.view_is ∙ sym c.find-old.ensures) ∙ c.is_none-new.ensures in
    subst (λ cs. HasKeys cs c.insert_if.new.index) (sym c.in-Ok.ensures.ok)
    (keys-put held keys c.insert_if.new.index c.self.invariant x c.is_none-new.result new c.in_ok-insert_if.ensures.ok)

pub invariant_of-self-in-Err : goal.invariant_of-self-in-Err
invariant_of-self-in-Err c =
    let x = c.args.item in
    let held = c.self.inside.records in
    let keys = c.self.inside.keys in
    let new = ap is_some (ap (find_by (at_connection x.call x.device)) c.self.view_is ∙ sym c.find-old.ensures) ∙ c.is_none-new.ensures in
    subst (λ cs. HasKeys cs c.remove_if.new.index) (sym c.in-Err.ensures.err)
    (keys-back held keys c.remove_if.new.index c.self.invariant c.insert_if.new.index x.call x.device c.is_none-new.result new c.in_ok-insert_if.ensures.ok
    c.remove_if.ensures)
