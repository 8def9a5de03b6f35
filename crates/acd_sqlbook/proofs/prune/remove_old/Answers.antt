use Rattle.std.proofs.Common.{ℕ, [], ◌∷◌, Option, inl, inr, Err, refl, rules, arith}
use Rattle.sqlite.specs.State.{HasCleanDisk}
use Rattle.sqlite.specs.Held.{state}
use Rattle.acd_book.specs.Content.{Content}
use Rattle.acd_book.specs.PrunedContent.{pruned}
use Rattle.acd_sql_columns.specs.declared.tables.Log.TheVariants as log
use Rattle.acd_sql_columns.specs.Relations.{Relations}
use Rattle.acd_sql_columns.specs.Values.{id_value}
use Rattle.acd_sql_statements.specs.WriteRefusals.{RefusesOn}
use Rattle.acd_sql_statements.specs.UpTo.{text_up_to, without_up_to}
use Rattle.acd_sql_statements.proofs.RefusalCauses.{by_later}
use Rattle.acd_sqlbook.specs.Pruning.{RefusesPrune}
use Rattle.acd_sqlbook.proofs.Pruning.{leaving_both, pruned_in_range}
use Rattle.acd_sqlbook.proofs.PartCauses.{stops_as, stops_same}
use Rattle.acd_sqlbook.proofs.prune.remove_old.Goals as goal

pub returns-clause-put : goal.returns-clause-put
returns-clause-put g c clean =
    let old = state g.S.Store c.args.tx.now.conn.now in
    let mid = state g.S.Store c.remove_up_to.new.tx.conn.now in
    let new = state g.S.Store c.remove_up_to-2.new.tx.conn.now in
    let middle : HasCleanDisk mid = omega (arith, clean, c.remove_up_to-2.ensures.works.survives.clean) in
    leaving_both old mid new c.remove_up_to-2.result (without_up_to log.Kept c.args.stamp) (without_up_to log.Events c.args.number)
    (pruned c.args.stamp c.args.number) (λ x. refl) (pruned_in_range c.args.stamp c.args.number)
    (c.in_ok-remove_up_to.ensures.put middle) (c.remove_up_to-2.ensures.put clean)

pub returns-in_err-remove_up_to-clause-failed : goal.returns-in_err-remove_up_to-clause-failed
returns-in_err-remove_up_to-clause-failed g c =
    let old = state g.S.Store c.args.tx.now.conn.now in
    let mid = state g.S.Store c.remove_up_to.new.tx.conn.now in
    let e = c.in_err-remove_up_to.field-0.0 in
    let stops : Content → Type 0 = λ (x : Content). RefusesPrune c.args.stamp c.args.number x in
    stops_same old mid stops e c.from_residual.result (search rules)
    (stops_as old mid c.requires.free (RefusesOn (text_up_to log.Kept) (id_value c.args.stamp ∷ [])) stops (Err e) (λ x h. inl h)
    c.in_err-remove_up_to.ensures.failed)

pub returns-clause-failed : goal.returns-clause-failed
returns-clause-failed g c =
    let old = state g.S.Store c.args.tx.now.conn.now in
    let mid = state g.S.Store c.remove_up_to.new.tx.conn.now in
    let new = state g.S.Store c.remove_up_to-2.new.tx.conn.now in
    let refuses = RefusesOn (text_up_to log.Events) (id_value c.args.number ∷ []) in
    let left = without_up_to log.Kept c.args.stamp in
    let stops : Content → Type 0 = λ (x : Content). RefusesPrune c.args.stamp c.args.number x in
    stops_as old new c.requires.free (λ (limit : Option ℕ) (r : Relations). refuses limit (left r)) stops c.remove_up_to-2.result (λ x h. inr h)
    (by_later old mid new left refuses c.remove_up_to-2.result c.remove_up_to.ensures.works c.remove_up_to-2.ensures.works c.in_ok-remove_up_to.ensures.put
    c.remove_up_to-2.ensures.failed)
