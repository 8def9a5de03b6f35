use Rattle.std.proofs.Common.{◌≤◌, ◌∙◌, Bool, true, Option, refl, subst}
use Rattle.std.specs.Bool.{Decides}
use Rattle.acd_book.specs.declared.kept.Kept.{Kept}
use Rattle.acd_book.specs.Content.{Content, IsKeptAfter}
use Rattle.acd_desk.specs.Audits.AuditWith.{StandsInTime}
use Rattle.acd_desk.specs.Audits.Overlap.{IsCleanCut}
use Rattle.acd_desk.proofs.Archives.CleanCuts.{clean_none, clean_decided}
use Rattle.acd_book.proofs.ReadsInTurn.{then_ok, then_read_ok}
use Rattle.acd_program.proofs.cut.is_clean.Goals as goal

pub returns-in_default : goal.returns-in_default
returns-in_default g c =
    then_ok (λ (a : Content) (found : Bool). StandsInTime a → c.args.number ≤ a.rows.last_event → Decides found (IsCleanCut a c.args.stamp c.args.number)) (g.A.Book.state c.args.archive.now) (g.A.Book.state c.kept_after.new.self) c.in_ok-first.field-0 true
    c.in_ok-first.ensures
    (λ a next stands within. (λ holds. clean_none a c.args.stamp c.args.number (subst (λ (o : Option Kept). IsKeptAfter a.kept c.args.stamp o) c.in_default.is next), λ clean. refl))

pub returns : goal.returns
returns g c =
    then_read_ok (λ (a : Content) (found : Bool). StandsInTime a → c.args.number ≤ a.rows.last_event → Decides found (IsCleanCut a c.args.stamp c.args.number)) (g.A.Book.state c.args.archive.now) (g.A.Book.state c.kept_after.new.self)
    (g.A.Book.state c.events_after.new.self) c.in_ok-first.field-0 c.in_ok-last.last c.is_before.result c.in_ok-first.ensures c.in_ok-last.ensures
    (λ a next events stands within.
    clean_decided a c.args.stamp c.args.number c.saturating_sub.result c.in-Some.first c.deref.result.now c.is_before.result stands within
    (subst (λ (o : Option Kept). IsKeptAfter a.kept c.args.stamp o) c.in-Some.is next) c.saturating_sub.ensures (c.deref.ensures.value ∙ events) c.is_before.ensures)
