use Rattle.std.proofs.Common.{◌≡◌, sym, subst, ◌∙◌, Some, false}
use Rattle.std.specs.Prelude.{nat_le}
use Rattle.acd_terms.specs.declared.rows.Rows.{Rows}
use Rattle.acd_terms.specs.declared.command.Arrival.{Arrival}
use Rattle.acd_desk.specs.declared.working.Working.{Working}
use Rattle.acd_desk.specs.declared.taken.Taken.TheVariants.{NoMemory}
use Rattle.acd_desk.specs.Contents.Arrivals.{arrival_at}
use Rattle.acd_desk.specs.Desks.Faults.{answer_to, left_by}
use Rattle.acd_desk.specs.Desks.DeskState.{DeskState, state_of, holding, switch_of, is_failed, with_new_key}
use Rattle.acd_desk.specs.Desks.PreparedCommit.{Prepared}
use Rattle.acd_desk.specs.Desks.DeskCalls.{Took}
use Rattle.acd_desk.proofs.Desks.Calls.{leaves}
use Rattle.acd_desk.proofs.Desks.Commits.{prepared_as}
use Rattle.acd_desk.proofs.Desks.NewKeys.{not_executed, kept_new, not_kept}
use Rattle.acd_desk.proofs.desk.Desk.execute_on.Goals as goal

pub returns-in_default : goal.returns-in_default
returns-in_default g c =
    let s : DeskState = state_of g.B.Book c.args.self.now in
    let old : DeskState = with_new_key (holding s c.args.loaded.switch.value) c.args.request.now in
    subst (λ (w : Working). Took old (arrival_at c.args.moment c.args.request.now) NoMemory (record { book = s.book; switch = switch_of w; failed = is_failed w }))
    (sym c.requires)
    (not_executed s c.args.loaded.switch.value (arrival_at c.args.moment c.args.request.now) c.args.loaded.rules)

pub returns-in-Ok-commit_changes : goal.returns-in-Ok-commit_changes
returns-in-Ok-commit_changes g c =
    let s : DeskState = state_of g.B.Book c.args.self.now in
    let done = c.in-Ok.done in
    let p = prepared_as c.args.loaded.switch.value c.executed.new.switch (arrival_at c.args.moment c.args.request.now) done.changes.items c.deref-2.result.now done.events.items c.deref-3.result.now c.in-Ok.kept
    c.deref-2.ensures.value c.deref-3.ensures.value (subst (λ (r : Rows). Prepared r (arrival_at c.args.moment c.args.request.now) done.changes.items done.events.items c.in-Ok.kept c.executed.new.switch) c.deref_mut.ensures.value c.in-Ok.ensures) in
    subst (λ t. Took (with_new_key (holding s c.args.loaded.switch.value) c.args.request.now) (arrival_at c.args.moment c.args.request.now) t (record { book = g.B.Book.state c.commit_changes.new.self; switch = Some c.executed.new.switch; failed = false })) (sym c.reply.ensures)
    (kept_new s c.args.loaded.switch.value c.executed.new.switch (arrival_at c.args.moment c.args.request.now) c.deref-2.result.now c.deref-3.result.now c.in-Ok.kept (g.B.Book.state c.commit_changes.new.self) p
    (subst (λ (r : Rows). nat_le r.limits.requests r.last_stamp ≡ false) c.deref.ensures (sym c.is_full.ensures ∙ c.if-is_full.false)) c.in-Ok-commit_changes.ensures)

pub returns-in-Err : goal.returns-in-Err
returns-in-Err g c =
    let s : DeskState = state_of g.B.Book c.args.self.now in
    let a : Arrival = arrival_at c.args.moment c.args.request.now in
    let old : DeskState = with_new_key (holding s c.args.loaded.switch.value) c.args.request.now in
    let done = c.in-Ok.done in
    let f = c.in-Err.fault in
    let p = prepared_as c.args.loaded.switch.value c.executed.new.switch a done.changes.items c.deref-2.result.now done.events.items c.deref-3.result.now c.in-Ok.kept
    c.deref-2.ensures.value c.deref-3.ensures.value (subst (λ (r : Rows). Prepared r (arrival_at c.args.moment c.args.request.now) done.changes.items done.events.items c.in-Ok.kept c.executed.new.switch) c.deref_mut.ensures.value c.in-Ok.ensures) in
    leaves (state_of g.B.Book) old a _ _ _ _ c.fault.ensures.answer c.fault.ensures.left
    (subst (λ (w : Working). Took old a (answer_to f) (record { book = g.B.Book.state c.commit_changes.new.self; switch = switch_of (left_by f w); failed = is_failed (left_by f w) }))
    (sym c.requires)
    (not_kept s c.args.loaded.switch.value c.executed.new.switch a c.deref-2.result.now c.deref-3.result.now c.in-Ok.kept (g.B.Book.state c.commit_changes.new.self) f c.args.loaded.rules p
    (subst (λ (r : Rows). nat_le r.limits.requests r.last_stamp ≡ false) c.deref.ensures (sym c.is_full.ensures ∙ c.if-is_full.false)) c.in-Err.ensures))
