use Rattle.std.proofs.Common.{◌≡◌, Bool, Result, Some, None, subst, rules}
use Rattle.acd_desk.proofs.Replays.AuditSteps.{EndsAt, StepOf, step_last, step_replayed, step_differs, counts_one, next_found, stamp_of_switch}
use Rattle.acd_terms.specs.declared.rows.Rows.{Rows}
use Rattle.acd_book.specs.State.{BookState, Reads}
use Rattle.acd_book.specs.declared.fault.BookFault.{BookFault}
use Rattle.acd_book.proofs.ReadsInTurn.{then_fault}
use Rattle.acd_book.proofs.ReadsAhead.{read_fault}
use Rattle.acd_desk.proofs.replay.Replay.next.Goals as goal

whole_of_switch : (a b : BookState) (found : Result Bool BookFault) (lent held : Rows) → lent ≡ held → Reads a b found (EndsAt lent)
    → Reads a b found (EndsAt held)
whole_of_switch a b found lent held same r = subst (λ (s : Rows). Reads a b found (EndsAt s)) same r

pub returns-in_default-clause-read : goal.returns-in_default-clause-read
returns-in_default-clause-read g c =
    step_last (g.B.Book.state c.args.book.now) (g.B.Book.state c.kept_after.new.self) (g.B.Book.state c.is_whole.new.book) c.args.self
    c.in_ok-is_whole.field-0 c.last_step.result
    (next_found _ _ c.last_stamp.result _ c.in_ok-kept.field-0 None (stamp_of_switch _ _ _ c.last_stamp.ensures c.deref.ensures) c.in_default.is
    c.in_ok-kept.ensures)
    (whole_of_switch _ _ _ _ _ c.deref-in_default.ensures c.in_ok-is_whole.ensures) c.last_step.ensures

pub returns-in-Some-2-clause-read : goal.returns-in-Some-2-clause-read
returns-in-Some-2-clause-read g c =
    step_replayed (g.B.Book.state c.args.book.now) (g.B.Book.state c.kept_after.new.self) (g.B.Book.state c.replayed.new.book) c.args.self c.in-Some.kept
    c.in_ok-next.field-0 c.in-Some-2.next c.in-Some-2.is
    (next_found _ _ c.last_stamp.result _ c.in_ok-kept.field-0 (Some c.in-Some.kept) (stamp_of_switch _ _ _ c.last_stamp.ensures c.deref.ensures) c.in-Some.is
    c.in_ok-kept.ensures)
    c.in_ok-next.ensures.read c.in_ok-next.ensures.stepped c.requires

pub returns-in-Some-2-clause-counts : goal.returns-in-Some-2-clause-counts
returns-in-Some-2-clause-counts g c =
    counts_one c.args.self.loaded.switch.value c.in-Some.kept c.in_ok-next.field-0 c.in-Some-2.next c.in-Some-2.is c.in_ok-next.ensures.stepped

pub returns-clause-read : goal.returns-clause-read
returns-clause-read g c =
    step_differs (g.B.Book.state c.args.book.now) (g.B.Book.state c.kept_after.new.self) (g.B.Book.state c.replayed.new.book) c.args.self c.in-Some.kept
    c.in_ok-next.field-0 c.in-None.is
    (next_found _ _ c.last_stamp.result _ c.in_ok-kept.field-0 (Some c.in-Some.kept) (stamp_of_switch _ _ _ c.last_stamp.ensures c.deref.ensures) c.in-Some.is
    c.in_ok-kept.ensures)
    c.in_ok-next.ensures.read

pub returns-in_err-is_whole-clause-read : goal.returns-in_err-is_whole-clause-read
returns-in_err-is_whole-clause-read g c =
    then_fault (StepOf c.args.self) (g.B.Book.state c.args.book.now) (g.B.Book.state c.kept_after.new.self) (g.B.Book.state c.is_whole.new.book)
    c.in_ok-kept.field-0 c.in_err-is_whole.field-0.0 c.from_residual-in_err-is_whole.result c.in_ok-kept.ensures c.in_err-is_whole.ensures (search rules)

pub returns-in_err-next-clause-read : goal.returns-in_err-next-clause-read
returns-in_err-next-clause-read g c =
    read_fault (StepOf c.args.self) (g.B.Book.state c.args.book.now) (g.B.Book.state c.kept_after.new.self) (g.B.Book.state c.replayed.new.book)
    c.in_ok-kept.field-0 c.in_err-next.field-0.0 c.from_residual-in_err-next.result c.in_ok-kept.ensures c.in_err-next.ensures.read (search rules)
