-- The changes of an executed request make its rows.
use Rattle.std.proofs.Common.{◌≡◌, ℕ, length, IfOk, OnOk, Ok, Err, sym, ap, ◌∙◌}
use Rattle.std.specs.Prelude.{Result}
use Rattle.acd_terms.specs.declared.rows.Rows.{Rows}
use Rattle.acd_terms.specs.declared.command.Command.{Command}
use Rattle.acd_model.specs.Step.{step, executed_moment, next_stamp}
use Rattle.acd_model.specs.Changes.{step_changes, rows_made}
use Rattle.acd_model.specs.Rules.First.{BreaksNoRule}
use Rattle.acd_laws.proofs.StepChanges.ChangedRows.{step_makes_its_changes}
use Rattle.acd_switch.specs.declared.switch.Executed.{Executed}

pub made : {E : Type 0} (r : Result Executed E) (s t : Rows) (moment : ℕ) (command : Command) → BreaksNoRule s
    → IfOk r (λ x. x.changes.items ≡ step_changes s moment command) → IfOk r (λ x. x.events.items ≡ (step s moment command).events)
    → OnOk r (t ≡ (step s moment command).rows)
    → IfOk r (λ x. rows_made s x.changes.items (next_stamp s) (executed_moment s moment) (length x.events.items) ≡ t)
made (Ok x) s t moment command h changes events rows =
    ap (λ l. rows_made s l (next_stamp s) (executed_moment s moment) (length x.events.items)) changes
    ∙ ap (λ l. rows_made s (step_changes s moment command) (next_stamp s) (executed_moment s moment) (length l)) events
    ∙ step_makes_its_changes s moment command h ∙ sym rows
made (Err e) s t moment command h changes events rows = tt
