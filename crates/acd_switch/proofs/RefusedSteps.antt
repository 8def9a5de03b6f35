-- A refused outcome of a step: what it says.
use Rattle.std.proofs.Common.{◌≡◌, ℕ, sym}
use Rattle.acd_terms.specs.declared.rows.Rows.{Rows}
use Rattle.acd_terms.specs.declared.command.Command.{Command}
use Rattle.acd_terms.specs.declared.answer.Outcome.{Outcome}
use Rattle.acd_terms.specs.declared.answer.Outcome.TheVariants.{Done, Refused}
use Rattle.acd_model.specs.Step.{step}
use Rattle.acd_model.specs.Rules.First.{BreaksNoRule}
use Rattle.acd_laws.specs.RefusalLaws.{ChangesNothing}
use Rattle.acd_laws.proofs.Rules.AllRuleTests.{keeps_read}
use Rattle.acd_laws.proofs.StepChanges.ChangedRows.{refused}
use Rattle.acd_laws.proofs.Offers.FoundOffer.{no_offer}
use Rattle.acd_switch.specs.SwitchAnswers.{IsRefusedOutcome}

pub where_refused : (s : Rows) (moment : ℕ) (command : Command) (o : Outcome) → BreaksNoRule s → o ≡ (step s moment command).outcome → IsRefusedOutcome o
    → ChangesNothing s moment command
where_refused s moment command (Done answer) h e r = absurd r
where_refused s moment command (Refused refusal) h e r = refused s moment command refusal (no_offer s (keeps_read s h).offers) (sym e)
