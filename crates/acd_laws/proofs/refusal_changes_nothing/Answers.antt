use Rattle.acd_laws.proofs.Rules.AllRuleTests.{keeps_read}
use Rattle.acd_laws.proofs.StepChanges.ChangedRows.{refused}
use Rattle.acd_laws.proofs.Offers.FoundOffer.{no_offer}
use Rattle.acd_laws.proofs.refusal_changes_nothing.Goals as goal

pub returns : goal.returns
returns c = λ s moment command refusal h e. refused s moment command refusal (no_offer s (keeps_read s h).offers) e
