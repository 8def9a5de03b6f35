-- The answer of a service.
use Rattle.std.specs.Prelude.{Bool, true, false, List, [], Result, Ok, Err}
use Rattle.acd_terms.specs.declared.answer.Answer.{Answer}
use Rattle.acd_terms.specs.declared.answer.Refusal.{Refusal}
use Rattle.acd_terms.specs.declared.answer.Outcome.{Outcome}
use Rattle.acd_terms.specs.declared.answer.Outcome.TheVariants as outcome
use Rattle.acd_model.specs.declared.moves.Move.{Move}
use Rattle.acd_model.specs.declared.moves.Done.{Done}

-- a refusal, or an answer and moves; in a service the first refusal ends it
abbrev pub Served : Type 0
Served = Result Done Refusal

-- refuses where the test holds
unfoldable pub refuse_if : Bool → Refusal → Result (Unit {0}) Refusal
refuse_if true r = Err r
refuse_if false r = Ok tt

abbrev pub gives : Answer → List Move → Served
gives answer moves = Ok (record { answer = answer; moves = moves })

abbrev pub outcome_of : Served → Outcome
outcome_of (Err r) = outcome.Refused r
outcome_of (Ok d) = outcome.Done d.answer

-- a refusal makes no move
abbrev pub moves_of : Served → List Move
moves_of (Err r) = []
moves_of (Ok d) = d.moves
