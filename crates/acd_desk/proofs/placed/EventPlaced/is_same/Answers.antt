use Rattle.std.proofs.Common.{◌≡◌, ◌∙◌, Bool, ap, sym}
use Rattle.std.specs.Bool.{Decides}
use Rattle.acd_terms.specs.declared.event.Event.{Event}
use Rattle.acd_terms.specs.contracts.event.EventPartialEq.TheImpl as event_eq
use Rattle.acd_terms.specs.contracts.event.EventEq.TheImpl.Laws as event_laws
use Rattle.acd_lemmas.proofs.SameRecords.{same_event}
use Rattle.acd_desk.proofs.placed.EventPlaced.is_same.Goals as goal

event_decided : (a b : Event) (r : Bool) → r ≡ (event_eq.eq-value).it a b → Decides r (a ≡ b)
event_decided a b r h = (λ found. same_event a b (sym h ∙ found), λ same. h ∙ ap (λ (x : Event). (event_eq.eq-value).it x b) same ∙ (event_laws.laws-law).refl b)

pub returns : goal.returns
returns c = event_decided c.args.self.now c.args.other.now c.eq.result c.eq.ensures
