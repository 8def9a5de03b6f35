-- changeGroup and changeAgent change one record, and make no offer.
use Rattle.std.proofs.Common.{◌≡◌, ℕ, inl, inr, List, [], ◌∷◌, None, refl, sym, ◌∙◌, ap, subst}
use Rattle.acd_lemmas.proofs.Words.{Rows, GroupRecord, AgentRecord, Among, at_group, at_agent, waiting_in, eligible_in, is_eligible, is_occupied, is_idle, with_group, with_agent, silent}
use Rattle.acd_terms.specs.declared.answer.Answer.TheVariants.{Nothing}
use Rattle.acd_terms.specs.declared.command.Command.TheVariants.{ChangeGroup, ChangeAgent}
use Rattle.acd_model.specs.Choice.{offer_of}
use Rattle.acd_model.specs.ServiceAnswers.{refuse_if, gives, outcome_of, moves_of}
use Rattle.acd_model.specs.Services.{change_group, change_agent}
use Rattle.acd_model.specs.Step.{step}
use Rattle.acd_model.specs.declared.moves.Change.TheVariants.{PutGroup, PutAgent}
use Rattle.acd_lemmas.proofs.Lists.{among_put, none_filtered, filter_put}
use Rattle.acd_lemmas.proofs.State.{group_among, agent_among}
use Rattle.acd_laws.specs.OfferLaws.{LeavesNoOffer}
use Rattle.acd_laws.specs.CorrectionLaws.{ChangesChangeOnly}
use Rattle.acd_model.specs.Offers.{HasNoOffer}
use Rattle.acd_laws.proofs.Offers.FoundOffer.{no_offer}
use Rattle.acd_laws.proofs.Rules.AllRuleTests.{keeps_read}
use Rattle.acd_laws.proofs.StepChanges.ChangedRows.{quiet_step}

-- whether there is an offer depends on no more of a planned group's record than its number
no_offer_regrouped : (s : Rows) (g h : GroupRecord) → Among g s.groups → h.device ≡ g.device → LeavesNoOffer s → offer_of (with_group s h) ≡ None
unfolding with_group waiting_in eligible_in is_eligible is_occupied is_idle
no_offer_regrouped s g h there same none = no_offer (with_group s h) (λ x i. elim (among_put (at_group h.device) h s.groups x i) [
  | inl e ↦ subst (HasNoOffer s) (sym (ap (λ (y : GroupRecord). y.device) e ∙ same)) (none g there)
  | inr old ↦ none x old
])

-- nor on an agent's name
no_offer_renamed : (s : Rows) (a : AgentRecord) (name : List ℕ) → Among a s.agents → LeavesNoOffer s → offer_of (with_agent s (record a { name = name })) ≡ None
unfolding with_agent waiting_in eligible_in is_eligible is_occupied is_idle
no_offer_renamed s a name there none =
    let b : AgentRecord = record a { name = name } in
    no_offer (with_agent s b) (λ g i. elim (none g i) [
      | inl nobody ↦ inl nobody
      | inr nobody ↦ inr
          (filter_put (is_eligible s g.device) (at_agent b.agent) b s.agents nobody (none_filtered (is_eligible s g.device) s.agents nobody a there))
    ])

pub changes_change_only : ChangesChangeOnly
unfolding step change_group change_agent refuse_if
changes_change_only s moment h =
    let none = (keeps_read s h).offers in
    record {
      group = λ device name ring wrap g found.
          let put : GroupRecord = record g { name = name; ring = ring; wrap = wrap } in
          let served : change_group s device name ring wrap ≡ gives Nothing (silent (PutGroup put) ∷ []) = rw found refl in
          let q =
          quiet_step s moment (ChangeGroup device name ring wrap) (silent (PutGroup put) ∷ []) (ap moves_of served) refl
          (no_offer_regrouped s g put (group_among s device g found) refl none) in
          record { outcome = ap outcome_of served; events = q.0; rows = q.1 };
      agent = λ agent name a found.
          let put : AgentRecord = record a { name = name } in
          let served : change_agent s agent name ≡ gives Nothing (silent (PutAgent put) ∷ []) = rw found refl in
          let q =
          quiet_step s moment (ChangeAgent agent name) (silent (PutAgent put) ∷ []) (ap moves_of served) refl
          (no_offer_renamed s a name (agent_among s agent a found) none) in
          record { outcome = ap outcome_of served; events = q.0; rows = q.1 };
    }
