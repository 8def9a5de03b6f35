-- No agent has two distributed calls: from the rules of rows.
use Rattle.std.proofs.Common.{◌≡◌, ℕ, true, ◌&&◌, inl, inr, Option, Some, None, refl, sym, ◌∙◌, ap, subst, arith}
use Rattle.std.specs.Prelude.{◌==◌, is_some}
use Rattle.std.proofs.lemmas.Bool.{and_parts, and_from, eqb-true}
use Rattle.acd_lemmas.proofs.Words.{Rows, AgentRecord, ConnectionRecord, Command, Among, is_null, is_busy, is_alerting, is_answered, has, is_distributed, IsAttended, IsTalking, HasOneOffer}
use Rattle.acd_terms.specs.declared.state.AgentState.TheVariants as A
use Rattle.acd_lemmas.proofs.RuleFacts.{Rules, IsPlannedStation, SeatedAs, AgentRule, ConnectionRule, talking_at, busy_at}
use Rattle.acd_laws.specs.OneOfferLaws.{RunHasOneOffer}
use Rattle.acd_lemmas.proofs.Lists.{every_among, counted, some_from}
use Rattle.acd_lemmas.proofs.KeyedLists.{eqb_self}
use Rattle.acd_lemmas.proofs.States.{ready_is, busy_is}
use Rattle.acd_laws.proofs.Rules.RulesOfOffers.{talking_is}
use Rattle.acd_laws.proofs.ReleaseLemmas.{attending, alerting_or_answered}
use Rattle.acd_lemmas.proofs.RuleTests.{one_that}
use Rattle.acd_laws.proofs.Rules.StepEnds.{rules_step, kept_by_run, rules_first}
use Rattle.acd_model.specs.Step.{step}

planned_some : (s : Rows) (o : Option ℕ) → IsPlannedStation s o → is_some o ≡ true
planned_some s None h = absurd h
planned_some s (Some d) h = refl

-- a distributed connection is at a station and has its agent
attended : (s : Rows) (x : ConnectionRecord) → Rules s → Among x s.connections → is_distributed x ≡ true → IsAttended s x
attended s x r i e =
    let h = attending s x r i e in
    let ready : is_alerting x.state ≡ true → h.0.state ≡ A.Ready = λ w. ready_is h.0.state (h.1.ready w) in
    let busy : is_answered x.state ≡ true → h.0.state ≡ A.Busy = λ w. busy_is h.0.state (h.1.busy w) in
    record {
      at_station = subst (IsPlannedStation s) h.1.station h.1.seat.0;
      agent = h.0;
      there = h.1.at_station;
      logged_on = elim (alerting_or_answered s x (every_among (ConnectionRule s) s.connections x r.connections i) e) [
        | inl w ↦ ap is_null (ready w)
        | inr w ↦ ap is_null (busy w)
      ];
      ready = ready;
      busy = busy;
    }

-- a busy agent has its distributed connection
talking : (s : Rows) (a : AgentRecord) → Rules s → Among a s.agents → a.state ≡ A.Busy → IsTalking s a
talking s a r i e =
    let seat = subst (SeatedAs s a) e (every_among (AgentRule s) s.agents a r.agents i) in
    let d = some_from a.station (planned_some s a.station seat.0) in
    let at : has a.station d.0 ≡ true = subst (λ o. has o d.0 ≡ true) (sym d.1) (eqb_self d.0) in
    let c = counted (busy_at d.0) s.agents a i (and_from (is_busy a.state) (has a.station d.0) (ap is_busy e) at) in
    let b = r.busy d.0 refl in
    let x = one_that (talking_at d.0) s.connections (omega (arith, b, c)) in
    let h = and_parts (is_answered x.0.state && is_some x.0.group) (x.0.device == d.0) x.1.1 in
    record {
      connection = x.0;
      there = x.1.0;
      distributed = (and_parts (is_distributed x.0) (x.0.device == d.0) (talking_is d.0 x.0 x.1.1)).0;
      answered = (and_parts (is_answered x.0.state) (is_some x.0.group) h.0).0;
      station = d.1 ∙ ap Some (sym (eqb-true x.0.device d.0 h.1));
    }

pub rules_give_one_offer : (s : Rows) → Rules s → HasOneOffer s
rules_give_one_offer s r = record {
  one = r.one_offer;
  attended = λ x i e. attended s x r i e;
  no_other = λ a i e. talking s a r i e;
}

pub step_keeps_one_offer : (s : Rows) (moment : ℕ) (command : Command) → Rules s → HasOneOffer (step s moment command).rows
step_keeps_one_offer s moment command r = rules_give_one_offer _ (rules_step s moment command r)

pub run_has_one_offer : RunHasOneOffer
run_has_one_offer limits commands =
    rules_give_one_offer _ (kept_by_run (λ s events. Rules s) (λ s events moment command r. rules_step s moment command r) limits (rules_first limits) commands)
