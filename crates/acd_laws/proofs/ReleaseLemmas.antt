-- A release keeps the rules.
use Rattle.std.proofs.Common.{◌≡◌, ℕ, ◌+◌, ◌≤◌, ◌⊎◌, inl, inr, Bool, true, false, not, ◌&&◌, cond, Option, Some, None, refl, sym, ◌∙◌, ap, subst, arith}
use Rattle.std.specs.Prelude.{◌==◌, is_some}
use Rattle.std.proofs.lemmas.Bool.{and_parts, and_from, eqb-true, false_from_ne_true, and_right, and_cases}
use Rattle.acd_lemmas.proofs.Words.{Rows, AgentRecord, ConnectionRecord, ConnectionState, AgentState, Pending, Ending, Release, put_by, count, Among, is_ready, is_busy, state_wanted, is_alerting, is_queued, is_answered, group_of, station_of, agent_of, call_of, has, agent_at, is_distributed, with_agent, no_move, changed, agent_order, is_distributed_at}
use Rattle.acd_terms.specs.declared.state.AgentState.TheVariants as A
use Rattle.acd_terms.specs.declared.state.Pending.TheVariants as W
use Rattle.acd_terms.specs.declared.state.ConnectionState.TheVariants as S
use Rattle.acd_model.specs.declared.moves.Change.TheVariants.{PutAgent}
use Rattle.acd_model.specs.declared.moves.Ending.TheVariants.{Answered, Unanswered, NoAnswer}
use Rattle.acd_model.specs.declared.moves.Release.TheVariants.{Stays, Goes}
use Rattle.acd_model.specs.AgentMoves.{in_state}
use Rattle.acd_model.specs.Release.{release_of, released, release_agent, ending_of, release}
use Rattle.acd_lemmas.proofs.RuleFacts.{RulesBut, Rules, IsPlannedStation, ArePlannedGroups, SeatedAs, AgentRule, HasColumns, ConnectionRule, ringing_at, talking_at, seated_at, ready_at, busy_at, pending_at}
use Rattle.acd_lemmas.proofs.Lists.{one, ascending-put, every_among, every-put, counted, fewer, the_one, some_counted, some_from}
use Rattle.acd_lemmas.proofs.KeyedLists.{eqb_self}
use Rattle.acd_lemmas.proofs.State.{agents_total, agent_among, count_agent, agent_seat, agent_there}
use Rattle.acd_laws.proofs.MoveKinds.{releases, agent_others}
use Rattle.acd_laws.proofs.DestinationLemmas.{with_agents, lone}
use Rattle.acd_laws.proofs.Rules.RulesOfOffers.{ringing_is, talking_is}
use Rattle.acd_lemmas.proofs.States.{ready_is}
use Rattle.acd_terms.specs.declared.command.Turn.{Turn}

-- a seat that a station has
pub seat_from : (s : Rows) (a : AgentRecord) (d : ℕ) (st : AgentState) → SeatedAs s a st → a.station ≡ Some d
    → IsPlannedStation s a.station × ArePlannedGroups s a.groups
seat_from s a d A.Null h e = absurd (cc (h.0, e))
seat_from s a d _ h e = h

-- the record that a release leaves
pub record Left (s : Rows) (a b : AgentRecord) : Type 0 where
  pub agent : b.agent ≡ a.agent
  pub rule : AgentRule s b
  pub station : (e : ℕ) → has b.station e ≡ true → has a.station e ≡ true
  pub not_busy : is_busy b.state ≡ false
  pub settled : b.pending ≡ None

pub left_pending : (s : Rows) (a : AgentRecord) (st : AgentState) → SeatedAs s a st → SeatedAs s (record a { pending = None }) st
left_pending s a A.Null h = (h.0, h.1, refl)
left_pending s a _ h = h

pub left_state : (s : Rows) (a : AgentRecord) (st : AgentState) (turn : Turn) → is_busy st ≡ false → IsPlannedStation s a.station × ArePlannedGroups s a.groups
    → Left s a (in_state st turn a)
left_state s a A.Null turn n h = record { agent = refl; rule = (refl, refl, refl); station = λ e q. absurd (cc (q)); not_busy = refl; settled = refl }
left_state s a A.Busy turn n h = absurd (cc (n))
left_state s a _ turn n h = record { agent = refl; rule = h; station = λ e q. q; not_busy = refl; settled = refl }

pub wanted_not_busy : (w : Pending) → is_busy (state_wanted w) ≡ false
wanted_not_busy W.LoggedOff = refl
wanted_not_busy _ = refl

-- a release leads to no busy state
abbrev NotBusy : Release → Type 0
NotBusy Stays = Unit {0}
NotBusy (Goes st) = is_busy st ≡ false

release_not_busy : (how : Ending) (w : Option Pending) → NotBusy (release_of how w)
release_not_busy Answered None = refl
release_not_busy Answered (Some W.LoggedOff) = refl
release_not_busy Answered _ = refl
release_not_busy Unanswered None = tt
release_not_busy Unanswered (Some W.Ready) = tt
release_not_busy Unanswered (Some W.LoggedOff) = refl
release_not_busy Unanswered _ = refl
release_not_busy NoAnswer None = refl
release_not_busy NoAnswer (Some W.LoggedOff) = refl
release_not_busy NoAnswer _ = refl

-- one agent's record is put, at a station where no connection is distributed
pub left_keeps : (loose : ℕ → Bool) (v : Rows) (a b : AgentRecord) (d : ℕ) → RulesBut loose v → agent_of v a.agent ≡ Some a → a.station ≡ Some d
    → count (is_distributed_at d) v.connections ≡ 0 → Left v a b
    → RulesBut (λ e. loose e && not (d == e)) (changed v (PutAgent b))
unfolding with_agent call_of group_of station_of
left_keeps loose v a b d r there station vacant l =
    let counts : (p : AgentRecord → Bool) → count p (put_by (agent_order b) v.agents b) + one (p a) ≡ one (p b) + count p v.agents = λ p.
    count_agent p v b a r.orders.agents (rw l.agent there) in
    let elsewhere : (e : ℕ) → (d == e) ≡ false → (has a.station e ≡ false) × (has b.station e ≡ false) = λ e q.
    let f : has a.station e ≡ false = rw (station, q) refl in (f, false_from_ne_true _ (λ w. cc (f, l.station e w))) in
    let nobody : (e : ℕ) → (d == e) ≡ true → count (is_distributed_at e) v.connections ≡ 0 =
    λ e q. subst (λ w. count (is_distributed_at w) v.connections ≡ 0) (eqb-true d e q) vacant in
    let tight : (e : ℕ) → (loose e && not (d == e)) ≡ false → (d == e) ≡ false → loose e ≡ false = λ e h q.
    elim (and_cases (loose e) (not (d == e)) h) [ inl w ↦ w | inr w ↦ absurd (cc (rw q at w)) ] in
    let one_left : (e : ℕ) → count (seated_at e) (put_by (agent_order b) v.agents b) ≤ 1 = λ e. let c = counts (seated_at e) in let o = r.one_agent e in
    (elim (has b.station e) as (λ x. has b.station e ≡ x → count (seated_at e) (put_by (agent_order b) v.agents b) ≤ 1) [
      | true ↦ λ q. let f : one (seated_at e a) ≡ 1 = ap one (l.station e q) in let g : one (seated_at e b) ≡ 1 = ap one q in omega (arith, c, o, f, g)
      | false ↦ λ q. let g : one (seated_at e b) ≡ 0 = ap one q in omega (arith, c, o, g)
    ]) refl in
    let none_left : (p : AgentRecord → Bool) (e : ℕ) → ((z : AgentRecord) → p z ≡ true → has z.station e ≡ true) → (d == e) ≡ true → p b ≡ false
    → count p (put_by (agent_order b) v.agents b) ≡ 0 =
    λ p e f h n.
    let c = counts p in let o = lone p (seated_at e) v.agents a f (agent_among v a.agent a there) (rw (station, h) refl) (r.one_agent e) in
    let z : one (p b) ≡ 0 = ap one n in omega (arith, c, o, z) in
    with_agents loose (λ e. loose e && not (d == e)) v (put_by (agent_order b) v.agents b) r (λ e h. (and_parts (loose e) (not (d == e)) h).0) (record {
      sorted = ascending-put agent_order agents_total b v.agents r.orders.agents;
      rules = every-put (agent_order b) (AgentRule v) b l.rule v.agents r.agents;
      one_agent = one_left;
      ready = λ e h.
          (elim (d == e) as (λ x. (d == e) ≡ x → count (ringing_at e) v.connections ≤ count (ready_at e) (put_by (agent_order b) v.agents b)) [
            | true ↦ λ q. let z = nobody e q in let f = fewer (ringing_at e) (is_distributed_at e) (ringing_is e) v.connections in omega (arith, z, f)
            | false ↦ λ q. let c = counts (ready_at e) in let o = r.ready e (tight e h q) in
                let f : one (ready_at e a) ≡ 0 = ap one (and_right (is_ready a.state) (has a.station e) (elsewhere e q).0) in
                let g : one (ready_at e b) ≡ 0 = ap one (and_right (is_ready b.state) (has b.station e) (elsewhere e q).1) in omega (arith, c, o, f, g)
          ]) refl;
      busy = λ e h.
          (elim (d == e) as (λ x. (d == e) ≡ x → count (talking_at e) v.connections ≡ count (busy_at e) (put_by (agent_order b) v.agents b)) [
            | true ↦ λ q. let z = nobody e q in let f = fewer (talking_at e) (is_distributed_at e) (talking_is e) v.connections in
                let w = none_left (busy_at e) e (λ z w. (and_parts (is_busy z.state) (has z.station e) w).1) q (rw l.not_busy refl) in omega (arith, z, f, w)
            | false ↦ λ q. let c = counts (busy_at e) in let o = r.busy e (tight e h q) in
                let f : one (busy_at e a) ≡ 0 = ap one (and_right (is_busy a.state) (has a.station e) (elsewhere e q).0) in
                let g : one (busy_at e b) ≡ 0 = ap one (and_right (is_busy b.state) (has b.station e) (elsewhere e q).1) in omega (arith, c, o, f, g)
          ]) refl;
      pending = λ e h.
          (elim (d == e) as (λ x. (d == e) ≡ x → count (pending_at e) (put_by (agent_order b) v.agents b) ≤ count (is_distributed_at e) v.connections) [
            | true ↦ λ q. let w = none_left (pending_at e) e (λ z w. (and_parts (is_some z.pending) (has z.station e) w).1) q (rw l.settled refl) in
                omega (arith, w)
            | false ↦ λ q. let c = counts (pending_at e) in let o = r.pending e (tight e h q) in
                let f : one (pending_at e a) ≡ 0 = ap one (and_right (is_some a.pending) (has a.station e) (elsewhere e q).0) in
                let g : one (pending_at e b) ≡ 0 = ap one (and_right (is_some b.pending) (has b.station e) (elsewhere e q).1) in omega (arith, c, o, f, g)
          ]) refl;
    })

-- the agent of a distributed connection
pub record Attends (s : Rows) (x : ConnectionRecord) (a : AgentRecord) : Type 0 where
  pub at_station : agent_at s x.device ≡ Some a
  pub there : agent_of s a.agent ≡ Some a
  pub station : a.station ≡ Some x.device
  pub seat : IsPlannedStation s a.station × ArePlannedGroups s a.groups
  pub ready : is_alerting x.state ≡ true → is_ready a.state ≡ true
  pub busy : is_answered x.state ≡ true → is_busy a.state ≡ true

-- a distributed connection alerts or is answered
pub alerting_or_answered : (s : Rows) (x : ConnectionRecord) → ConnectionRule s x → is_distributed x ≡ true
    → (is_alerting x.state ≡ true) ⊎ (is_answered x.state ≡ true)
alerting_or_answered s x rule e =
    cases x.state rule.0 (and_parts (is_some x.group) (not (is_queued x.state)) e).0 (and_parts (is_some x.group) (not (is_queued x.state)) e).1
  where
    cases : (st : ConnectionState) → HasColumns x st → is_some x.group ≡ true → not (is_queued st) ≡ true → (is_alerting st ≡ true) ⊎ (is_answered st ≡ true)
    cases S.Alerting c g q = inl refl
    cases S.Connected c g q = inr refl
    cases S.Hold c g q = inr refl
    cases S.Queued c g q = absurd (cc (q))
    cases S.Initiated c g q = absurd (cc (rw c.1 at g))
    cases S.Fail c g q = absurd (cc (rw c.1 at g))

pub attending : (s : Rows) (x : ConnectionRecord) → Rules s → Among x s.connections → is_distributed x ≡ true → (a : AgentRecord) × Attends s x a
unfolding agent_at
attending s x r among e =
    let rule = every_among (ConnectionRule s) s.connections x r.connections among in
    let d : ℕ = x.device in
    let g : is_some x.group ≡ true = (and_parts (is_some x.group) (not (is_queued x.state)) e).0 in
    let lr = fewer (ready_at d) (seated_at d) (λ z w. (and_parts (is_ready z.state) (has z.station d) w).1) s.agents in
    let lb = fewer (busy_at d) (seated_at d) (λ z w. (and_parts (is_busy z.state) (has z.station d) w).1) s.agents in
    let ringing : is_alerting x.state ≡ true → 1 ≤ count (ready_at d) s.agents = λ w.
    let c = counted (ringing_at d) s.connections x among (and_from _ _ (and_from _ _ w g) (eqb_self d)) in let h = r.ready d refl in omega (arith, c, h) in
    let talking : is_answered x.state ≡ true → 1 ≤ count (busy_at d) s.agents = λ w.
    let c = counted (talking_at d) s.connections x among (and_from _ _ (and_from _ _ w g) (eqb_self d)) in let h = r.busy d refl in omega (arith, c, h) in
    let some : 1 ≤ count (seated_at d) s.agents =
    elim (alerting_or_answered s x rule e) [ inl w ↦ (let h = ringing w in omega (arith, h, lr)) | inr w ↦ (let h = talking w in omega (arith, h, lb)) ] in
    let found = some_from (agent_at s d) (some_counted (seated_at d) s.agents some) in
    let a : AgentRecord = found.0 in
    let there : agent_of s a.agent ≡ Some a = agent_there s r.orders.agents d a found.1 in
    let station : a.station ≡ Some d = (agent_seat s d a found.1).1 in (
      a,
      record {
        at_station = found.1;
        there = there;
        station = station;
        seat = seat_from s a d a.state (every_among (AgentRule s) s.agents a r.agents (agent_seat s d a found.1).0) station;
        ready =
            λ w. (and_parts _ _ (the_one (seated_at d) (ready_at d) (λ z v. (and_parts (is_ready z.state) (has z.station d) v).1) s.agents a (r.one_agent d)
            (ringing w) found.1)).0;
        busy =
            λ w. (and_parts _ _ (the_one (seated_at d) (busy_at d) (λ z v. (and_parts (is_busy z.state) (has z.station d) v).1) s.agents a (r.one_agent d)
            (talking w) found.1)).0;
      },
    )

-- how the connection ends: unanswered only where it alerts
pub record Ends (x : ConnectionRecord) (how : Ending) : Type 0 where
  pub stays : is_distributed x ≡ true → (w : Option Pending) → release_of how w ≡ Stays → is_alerting x.state ≡ true

left_by : (v : Rows) (a : AgentRecord) (next : Release) (turn : Turn) (d : ℕ) → AgentRule v a → IsPlannedStation v a.station × ArePlannedGroups v a.groups
    → (next ≡ Stays → is_busy a.state ≡ false) → NotBusy next
    → (b : AgentRecord) × ((released turn a d next).change ≡ PutAgent b) × Left v a b
left_by v a Stays turn d rule seat idle n =
    (record a { pending = None }, refl, record { agent = refl; rule = left_pending v a a.state rule; station = λ e q. q; not_busy = idle refl; settled = refl })
left_by v a (Goes st) turn d rule seat idle n = (in_state st turn a, refl, left_state v a st turn n seat)

-- after a release at the device of x
released_agent : (loose : ℕ → Bool) (v : Rows) (o : Option AgentRecord) (a : AgentRecord) (x : ConnectionRecord) (how : Ending) (turn : Turn) → RulesBut loose v
    → o ≡ Some a → agent_of v a.agent ≡ Some a → a.station ≡ Some x.device
    → count (is_distributed_at x.device) v.connections ≡ 0 → (release_of how a.pending ≡ Stays → is_busy a.state ≡ false)
    → RulesBut (λ e. loose e && not (x.device == e)) (changed v (release_agent turn o x.device how).change)
released_agent loose v None a x how turn r e there station vacant idle = absurd (cc (e))
released_agent loose v (Some z) a x how turn r e there station vacant idle =
    let same : z ≡ a = cc in
    let rule : AgentRule v a = every_among (AgentRule v) v.agents a r.agents (agent_among v a.agent a there) in
    let l = left_by v a (release_of how a.pending) turn x.device rule (seat_from v a x.device a.state rule station) idle (release_not_busy how a.pending) in
    rw same (subst (λ c. RulesBut (λ e. loose e && not (x.device == e)) (changed v c)) (sym l.1) (left_keeps loose v a l.0 x.device r there station vacant l.2))

pub loosen : (p q : ℕ → Bool) (v : Rows) → ((e : ℕ) → q e ≡ true → p e ≡ true) → ((e : ℕ) → q e ≡ false → p e ≡ false) → RulesBut p v → RulesBut q v
loosen p q v f g r = with_agents p q v v.agents r f (record {
  sorted = r.orders.agents;
  rules = r.agents;
  one_agent = r.one_agent;
  ready = λ d h. r.ready d (g d h);
  busy = λ d h. r.busy d (g d h);
  pending = λ d h. r.pending d (g d h);
})

not_and : (a : Bool) → a ≡ (a && not false)
not_and true = refl
not_and false = refl

-- the agent whom x has in s is the same in v
abbrev pub KeepsAgent : Rows → Rows → ConnectionRecord → Type 0
KeepsAgent s v x = (a : AgentRecord) → Attends s x a → agent_of v a.agent ≡ Some a

-- s is the state before the service, v the one in which the agent is released
pub after_release : (loose : ℕ → Bool) (s v : Rows) (x : ConnectionRecord) (how : Ending) (turn : Turn) → RulesBut loose v
    → KeepsAgent s v x → Rules s → Among x s.connections
    → (is_distributed x ≡ true → count (is_distributed_at x.device) v.connections ≡ 0) → Ends x how
    → RulesBut (λ e. loose e && not (is_distributed x && (x.device == e))) (changed v (release s turn x how).change)
unfolding release
after_release loose s v x how turn r kept rs among vacant ends =
    (elim (is_distributed x) as (λ b. is_distributed x ≡ b
    → RulesBut (λ e. loose e && not (b && (x.device == e))) (changed v (cond b (release_agent turn (agent_at s x.device) x.device how) no_move).change)) [
      | true ↦ λ e.
          let h = attending s x rs among e in
          released_agent loose v (agent_at s x.device) h.0 x how turn r h.1.at_station (kept h.0 h.1) h.1.station (vacant e)
          (λ n. rw (ready_is h.0.state (h.1.ready (ends.stays e h.0.pending n))) refl)
      | false ↦ λ e. loosen loose (λ e. loose e && not false) v (λ e q. not_and (loose e) ∙ q) (λ e q. not_and (loose e) ∙ q) r
    ]) refl

answered_moves : (w : Option Pending) → release_of Answered w ≡ Stays → ⊥
answered_moves None e = cc
answered_moves _ e = cc

-- as a clearing or a deflection ends it
pub ends_by : (s : Rows) (x : ConnectionRecord) → ConnectionRule s x → Ends x (ending_of x)
ends_by s x rule = record {
  stays = λ d w e.
      elim (alerting_or_answered s x rule d) [
        | inl a ↦ a
        | inr a ↦ absurd (answered_moves w (subst (λ b. release_of (cond b Answered Unanswered) w ≡ Stays) a e))
      ];
}

-- a release leaves the agents of other numbers
pub release_other_kept : (s t : Rows) (x : ConnectionRecord) (how : Ending) (turn : Turn) (n : ℕ)
    → ((a : AgentRecord) → agent_at s x.device ≡ Some a → (a.agent == n) ≡ false) → agent_of (changed t (release s turn x how).change) n ≡ agent_of t n
release_other_kept s t x how turn n h = agent_others turn n t _ (releases (λ a. (a.agent == n) ≡ false) s turn x how h)
