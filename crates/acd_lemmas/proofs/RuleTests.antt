-- Each rule of rows as the facts that its test decides, both ways: the rules that are tested alone.
use Rattle.std.proofs.Common.{◌≡◌, ℕ, zero, suc, ◌*◌, ◌≤◌, ◌⊎◌, inl, inr, Bool, true, false, not, ◌&&◌, ◌||◌, List, [], ◌∷◌, Option, Some, None, refl, sym, ◌∙◌, ap, subst, arith, length}
use Rattle.std.specs.Prelude.{◌==◌, if◌then◌else◌, is_none, find, nat_le}
use Rattle.std.specs.Bool.{Decides}
use Rattle.std.specs.List.{list_all, list_any}
use Rattle.std.specs.Cmp.{IsTotalOrder}
use Rattle.std.specs.declared.cmp.Ordering.{Ordering}
use Rattle.std.specs.declared.cmp.Ordering.TheVariants.{Less}
use Rattle.std.proofs.lemmas.Bool.{le-leb, leb-true, not-true, eqb-true}
use Rattle.std.proofs.lemmas.Bool.Decides.{Decides-like, Decides-and, Decides-or, Decides-not, Decides-eqb as equals}
use Rattle.acd_lemmas.proofs.Words.{Rows, GroupRecord, StationRecord, AgentRecord, CallRecord, ConnectionRecord, MonitorRecord, AgentState, count, Among, Every, IsAscending, is_null, is_group, is_station, is_planned, has, waiting_in, eligible_in, keeps_limits, is_less, ascends, group_order, station_order, agent_order, call_order, connection_order, monitor_order, keeps_order, keeps_device, is_station_there, are_planned_groups, is_alone_at, keeps_agent, keeps_monitor, keeps_call}
use Rattle.acd_terms.specs.Limits.{limits_fit, greatest_priority}
use Rattle.acd_terms.specs.Groups.{is_choice}
use Rattle.acd_terms.specs.declared.state.AgentState.TheVariants as A
use Rattle.acd_model.specs.Offers.{HasNoOffer}
use Rattle.acd_model.specs.Rules.Occupied.{keeps_offer, keeps_balance, is_empty}
use Rattle.acd_model.specs.Rules.Counters.{keeps_counters, is_moment_or_none, is_unique_place, is_offered_after, is_timed, is_countable}
use Rattle.acd_lemmas.specs.Orders.{Orders}
use Rattle.acd_lemmas.proofs.RuleFacts.{IsPlannedStation, ArePlannedGroups, SeatedAs, AgentRule, CallRule, seated_at, Sizes, AgentTimed, IsPlace, IsMoment, IsAfter, ConnectionTimed, at_place, Timed, OnePlace, Monitored, IsCountedUpTo, AddsUp}
use Rattle.acd_lemmas.proofs.Lists.{find_passes, find_among, any_found, any_some, every_among, every_from, some_counted, all_true, all_from, some_from, some_is, after_lower}
use Rattle.acd_lemmas.proofs.KeyedLists.{eqb_self}
use Rattle.acd_lemmas.proofs.State.{groups_total, stations_total, agents_total, calls_total, connections_total, monitors_total, is_group_any, is_station_any, has_is}

-- words

infixl 20 ◌and◌
pub ◌and◌ : {x y : Bool} {P Q : Type 0} → Decides x P → Decides y Q → Decides (x && y) (P × Q)
◌and◌ {x} {y} p q = Decides-and x y p q

infixl 10 ◌or◌
pub ◌or◌ : {x y : Bool} {P Q : Type 0} → Decides x P → Decides y Q → Decides (x || y) (P ⊎ Q)
◌or◌ {x} {y} p q = Decides-or x y p q

pub like : {b : Bool} {P Q : Type 0} → Decides b P → (P → Q) → (Q → P) → Decides b Q
like {b} d f g = Decides-like b f g d

pub holds : (b : Bool) → Decides b (b ≡ true)
holds b = (λ e. e, λ e. e)

pub fails : (b : Bool) → Decides (not b) (b ≡ false)
fails b = (not-true b, λ e. ap not e)

pub absent : {X : Type 0} (o : Option X) → Decides (is_none o) (o ≡ None)
absent None = (λ _. refl, λ _. refl)
absent (Some x) = (λ e. absurd (cc (e)), λ e. absurd (cc (e)))

pub within : (a b : ℕ) → Decides (nat_le a b) (a ≤ b)
within a b = (leb-true a b, le-leb a b)

-- a premise that is tested first
pub when : (b : Bool) {c : Bool} {P : Type 0} → Decides c P → Decides (not b || c) (b ≡ true → P)
when true d = (λ e _. d.0 e, λ h. d.1 (h refl))
when false d = (λ _ e. absurd (cc (e)), λ _. refl)

pub each : {X : Type 0} {p : X → Bool} {P : X → Type 0} → ((x : X) → Decides (p x) (P x)) → (xs : List X) → Decides (list_all p xs) ((x : X) → Among x xs → P x)
each {p = p} f xs = (λ e x i. (f x).0 (all_true p xs e x i), λ h. all_from p xs (λ x i. (f x).1 (h x i)))

pub every : {X : Type 0} {p : X → Bool} {P : X → Type 0} → ((x : X) → Decides (p x) (P x)) → (xs : List X) → Decides (list_all p xs) (Every P xs)
every {P = P} f xs = like (each f xs) (every_from P xs) (λ h x i. every_among P xs x h i)

pub any : {X : Type 0} (p : X → Bool) (xs : List X) → Decides (list_any p xs) ((x : X) × (Among x xs × (p x ≡ true)))
any p xs =
    (λ e. let f = some_from (find p xs) (any_found p xs e) in (f.0, (find_among p xs f.0 f.1, find_passes p xs f.0 f.1)), λ h. any_some p xs h.0 h.1.0 h.1.1)

pub is_number : (o : Option ℕ) (n : ℕ) → Decides (has o n) (o ≡ Some n)
is_number o n = (has_is o n, λ e. subst (λ v. has v n ≡ true) (sym e) (eqb_self n))

-- none or some
pub zero_or : (n : ℕ) → (n ≡ 0) ⊎ (1 ≤ n)
zero_or zero = inl refl
zero_or (suc n) = inr (omega arith)

-- one of those that pass
pub one_that : {X : Type 0} (p : X → Bool) (xs : List X) → 1 ≤ count p xs → (x : X) × (Among x xs × (p x ≡ true))
one_that p xs l = let f = some_from (find p xs) (some_counted p xs l) in (f.0, (find_among p xs f.0 f.1, find_passes p xs f.0 f.1))

-- at most one has a key, where that is so of each key that one of the list has
pub at_most : {X : Type 0} (p : ℕ → X → Bool) (xs : List X) → ((d : ℕ) (x : X) → Among x xs → p d x ≡ true → count (p d) xs ≤ 1) → (d : ℕ) → count (p d) xs ≤ 1
at_most p xs h d = elim (zero_or (count (p d) xs)) [ inl z ↦ omega (arith, z) | inr l ↦ (let f = one_that (p d) xs l in h d f.0 f.1.0 f.1.1) ]

-- limits

pub record LimitsKept (s : Rows) : Type 0 where
  pub sizes : Sizes s
  pub last_stamp : s.last_stamp ≤ s.limits.requests
  pub last_call : s.last_call ≤ s.last_stamp
  pub last_monitor : s.last_monitor ≤ s.last_stamp
  pub priorities : (g : GroupRecord) → Among g s.groups → g.priority ≤ greatest_priority

pub limits_decided : (s : Rows) → Decides (keeps_limits s) (LimitsKept s)
unfolding keeps_limits
limits_decided s = like
    (holds (limits_fit s.limits) and within (length s.groups) s.limits.groups and within (length s.stations) s.limits.stations
    and within (length s.agents) s.limits.agents and within (length s.calls) s.limits.calls
    and within (length s.monitors) s.limits.monitors and within s.last_stamp s.limits.requests and within s.last_call s.last_stamp
    and within s.last_monitor s.last_stamp
    and each (λ (g : GroupRecord). within g.priority greatest_priority) s.groups)
    (λ p. let q = p.0.0.0.0 in record {
      sizes = record { limits = q.0.0.0.0.0; groups = q.0.0.0.0.1; stations = q.0.0.0.1; agents = q.0.0.1; calls = q.0.1; monitors = q.1 };
      last_stamp = p.0.0.0.1;
      last_call = p.0.0.1;
      last_monitor = p.0.1;
      priorities = p.1;
    })
    (λ h. (
      (
        (((((((h.sizes.limits, h.sizes.groups), h.sizes.stations), h.sizes.agents), h.sizes.calls), h.sizes.monitors), h.last_stamp), h.last_call),
        h.last_monitor,
      ),
      h.priorities,
    ))

-- order

less_decided : (o : Ordering) → Decides (is_less o) (o ≡ Less)
less_decided Less = (λ _. refl, λ _. refl)
less_decided _ = (λ e. absurd (cc (e)), λ e. absurd (cc (e)))

ascends_decided : {X : Type 0} (cmp : X → X → Ordering) → IsTotalOrder cmp → (xs : List X) → Decides (ascends cmp xs) (IsAscending cmp xs)
ascends_decided cmp o [] = (λ _. tt, λ _. refl)
ascends_decided cmp o (x ∷ []) = (λ _. (tt, tt), λ _. refl)
ascends_decided cmp o (x ∷ y ∷ ys) =
    like (less_decided (cmp x y) and ascends_decided cmp o (y ∷ ys)) (λ h. ((h.0, after_lower cmp o x y h.0 ys h.1.0), h.1)) (λ h. (h.0.0, h.1))

pub ascending_from : {X : Type 0} (cmp : X → X → Ordering) → IsTotalOrder cmp → (xs : List X) → ascends cmp xs ≡ true → IsAscending cmp xs
ascending_from cmp o xs = (ascends_decided cmp o xs).0

pub orders_decided : (s : Rows) → Decides (keeps_order s) (Orders s)
unfolding keeps_order
orders_decided s = like
    (ascends_decided group_order groups_total s.groups and ascends_decided station_order stations_total s.stations
    and ascends_decided agent_order agents_total s.agents
    and ascends_decided call_order calls_total s.calls and ascends_decided connection_order connections_total s.connections
    and ascends_decided monitor_order monitors_total s.monitors)
    (λ p. let q = p.0.0 in record { groups = q.0.0.0; stations = q.0.0.1; agents = q.0.1; calls = q.1; connections = p.0.1; monitors = p.1 })
    (λ h. (((((h.groups, h.stations), h.agents), h.calls), h.connections), h.monitors))

-- devices

group_there : (s : Rows) (d : ℕ) → is_group s d ≡ true → (g : GroupRecord) × (Among g s.groups × ((g.device == d) ≡ true))
group_there s d e = (any (λ (g : GroupRecord). g.device == d) s.groups).0 (sym (is_group_any s d) ∙ e)

pub station_there : (s : Rows) (d : ℕ) → is_station s d ≡ true → (t : StationRecord) × (Among t s.stations × ((t.device == d) ≡ true))
station_there s d e = (any (λ (t : StationRecord). t.device == d) s.stations).0 (sym (is_station_any s d) ∙ e)

pub kinds_decided : (s : Rows) → Decides (keeps_device s) ((d : ℕ) → is_group s d ≡ true → is_station s d ≡ false)
unfolding keeps_device
kinds_decided s = like (each (λ (g : GroupRecord). fails (is_station s g.device)) s.groups)
    (λ f d h. let g = group_there s d h in subst (λ v. is_station s v ≡ false) (eqb-true g.0.device d g.1.1) (f g.0 g.1.0))
    (λ h g i. h g.device (is_group_any s g.device ∙ any_some (λ (x : GroupRecord). x.device == g.device) s.groups g i (eqb_self g.device)))

-- agents

station_decided : (s : Rows) (o : Option ℕ) → Decides (is_station_there s o) (IsPlannedStation s o)
station_decided s None = (λ e. absurd (cc (e)), λ h. absurd h)
station_decided s (Some d) = holds (is_station s d)

all_decided : (p : ℕ → Bool) (gs : List ℕ) → Decides (list_all p gs) (Every (λ (g : ℕ). p g ≡ true) gs)
all_decided p [] = (λ _. tt, λ _. refl)
all_decided p (g ∷ gs) = holds (p g) and all_decided p gs

groups_decided : (s : Rows) (gs : List ℕ) → Decides (are_planned_groups s gs) (ArePlannedGroups s gs)
groups_decided s gs = holds (is_choice gs) and all_decided (is_group s) gs

empty_decided : {T : Type 0} (xs : List T) → Decides (is_empty xs) (xs ≡ [])
empty_decided [] = (λ _. refl, λ _. refl)
empty_decided (x ∷ xs) = (λ e. absurd (cc (e)), λ e. absurd (cc (e)))

seat_decided : (s : Rows) (a : AgentRecord) (st : AgentState)
    → Decides
    (if is_null st then is_none a.station && is_empty a.groups && is_none a.pending else is_station_there s a.station && are_planned_groups s a.groups)
    (SeatedAs s a st)
seat_decided s a A.Null = like (absent a.station and empty_decided a.groups and absent a.pending) (λ p. (p.0.0, p.0.1, p.1)) (λ h. ((h.0, h.1), h.2))
seat_decided s a _ = station_decided s a.station and groups_decided s a.groups

alone_decided : (s : Rows) (o : Option ℕ) → Decides (is_alone_at s o) ((d : ℕ) → o ≡ Some d → count (seated_at d) s.agents ≤ 1)
alone_decided s None = (λ _ d e. absurd (cc (e)), λ _. refl)
alone_decided s (Some n) =
    like (within (count (seated_at n) s.agents) 1) (λ l d e. subst (λ v. count (seated_at v) s.agents ≤ 1) (some_is n d e) l) (λ h. h n refl)

pub record AgentsKept (s : Rows) : Type 0 where
  pub rule : Every (AgentRule s) s.agents
  pub one : (d : ℕ) → count (seated_at d) s.agents ≤ 1

pub agents_decided : (s : Rows) → Decides (keeps_agent s) (AgentsKept s)
unfolding keeps_agent
agents_decided s = like (each (λ (a : AgentRecord). seat_decided s a a.state and alone_decided s a.station) s.agents)
    (λ f. record {
      rule = every_from (AgentRule s) s.agents (λ a i. (f a i).0);
      one = at_most seated_at s.agents (λ d a i e. (f a i).1 d (has_is a.station d e));
    })
    (λ h a i. (every_among (AgentRule s) s.agents a h.rule i, λ d e. h.one d))

-- calls

pub calls_decided : (s : Rows) → Decides (keeps_call s) (Every (CallRule s) s.calls)
unfolding keeps_call
calls_decided s =
    every (λ (c : CallRecord). like
    (holds (is_planned s c.called) and Decides-not _ (equals c.called c.caller) and fails (is_group s c.caller) and within c.call s.last_call)
    (λ p. (p.1, p.0.0.0, p.0.0.1, p.0.1)) (λ h. (((h.1, h.2), h.3), h.0))) s.calls

-- counters

agent_timed : (s : Rows) (a : AgentRecord)
    → Decides (nat_le 1 a.stamp && nat_le a.stamp s.last_stamp && nat_le a.since s.last_moment) (AgentTimed s.last_stamp s.last_moment a)
agent_timed s a =
    like (within 1 a.stamp and within a.stamp s.last_stamp and within a.since s.last_moment) (λ p. record { above = p.0.0; stamp = p.0.1; since = p.1 })
    (λ h. ((h.above, h.stamp), h.since))

place_decided : (s : Rows) (o : Option ℕ)
    → Decides (is_unique_place s o) (IsPlace s.last_stamp o × ((p : ℕ) → o ≡ Some p → count (at_place p) s.connections ≤ 1))
place_decided s None = (λ _. (tt, λ p e. absurd (cc (e))), λ _. refl)
place_decided s (Some n) = like (within 1 n and within n s.last_stamp and within (count (at_place n) s.connections) 1)
    (λ h. ((h.0.0, h.0.1), λ p e. subst (λ v. count (at_place v) s.connections ≤ 1) (some_is n p e) h.1)) (λ h. ((h.0.0, h.0.1), h.1 n refl))

moment_decided : (s : Rows) (o : Option ℕ) → Decides (is_moment_or_none s o) (IsMoment s.last_moment o)
moment_decided s None = (λ _. tt, λ _. refl)
moment_decided s (Some n) = within n s.last_moment

after_decided : (q o : Option ℕ) → Decides (is_offered_after q o) (IsAfter q o)
after_decided (Some q) (Some o) = within q o
after_decided _ _ = (λ _. tt, λ _. refl)

timed_decided : (s : Rows) (x : ConnectionRecord)
    → Decides (is_timed s x) (ConnectionTimed s.last_stamp s.last_moment x × ((p : ℕ) → x.place ≡ Some p → count (at_place p) s.connections ≤ 1))
timed_decided s x = like (place_decided s x.place and moment_decided s x.queued and moment_decided s x.offered and after_decided x.queued x.offered)
    (λ p. (record { place = p.0.0.0.0; queued = p.0.0.1; offered = p.0.1; order = p.1 }, p.0.0.0.1))
    (λ h. ((((h.0.place, h.1), h.0.queued), h.0.offered), h.0.order))

-- the calls counted as answered, abandoned or moved are so of the entries, where the figures add up
countable_decided : (s : Rows) (g : GroupRecord) → AddsUp s g → Decides (is_countable s g) (IsCountedUpTo s.last_stamp s.last_moment g)
countable_decided s g b = like
    (within g.figures.entered s.last_stamp and within g.figures.answered g.figures.entered and within g.figures.abandoned g.figures.entered
    and within g.figures.moved g.figures.entered
    and within g.figures.waited (g.figures.answered * s.last_moment))
    (λ p. (p.0.0.0.0, p.1)) (λ h. ((((h.0, omega (arith, b)), omega (arith, b)), omega (arith, b)), h.1))

pub record CountersKept (s : Rows) : Type 0 where
  pub timed : Timed s.last_stamp s.last_moment s
  pub places : OnePlace s
  pub figures : Every (IsCountedUpTo s.last_stamp s.last_moment) s.groups
  pub last_event : s.last_event ≤ 100000 * s.last_stamp

pub counters_decided : (s : Rows) → Every (AddsUp s) s.groups → Decides (keeps_counters s) (CountersKept s)
unfolding keeps_counters
counters_decided s b = like
    (every (agent_timed s) s.agents and every (λ (c : CallRecord). within c.since s.last_moment) s.calls and each (timed_decided s) s.connections and countable
    and within s.last_event (100000 * s.last_stamp))
    (λ p. let x = p.0.0.1 in record {
      timed = record {
        agents = p.0.0.0.0;
        calls = p.0.0.0.1;
        connections = every_from (ConnectionTimed s.last_stamp s.last_moment) s.connections (λ z i. (x z i).0);
      };
      places = at_most at_place s.connections (λ n z i e. (x z i).1 n (has_is z.place n e));
      figures = p.0.1;
      last_event = p.1;
    })
    (λ h. (
      (
        (
          (h.timed.agents, h.timed.calls),
          λ x i. (
            every_among (ConnectionTimed s.last_stamp s.last_moment) s.connections x h.timed.connections i,
            λ n e. h.places n,
          ),
        ),
        h.figures,
      ),
      h.last_event,
    ))
  where
    balanced : (g : GroupRecord) → Among g s.groups → AddsUp s g
    balanced g i = every_among (AddsUp s) s.groups g b i

    countable : Decides (list_all (is_countable s) s.groups) (Every (IsCountedUpTo s.last_stamp s.last_moment) s.groups)
    countable = (
      λ e. every_from (IsCountedUpTo s.last_stamp s.last_moment) s.groups
          (λ g i. (countable_decided s g (balanced g i)).0 (all_true (is_countable s) s.groups e g i)),
      λ h. all_from (is_countable s) s.groups
          (λ g i. (countable_decided s g (balanced g i)).1 (every_among (IsCountedUpTo s.last_stamp s.last_moment) s.groups g h i)),
    )

-- offers, monitors, balance

pub offers_decided : (s : Rows) → Decides (keeps_offer s) ((g : GroupRecord) → Among g s.groups → HasNoOffer s g.device)
unfolding keeps_offer
offers_decided s = each (λ (g : GroupRecord). empty_decided (waiting_in s g.device) or empty_decided (eligible_in s g.device)) s.groups

pub monitors_decided : (s : Rows) → Decides (keeps_monitor s) (Monitored s)
unfolding keeps_monitor
monitors_decided s =
    every
    (λ (w : MonitorRecord). like (holds (is_planned s w.device) and within w.monitor s.last_monitor and within w.after_event s.last_event)
    (λ p. (p.0.0, p.0.1, p.1)) (λ h. ((h.0, h.1), h.2)))
    s.monitors

pub balance_decided : (s : Rows) → Decides (keeps_balance s) (Every (AddsUp s) s.groups)
unfolding keeps_balance
balance_decided s = every (λ (g : GroupRecord). equals g.figures.entered _) s.groups
