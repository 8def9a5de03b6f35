-- The end of a step sets figures and counters, and the rules hold on; what each step keeps, every run keeps.
use Rattle.std.proofs.Common.{◌≡◌, ℕ, List, [], ◌∷◌, Option, Some, None, refl, sym, ◌∙◌, ap, subst, map, ◌||◌, ◌++◌, append-nil, append_assoc, arith, true}
use Rattle.std.specs.Prelude.{is_some}
use Rattle.acd_lemmas.proofs.Words.{Rows, Limits, GroupRecord, AgentRecord, AgentState, Command, Event, find_by, AllAfter, IsAscending, at_group, group_of, station_of, call_of, is_group, is_station, is_planned, empty_rows, with_last, group_order}
use Rattle.acd_terms.specs.declared.state.AgentState.TheVariants as A
use Rattle.acd_lemmas.proofs.RuleFacts.{Rules, IsPlannedStation, ArePlannedGroups, SeatedAs, AgentRule, CallRule, IsCaller, ConnectionRule, two_if}
use Rattle.acd_lemmas.proofs.Lists.{every_among, every_from}
use Rattle.acd_model.specs.Figures.{counting, with_figures}
use Rattle.acd_model.specs.Step.{step, next_stamp, next_turn}
use Rattle.acd_lemmas.proofs.State.{group_counted_found, is_some_mapped}
use Rattle.acd_laws.proofs.DestinationLemmas.{rule_same}
use Rattle.acd_laws.proofs.Rules.RulesOfSteps.{rules_moves}
use Rattle.acd_model.specs.Run.{TimedCommand, run}

abbrev pub ended : Rows → List Event → ℕ → ℕ → ℕ → Rows
ended t es k m n = with_last (with_figures t es) k m n

after_counting : (es : List Event) (g : GroupRecord) (gs : List GroupRecord) → AllAfter group_order g gs
    → AllAfter group_order (counting es g) (map (counting es) gs)
after_counting es g [] h = tt
after_counting es g (x ∷ xs) h = (h.0, after_counting es g xs h.1)

pub ascending_counting : (es : List Event) (gs : List GroupRecord) → IsAscending group_order gs → IsAscending group_order (map (counting es) gs)
ascending_counting es [] h = tt
ascending_counting es (x ∷ xs) h = (after_counting es x xs h.0, ascending_counting es xs h.1)

pub groups_ended : (t : Rows) (es : List Event) (k m n d : ℕ) → is_group (ended t es k m n) d ≡ is_group t d
unfolding with_last with_figures group_of
groups_ended t es k m n d = ap is_some (group_counted_found d es t.groups) ∙ is_some_mapped (counting es) (find_by (at_group d) t.groups)

pub planned_ended : (t : Rows) (es : List Event) (k m n d : ℕ) → is_planned (ended t es k m n) d ≡ is_planned t d
unfolding with_last with_figures station_of
planned_ended t es k m n d = ap (λ b. b || is_station t d) (groups_ended t es k m n d)

-- the rules of a record speak of the planned devices alone, and of the last call
same_groups : (s t : Rows) → ((d : ℕ) → is_group t d ≡ is_group s d) → (gs : List ℕ) → ArePlannedGroups s gs → ArePlannedGroups t gs
same_groups s t g gs h = (h.0, every_from (λ (d : ℕ). is_group t d ≡ true) gs (λ d i. g d ∙ every_among (λ (d : ℕ). is_group s d ≡ true) gs d h.1 i))

same_station : (s t : Rows) → ((d : ℕ) → is_station t d ≡ is_station s d) → (o : Option ℕ) → IsPlannedStation s o → IsPlannedStation t o
same_station s t g None h = h
same_station s t g (Some d) h = g d ∙ h

same_seat : (s t : Rows) → ((d : ℕ) → is_group t d ≡ is_group s d) → ((d : ℕ) → is_station t d ≡ is_station s d) → (a : AgentRecord) (st : AgentState)
    → SeatedAs s a st → SeatedAs t a st
same_seat s t g f a A.Null h = h
same_seat s t g f a _ h = (same_station s t f a.station h.0, same_groups s t g a.groups h.1)

pub rules_ended : (t : Rows) (es : List Event) (k m n : ℕ) → Rules t → Rules (ended t es k m n)
unfolding with_last with_figures station_of call_of
rules_ended t es k m n r =
    let u : Rows = ended t es k m n in
    let g : (d : ℕ) → is_group u d ≡ is_group t d = groups_ended t es k m n in
    let f : (d : ℕ) → is_station u d ≡ is_station t d = λ d. refl in
    let p : (d : ℕ) → is_planned u d ≡ is_planned t d = planned_ended t es k m n in
    let c : (j : ℕ) → call_of u j ≡ call_of t j = λ j. refl in
    record {
      orders = record {
        groups = ascending_counting es t.groups r.orders.groups;
        stations = r.orders.stations;
        agents = r.orders.agents;
        calls = r.orders.calls;
        connections = r.orders.connections;
        monitors = r.orders.monitors;
      };
      kinds = λ d h. f d ∙ r.kinds d (sym (g d) ∙ h);
      agents = every_from (AgentRule u) t.agents (λ a i. same_seat t u g f a a.state (every_among (AgentRule t) t.agents a r.agents i));
      calls = every_from (CallRule u) t.calls (λ x i. let h = every_among (CallRule t) t.calls x r.calls i in (h.0, p x.called ∙ h.1, h.2, g x.caller ∙ h.3));
      connections =
          every_from (ConnectionRule u) t.connections
          (λ x i. rule_same t u g f x (λ h. subst (λ o. IsCaller o x.device) (sym (c x.call)) h)
          (every_among (ConnectionRule t) t.connections x r.connections i));
      parties = λ j. r.parties j ∙ ap (λ o. two_if (is_some o)) (sym (c j));
      one_open = r.one_open;
      one_live = λ d h. r.one_live d (sym (f d) ∙ h);
      no_hold = λ d h l. r.no_hold d (sym (f d) ∙ h) l;
      one_offer = r.one_offer;
      one_agent = r.one_agent;
      ready = r.ready;
      busy = r.busy;
      pending = r.pending;
      free = r.free;
    }

pub rules_step : (s : Rows) (moment : ℕ) (c : Command) → Rules s → Rules (step s moment c).rows
unfolding step
rules_step s moment c r = rules_ended _ _ (next_stamp s) _ _ (rules_moves s (next_turn s moment) c r)

-- a fact of a state and of all events up to it, which a step keeps
abbrev pub KeptByStep : (Rows → List Event → Type 0) → Type 0
KeptByStep P =
    (s : Rows) (events : List Event) (moment : ℕ) (command : Command) → P s events → P (step s moment command).rows (events ++ (step s moment command).events)

-- and one that a step keeps where the rules hold
abbrev pub KeptByRules : (Rows → List Event → Type 0) → Type 0
KeptByRules P =
    (s : Rows) (events : List Event) (moment : ℕ) (command : Command) → Rules s → P s events
    → P (step s moment command).rows (events ++ (step s moment command).events)

kept_on : (P : Rows → List Event → Type 0) → KeptByStep P → (commands : List TimedCommand) (s : Rows) (events : List Event) → P s events
    → P (run s commands).rows (events ++ (run s commands).events)
unfolding run
kept_on P f [] s events h = subst (P s) (sym (append-nil events)) h
kept_on P f (q ∷ more) s events h =
    let one = step s q.moment q.command in
    subst (P (run one.rows more).rows) (append_assoc events one.events (run one.rows more).events)
    (kept_on P f more one.rows (events ++ one.events) (f s events q.moment q.command h))

pub kept_by_run : (P : Rows → List Event → Type 0) → KeptByStep P → (limits : Limits) → P (empty_rows limits) [] → (commands : List TimedCommand)
    → P (run (empty_rows limits) commands).rows (run (empty_rows limits) commands).events
kept_by_run P f limits h commands = kept_on P f commands (empty_rows limits) [] h

-- the empty state keeps the rules
pub rules_first : (limits : Limits) → Rules (empty_rows limits)
unfolding group_of station_of call_of
rules_first limits = record {
  orders = record { groups = tt; stations = tt; agents = tt; calls = tt; connections = tt; monitors = tt };
  kinds = λ d h. absurd (cc (h));
  agents = tt;
  calls = tt;
  connections = tt;
  parties = λ c. refl;
  one_open = λ c. omega arith;
  one_live = λ d h. omega arith;
  no_hold = λ d h l. refl;
  one_offer = λ d. omega arith;
  one_agent = λ d. omega arith;
  ready = λ d h. omega arith;
  busy = λ d h. refl;
  pending = λ d h. omega arith;
  free = λ d h. refl;
}
