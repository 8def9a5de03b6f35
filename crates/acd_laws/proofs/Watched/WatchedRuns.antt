-- What follows of a state and of the events since, over a whole step: the reports of every run give its state; every run is balanced, and leaves no offer.
use Rattle.std.proofs.Common.{◌≡◌, ℕ, ◌+◌, ◌<◌, ◌≤◌, List, [], ◌++◌, refl, sym, ◌∙◌, ap, subst, length, arith, append-nil, ◌⊎◌, inl, inr, true, false, ◌&&◌, ◌||◌, cond, ◌∷◌, Option, Some, None, Bool, not, eq-eqb}
use Rattle.acd_lemmas.proofs.Words.{Rows, Limits, GroupRecord, CallRecord, ConnectionRecord, Figures, ConnectionState, Command, Event, Move, Among, is_alerting, is_queued, agent_of, call_of, connection_of, is_group, is_station, is_planned, has, is_idle, is_occupied, waiting_in, is_eligible, eligible_in, empty_rows, with_last, moved, events_of}
use Rattle.acd_model.specs.Figures.{figures_of, sum_of_figures, counting, with_figures}
use Rattle.acd_model.specs.EventReports.{known_after, connection_reported, seat_reported, enters, last_entry}
use Rattle.acd_model.specs.Services.Serve.{serve}
use Rattle.acd_model.specs.Step.{numbered, step_moves, step, next_turn}
use Rattle.acd_lemmas.proofs.RuleFacts.{Rules, AlertingColumns, HasColumns, ConnectionRule, IsCaller, StandsAt}
use Rattle.acd_laws.proofs.Watched.ReportedState.{shown, seat, after-append, shown_after, seat_after, HasEntries, Reports, after-numbered}
use Rattle.acd_laws.proofs.Figures.EventCounts.{figures_joined, figures_numbered}
use Rattle.acd_laws.proofs.Watched.Order.{holding, balanced_events, Ordered, ordered_on}
use Rattle.acd_laws.proofs.Watched.MoveReports.{Sound}
use Rattle.acd_laws.proofs.Watched.EffectReports.{sound_effect, sound_regroups, sound_round}
use Rattle.acd_laws.proofs.Rules.RulesOfSteps.{by_parts, rules_serve}
use Rattle.std.specs.Prelude.{◌==◌, is_some, option_map}
use Rattle.acd_terms.specs.declared.state.ConnectionState.TheVariants as S
use Rattle.acd_model.specs.Watcher.{waits_or_rings, HasEntered, state_at, is_caller, is_external_caller, HasPlace, IsWatched}
use Rattle.acd_lemmas.proofs.Lists.{every_among, some_from, none_from, mapped_among}
use Rattle.std.proofs.lemmas.Bool.{and_parts, not-true, or_left, or_right}
use Rattle.acd_model.specs.Offers.{HasNoOffer}
use Rattle.acd_model.specs.Distribution.{distribution}
use Rattle.acd_model.specs.ServiceAnswers.{moves_of}
use Rattle.acd_laws.specs.WatchedLaws.{ReportsNoMore, RunIsWatched, RunReportsNoMore}
use Rattle.acd_laws.specs.BalanceLaws.{IsBalanced, RunIsBalanced}
use Rattle.acd_laws.specs.OfferLaws.{LeavesNoOffer, RunLeavesNoOffer}
use Rattle.acd_lemmas.proofs.State.{found_key, connection_rule}
use Rattle.acd_model.proofs.MoveLemmas.{moved_append}
use Rattle.acd_laws.proofs.Offers.DistributionSteps.{nothing_left}
use Rattle.acd_laws.proofs.Rules.StepEnds.{ended, planned_ended, rules_step, kept_by_run, rules_first, KeptByRules}
use Rattle.acd_terms.specs.declared.command.Turn.{Turn}

-- t is the state after s and these events; places are up to b in s, and up to c in t
pub record Follows (s : Rows) (b c : ℕ) (t : Rows) (es : List Event) : Type 0 where
  pub connections : (call device : ℕ) → shown t call device ≡ known_after (connection_reported call device) (shown s call device) es
  pub agents : (agent : ℕ) → seat t agent ≡ known_after (seat_reported agent) (seat s agent) es
  pub balances : (g : ℕ)
      → holding t g + ((figures_of g es).answered + (figures_of g es).abandoned + (figures_of g es).moved) ≡ holding s g + (figures_of g es).entered
  pub order : (events : List Event) (n : ℕ) → Ordered b n s events → Ordered c (n + length es) t (events ++ numbered n es)

nothing_counted : (s : Rows) (g : ℕ)
    → holding s g + ((figures_of g []).answered + (figures_of g []).abandoned + (figures_of g []).moved) ≡ holding s g + (figures_of g []).entered
unfolding figures_of
nothing_counted s g = omega arith

pub follows_nothing : (s : Rows) (b : ℕ) → Follows s b b s []
follows_nothing s b = record {
  connections = λ c d. refl;
  agents = λ n. refl;
  balances = λ g. nothing_counted s g;
  order = λ events n o. subst (λ (j : ℕ). Ordered b j s (events ++ [])) (omega arith) (subst (Ordered b n s) (sym (append-nil events)) o);
}

-- sound moves lead on
pub follows_moves : (s : Rows) (b c d m : ℕ) (t : Rows) (es : List Event) (ms : List Move) → Follows s b c t es → Sound m c d t ms
    → Follows s b d (moved t ms) (es ++ events_of m ms)
follows_moves s b c d m t es ms f g = record {
  connections =
      λ call device. shown_after t m ms g.truthful call device
      ∙ ap (λ v. known_after (connection_reported call device) v (events_of m ms)) (f.connections call device)
      ∙ sym (after-append (connection_reported call device) (shown s call device) es (events_of m ms));
  agents = λ agent. seat_after t m ms g.truthful agent ∙ ap (λ v. known_after (seat_reported agent) v (events_of m ms)) (f.agents agent)
      ∙ sym (after-append (seat_reported agent) (seat s agent) es (events_of m ms));
  balances = λ x.
      let a = f.balances x in
      let e = balanced_events t m ms g.balances x in
      let j : figures_of x (es ++ events_of m ms) ≡ _ = figures_joined x es (events_of m ms) in
      let j1 : (figures_of x (es ++ events_of m ms)).entered ≡ (figures_of x es).entered + (figures_of x (events_of m ms)).entered =
      ap (λ (w : Figures). w.entered) j in
      let j2 : (figures_of x (es ++ events_of m ms)).answered ≡ (figures_of x es).answered + (figures_of x (events_of m ms)).answered =
      ap (λ (w : Figures). w.answered) j in
      let j3 : (figures_of x (es ++ events_of m ms)).abandoned ≡ (figures_of x es).abandoned + (figures_of x (events_of m ms)).abandoned =
      ap (λ (w : Figures). w.abandoned) j in
      let j4 : (figures_of x (es ++ events_of m ms)).moved ≡ (figures_of x es).moved + (figures_of x (events_of m ms)).moved =
      ap (λ (w : Figures). w.moved) j in
      omega (arith, a, e, j1, j2, j3, j4);
  order = λ events n o. ordered_on d n (moved t ms) events es (events_of m ms) (g.order (events ++ numbered n es) (n + length es) (f.order events n o));
}

follows_later : (s : Rows) (b c d : ℕ) (t : Rows) (es : List Event) → c ≤ d → Follows s b c t es → Follows s b d t es
follows_later s b c d t es l f = record {
  connections = f.connections;
  agents = f.agents;
  balances = f.balances;
  order = λ events n o. let w = f.order events n o in
      record {
        in_order = w.in_order;
        entered = w.entered;
        up_to = record { entries = w.up_to.entries; places = λ g x p h. let e = w.up_to.places g x p h in omega (arith, e, l) };
      };
}

-- a step: the service leads from one stamp to the next, and rounds keep it
pub follows_step : (s : Rows) (turn : Turn) (b : ℕ) (c : Command) → Rules s → b < turn.stamp
    → Follows s b turn.stamp (moved s (step_moves s turn.moment (serve s turn c))) (events_of turn.moment (step_moves s turn.moment (serve s turn c)))
follows_step s turn b c r l =
    by_parts (Follows s b b) (Follows s b turn.stamp) turn c
    (λ _ t es ms d rt f. follows_moves s b b turn.stamp turn.moment t es ms f (sound_effect t turn b ms d rt l))
    (λ t es ms d rt f. follows_moves s b b turn.stamp turn.moment t es ms f (sound_regroups t turn b c ms d l))
    (λ _ t es f. follows_later s b b turn.stamp t es (omega (arith, l)) f)
    (λ t es ms d rt f. follows_moves s b turn.stamp turn.stamp turn.moment t es ms f (sound_round t turn turn.stamp ms d rt)) s [] r (follows_nothing s b)

-- an entry among events, whose number is the last one
abbrev EntryIn : ℕ → ℕ → List Event → ℕ → Type 0
EntryIn group call events last = (e : Event) × (Among e events) × (enters group call e ≡ true) × (e.number ≡ last)

-- the last entry known before is the last, or one of the events is
last_found : (g c known : ℕ) (es : List Event) → (last_entry g c known es ≡ known) ⊎ EntryIn g c es (last_entry g c known es)
last_found g c known [] = inl refl
last_found g c known (e ∷ es) =
    (elim (enters g c e) as (λ b. enters g c e ≡ b
    → (last_entry g c (cond b e.number known) es ≡ known) ⊎ EntryIn g c (e ∷ es) (last_entry g c (cond b e.number known) es)) [
      | true ↦ λ q. elim (last_found g c e.number es) [
        | inl same ↦ inr (e, inl refl, q, sym same)
        | inr w ↦ inr (w.0, inr w.1, w.2, w.3)
      ]
      | false ↦ λ q. elim (last_found g c known es) [
        | inl same ↦ inl same
        | inr w ↦ inr (w.0, inr w.1, w.2, w.3)
      ]
    ]) refl

pub entered_from : (g c : ℕ) (es : List Event) → 0 < last_entry g c 0 es → HasEntered es g c
entered_from g c es l =
    elim (last_found g c 0 es) [
      | inl none ↦ absurd (omega (arith, l, none))
      | inr w ↦ (let same = w.3 in record { entry = w.0; reported = w.1; is_entry = w.2; last = same; numbered = omega (arith, l, same) })
    ]

-- one that waits or rings has a place

pub alerting_place : (x : ConnectionRecord) (g : ℕ) (o : Option ℕ) → AlertingColumns x o → has o g ≡ true → is_some x.place ≡ true
alerting_place x g None h e = absurd (cc (e))
alerting_place x g (Some n) h e = h.place

pub place_in : (x : ConnectionRecord) (g : ℕ) (st : ConnectionState) → HasColumns x st
    → ((is_queued st && x.device == g) || (is_alerting st && has x.group g)) ≡ true → is_some x.place ≡ true
place_in x g S.Queued h e = h.place
place_in x g S.Alerting h e = alerting_place x g x.group h e
place_in x g _ h e = absurd (cc (e))

-- the number of its entry is above 0
pub entry_number : (g c : ℕ) (x : ConnectionRecord) (events : List Event) → x.call ≡ c → HasEntered events g x.call → 0 < last_entry g c 0 events
entry_number g c x events e h = subst (λ v. 0 < last_entry g v 0 events) e (let n = h.numbered in let l = h.last in omega (arith, n, l))

pub entered_by : (s : Rows) (events : List Event) (g : ℕ) (x : ConnectionRecord) → Rules s → HasEntries s events → Among x s.connections
    → waits_or_rings g x ≡ true → HasEntered events g x.call
entered_by s events g x r h a e =
    let rule = every_among (ConnectionRule s) s.connections x r.connections a in
    let place = some_from x.place (place_in x g x.state rule.0 e) in
    entered_from g x.call events (h g x.call place.0 (record { connection = x; there = a; of_group = e; of_call = refl; at_place = place.1 }))

-- what a step reports

reports_ended : (s t : Rows) (events es : List Event) (k m : ℕ) → Reports s events → Follows s s.last_stamp k t es
    → Reports (ended t es k m (s.last_event + length es)) (events ++ numbered s.last_event es)
unfolding with_last with_figures connection_of agent_of
reports_ended s t events es k m reports f =
    let n : ℕ = s.last_event + length es in
    let w : Ordered k n t (events ++ numbered s.last_event es) =
    f.order events s.last_event (record { in_order = reports.queues; entered = reports.entries; up_to = reports.up_to }) in
    let back : (g c p : ℕ) → HasPlace (ended t es k m n) g c p → HasPlace t g c p =
    λ g c p h. record { connection = h.connection; there = h.there; of_group = h.of_group; of_call = h.of_call; at_place = h.at_place } in
    record {
      connections =
          λ call device. ap (λ b. cond b (state_at t call device) None) (planned_ended t es k m n device) ∙ f.connections call device
          ∙ ap (λ v. known_after (connection_reported call device) v es) (reports.connections call device)
          ∙ sym (after-append (connection_reported call device) None events (numbered s.last_event es)
          ∙ after-numbered (connection_reported call device) _ s.last_event es);
      agents = λ agent. f.agents agent ∙ ap (λ v. known_after (seat_reported agent) v es) (reports.agents agent)
          ∙ sym (after-append (seat_reported agent) _ events (numbered s.last_event es) ∙ after-numbered (seat_reported agent) _ s.last_event es);
      entries = λ g c p h. w.entered g c p (back g c p h);
      queues = λ g c d p q x y. w.in_order g c d p q (back g c p x) (back g d q y);
      up_to = record { entries = w.up_to.entries; places = λ g c p h. w.up_to.places g c p (back g c p h) };
    }

step_reports : KeptByRules Reports
unfolding step
step_reports s events moment command r reports =
    let turn : Turn = next_turn s moment in
    let ms : List Move = step_moves s turn.moment (serve s turn command) in
    reports_ended s (moved s ms) events (events_of turn.moment ms) turn.stamp turn.moment reports (follows_step s turn s.last_stamp command r (omega arith))

-- what the reports give of a state that keeps the rules

not_caller : (o : Option CallRecord) (d : ℕ) → is_caller o d ≡ false → IsCaller o d → ⊥
not_caller None d e i = i
not_caller (Some c) d e i = cc (e, eq-eqb c.caller d i)

not_standing : (s : Rows) (x : ConnectionRecord) (st : ConnectionState) → is_planned s x.device ≡ false → is_caller (call_of s x.call) x.device ≡ false
    → StandsAt s x st → ⊥
not_standing s x S.Queued p c h = cc (p, or_left (is_group s x.device) (is_station s x.device) h)
not_standing s x S.Initiated p c h = cc (p, or_right (is_group s x.device) (is_station s x.device) h.0)
not_standing s x S.Connected p c (inl h) = cc (p, or_right (is_group s x.device) (is_station s x.device) h)
not_standing s x S.Connected p c (inr h) = not_caller (call_of s x.call) x.device c h.1
not_standing s x _ p c h = cc (p, or_right (is_group s x.device) (is_station s x.device) h)

-- a connection is neither at a planned device nor at the caller of its call
none_outside : (s : Rows) (c d : ℕ) → Rules s → is_planned s d ≡ false → is_caller (call_of s c) d ≡ false → connection_of s c d ≡ None
none_outside s c d r p q = none_from (connection_of s c d) (λ x e.
    let k = found_key s c d x e in
    not_standing s x x.state (ap (is_planned s) k.1 ∙ p) (ap (λ v. is_caller (call_of s v) x.device) k.0 ∙ ap (is_caller (call_of s c)) k.1 ∙ q)
    (connection_rule s r c d x e).2)

-- a connection is shown by its state, and that of an external caller isn't

shown_by : (s : Rows) (c d : ℕ) (b : Bool) → Rules s → is_planned s d ≡ b → (not b && is_caller (call_of s c) d) ≡ false
    → state_at s c d ≡ cond b (state_at s c d) None
shown_by s c d true r p e = refl
shown_by s c d false r p e = ap (option_map (λ (x : ConnectionRecord). x.state)) (none_outside s c d r p e)

shown_inside : (s : Rows) (c d : ℕ) → Rules s → is_external_caller s c d ≡ false → state_at s c d ≡ shown s c d
shown_inside s c d r e = shown_by s c d (is_planned s d) r refl e

shown_outside : (s : Rows) (c d : ℕ) → is_external_caller s c d ≡ true → shown s c d ≡ None
shown_outside s c d e = ap (λ b. cond b (state_at s c d) None) (not-true (is_planned s d) (and_parts (not (is_planned s d)) (is_caller (call_of s c) d) e).0)

watched_by : (s : Rows) (events : List Event) → Rules s → Reports s events → IsWatched s events
watched_by s events r reports = record {
  connections = λ c d e. shown_inside s c d r e ∙ reports.connections c d;
  agents = reports.agents;
  entries = λ g x a h. entered_by s events g x r reports.entries a h;
  queues = reports.queues;
}

no_more_by : (s : Rows) (events : List Event) → Reports s events → ReportsNoMore s events
no_more_by s events reports = record {
  outside = λ c d e. sym (reports.connections c d) ∙ shown_outside s c d e;
  entries = reports.up_to.entries;
  places = reports.up_to.places;
}

reports_by : (s : Rows) (events : List Event) → Rules s → IsWatched s events → ReportsNoMore s events → Reports s events
reports_by s events r w n = record {
  connections =
      λ c d. (elim (is_external_caller s c d) as (λ b. is_external_caller s c d ≡ b → shown s c d ≡ known_after (connection_reported c d) None events) [
        | true ↦ λ e. shown_outside s c d e ∙ sym (n.outside c d e)
        | false ↦ λ e. sym (shown_inside s c d r e) ∙ w.connections c d e
      ]) refl;
  agents = w.agents;
  entries = λ g c p h. entry_number g c h.connection events h.of_call (w.entries g h.connection h.there h.of_group);
  queues = w.queues;
  up_to = record { entries = n.entries; places = n.places };
}

pub step_keeps_watched : (s : Rows) (events : List Event) (moment : ℕ) (command : Command) → Rules s → IsWatched s events → ReportsNoMore s events
    → IsWatched (step s moment command).rows (events ++ (step s moment command).events)
    × ReportsNoMore (step s moment command).rows (events ++ (step s moment command).events)
step_keeps_watched s events moment command r w n =
    let reports = step_reports s events moment command r (reports_by s events r w n) in
    (watched_by _ _ (rules_step s moment command r) reports, no_more_by _ _ reports)

-- balance

pub step_balances : KeptByRules IsBalanced
unfolding step with_last with_figures
step_balances s events moment command r h g =
    let turn : Turn = next_turn s moment in
    let ms : List Move = step_moves s turn.moment (serve s turn command) in
    let es : List Event = events_of turn.moment ms in
    let f = follows_step s turn s.last_stamp command r (omega arith) in
    let a = h g in
    let b = f.balances g in
    let c : holding (ended (moved s ms) es turn.stamp turn.moment (s.last_event + length es)) g ≡ holding (moved s ms) g = refl in
    let j = figures_joined g events (numbered s.last_event es) ∙ ap (λ v. sum_of_figures (figures_of g events) v) (figures_numbered g s.last_event es) in
    let j1 : (figures_of g (events ++ numbered s.last_event es)).entered ≡ (figures_of g events).entered + (figures_of g es).entered =
    ap (λ (w : Figures). w.entered) j in
    let j2 : (figures_of g (events ++ numbered s.last_event es)).answered ≡ (figures_of g events).answered + (figures_of g es).answered =
    ap (λ (w : Figures). w.answered) j in
    let j3 : (figures_of g (events ++ numbered s.last_event es)).abandoned ≡ (figures_of g events).abandoned + (figures_of g es).abandoned =
    ap (λ (w : Figures). w.abandoned) j in
    let j4 : (figures_of g (events ++ numbered s.last_event es)).moved ≡ (figures_of g events).moved + (figures_of g es).moved =
    ap (λ (w : Figures). w.moved) j in
    omega (arith, a, b, c, j1, j2, j3, j4)

-- no offer

no_offer_ended : (t : Rows) (es : List Event) (k m n : ℕ) → LeavesNoOffer t → LeavesNoOffer (ended t es k m n)
unfolding with_last with_figures waiting_in eligible_in is_eligible is_occupied is_idle
no_offer_ended t es k m n h g a =
    let w = mapped_among (counting es) t.groups g a in
    subst (λ d. HasNoOffer (ended t es k m n) d) (ap (λ (z : GroupRecord). z.device) (sym w.1.1)) (h w.0 w.1.0)

pub step_leaves_no_offer : (s : Rows) (moment : ℕ) (command : Command) → Rules s → LeavesNoOffer (step s moment command).rows
unfolding step
step_leaves_no_offer s moment command r =
    let turn : Turn = next_turn s moment in
    let ms : List Move = moves_of (serve s turn command) in
    let all : List Move = step_moves s turn.moment (serve s turn command) in
    no_offer_ended (moved s all) (events_of turn.moment all) turn.stamp turn.moment (s.last_event + length (events_of turn.moment all))
    (subst LeavesNoOffer (sym (moved_append s ms (distribution (moved s ms) turn.moment)))
    (λ g a. nothing_left (moved s ms) turn.moment g (rules_serve s turn command r) a))

-- runs

-- all of it, which a step keeps
record Holds (s : Rows) (events : List Event) : Type 0 where
  rules : Rules s
  reports : Reports s events
  balanced : IsBalanced s events
  no_offer : LeavesNoOffer s

nothing_reported : (limits : Limits) → Reports (empty_rows limits) []
unfolding connection_of agent_of
nothing_reported limits = record {
  connections = λ c d. elim (is_planned (empty_rows limits) d) as (λ b. cond {A = Option ConnectionState} b None None ≡ None) [ true ↦ refl | false ↦ refl ];
  agents = λ a. refl;
  entries = λ g c p a. absurd a.there;
  queues = λ g c d p q a b. absurd a.there;
  up_to = record { entries = λ g c. omega arith; places = λ g c p a. absurd a.there };
}

nothing_entered : (limits : Limits) → IsBalanced (empty_rows limits) []
unfolding figures_of
nothing_entered limits g = refl

holds_first : (limits : Limits) → Holds (empty_rows limits) []
holds_first limits = record { rules = rules_first limits; reports = nothing_reported limits; balanced = nothing_entered limits; no_offer = λ g a. absurd a }

holds_step : (s : Rows) (events : List Event) (moment : ℕ) (command : Command) → Holds s events
    → Holds (step s moment command).rows (events ++ (step s moment command).events)
holds_step s events moment command h = record {
  rules = rules_step s moment command h.rules;
  reports = step_reports s events moment command h.rules h.reports;
  balanced = step_balances s events moment command h.rules h.balanced;
  no_offer = step_leaves_no_offer s moment command h.rules;
}

pub run_is_watched : RunIsWatched
run_is_watched limits commands = let h = kept_by_run Holds holds_step limits (holds_first limits) commands in watched_by _ _ h.rules h.reports

pub run_reports_no_more : RunReportsNoMore
run_reports_no_more limits commands = no_more_by _ _ (kept_by_run Holds holds_step limits (holds_first limits) commands).reports

pub run_is_balanced : RunIsBalanced
run_is_balanced limits commands = (kept_by_run Holds holds_step limits (holds_first limits) commands).balanced

pub run_leaves_no_offer : RunLeavesNoOffer
run_leaves_no_offer limits commands = (kept_by_run Holds holds_step limits (holds_first limits) commands).no_offer
