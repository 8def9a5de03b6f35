-- Offers, returns and ends of after-call work keep what they meet within bounds.
use Rattle.std.proofs.Common.{◌≡◌, ℕ, ◌+◌, ◌≤◌, Bool, false, List, [], ◌∷◌, ◌++◌, Option, Some, None, refl, ◌∙◌, ap, arith, length}
use Rattle.std.specs.Prelude.{◌==◌}
use Rattle.std.proofs.lemmas.Bool.{and_right}
use Rattle.acd_lemmas.proofs.Words.{Rows, ConnectionRecord, Event, Move, Report, count, Every, IsAscending, connection_of, has, with_connection, without_connection, reported, moved, with_event, events_of, agent_order}
use Rattle.acd_terms.specs.declared.state.AgentState.TheVariants.{Ready}
use Rattle.acd_terms.specs.declared.event.Cause.TheVariants.{Distributed, NoAnswer as Unanswered}
use Rattle.acd_terms.specs.declared.event.Report.TheVariants as report
use Rattle.acd_model.specs.declared.moves.Ending.TheVariants.{NoAnswer}
use Rattle.acd_model.specs.CallMoves.{queueing, ringing}
use Rattle.acd_model.specs.Figures.{is_entry}
use Rattle.acd_model.specs.declared.moves.Change.TheVariants.{PutConnection, RemoveConnection}
use Rattle.acd_model.specs.Distribution.{distribution}
use Rattle.acd_model.specs.Tick.{returns as all_returns, tick}
use Rattle.acd_lemmas.proofs.RuleFacts.{Rules, IsMoment, IsAfter, ConnectionTimed, at_place, Timed}
use Rattle.acd_lemmas.proofs.Lists.{one, count-append, every-append}
use Rattle.acd_laws.proofs.Watched.Order.{entries, entry_by}
use Rattle.acd_lemmas.proofs.State.{count_less, connection_there}
use Rattle.acd_laws.proofs.Offers.DistributionSteps.{returned}
use Rattle.acd_laws.proofs.MoveKinds.{Recorded, goes_from, releases_here}
use Rattle.acd_laws.proofs.Effects.{Round, offers, returns, rests}
use Rattle.acd_laws.proofs.Rules.RulesOfSteps.{RoundKeeps, by_rounds, by_tick}
use Rattle.acd_laws.proofs.Rules.MoveOrder.{AllSteady, Steadied, steadied, steadied_then, unchanged, WaitsUpTo, Carries, Steps, done, neat, comes, carries, steps_timed, steps_enter, steps_place, places_put, connection_timed, neat_agent, steady_agent}
use Rattle.acd_model.specs.Step.{turn_at}

-- the entries of moves are those of their events
entered_event : (g m : ℕ) (o : Option Report) (es : List Event)
    → count (λ (e : Event). is_entry g e.report) (with_event m o es) ≡ entry_by g o + count (λ (e : Event). is_entry g e.report) es
entered_event g m None es = omega arith
entered_event g m (Some r) es = refl

entered_is : (g m : ℕ) (ms : List Move) → count (λ (e : Event). is_entry g e.report) (events_of m ms) ≡ entries g ms
entered_is g m [] = refl
entered_is g m (x ∷ xs) = entered_event g m x.report (events_of m xs) ∙ ap (λ n. entry_by g x.report + n) (entered_is g m xs)

pub steps_entered : {k m : ℕ} {e : Bool} {t : Rows} {ms : List Move} (g : ℕ) → Steps k m e t ms
    → count (λ (e : Event). is_entry g e.report) (events_of m ms) ≤ one e
steps_entered {k} {m} {e} {t} {ms} g h = let a = entered_is g m ms in let b = steps_enter g h in omega (arith, a, b)

abbrev pub AllWait : ℕ → List Event → Type 0
AllWait m es = Every (λ (e : Event). WaitsUpTo m (Some e.report)) es

waits_event : (m : ℕ) (o : Option Report) (es : List Event) → WaitsUpTo m o → AllWait m es → AllWait m (with_event m o es)
waits_event m None es h g = g
waits_event m (Some r) es h g = (h, g)

pub steps_wait : {k m : ℕ} {e : Bool} {t : Rows} {ms : List Move} → Steps k m e t ms → AllWait m (events_of m ms)
steps_wait done = tt
steps_wait {k} {m} (neat {x = x} {ms = ms} n more) = waits_event m x.report (events_of m ms) n.waits (steps_wait more)
steps_wait {k} {m} (comes {x = x} {ms = ms} n more) = waits_event m x.report (events_of m ms) n.waits (steps_wait more)
steps_wait {k} {m} (carries {x = x} {y = y} {ms = ms} n more) =
    waits_event m x.report (with_event m y.report (events_of m ms)) n.waits.0 (waits_event m y.report (events_of m ms) n.waits.1 (steps_wait more))

-- rounds keep this, from the state in which they begin
pub record Within (s : Rows) (k m : ℕ) (t : Rows) (es : List Event) : Type 0 where
  pub timed : Timed k m t
  pub places : (p : ℕ) → count (at_place p) t.connections ≤ count (at_place p) s.connections
  pub steady : Steadied s t
  pub entries : (g : ℕ) → count (λ (e : Event). is_entry g e.report) es ≡ 0
  pub waits : AllWait m es

-- steps with which no call comes
within : (s : Rows) (k m : ℕ) (t : Rows) (es : List Event) (ms : List Move) → Within s k m t es → Steps k m false t ms → AllSteady t ms
    → Within s k m (moved t ms) (es ++ events_of m ms)
within s k m t es ms h f a = record {
  timed = steps_timed f h.timed;
  places = λ q. (let x = steps_place q f in let y = h.places q in omega (arith, x, y));
  steady = steadied_then s t (moved t ms) h.steady (steadied t ms h.steady.ascending a);
  entries =
      λ g. (let x = count-append (λ (e : Event). is_entry g e.report) es (events_of m ms) in let y = h.entries g in let z = steps_entered g f in
      omega (arith, x, y, z));
  waits = every-append (λ (e : Event). WaitsUpTo m (Some e.report)) es (events_of m ms) h.waits (steps_wait f);
}

within_nothing : (s : Rows) (k m : ℕ) → IsAscending agent_order s.agents → Timed k m s → Within s k m s []
within_nothing s k m h t = record { timed = t; places = λ p. omega arith; steady = unchanged s h; entries = λ g. refl; waits = tt }

-- a connection moves, with its place
places_carried : (t : Rows) (x y : ConnectionRecord) (p : ℕ) → connection_of t x.call x.device ≡ Some x → y.place ≡ x.place
    → count (at_place p) (with_connection (without_connection t x.call x.device) y).connections ≤ count (at_place p) t.connections
unfolding without_connection
places_carried t x y p ex e =
    let a = places_put (without_connection t x.call x.device) y p in
    let b = count_less (at_place p) t x.call x.device x ex in
    let c : one (at_place p y) ≡ one (at_place p x) = ap (λ o. one (has o p)) e in omega (arith, a, b, c)

timed_ringing : (k m d : ℕ) (x : ConnectionRecord) → ConnectionTimed k m x → ConnectionTimed k m (ringing m x d)
timed_ringing k m d x h = record { place = h.place; queued = h.queued; offered = omega arith; order = after x.queued h.queued }
  where
    after : (o : Option ℕ) → IsMoment m o → IsAfter o (Some m)
    after None h = tt
    after (Some q) h = h

timed_back : (k m g : ℕ) (x : ConnectionRecord) → ConnectionTimed k m x → ConnectionTimed k m (queueing x.call g x.place x.queued)
timed_back k m g x h = record { place = h.place; queued = h.queued; offered = tt; order = after x.queued }
  where
    after : (o : Option ℕ) → IsAfter o None
    after None = tt
    after (Some q) = tt

-- a connection ends, and another of its call has its place
carried : {k m : ℕ} (t : Rows) (x y : ConnectionRecord) (e f : Report) → Timed k m t → connection_of t x.call x.device ≡ Some x
    → (ConnectionTimed k m x → ConnectionTimed k m y) → y.place ≡ x.place → WaitsUpTo m (Some e) × WaitsUpTo m (Some f)
    → ((g : ℕ) → entry_by g (Some e) + entry_by g (Some f) ≡ 0) → Carries k m t (reported (RemoveConnection x.call x.device) e) (reported (PutConnection y) f)
carried {k} {m} t x y e f h ex same place waits n = record {
  fit = (tt, same (connection_timed t k m x h ex));
  waits = waits;
  entry = n;
  places = λ p. places_carried t x y p ex place;
}

-- each round
pub round_steps : (t : Rows) (k m : ℕ) (ms : List Move) → 1 ≤ k → Round t (turn_at m k) ms → Rules t → Timed k m t → Steps k m false t ms × AllSteady t ms
round_steps t k m _ l (offers o x a d i) r h = (
  carries
      (carried t x (ringing m x d) (report.Diverted x.call x.device d Distributed x.group) (report.Delivered x.call d Distributed x.group) h
      (connection_there t r x i.there) (timed_ringing k m d x) refl (tt, tt) (λ g. refl))
      done,
  (tt, (tt, tt)),
)
round_steps t k m _ l (returns x g found _ _) r h =
    let w = releases_here t (turn_at m k) x NoAnswer r.orders.agents in (
      carries (carried t x (queueing x.call g x.place x.queued) (report.Diverted x.call x.device g Unanswered x.group) (report.Queued x.call g Unanswered) h
          found (timed_back k m g x) refl (tt, tt) (λ i. ap (λ b. 0 + one b) (and_right (g == i) false refl)))
          (neat (neat_agent t l h w) done),
      (tt, (tt, (steady_agent t w, tt))),
    )
round_steps t k m _ l (rests a found _) r h =
    let w = goes_from (Recorded t) (turn_at m k) a a.station Ready found in (neat (neat_agent t l h w) done, (steady_agent t w, tt))

within_round : (s : Rows) (k m : ℕ) → 1 ≤ k → RoundKeeps (Within s k m) (turn_at m k)
within_round s k m l t es ms d r h = let f = round_steps t k m ms l d r h.timed in within s k m t es ms h f.0 f.1

pub distribution_within : (s : Rows) (k m : ℕ) → 1 ≤ k → Rules s → Timed k m s → Within s k m (moved s (distribution s m)) (events_of m (distribution s m))
distribution_within s k m l r t = by_rounds (Within s k m) (turn_at m k) (within_round s k m l) s [] r (within_nothing s k m r.orders.agents t)

pub tick_within : (s : Rows) (k m : ℕ) → 1 ≤ k → Rules s → Timed k m s → Within s k m (moved s (tick s (turn_at m k))) (events_of m (tick s (turn_at m k)))
tick_within s k m l r t = by_tick (Within s k m) (turn_at m k) (within_round s k m l) s [] r (within_nothing s k m r.orders.agents t)

-- the agents are as many after the returns
pub returns_agents : (s : Rows) (k m : ℕ) → 1 ≤ k → Rules s → Timed k m s → length (moved s (all_returns s (turn_at m k))).agents ≡ length s.agents
returns_agents s k m l r t =
    (returned (Within s k m) (turn_at m k) (λ u es x g ru h found alerting group. within_round s k m l u es _ (returns x g found alerting group) ru h) s [] r
    (within_nothing s k m r.orders.agents t)).1.steady.agents
