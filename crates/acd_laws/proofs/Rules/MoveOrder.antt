-- Moves and stamps, moments, places and plans: what one move keeps, and what moves in a row keep.
use Rattle.std.proofs.Common.{◌≡◌, ℕ, ◌+◌, ◌≤◌, ◌⊎◌, inl, Bool, true, false, cond, List, [], ◌∷◌, Option, Some, refl, sym, ◌∙◌, ap, subst, arith, length, eq-eqb, None}
use Rattle.std.specs.Prelude.{◌==◌, is_some}
use Rattle.std.proofs.lemmas.Bool.{eqb-true}
use Rattle.acd_terms.specs.Limits.{greatest_priority}
use Rattle.acd_lemmas.proofs.Words.{Rows, GroupRecord, AgentRecord, ConnectionRecord, MonitorRecord, ConnectionState, AgentState, Cause, Change, Move, Report, put_by, count, Among, Every, IsAscending, at_agent, at_call, at_connection, at_monitor, group_of, station_of, agent_of, connection_of, is_group, is_planned, with_group, with_station, with_agent, with_call, with_connection, with_monitor, without_call, without_connection, without_monitor, silent, reported, changed, moved, agent_order, connection_order}
use Rattle.acd_model.specs.declared.moves.Change.TheVariants.{Nothing, PutGroup, PutStation, PutAgent, PutCall, PutConnection, PutMonitor, RemoveCall, RemoveConnection, RemoveMonitor}
use Rattle.acd_lemmas.proofs.Lists.{ascending-put, count-put_old, count-put_most, count-remove_most, every_among, every_from, among-remove, some_from, one, every-put, every-remove, count_all, length-remove}
use Rattle.acd_lemmas.proofs.KeyedLists.{cmp_equal, cmp_self}
use Rattle.acd_lemmas.proofs.State.{agents_total, agent_find, agent_put, agent_among, connection_among, count_old}
use Rattle.acd_terms.specs.Limits.{limits_fit}
use Rattle.acd_lemmas.proofs.RuleFacts.{Sizes, MonitorRule, Monitored, AgentTimed, CallTimed, IsPlace, IsMoment, ConnectionTimed, at_place, Timed}
use Rattle.acd_terms.specs.declared.state.AgentState.TheVariants as A
use Rattle.acd_terms.specs.declared.state.ConnectionState.TheVariants as S
use Rattle.acd_terms.specs.declared.event.Report.TheVariants as report
use Rattle.acd_model.specs.Services.{no_figures}
use Rattle.acd_model.specs.CallMoves.{unqueued, queueing, arrive}
use Rattle.acd_model.specs.AgentMoves.{state_report}
use Rattle.acd_model.specs.Figures.{is_entry}
use Rattle.acd_laws.proofs.MoveKinds.{LeavesConnections, left_connections, AgentMove, stays, remains, reports, Recorded, Arrival, queues, alerts, fails, arrival_of}
use Rattle.acd_laws.proofs.Watched.Order.{entries, entry_by}
use Rattle.acd_terms.specs.declared.command.Turn.{Turn}
use Rattle.acd_model.specs.Step.{turn_at}

-- a change that puts no record but a connection, or the record of an agent who is known
abbrev pub Steady : (ℕ → Bool) → Change → Type 0
Steady known (PutGroup g) = ⊥
Steady known (PutStation t) = ⊥
Steady known (PutCall c) = ⊥
Steady known (PutMonitor w) = ⊥
Steady known (PutAgent a) = known a.agent ≡ true
Steady known _ = Unit {0}

abbrev pub knows : Rows → ℕ → Bool
knows s n = is_some (agent_of s n)

abbrev pub AllSteady : Rows → List Move → Type 0
AllSteady s ms = Every (λ (x : Move). Steady (knows s) x.change) ms

-- such moves leave this
pub record Steadied (s t : Rows) : Type 0 where
  pub limits : t.limits ≡ s.limits
  pub groups : t.groups ≡ s.groups
  pub stations : t.stations ≡ s.stations
  pub agents : length t.agents ≡ length s.agents
  pub ascending : IsAscending agent_order t.agents
  pub known : (n : ℕ) → knows s n ≡ true → knows t n ≡ true
  pub calls : length t.calls ≤ length s.calls
  pub monitors : (w : MonitorRecord) → Among w t.monitors → Among w s.monitors
  pub running : length t.monitors ≤ length s.monitors
  pub last_call : t.last_call ≡ s.last_call
  pub last_monitor : t.last_monitor ≡ s.last_monitor
  pub last_event : t.last_event ≡ s.last_event

pub unchanged : (s : Rows) → IsAscending agent_order s.agents → Steadied s s
unchanged s h = record {
  limits = refl;
  groups = refl;
  stations = refl;
  agents = refl;
  ascending = h;
  known = λ n e. e;
  calls = omega arith;
  monitors = λ w a. a;
  running = omega arith;
  last_call = refl;
  last_monitor = refl;
  last_event = refl;
}

pub steadied_then : (s t u : Rows) → Steadied s t → Steadied t u → Steadied s u
steadied_then s t u f g = record {
  limits = g.limits ∙ f.limits;
  groups = g.groups ∙ f.groups;
  stations = g.stations ∙ f.stations;
  agents = g.agents ∙ f.agents;
  ascending = g.ascending;
  known = λ n e. g.known n (f.known n e);
  calls = (let a = f.calls in let b = g.calls in omega (arith, a, b));
  monitors = λ w a. f.monitors w (g.monitors w a);
  running = (let a = f.running in let b = g.running in omega (arith, a, b));
  last_call = g.last_call ∙ f.last_call;
  last_monitor = g.last_monitor ∙ f.last_monitor;
  last_event = g.last_event ∙ f.last_event;
}

-- lengths

length-put_agent : (s : Rows) (a : AgentRecord) → IsAscending agent_order s.agents → knows s a.agent ≡ true
    → length (put_by (agent_order a) s.agents a) ≡ length s.agents
length-put_agent s a h e =
    let z = some_from (agent_of s a.agent) e in
    let c = count-put_old agent_order agents_total (λ (y : AgentRecord). y.agent == a.agent) (λ _. true) a
    (λ y q. eq-eqb y.agent a.agent (sym (cmp_equal a.agent y.agent q))) (λ y q. cmp_self a.agent y.agent (sym (eqb-true y.agent a.agent q))) s.agents h z.0
    (sym (agent_find s a.agent) ∙ z.1) in
    let p = count_all (put_by (agent_order a) s.agents a) in let q = count_all s.agents in omega (arith, c, p, q)

known_put : (s : Rows) (a : AgentRecord) (n : ℕ) → knows s n ≡ true → knows (with_agent s a) n ≡ true
known_put s a n e = ap is_some (agent_put s a n) ∙ either (a.agent == n) (agent_of s n) e
  where
    either : (b : Bool) (o : Option AgentRecord) → is_some o ≡ true → is_some (cond b (Some a) o) ≡ true
    either true o q = refl
    either false o q = q

steadied_change : (s : Rows) (c : Change) → IsAscending agent_order s.agents → Steady (knows s) c → Steadied s (changed s c)
unfolding with_agent with_connection without_call without_connection without_monitor agent_of
steadied_change s Nothing h st = unchanged s h
steadied_change s (PutAgent a) h st = record {
  limits = refl;
  groups = refl;
  stations = refl;
  agents = length-put_agent s a h st;
  ascending = ascending-put agent_order agents_total a s.agents h;
  known = known_put s a;
  calls = omega arith;
  monitors = λ w a. a;
  running = omega arith;
  last_call = refl;
  last_monitor = refl;
  last_event = refl;
}
steadied_change s (PutConnection x) h st = record {
  limits = refl;
  groups = refl;
  stations = refl;
  agents = refl;
  ascending = h;
  known = λ n e. e;
  calls = omega arith;
  monitors = λ w a. a;
  running = omega arith;
  last_call = refl;
  last_monitor = refl;
  last_event = refl;
}
steadied_change s (RemoveCall c) h st = record {
  limits = refl;
  groups = refl;
  stations = refl;
  agents = refl;
  ascending = h;
  known = λ n e. e;
  calls = length-remove (at_call c) s.calls;
  monitors = λ w a. a;
  running = omega arith;
  last_call = refl;
  last_monitor = refl;
  last_event = refl;
}
steadied_change s (RemoveConnection c d) h st = record {
  limits = refl;
  groups = refl;
  stations = refl;
  agents = refl;
  ascending = h;
  known = λ n e. e;
  calls = omega arith;
  monitors = λ w a. a;
  running = omega arith;
  last_call = refl;
  last_monitor = refl;
  last_event = refl;
}
steadied_change s (RemoveMonitor n) h st = record {
  limits = refl;
  groups = refl;
  stations = refl;
  agents = refl;
  ascending = h;
  known = λ n e. e;
  calls = omega arith;
  monitors = λ w a. among-remove (at_monitor n) s.monitors w a;
  running = length-remove (at_monitor n) s.monitors;
  last_call = refl;
  last_monitor = refl;
  last_event = refl;
}
steadied_change s _ h st = absurd st

steady_more : (p q : ℕ → Bool) (c : Change) → ((n : ℕ) → p n ≡ true → q n ≡ true) → Steady p c → Steady q c
steady_more p q (PutGroup g) f h = absurd h
steady_more p q (PutStation t) f h = absurd h
steady_more p q (PutCall c) f h = absurd h
steady_more p q (PutMonitor w) f h = absurd h
steady_more p q (PutAgent a) f h = f a.agent h
steady_more p q _ f h = tt

steadied_from : (s t : Rows) (ms : List Move) → Steadied s t → AllSteady s ms → Steadied s (moved t ms)
steadied_from s t [] f h = f
steadied_from s t (x ∷ xs) f h =
    steadied_from s (changed t x.change) xs
    (steadied_then s t (changed t x.change) f (steadied_change t x.change f.ascending (steady_more (knows s) (knows t) x.change f.known h.0))) h.1

pub steadied : (s : Rows) (ms : List Move) → IsAscending agent_order s.agents → AllSteady s ms → Steadied s (moved s ms)
steadied s ms h a = steadied_from s s ms (unchanged s h) a

-- sizes and monitors after them

pub sizes_steadied : (s t : Rows) → Steadied s t → Sizes s → Sizes t
sizes_steadied s t f h =
    let a = h.groups in let b = h.stations in let c = h.agents in let d = h.calls in let e = h.monitors in
    let p = f.agents in let q = f.calls in let r = f.running in
    record {
      limits = subst (λ l. limits_fit l ≡ true) (sym f.limits) h.limits;
      groups = rw (f.groups, f.limits) a;
      stations = rw (f.stations, f.limits) b;
      agents = rw (f.limits) (omega (arith, c, p));
      calls = rw (f.limits) (omega (arith, d, q));
      monitors = rw (f.limits) (omega (arith, e, r));
    }

planned_same : (s t : Rows) → t.groups ≡ s.groups → t.stations ≡ s.stations → (d : ℕ) → is_planned t d ≡ is_planned s d
unfolding group_of station_of
planned_same s t g h d = rw (g, h) refl

pub monitored_steadied : (s t : Rows) → Steadied s t → Monitored s → Monitored t
monitored_steadied s t f h = every_from (MonitorRule t) t.monitors (λ w i.
    let q = every_among (MonitorRule s) s.monitors w h (f.monitors w i) in let a = q.1 in let b = q.2 in let c = f.last_monitor in let d = f.last_event in
    (planned_same s t f.groups f.stations w.device ∙ q.0, omega (arith, a, c), omega (arith, b, d)))

-- a group that wasn't there, has counted nothing, and is of the lowest priority
abbrev pub IsNew : Rows → GroupRecord → Type 0
IsNew s g = (g.figures ≡ no_figures) × (is_group s g.device ≡ false) × (g.priority ≡ 0)

-- a group that was there, with its figures
pub record IsRegrouped (s : Rows) (g : GroupRecord) : Type 0 where
  pub was : GroupRecord
  pub there : Among was s.groups
  pub device : g.device ≡ was.device
  pub figures : g.figures ≡ was.figures
  pub in_range : was.priority ≤ greatest_priority → g.priority ≤ greatest_priority

-- a group of the state after the moves
abbrev pub IsGroupAfter : Rows → GroupRecord → Type 0
IsGroupAfter s g = Among g s.groups ⊎ (IsNew s g ⊎ IsRegrouped s g)

-- a service leaves this of the bounds
pub record Settled (s : Rows) (ms : List Move) : Type 0 where
  pub sizes : Sizes s → Sizes (moved s ms)
  pub monitors : Monitored s → Monitored (moved s ms)
  pub groups : (g : GroupRecord) → Among g (moved s ms).groups → IsGroupAfter s g
  pub limits : (moved s ms).limits ≡ s.limits
  pub last_call : (moved s ms).last_call ≤ s.last_call + 1
  pub last_monitor : (moved s ms).last_monitor ≤ s.last_monitor + 1
  pub last_event : (moved s ms).last_event ≡ s.last_event

pub settled : (s : Rows) (ms : List Move) → IsAscending agent_order s.agents → AllSteady s ms → Settled s ms
settled s ms h a =
    let f = steadied s ms h a in
    let c = f.last_call in let d = f.last_monitor in
    record {
      sizes = sizes_steadied s (moved s ms) f;
      monitors = monitored_steadied s (moved s ms) f;
      groups = λ g i. inl (subst (Among g) f.groups i);
      limits = f.limits;
      last_call = omega (arith, c);
      last_monitor = omega (arith, d);
      last_event = f.last_event;
    }

-- the record that is put has its stamp, moments and place within bounds
abbrev pub Fit : ℕ → ℕ → Change → Type 0
Fit k m (PutAgent a) = AgentTimed k m a
Fit k m (PutCall c) = CallTimed m c
Fit k m (PutConnection x) = ConnectionTimed k m x
Fit k m _ = Unit {0}

-- no call is reported to have waited longer than m
abbrev pub WaitsUpTo : ℕ → Option Report → Type 0
WaitsUpTo m (Some (report.Established call station (Some w))) = w.seconds ≤ m
WaitsUpTo m _ = Unit {0}

-- no entry, and no place that wasn't there
pub record Neat (k m : ℕ) (t : Rows) (x : Move) : Type 0 where
  pub fit : Fit k m x.change
  pub waits : WaitsUpTo m x.report
  pub entry : (g : ℕ) → entry_by g x.report ≡ 0
  pub places : (p : ℕ) → count (at_place p) (changed t x.change).connections ≤ count (at_place p) t.connections

-- a call comes to a device, with the stamp as its place
pub record Comes (k m : ℕ) (t : Rows) (x : Move) : Type 0 where
  pub fit : Fit k m x.change
  pub waits : WaitsUpTo m x.report
  pub places : (p : ℕ) → count (at_place p) (changed t x.change).connections ≤ one (k == p) + count (at_place p) t.connections

-- a connection ends, and another has its place
pub record Carries (k m : ℕ) (t : Rows) (x y : Move) : Type 0 where
  pub fit : Fit k m x.change × Fit k m y.change
  pub waits : WaitsUpTo m x.report × WaitsUpTo m y.report
  pub entry : (g : ℕ) → entry_by g x.report + entry_by g y.report ≡ 0
  pub places : (p : ℕ) → count (at_place p) (changed (changed t x.change) y.change).connections ≤ count (at_place p) t.connections

-- such moves in a row, with one call that comes at most
pub data Steps (k m : ℕ) : Bool → Rows → List Move → Type 0 where
  done : {t : Rows} → Steps k m false t []
  neat : {e : Bool} {t : Rows} {x : Move} {ms : List Move} → Neat k m t x → Steps k m e (changed t x.change) ms → Steps k m e t (x ∷ ms)
  comes : {t : Rows} {x : Move} {ms : List Move} → Comes k m t x → Steps k m false (changed t x.change) ms → Steps k m true t (x ∷ ms)
  carries : {e : Bool} {t : Rows} {x y : Move} {ms : List Move} → Carries k m t x y → Steps k m e (changed (changed t x.change) y.change) ms
      → Steps k m e t (x ∷ y ∷ ms)

-- records within bounds stay so, and within greater ones

pub timed_change : (s : Rows) (k m : ℕ) (c : Change) → Timed k m s → Fit k m c → Timed k m (changed s c)
unfolding with_group with_station with_agent with_call with_connection with_monitor without_call without_connection without_monitor
timed_change s k m (PutAgent a) h f = record {
  agents = every-put (at_agent a.agent) (AgentTimed k m) a f s.agents h.agents;
  calls = h.calls;
  connections = h.connections;
}
timed_change s k m (PutCall c) h f =
    record { agents = h.agents; calls = every-put (at_call c.call) (CallTimed m) c f s.calls h.calls; connections = h.connections }
timed_change s k m (PutConnection x) h f = record {
  agents = h.agents;
  calls = h.calls;
  connections = every-put (at_connection x.call x.device) (ConnectionTimed k m) x f s.connections h.connections;
}
timed_change s k m (RemoveCall c) h f =
    record { agents = h.agents; calls = every-remove (at_call c) (CallTimed m) s.calls h.calls; connections = h.connections }
timed_change s k m (RemoveConnection c d) h f = record {
  agents = h.agents;
  calls = h.calls;
  connections = every-remove (at_connection c d) (ConnectionTimed k m) s.connections h.connections;
}
timed_change s k m _ h f = record { agents = h.agents; calls = h.calls; connections = h.connections }

every_more : {X : Type 0} (P Q : X → Type 0) (xs : List X) → ((x : X) → P x → Q x) → Every P xs → Every Q xs
every_more P Q [] f h = tt
every_more P Q (x ∷ xs) f h = (f x h.0, every_more P Q xs f h.1)

place_more : (k j : ℕ) (o : Option ℕ) → k ≤ j → IsPlace k o → IsPlace j o
place_more k j None l h = tt
place_more k j (Some p) l h = let a = h.1 in (h.0, omega (arith, l, a))

moment_more : (m n : ℕ) (o : Option ℕ) → m ≤ n → IsMoment m o → IsMoment n o
moment_more m n None l h = tt
moment_more m n (Some p) l h = omega (arith, l, h)

pub timed_more : (k j m n : ℕ) (s : Rows) → k ≤ j → m ≤ n → Timed k m s → Timed j n s
timed_more k j m n s l q h = record {
  agents =
      every_more (AgentTimed k m) (AgentTimed j n) s.agents
      (λ a t. let x = t.stamp in let y = t.since in record { above = t.above; stamp = omega (arith, x, l); since = omega (arith, y, q) }) h.agents;
  calls = every_more (CallTimed m) (CallTimed n) s.calls (λ c t. omega (arith, t, q)) h.calls;
  connections = every_more (ConnectionTimed k m) (ConnectionTimed j n) s.connections
      (λ x t. record {
        place = place_more k j x.place l t.place;
        queued = moment_more m n x.queued q t.queued;
        offered = moment_more m n x.offered q t.offered;
        order = t.order;
      }) h.connections;
}

-- moves in a row keep this

pub steps_timed : {k m : ℕ} {e : Bool} {t : Rows} {ms : List Move} → Steps k m e t ms → Timed k m t → Timed k m (moved t ms)
steps_timed done h = h
steps_timed {k} {m} (neat {t = t} {x = x} n more) h = steps_timed more (timed_change t k m x.change h n.fit)
steps_timed {k} {m} (comes {t = t} {x = x} n more) h = steps_timed more (timed_change t k m x.change h n.fit)
steps_timed {k} {m} (carries {t = t} {x = x} {y = y} n more) h =
    steps_timed more (timed_change (changed t x.change) k m y.change (timed_change t k m x.change h n.fit.0) n.fit.1)

entry_le : (g : ℕ) (o : Option Report) → entry_by g o ≤ 1
entry_le g None = omega arith
entry_le g (Some r) = elim (is_entry g r) as (λ b. one b ≤ 1) [ true ↦ omega arith | false ↦ omega arith ]

pub steps_enter : {k m : ℕ} {e : Bool} {t : Rows} {ms : List Move} (g : ℕ) → Steps k m e t ms → entries g ms ≤ one e
steps_enter g done = omega arith
steps_enter g (neat n more) = let a = n.entry g in let b = steps_enter g more in omega (arith, a, b)
steps_enter g (comes {t = t} {x = x} n more) = let a = entry_le g x.report in let b = steps_enter g more in omega (arith, a, b)
steps_enter g (carries n more) = let a = n.entry g in let b = steps_enter g more in omega (arith, a, b)

pub steps_place : {k m : ℕ} {e : Bool} {t : Rows} {ms : List Move} (p : ℕ) → Steps k m e t ms
    → count (at_place p) (moved t ms).connections ≤ cond e (one (k == p)) 0 + count (at_place p) t.connections
steps_place p done = omega arith
steps_place p (neat n more) = let a = n.places p in let b = steps_place p more in omega (arith, a, b)
steps_place p (comes n more) = let a = n.places p in let b = steps_place p more in omega (arith, a, b)
steps_place p (carries n more) = let a = n.places p in let b = steps_place p more in omega (arith, a, b)

-- places

pub places_put : (t : Rows) (x : ConnectionRecord) (p : ℕ)
    → count (at_place p) (with_connection t x).connections ≤ one (at_place p x) + count (at_place p) t.connections
unfolding with_connection
places_put t x p = count-put_most (at_connection x.call x.device) (at_place p) x t.connections

places_remove : (t : Rows) (c d p : ℕ) → count (at_place p) (without_connection t c d).connections ≤ count (at_place p) t.connections
unfolding without_connection
places_remove t c d p = count-remove_most (at_connection c d) (at_place p) t.connections

pub connection_timed : (s : Rows) (k m : ℕ) (x : ConnectionRecord) → Timed k m s → connection_of s x.call x.device ≡ Some x → ConnectionTimed k m x
connection_timed s k m x h e = every_among (ConnectionTimed k m) s.connections x h.connections (connection_among s x.call x.device x e)

-- each move

-- one that changes no connection
pub neat_quiet : {k m : ℕ} {t : Rows} (c : Change) (o : Option Report) → Fit k m c → LeavesConnections c → WaitsUpTo m o → ((g : ℕ) → entry_by g o ≡ 0)
    → Neat k m t (record { change = c; report = o })
neat_quiet {k} {m} {t} c o f l w e =
    record {
      fit = f;
      waits = w;
      entry = e;
      places =
          λ p. (let h : count (at_place p) (changed t c).connections ≡ count (at_place p) t.connections = ap (count (at_place p)) (left_connections t c l) in
          omega (arith, h));
    }

pub neat_silent : {k m : ℕ} {t : Rows} (c : Change) → Fit k m c → LeavesConnections c → Neat k m t (silent c)
neat_silent c f l = neat_quiet c None f l tt (λ g. refl)

neat_state : {k m : ℕ} {t : Rows} (a : AgentRecord) (st : AgentState) (n d : ℕ) → AgentTimed k m a → Neat k m t (reported (PutAgent a) (state_report st n d))
neat_state a A.Null n d h = neat_quiet (PutAgent a) (Some (state_report A.Null n d)) h tt tt (λ g. refl)
neat_state a st n d h = neat_quiet (PutAgent a) (Some (state_report st n d)) h tt tt (λ g. refl)

pub agent_timed : (s : Rows) (k m : ℕ) (a : AgentRecord) → Timed k m s → agent_of s a.agent ≡ Some a → AgentTimed k m a
agent_timed s k m a h e = every_among (AgentTimed k m) s.agents a h.agents (agent_among s a.agent a e)

pub neat_agent : {k m : ℕ} {t : Rows} {x : Move} (s : Rows) → 1 ≤ k → Timed k m s → AgentMove (Recorded s) (turn_at m k) x → Neat k m t x
neat_agent s l h stays = neat_silent Nothing tt tt
neat_agent {k} {m} s l h (remains a name pending e) =
    let w = agent_timed s k m a h e in
    neat_silent (PutAgent (record a { name = name; pending = pending })) (record { above = w.above; stamp = w.stamp; since = w.since }) tt
neat_agent {k} {m} s l h (reports a b d e r) =
    let x : b.stamp ≡ k = r.stamp in let y : b.since ≡ m = r.since in
    neat_state b b.state b.agent d (record { above = omega (arith, x, l); stamp = omega (arith, x); since = omega (arith, y) })

pub steady_agent : {turn : Turn} {x : Move} (s : Rows) → AgentMove (Recorded s) turn x → Steady (knows s) x.change
steady_agent s stays = tt
steady_agent s (remains a name pending e) = ap is_some e
steady_agent s (reports a b d e r) = ap is_some (ap (agent_of s) r.agent ∙ e)

-- a connection ends
pub neat_remove : {k m : ℕ} {t : Rows} (c d : ℕ) (r : Report) → WaitsUpTo m (Some r) → ((g : ℕ) → entry_by g (Some r) ≡ 0)
    → Neat k m t (reported (RemoveConnection c d) r)
neat_remove {k} {m} {t} c d r w e = record { fit = tt; waits = w; entry = e; places = places_remove t c d }

-- one is put without a place
pub neat_put : {k m : ℕ} {t : Rows} (y : ConnectionRecord) (o : Option Report) → ConnectionTimed k m y → y.place ≡ None → WaitsUpTo m o
    → ((g : ℕ) → entry_by g o ≡ 0) → Neat k m t (record { change = PutConnection y; report = o })
neat_put {k} {m} {t} y o h f w e = record {
  fit = h;
  waits = w;
  entry = e;
  places = λ p. (let a = places_put t y p in let b : one (at_place p y) ≡ 0 = rw f refl in omega (arith, a, b));
}

pub timed_plain : (k m c d : ℕ) (st : ConnectionState) → ConnectionTimed k m (unqueued c d st)
timed_plain k m c d st = record { place = tt; queued = tt; offered = tt; order = tt }

-- or in another state, with its place
pub neat_turned : {k m : ℕ} (t : Rows) (x : ConnectionRecord) (st : ConnectionState) (r : Report) → Timed k m t → IsAscending connection_order t.connections
    → connection_of t x.call x.device ≡ Some x → WaitsUpTo m (Some r) → ((g : ℕ) → entry_by g (Some r) ≡ 0)
    → Neat k m t (reported (PutConnection (record x { state = st })) r)
unfolding with_connection
neat_turned {k} {m} t x st r h o ex w e =
    let v = connection_timed t k m x h ex in
    record {
      fit = record { place = v.place; queued = v.queued; offered = v.offered; order = v.order };
      waits = w;
      entry = e;
      places = λ p. (let c = count_old (at_place p) t (record x { state = st }) x o ex in omega (arith, c));
    }

comes_arrival : {s t : Rows} {k m c d : ℕ} {why : Cause} {x : Move} → 1 ≤ k → Arrival s (turn_at m k) c d why x → Comes k m t x
comes_arrival {s} {t} {k} {m} {c} {d} l (queues _) = record {
  fit = record { place = (l, omega arith); queued = omega arith; offered = tt; order = tt };
  waits = tt;
  places = places_put t (queueing c d (Some k) (Some m));
}
comes_arrival {s} {t} {k} {m} {c} {d} l alerts = record {
  fit = timed_plain k m c d S.Alerting;
  waits = tt;
  places = λ p. (let a = places_put t (unqueued c d S.Alerting) p in omega (arith, a));
}
comes_arrival {s} {t} {k} {m} {c} {d} l fails = record {
  fit = timed_plain k m c d S.Fail;
  waits = tt;
  places = λ p. (let a = places_put t (unqueued c d S.Fail) p in omega (arith, a));
}

pub comes_to : {t : Rows} (s : Rows) (k m c d : ℕ) (why : Cause) → 1 ≤ k → Comes k m t (arrive s (turn_at m k) c d why)
comes_to s k m c d why l = comes_arrival l (arrival_of s (turn_at m k) c d why)

pub steady_arrive : (s t : Rows) (turn : Turn) (c d : ℕ) (why : Cause) → Steady (knows t) (arrive s turn c d why).change
unfolding arrive
steady_arrive s t turn c d why = tt
