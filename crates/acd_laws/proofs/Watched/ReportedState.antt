-- What the events report of a state, as moves keep it: the report of a move says just what it changes, at every device.
use Rattle.std.specs.Prelude.{if◌then◌else◌, ◌==◌, option_map}
use Rattle.acd_lemmas.proofs.Words.{Rows, GroupRecord, StationRecord, AgentRecord, ConnectionRecord, ConnectionState, Change, Columns, Event, Move, Report, IsAscending, group_of, station_of, agent_of, connection_of, is_group, is_station, is_planned, has, with_group, with_station, with_connection, without_connection, silent, reported, changed, moved, with_event, events_of, connection_order}
use Rattle.acd_model.specs.EventReports.{known_after, connection_reported, Seat, no_seat, seat_reported, last_entry, names, state_by, seat_by}
use Rattle.acd_model.specs.Watcher.{state_at, seat_of, HasPlace, InOrder}
use Rattle.std.proofs.Common.{◌≡◌, ℕ, ◌≤◌, ◌<◌, ◌+◌, Bool, true, false, ◌&&◌, ◌||◌, cond, List, [], ◌∷◌, ◌++◌, Option, Some, None, refl, sym, ◌∙◌, ap}
use Rattle.std.proofs.lemmas.Bool.{and_right, eqb-true}
use Rattle.acd_terms.specs.Columns.{columns_of}
use Rattle.acd_terms.specs.declared.event.Report.TheVariants.{CallCleared}
use Rattle.acd_model.specs.Step.{numbered}
use Rattle.acd_model.specs.declared.moves.Change.TheVariants.{PutGroup, PutStation, PutAgent, PutConnection, RemoveCall, RemoveConnection}
use Rattle.acd_laws.proofs.MoveKinds.{LeavesConnections, left_connection, LeavesAgents, left_agent, LeavesPlan, left_plan}
use Rattle.acd_lemmas.proofs.State.{is_of, is_of_true, at_put, at_remove, agent_put, group_put, station_put, group_kept}

-- the connection's state at a planned device: of any other device nothing is reported
abbrev pub shown : Rows → ℕ → ℕ → Option ConnectionState
shown s call device = if is_planned s device then state_at s call device else None

-- the agent's state and station
abbrev pub seat : Rows → ℕ → Seat
seat s agent = seat_of (agent_of s agent)

-- each call that waits or rings at a place has an entry, whose number is above 0
abbrev pub HasEntries : Rows → List Event → Type 0
HasEntries s events = (group call place : ℕ) → HasPlace s group call place → 0 < last_entry group call 0 events

-- no entry has a number above the last event's, and none that waits or rings a place above the last stamp
pub record UpTo (stamp event : ℕ) (s : Rows) (events : List Event) : Type 0 where
  pub entries : (group call : ℕ) → last_entry group call 0 events ≤ event
  pub places : (group call place : ℕ) → HasPlace s group call place → place ≤ stamp

-- the events report what the state holds
pub record Reports (s : Rows) (events : List Event) : Type 0 where
  pub connections : (call device : ℕ) → shown s call device ≡ known_after (connection_reported call device) None events
  pub agents : (agent : ℕ) → seat s agent ≡ known_after (seat_reported agent) no_seat events
  pub entries : HasEntries s events
  pub queues : InOrder s events
  pub up_to : UpTo s.last_stamp s.last_event s events

-- what is known after a report, if there is one
abbrev pub heard : {T : Type 0} → (T → Columns → T) → T → Option Report → T
heard f x None = x
heard f x (Some r) = f x (columns_of r)

-- the report of a move says just what it changes
pub record Truthful (s : Rows) (m : Move) : Type 0 where
  pub connections : (call device : ℕ) → shown (changed s m.change) call device ≡ heard (connection_reported call device) (shown s call device) m.report
  pub agents : (agent : ℕ) → seat (changed s m.change) agent ≡ heard (seat_reported agent) (seat s agent) m.report

abbrev pub AllTruthful : Rows → List Move → Type 0
AllTruthful s [] = Unit {0}
AllTruthful s (m ∷ ms) = Truthful s m × AllTruthful (changed s m.change) ms

pub truthful-append : (s : Rows) (ms ns : List Move) → AllTruthful s ms → AllTruthful (moved s ms) ns → AllTruthful s (ms ++ ns)
truthful-append s [] ns h g = g
truthful-append s (m ∷ ms) ns h g = (h.0, truthful-append (changed s m.change) ms ns h.1 g)

pub after-append : {T : Type 0} (f : T → Columns → T) (x : T) (es fs : List Event) → known_after f x (es ++ fs) ≡ known_after f (known_after f x es) fs
after-append f x [] fs = refl
after-append f x (e ∷ es) fs = after-append f (f x (columns_of e.report)) es fs

pub after-numbered : {T : Type 0} (f : T → Columns → T) (x : T) (n : ℕ) (es : List Event) → known_after f x (numbered n es) ≡ known_after f x es
after-numbered f x n [] = refl
after-numbered f x n (e ∷ es) = after-numbered f (f x (columns_of e.report)) (n + 1) es

after_event : {T : Type 0} (f : T → Columns → T) (x : T) (m : ℕ) (o : Option Report) (es : List Event)
    → known_after f x (with_event m o es) ≡ known_after f (heard f x o) es
after_event f x m None es = refl
after_event f x m (Some r) es = refl

pub shown_after : (s : Rows) (m : ℕ) (ms : List Move) → AllTruthful s ms → (c d : ℕ)
    → shown (moved s ms) c d ≡ known_after (connection_reported c d) (shown s c d) (events_of m ms)
shown_after s m [] h c d = refl
shown_after s m (x ∷ ms) h c d =
    shown_after (changed s x.change) m ms h.1 c d ∙ ap (λ v. known_after (connection_reported c d) v (events_of m ms)) (h.0.connections c d)
    ∙ sym (after_event (connection_reported c d) (shown s c d) m x.report (events_of m ms))

pub seat_after : (s : Rows) (m : ℕ) (ms : List Move) → AllTruthful s ms → (n : ℕ)
    → seat (moved s ms) n ≡ known_after (seat_reported n) (seat s n) (events_of m ms)
seat_after s m [] h n = refl
seat_after s m (x ∷ ms) h n =
    seat_after (changed s x.change) m ms h.1 n ∙ ap (λ v. known_after (seat_reported n) v (events_of m ms)) (h.0.agents n)
    ∙ sym (after_event (seat_reported n) (seat s n) m x.report (events_of m ms))

-- moves of connections

abbrev state_of : Option ConnectionRecord → Option ConnectionState
state_of o = option_map (λ (x : ConnectionRecord). x.state) o

left_seat : (s : Rows) (c : Change) (n : ℕ) → LeavesAgents c → seat (changed s c) n ≡ seat s n
left_seat s c n h = ap seat_of (left_agent s c n h)

left_shown : (s : Rows) (c : Change) (a d : ℕ) → LeavesPlan c → LeavesConnections c → shown (changed s c) a d ≡ shown s a d
left_shown s c a d h g =
    ap (λ b. cond b (state_at (changed s c) a d) None) (left_plan s c d h) ∙ ap (λ o. cond (is_planned s d) (state_of o) None) (left_connection s c a d g)

both_none : (b : Bool) → cond {A = Option ConnectionState} b None None ≡ None
both_none true = refl
both_none false = refl

named_as : (r : Report) (a b c d : ℕ) → (columns_of r).call ≡ Some a → (columns_of r).device ≡ Some b → names c d (columns_of r) ≡ (a == c && b == d)
named_as r a b c d e f = rw (e, f) refl

shown_put : (s : Rows) (x : ConnectionRecord) (c d : ℕ)
    → shown (with_connection s x) c d ≡ cond (is_planned s d) (state_of (cond (is_of c d x) (Some x) (connection_of s c d))) None
unfolding with_connection group_of station_of
shown_put s x c d = ap (λ v. cond (is_planned s d) (state_of v) None) (at_put s x c d)

seat_unreported : (s : Rows) (r : Report) (n : ℕ) → (columns_of r).agent ≡ None → seat s n ≡ seat_reported n (seat s n) (columns_of r)
seat_unreported s r n e = rw e refl

-- a connection is put with a report of its state
pub truthful_put : (s : Rows) (x : ConnectionRecord) (r : Report) → (columns_of r).call ≡ Some x.call → (columns_of r).device ≡ Some x.device
    → (columns_of r).agent ≡ None
    → state_by (columns_of r).kind ≡ Some x.state → is_planned s x.device ≡ true → Truthful s (reported (PutConnection x) r)
truthful_put s x r e f a k p = record {
  connections = λ c d. shown_put s x c d ∙
      (elim (is_of c d x) as (λ b. is_of c d x ≡ b
      → cond (is_planned s d) (state_of (cond b (Some x) (connection_of s c d))) None ≡ cond b (state_by (columns_of r).kind) (shown s c d)) [
        | true ↦ λ q. rw (← (is_of_true c d x q).1, p) (sym k)
        | false ↦ λ q. refl
      ]) refl
      ∙ ap (λ b. cond b (state_by (columns_of r).kind) (shown s c d)) (sym (named_as r x.call x.device c d e f));
  agents = λ n. left_seat s (PutConnection x) n tt ∙ seat_unreported s r n a;
}

-- one that is outside the plan, with none
pub truthful_outside : (s : Rows) (x : ConnectionRecord) → is_planned s x.device ≡ false → Truthful s (silent (PutConnection x))
truthful_outside s x p = record {
  connections = λ c d. shown_put s x c d ∙
      (elim (is_of c d x) as (λ b. is_of c d x ≡ b → cond (is_planned s d) (state_of (cond b (Some x) (connection_of s c d))) None ≡ shown s c d) [
        | true ↦ λ q. rw (← (is_of_true c d x q).1, p) refl
        | false ↦ λ q. refl
      ]) refl;
  agents = λ n. left_seat s (PutConnection x) n tt;
}

shown_remove : (s : Rows) (a b c d : ℕ) → IsAscending connection_order s.connections
    → shown (without_connection s a b) c d ≡ cond (is_planned s d) (state_of (cond (a == c && b == d) None (connection_of s c d))) None
unfolding without_connection group_of station_of
shown_remove s a b c d h = ap (λ v. cond (is_planned s d) (state_of v) None) (at_remove s a b c d h)

-- a connection ends
pub truthful_remove : (s : Rows) (a b : ℕ) (r : Report) → IsAscending connection_order s.connections → (columns_of r).call ≡ Some a
    → (columns_of r).device ≡ Some b → (columns_of r).agent ≡ None
    → state_by (columns_of r).kind ≡ None → Truthful s (reported (RemoveConnection a b) r)
truthful_remove s a b r h e f n k = record {
  connections = λ c d. shown_remove s a b c d h ∙
      (elim (a == c && b == d) as (λ v. cond (is_planned s d) (state_of (cond v None (connection_of s c d))) None
      ≡ cond v (state_by (columns_of r).kind) (shown s c d)) [
        | true ↦ both_none (is_planned s d) ∙ sym k
        | false ↦ refl
      ])
      ∙ ap (λ v. cond v (state_by (columns_of r).kind) (shown s c d)) (sym (named_as r a b c d e f));
  agents = λ m. left_seat s (RemoveConnection a b) m tt ∙ seat_unreported s r m n;
}

-- nobody sees a change that leaves the plan, the connections and the agents
pub truthful_unseen : (s : Rows) (c : Change) → LeavesPlan c → LeavesConnections c → LeavesAgents c → Truthful s (silent c)
truthful_unseen s c h g k = record { connections = λ a d. left_shown s c a d h g; agents = λ n. left_seat s c n k }

pub truthful_end : (s : Rows) (call : ℕ) (g : Option ℕ) → Truthful s (reported (RemoveCall call) (CallCleared call g))
truthful_end s call g = record {
  connections =
      λ c d. left_shown s (RemoveCall call) c d tt tt
      ∙ ap (λ b. cond b (state_by (columns_of (CallCleared call g)).kind) (shown s c d)) (sym (and_right (call == c) false refl));
  agents = λ n. left_seat s (RemoveCall call) n tt;
}

-- a device is planned at which there is nothing

shown_group : (s : Rows) (g : GroupRecord) (c d : ℕ) → shown (with_group s g) c d ≡ cond (is_group (with_group s g) d || is_station s d) (state_at s c d) None
unfolding with_group station_of connection_of
shown_group s g c d = refl

pub truthful_group : (s : Rows) (g : GroupRecord) → ((call : ℕ) → connection_of s call g.device ≡ None) → Truthful s (silent (PutGroup g))
truthful_group s g h = record {
  connections = λ c d. shown_group s g c d ∙ ap (λ v. cond (v || is_station s d) (state_at s c d) None) (group_put s g d) ∙
      (elim (g.device == d) as (λ b. (g.device == d) ≡ b → cond ((b || is_group s d) || is_station s d) (state_at s c d) None ≡ shown s c d) [
        | true ↦ λ q. rw (← eqb-true g.device d q, h c) (sym (both_none (is_planned s g.device)))
        | false ↦ λ q. refl
      ]) refl;
  agents = λ n. left_seat s (PutGroup g) n tt;
}

pub truthful_put_group : (s : Rows) (g : GroupRecord) → is_group s g.device ≡ true → Truthful s (silent (PutGroup g))
truthful_put_group s g planned = record {
  connections = λ c d. shown_group s g c d ∙ ap (λ v. cond (v || is_station s d) (state_at s c d) None) (group_kept s g planned d);
  agents = λ n. left_seat s (PutGroup g) n tt;
}

shown_station : (s : Rows) (t : StationRecord) (c d : ℕ)
    → shown (with_station s t) c d ≡ cond (is_group s d || is_station (with_station s t) d) (state_at s c d) None
unfolding with_station group_of connection_of
shown_station s t c d = refl

pub truthful_station : (s : Rows) (t : StationRecord) → ((call : ℕ) → connection_of s call t.device ≡ None) → Truthful s (silent (PutStation t))
truthful_station s t h = record {
  connections = λ c d. shown_station s t c d ∙ ap (λ v. cond (is_group s d || v) (state_at s c d) None) (station_put s t d) ∙
      (elim (t.device == d) as (λ b. (t.device == d) ≡ b → cond (is_group s d || (b || is_station s d)) (state_at s c d) None ≡ shown s c d) [
        | true ↦ λ q. rw (← eqb-true t.device d q, h c) (both_none (is_group s t.device || true) ∙ sym (both_none (is_planned s t.device)))
        | false ↦ λ q. refl
      ]) refl;
  agents = λ n. left_seat s (PutStation t) n tt;
}

-- moves of agents

shown_unreported : (s : Rows) (r : Report) (c d : ℕ) → (columns_of r).call ≡ None → shown s c d ≡ connection_reported c d (shown s c d) (columns_of r)
shown_unreported s r c d e = rw e refl

-- an agent's record is put, with a report of what is seen of it
pub truthful_agent : (s : Rows) (a : AgentRecord) (r : Report) → (columns_of r).agent ≡ Some a.agent → (columns_of r).call ≡ None
    → seat_of (Some a) ≡ seat_by (columns_of r).kind (columns_of r).device (seat s a.agent) → Truthful s (reported (PutAgent a) r)
truthful_agent s a r e f q = record {
  connections = λ c d. left_shown s (PutAgent a) c d tt tt ∙ shown_unreported s r c d f;
  agents = λ n. ap seat_of (agent_put s a n) ∙
      (elim (a.agent == n) as (λ b. (a.agent == n) ≡ b
      → seat_of (cond b (Some a) (agent_of s n)) ≡ cond b (seat_by (columns_of r).kind (columns_of r).device (seat s n)) (seat s n)) [
        | true ↦ λ w. rw (← eqb-true a.agent n w) q
        | false ↦ λ w. refl
      ]) refl
      ∙ ap (λ o. cond (has o n) (seat_by (columns_of r).kind (columns_of r).device (seat s n)) (seat s n)) (sym e);
}

-- or with none, where nothing is seen of the change
pub truthful_silent_agent : (s : Rows) (a : AgentRecord) → seat_of (Some a) ≡ seat s a.agent → Truthful s (silent (PutAgent a))
truthful_silent_agent s a q = record {
  connections = λ c d. left_shown s (PutAgent a) c d tt tt;
  agents = λ n. ap seat_of (agent_put s a n) ∙
      (elim (a.agent == n) as (λ b. (a.agent == n) ≡ b → seat_of (cond b (Some a) (agent_of s n)) ≡ seat s n) [
        | true ↦ λ w. rw (← eqb-true a.agent n w) q
        | false ↦ λ w. refl
      ]) refl;
}
