-- The events up to a state, recast: they report no entry of a call that neither waits in a group nor rings from it. All else they report as before.
use Rattle.std.proofs.Common.{◌≡◌, ℕ, ◌≤◌, Bool, true, false, ◌&&◌, cond, not, List, [], ◌∷◌, map, Option, None, inl, inr, refl, ap, sym, ◌∙◌, arith, eq-eqb}
use Rattle.std.specs.Prelude.{◌==◌, find}
use Rattle.std.specs.List.{list_any}
use Rattle.std.proofs.lemmas.Bool.{and_right, and_from, and_parts, eqb-true}
use Rattle.acd_terms.specs.Columns.{columns_of}
use Rattle.acd_terms.specs.Lists.{Among}
use Rattle.acd_terms.specs.declared.rows.Rows.{Rows}
use Rattle.acd_terms.specs.declared.record.ConnectionRecord.{ConnectionRecord}
use Rattle.acd_terms.specs.declared.state.ConnectionState.{ConnectionState}
use Rattle.acd_terms.specs.declared.event.Cause.{Cause}
use Rattle.acd_terms.specs.declared.event.Cause.TheVariants.{NoAnswer}
use Rattle.acd_terms.specs.declared.event.Columns.{Columns}
use Rattle.acd_terms.specs.declared.event.Event.{Event}
use Rattle.acd_terms.specs.declared.event.Report.{Report}
use Rattle.acd_terms.specs.declared.event.Report.TheVariants.{Queued}
use Rattle.acd_model.specs.Scans.{has}
use Rattle.acd_model.specs.Figures.{is_no_answer, is_entry}
use Rattle.acd_model.specs.EventReports.{known_after, connection_reported, Seat, no_seat, seat_reported, enters, last_entry}
use Rattle.acd_model.specs.Watcher.{waits_or_rings, HasPlace, HasEntered, IsWatched}
use Rattle.acd_laws.specs.WatchedLaws.{ReportsNoMore}
use Rattle.acd_lemmas.proofs.RuleFacts.{Rules, ConnectionRule}
use Rattle.acd_lemmas.proofs.Lists.{any_some, any_found, find_among, find_passes, every_among, some_from}
use Rattle.acd_laws.proofs.Watched.WatchedRuns.{place_in}

-- the call waits in the group, or rings from it
abbrev pub holds_call : ℕ → ℕ → ConnectionRecord → Bool
holds_call group call x = waits_or_rings group x && x.call == call

abbrev pub is_held : Rows → ℕ → ℕ → Bool
is_held s group call = list_any (holds_call group call) s.connections

abbrev pub recast_cause : Bool → Cause → Cause
recast_cause true cause = cause
recast_cause false cause = NoAnswer

abbrev pub recast : Rows → Report → Report
recast s (Queued call group cause) = Queued call group (recast_cause (is_held s group call) cause)
recast s r = r

abbrev pub recast_event : Rows → Event → Event
recast_event s e = record e { report = recast s e.report }

abbrev pub history : Rows → List Event → List Event
history s events = map (recast_event s) events

-- they report the same of connections and agents

same_connection : (s : Rows) (call device : ℕ) (v : Option ConnectionState) (r : Report) → connection_reported call device v (columns_of (recast s r)) ≡ connection_reported call device v (columns_of r)
same_connection s call device v (Queued c g cause) = refl
same_connection s call device v _ = refl

same_seat : (s : Rows) (agent : ℕ) (v : Seat) (r : Report) → seat_reported agent v (columns_of (recast s r)) ≡ seat_reported agent v (columns_of r)
same_seat s agent v (Queued c g cause) = refl
same_seat s agent v _ = refl

after_recast : {T : Type 0} (f : T → Columns → T) (s : Rows) → ((v : T) (r : Report) → f v (columns_of (recast s r)) ≡ f v (columns_of r)) → (x : T) (es : List Event) → known_after f x (history s es) ≡ known_after f x es
after_recast f s h x [] = refl
after_recast f s h x (e ∷ es) = after_recast f s h (f x (columns_of (recast s e.report))) es ∙ ap (λ v. known_after f v es) (h x e.report)

-- they report the entry of a call that is held as before, and no other

held_same : (s : Rows) (g c group call : ℕ) → group == g ≡ true → call == c ≡ true → is_held s group call ≡ is_held s g c
held_same s g c group call e f = ap (λ (n : ℕ). is_held s n call) (eqb-true group g e) ∙ ap (λ (n : ℕ). is_held s g n) (eqb-true call c f)

abbrev entry_of : ℕ → ℕ → Report → Bool
entry_of g c r = is_entry g r && has (columns_of r).call c

queued_held : (s : Rows) (g c call group : ℕ) (cause : Cause) → is_held s g c ≡ true → (x y : Bool) → group == g ≡ x → call == c ≡ y
    → ((x && not (is_no_answer (recast_cause (is_held s group call) cause))) && y) ≡ ((x && not (is_no_answer cause)) && y)
queued_held s g c call group cause h false y e f = refl
queued_held s g c call group cause h true false e f = and_right (true && not (is_no_answer (recast_cause (is_held s group call) cause))) false refl ∙ sym (and_right (true && not (is_no_answer cause)) false refl)
queued_held s g c call group cause h true true e f = ap (λ (b : Bool). (true && not (is_no_answer (recast_cause b cause))) && true) (held_same s g c group call e f ∙ h)

entry_held : (s : Rows) (g c : ℕ) (r : Report) → is_held s g c ≡ true → entry_of g c (recast s r) ≡ entry_of g c r
entry_held s g c (Queued call group cause) h = queued_held s g c call group cause h (group == g) (call == c) refl refl
entry_held s g c _ h = refl

queued_none : (s : Rows) (g c call group : ℕ) (cause : Cause) → is_held s g c ≡ false → (x y : Bool) → group == g ≡ x → call == c ≡ y
    → ((x && not (is_no_answer (recast_cause (is_held s group call) cause))) && y) ≡ false
queued_none s g c call group cause h false y e f = refl
queued_none s g c call group cause h true false e f = and_right (true && not (is_no_answer (recast_cause (is_held s group call) cause))) false refl
queued_none s g c call group cause h true true e f = ap (λ (b : Bool). (true && not (is_no_answer (recast_cause b cause))) && true) (held_same s g c group call e f ∙ h)

entry_none : (s : Rows) (g c : ℕ) (r : Report) → is_held s g c ≡ false → entry_of g c (recast s r) ≡ false
entry_none s g c (Queued call group cause) h = queued_none s g c call group cause h (group == g) (call == c) refl refl
entry_none s g c _ h = refl

last_held : (s : Rows) (g c : ℕ) → is_held s g c ≡ true → (k : ℕ) (es : List Event) → last_entry g c k (history s es) ≡ last_entry g c k es
last_held s g c h k [] = refl
last_held s g c h k (e ∷ es) =
    ap (λ (b : Bool). last_entry g c (cond b e.number k) (history s es)) (entry_held s g c e.report h) ∙ last_held s g c h (cond (enters g c e) e.number k) es

pub last_none : (s : Rows) (g c : ℕ) → is_held s g c ≡ false → (k : ℕ) (es : List Event) → last_entry g c k (history s es) ≡ k
last_none s g c h k [] = refl
last_none s g c h k (e ∷ es) = ap (λ (b : Bool). last_entry g c (cond b e.number k) (history s es)) (entry_none s g c e.report h) ∙ last_none s g c h k es

held_at : (s : Rows) (g c : ℕ) (x : ConnectionRecord) → Among x s.connections → waits_or_rings g x ≡ true → x.call ≡ c → is_held s g c ≡ true
held_at s g c x there held of = any_some (holds_call g c) s.connections x there (and_from (waits_or_rings g x) (x.call == c) held (eq-eqb x.call c of))

held_placed : (s : Rows) (g c p : ℕ) → HasPlace s g c p → is_held s g c ≡ true
held_placed s g c p h = held_at s g c h.connection h.there h.of_group h.of_call

-- so they report to a watcher what those events report

among_mapped : (f : Event → Event) (es : List Event) (e : Event) → Among e es → Among (f e) (map f es)
among_mapped f [] e a = absurd a
among_mapped f (x ∷ es) e (inl same) = inl (ap f same)
among_mapped f (x ∷ es) e (inr more) = inr (among_mapped f es e more)

entered_recast : (s : Rows) (events : List Event) (g c : ℕ) → is_held s g c ≡ true → HasEntered events g c → HasEntered (history s events) g c
entered_recast s events g c held h = record {
  entry = recast_event s h.entry;
  reported = among_mapped (recast_event s) events h.entry h.reported;
  is_entry = entry_held s g c h.entry.report held ∙ h.is_entry;
  last = h.last ∙ sym (last_held s g c held 0 events);
  numbered = h.numbered;
}

pub watched_recast : (s : Rows) (events : List Event) → IsWatched s events → IsWatched s (history s events)
watched_recast s events w = record {
  connections = λ call device e. w.connections call device e ∙ sym (after_recast (connection_reported call device) s (same_connection s call device) None events);
  agents = λ agent. w.agents agent ∙ sym (after_recast (seat_reported agent) s (same_seat s agent) no_seat events);
  entries = λ g x there held. entered_recast s events g x.call (held_at s g x.call x there held refl) (w.entries g x there held);
  queues = λ g c d p q a b.
      let order = w.queues g c d p q a b in
      let e = last_held s g c (held_placed s g c p a) 0 events in
      let f = last_held s g d (held_placed s g d q b) 0 events in
      (λ l. let o = order.0 l in omega (arith, o, e, f), λ l. order.1 (omega (arith, l, e, f)));
}

pub no_more_recast : (s : Rows) (events : List Event) → ReportsNoMore s events → ReportsNoMore s (history s events)
no_more_recast s events n = record {
  outside = λ call device e. after_recast (connection_reported call device) s (same_connection s call device) None events ∙ n.outside call device e;
  entries = λ g c. below g c (is_held s g c) refl;
  places = n.places;
}
  where
    below : (g c : ℕ) (b : Bool) → is_held s g c ≡ b → last_entry g c 0 (history s events) ≤ s.last_event
    below g c true h = let e = last_held s g c h 0 events in let u = n.entries g c in omega (arith, e, u)
    below g c false h = let e = last_none s g c h 0 events in omega (arith, e)

-- a call that is held has its place

pub held_place : (s : Rows) (g c : ℕ) → Rules s → is_held s g c ≡ true → (p : ℕ) × HasPlace s g c p
held_place s g c rules h =
    let found = some_from (find (holds_call g c) s.connections) (any_found (holds_call g c) s.connections h) in
    let x : ConnectionRecord = found.0 in
    let there = find_among (holds_call g c) s.connections x found.1 in
    let held = and_parts (waits_or_rings g x) (x.call == c) (find_passes (holds_call g c) s.connections x found.1) in
    let place = some_from x.place (place_in x g x.state (every_among (ConnectionRule s) s.connections x rules.connections there).0 held.0) in
    (place.0, record { connection = x; there = there; of_group = held.0; of_call = eqb-true x.call c held.1; at_place = place.1 })
