-- The writes of a commit are the content that it is to make.
use Rattle.std.proofs.Common.{◌≡◌, ℕ, ◌+◌, ◌<◌, ◌≤◌, List, [], ◌∷◌, ◌++◌, length, take, get_or, refl, sym, ap, subst, ◌∙◌, arith, append_assoc, append-nil}
use Rattle.std.proofs.lemmas.Bool.Decides.{nat_tests}
use Rattle.std.specs.Ordering.{nat_cmp}
use Rattle.std.specs.declared.cmp.Ordering.TheVariants.{Greater}
use Rattle.acd_terms.specs.Lists.{Every, put_by}
use Rattle.acd_terms.specs.declared.event.Event.{Event}
use Rattle.acd_terms.specs.declared.rows.Rows.{Rows}
use Rattle.acd_model.specs.Changes.{changed_by}
use Rattle.acd_model.specs.Moves.{changed}
use Rattle.acd_model.specs.Writes.{with_group, with_station, with_agent, with_call, with_connection, with_monitor, without_call, without_connection, without_monitor, with_last}
use Rattle.acd_model.specs.declared.moves.Change.{Change}
use Rattle.acd_model.specs.declared.moves.Change.TheVariants.{Nothing, PutGroup, PutStation, PutAgent, PutCall, PutConnection, PutMonitor, RemoveCall, RemoveConnection, RemoveMonitor}
use Rattle.acd_book.specs.Memory.{number_of_event}
use Rattle.acd_book.specs.Order.{Rises}
use Rattle.acd_book.proofs.EventsAbove.{events_raised}
use Rattle.acd_book.specs.Content.{Content, GoOn, Follows, committed, FollowsBy, committed_by, rows_by}
use Rattle.acd_book.specs.declared.kept.Kept.{Kept}
use Rattle.acd_sql_columns.specs.declared.meta.Meta.{Meta}
use Rattle.acd_sql_columns.specs.Relations.{meta_of}
use Rattle.acd_sqlbook.specs.Commit.{with_meta, applied, all_applied, content_with_event, with_events, with_kept, made_by, written_by, top_call, top_monitor, last_call, last_monitor, meta_after}
use Rattle.acd_sqlbook.proofs.WritesInTurn.{next}
use Rattle.acd_lemmas.proofs.Changes.{limits-changed_by}

-- ---- the counters are apart

abbrev at : Rows → ℕ → ℕ → Rows
at s a b = record s { last_call = a; last_monitor = b }

change_apart : (s : Rows) (a b : ℕ) (change : Change) → at (changed (at s a b) change) a b ≡ at (changed s change) a b
unfolding with_group with_station with_agent with_call with_connection with_monitor without_call without_connection without_monitor
change_apart s a b Nothing = refl
change_apart s a b (PutGroup r) = refl
change_apart s a b (PutStation r) = refl
change_apart s a b (PutAgent r) = refl
change_apart s a b (PutCall r) = refl
change_apart s a b (PutConnection r) = refl
change_apart s a b (PutMonitor r) = refl
change_apart s a b (RemoveCall call) = refl
change_apart s a b (RemoveConnection call device) = refl
change_apart s a b (RemoveMonitor monitor) = refl

same_tables : (s t : Rows) (a b : ℕ) (changes : List Change) → at s a b ≡ at t a b → at (changed_by s changes) a b ≡ at (changed_by t changes) a b
same_tables s t a b [] e = e
same_tables s t a b (change ∷ changes) e =
    same_tables (changed s change) (changed t change) a b changes
    (sym (change_apart s a b change) ∙ ap (λ r. at (changed r change) a b) e ∙ change_apart t a b change)

applied_is : (c : Content) (changes : List Change) → all_applied c changes ≡ record c {
  rows = at (changed_by c.rows changes) c.rows.last_call c.rows.last_monitor;
}
applied_is c [] = refl
applied_is c (change ∷ changes) =
    applied_is (applied c change) changes
    ∙ ap (λ r. record c { rows = r })
    (same_tables (at (changed c.rows change) c.rows.last_call c.rows.last_monitor) (changed c.rows change) c.rows.last_call c.rows.last_monitor changes refl)

-- ---- a record above all others is last

module _ {R : Type 0} (key : R → ℕ) where
  above : (m n : ℕ) → m < n → nat_cmp n m ≡ Greater
  above m n h = grind (arith, nat_tests)

  put_last : (new : R) (rs : List R) → Every (λ r. key r < key new) rs → put_by (λ r. nat_cmp (key new) (key r)) rs new ≡ rs ++ new ∷ []
  put_last new [] h = refl
  put_last new (r ∷ rs) h = rw (above (key r) (key new) h.0) (ap (λ l. r ∷ l) (put_last new rs h.1))

every_push : (P : Event → Type 0) (es : List Event) (e : Event) → Every P es → P e → Every P (es ++ e ∷ [])
every_push P [] e h p = (p, tt)
every_push P (x ∷ es) e h p = (h.0, every_push P es e h.1 p)

every_less : {R : Type 0} (key : R → ℕ) (last next : ℕ) (rs : List R) → last < next → Every (λ r. key r ≤ last) rs → Every (λ r. key r < next) rs
every_less key last next [] low h = tt
every_less key last next (r ∷ rs) low h = (let k = h.0 in omega arith, every_less key last next rs low h.1)

every_more : (last : ℕ) (es : List Event) → Every (λ (x : Event). x.number ≤ last) es → Every (λ (x : Event). x.number ≤ last + 1) es
every_more last [] h = tt
every_more last (x ∷ es) h = (let k = h.0 in omega arith, every_more last es h.1)

events_are : (last : ℕ) (c : Content) (es : List Event) → GoOn last es → Every (λ (x : Event). x.number ≤ last) c.events
    → with_events c es ≡ record c { events = c.events ++ es }
events_are last c [] go low = ap (λ l. record c { events = l }) (sym (append-nil c.events))
events_are last c (e ∷ es) go low =
    let put = put_last (λ (x : Event). x.number) e c.events (every_less (λ (x : Event). x.number) last e.number c.events (let k = go.0 in omega arith) low) in
    let next : Every (λ (x : Event). x.number ≤ last + 1) (content_with_event c e).events =
    subst (Every (λ (x : Event). x.number ≤ last + 1)) (sym put)
    (every_push (λ (x : Event). x.number ≤ last + 1) c.events e (every_more last c.events low) (let k = go.0 in omega arith)) in
    events_are (last + 1) (content_with_event c e) es go.1 next
    ∙ ap (λ l. record c { events = l }) (ap (λ l. l ++ es) put ∙ append_assoc c.events (e ∷ []) es)

kept_is : (c : Content) (k : Kept) (last : ℕ) → last < k.stamp → Every (λ (x : Kept). x.stamp ≤ last) c.kept
    → with_kept c k ≡ record c { kept = c.kept ++ k ∷ [] }
kept_is c k last low h =
    ap (λ l. record c { kept = l }) (put_last (λ (x : Kept). x.stamp) k c.kept (every_less (λ (x : Kept). x.stamp) last k.stamp c.kept low h))

-- events whose numbers rise
rises_are : (last : ℕ) (c : Content) (es : List Event) → Rises number_of_event last es → Every (λ (x : Event). x.number ≤ last) c.events
    → with_events c es ≡ record c { events = c.events ++ es }
rises_are last c [] up low = ap (λ l. record c { events = l }) (sym (append-nil c.events))
rises_are last c (e ∷ es) up low =
    let put = put_last (λ (x : Event). x.number) e c.events (every_less (λ (x : Event). x.number) last e.number c.events up.0 low) in
    let next : Every (λ (x : Event). x.number ≤ e.number) (content_with_event c e).events =
    subst (Every (λ (x : Event). x.number ≤ e.number)) (sym put)
    (every_push (λ (x : Event). x.number ≤ e.number) c.events e (events_raised last e.number c.events (let k = up.0 in omega arith) low) (omega arith)) in
    rises_are e.number (content_with_event c e) es up.1 next
    ∙ ap (λ l. record c { events = l }) (ap (λ l. l ++ es) put ∙ append_assoc c.events (e ∷ []) es)

-- a commit of such events puts them after the others
pub written_events : (changes : List Change) (events : List Event) (kept : Kept) (c : Content) (last : ℕ) → Rises number_of_event last events
    → Every (λ (x : Event). x.number ≤ last) c.events
    → (written_by changes events kept c).events ≡ c.events ++ events
written_events changes events kept c last up low =
    let tables = at (changed_by c.rows changes) c.rows.last_call c.rows.last_monitor in
    let d : Content = record c { rows = tables } in
    ap (λ (x : Content). (with_events x events).events) (applied_is c changes) ∙ ap (λ (x : Content). x.events) (rises_are last d events up low)

-- the writes add the events and the kept record after the others, and make the changes
written_are : (changes : List Change) (events : List Event) (kept : Kept) (m : Meta) (rows : Rows) (c : Content) → Follows rows events kept c
    → made_by changes events kept m c
    ≡ with_meta m (record {
      rows = at (changed_by c.rows changes) c.rows.last_call c.rows.last_monitor;
      events = c.events ++ events;
      kept = c.kept ++ kept ∷ [];
    })
written_are changes events kept m rows c follows =
    let tables = at (changed_by c.rows changes) c.rows.last_call c.rows.last_monitor in
    let d : Content = record c { rows = tables } in
    let e : Content = record d { events = c.events ++ events } in
    let stamp = follows.next in
    ap (λ (x : Content). with_meta m (with_kept (with_events x events) kept)) (applied_is c changes)
    ∙ ap (λ (x : Content). with_meta m (with_kept x kept)) (events_are c.rows.last_event d events follows.numbers follows.counted.events)
    ∙ ap (λ (x : Content). with_meta m x) (kept_is e kept c.rows.last_stamp (omega arith) follows.counted.kept)

-- with the counters of what is to be made, the writes make it
made_is : (changes : List Change) (events : List Event) (kept : Kept) (c : Content) → FollowsBy changes events kept c
    → made_by changes events kept (meta_of (rows_by changes events kept c)) c ≡ committed_by changes events kept c
unfolding with_last
made_is changes events kept c follows = written_are changes events kept (meta_of (rows_by changes events kept c)) (rows_by changes events kept c) c follows

-- changes that lead to the tables of rows make the rows, with their counters
pub rows_made : (changes : List Change) (events : List Event) (kept : Kept) (rows : Rows) (c : Content) → Follows rows events kept c
    → (changed_by c.rows changes).groups ≡ rows.groups → (changed_by c.rows changes).stations ≡ rows.stations → (changed_by c.rows changes).agents ≡ rows.agents
    → (changed_by c.rows changes).calls ≡ rows.calls → (changed_by c.rows changes).connections ≡ rows.connections
    → (changed_by c.rows changes).monitors ≡ rows.monitors
    → made_by changes events kept (meta_of rows) c ≡ committed rows events kept c
rows_made changes events kept rows c follows groups stations agents calls connections monitors =
    written_are changes events kept (meta_of rows) rows c follows ∙ rw (groups, stations, agents, calls, connections, monitors) refl

-- ---- the counters of what is to be made

call_after : (s : Rows) (change : Change) → (changed s change).last_call ≡ top_call s.last_call change
unfolding with_group with_station with_agent with_call with_connection with_monitor without_call without_connection without_monitor
call_after s Nothing = refl
call_after s (PutGroup r) = refl
call_after s (PutStation r) = refl
call_after s (PutAgent r) = refl
call_after s (PutCall r) = refl
call_after s (PutConnection r) = refl
call_after s (PutMonitor r) = refl
call_after s (RemoveCall call) = refl
call_after s (RemoveConnection call device) = refl
call_after s (RemoveMonitor monitor) = refl

monitor_after : (s : Rows) (change : Change) → (changed s change).last_monitor ≡ top_monitor s.last_monitor change
unfolding with_group with_station with_agent with_call with_connection with_monitor without_call without_connection without_monitor
monitor_after s Nothing = refl
monitor_after s (PutGroup r) = refl
monitor_after s (PutStation r) = refl
monitor_after s (PutAgent r) = refl
monitor_after s (PutCall r) = refl
monitor_after s (PutConnection r) = refl
monitor_after s (PutMonitor r) = refl
monitor_after s (RemoveCall call) = refl
monitor_after s (RemoveConnection call device) = refl
monitor_after s (RemoveMonitor monitor) = refl

calls_after : (s : Rows) (changes : List Change) → (changed_by s changes).last_call ≡ last_call s.last_call changes
calls_after s [] = refl
calls_after s (change ∷ changes) = calls_after (changed s change) changes ∙ ap (λ n. last_call n changes) (call_after s change)

monitors_after : (s : Rows) (changes : List Change) → (changed_by s changes).last_monitor ≡ last_monitor s.last_monitor changes
monitors_after s [] = refl
monitors_after s (change ∷ changes) = monitors_after (changed s change) changes ∙ ap (λ n. last_monitor n changes) (monitor_after s change)

pub counts_are : (changes : List Change) (events : List Event) (kept : Kept) (c : Content)
    → meta_of (rows_by changes events kept c) ≡ meta_after (meta_of c.rows) changes (length events) kept
unfolding with_last
counts_are changes events kept c = rw (limits-changed_by c.rows changes, calls_after c.rows changes, monitors_after c.rows changes) refl

-- a commit that writes these counters makes what is to be made
pub commit_is : (changes : List Change) (events : List Event) (kept : Kept) (m : Meta) (c : Content) → m ≡ meta_of c.rows → FollowsBy changes events kept c
    → made_by changes events kept (meta_after m changes (length events) kept) c ≡ committed_by changes events kept c
commit_is changes events kept m c is follows =
    ap (λ k. made_by changes events kept (meta_after k changes (length events) kept) c) is
    ∙ ap (λ k. made_by changes events kept k c) (sym (counts_are changes events kept c))
    ∙ made_is changes events kept c follows

pub call_next : (n : ℕ) (i : ℕ) (changes : List Change) (x d : Change) → x ≡ get_or changes i d → i < length changes
    → last_call n (take (i + 1) changes) ≡ top_call (last_call n (take i changes)) x
call_next = next last_call top_call (λ n. refl) (λ n x xs. refl)

pub monitor_next : (n : ℕ) (i : ℕ) (changes : List Change) (x d : Change) → x ≡ get_or changes i d → i < length changes
    → last_monitor n (take (i + 1) changes) ≡ top_monitor (last_monitor n (take i changes)) x
monitor_next = next last_monitor top_monitor (λ n. refl) (λ n x xs. refl)
