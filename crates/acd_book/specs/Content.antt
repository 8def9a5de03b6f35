-- A book's content, the answers that it reads there, and the content that a commit makes of it.
use Rattle.std.specs.Prelude.{◌≡◌, ◌⊎◌, ℕ, ◌+◌, ◌-◌, ◌^◌, ◌<◌, ◌≤◌, Bool, true, ◌&&◌, ◌==◌, nat_lt, List, [], ◌∷◌, ◌++◌, length, take, filter, find, max, Option, Some, None}
use Rattle.std.specs.Str.{bytes_eq}
use Rattle.acd_terms.specs.Lists.{Every, Among}
use Rattle.acd_terms.specs.Columns.{columns_of}
use Rattle.acd_terms.specs.Rows.{empty_rows}
use Rattle.acd_terms.specs.declared.rows.Limits.{Limits}
use Rattle.acd_terms.specs.declared.rows.Rows.{Rows}
use Rattle.acd_terms.specs.declared.record.MonitorRecord.{MonitorRecord}
use Rattle.acd_terms.specs.declared.event.Event.{Event}
use Rattle.acd_terms.specs.declared.command.Request.{Request}
use Rattle.acd_model.specs.Scans.{monitor_of, has}
use Rattle.acd_model.specs.Changes.{rows_made}
use Rattle.acd_model.specs.Rules.Plan.{keeps_order}
use Rattle.acd_model.specs.declared.moves.Change.{Change}
use Rattle.acd_book.specs.declared.kept.Kept.{Kept}

-- the rows are the limits and the tables
pub record Content : Type 0 where
  pub rows : Rows
  pub events : List Event
  pub kept : List Kept

-- a new book
abbrev pub empty_content : Limits → Content
empty_content limits = record { rows = empty_rows limits; events = []; kept = [] }

-- the request has this key
abbrev pub is_key : List ℕ → ℕ → Request → Bool
is_key requester invoke r = bytes_eq r.requester requester && (r.invoke == invoke)

-- the record that is kept under a key
abbrev pub kept_of : List Kept → List ℕ → ℕ → Option Kept
kept_of kept requester invoke = find (λ (k : Kept). is_key requester invoke k.request) kept

-- the kept record of the least greater stamp, or none where no stamp is greater
abbrev pub IsKeptAfter : List Kept → ℕ → Option Kept → Type 0
IsKeptAfter kept stamp None = Every (λ (other : Kept). other.stamp ≤ stamp) kept
IsKeptAfter kept stamp (Some k) = Among k kept × (stamp < k.stamp) × Every (λ (other : Kept). stamp < other.stamp → k.stamp ≤ other.stamp) kept

-- the first kept records above a stamp
abbrev pub records_after : List Kept → ℕ → ℕ → List Kept
records_after kept stamp limit = take limit (filter (λ (k : Kept). nat_lt stamp k.stamp) kept)

-- the event is at the device, where one is named
abbrev pub is_at : Option ℕ → Event → Bool
is_at None e = true
is_at (Some device) e = has (columns_of e.report).device device

-- and above the number
abbrev pub is_at_after : Option ℕ → ℕ → Event → Bool
is_at_after device number e = is_at device e && nat_lt number e.number

-- the first events above a number
abbrev pub events_after : List Event → ℕ → ℕ → List Event
events_after events number limit = take limit (filter (λ (e : Event). nat_lt number e.number) events)

-- the first of these events at a device above a number
abbrev pub device_page : ℕ → ℕ → ℕ → List Event → List Event
device_page device number limit events = take limit (filter (is_at_after (Some device) number) events)

-- the first events at its device above a number and above the last one before the monitor was started
abbrev pub watched_by : Option MonitorRecord → List Event → ℕ → ℕ → List Event
watched_by None events number limit = []
watched_by (Some w) events number limit = device_page w.device (max number w.after_event) limit events

-- none where the monitor isn't running
abbrev pub events_of_monitor : Content → ℕ → ℕ → ℕ → List Event
events_of_monitor c monitor number limit = watched_by (monitor_of c.rows monitor) c.events number limit

-- the tables replaced, and the events and the kept record added
abbrev pub committed : Rows → List Event → Kept → Content → Content
committed rows events kept c = record { rows = rows; events = c.events ++ events; kept = c.kept ++ kept ∷ [] }

-- events numbered on from a number
abbrev pub GoOn : ℕ → List Event → Type 0
GoOn last [] = Unit {0}
GoOn last (e ∷ es) = (e.number ≡ last + 1) × GoOn (last + 1) es

-- no event and no kept record is above the counters, so that new ones are added at the end
pub record IsCounted (c : Content) : Type 0 where
  pub events : Every (λ (e : Event). e.number ≤ c.rows.last_event) c.events
  pub kept : Every (λ (k : Kept). k.stamp ≤ c.rows.last_stamp) c.kept

-- the conditions of a commit: it continues from the counters, the key is new, and the lists are in order
pub record Follows (rows : Rows) (events : List Event) (kept : Kept) (c : Content) : Type 0 where
  pub limits : rows.limits ≡ c.rows.limits
  pub next : kept.stamp ≡ c.rows.last_stamp + 1
  pub stamp : rows.last_stamp ≡ kept.stamp
  pub numbers : GoOn c.rows.last_event events
  pub event : rows.last_event ≡ c.rows.last_event + length events
  pub ordered : keeps_order rows ≡ true
  pub unkept : kept_of c.kept kept.request.requester kept.request.invoke ≡ None
  pub counted : IsCounted c

-- the tables that changes make of a content's, with the counters that the kept record and the events give
abbrev pub rows_by : List Change → List Event → Kept → Content → Rows
rows_by changes events kept c = rows_made c.rows changes kept.stamp kept.moment (length events)

-- the conditions of a commit of changes, and what it makes: those of a commit of the tables that they make
abbrev pub FollowsBy : List Change → List Event → Kept → Content → Type 0
FollowsBy changes events kept c = Follows (rows_by changes events kept c) events kept c

abbrev pub committed_by : List Change → List Event → Kept → Content → Content
committed_by changes events kept c = committed (rows_by changes events kept c) events kept c

-- ---- of a content, what a book is asked

-- the record that is kept under a key
abbrev pub kept_under : List ℕ → ℕ → Content → Option Kept
kept_under requester invoke c = kept_of c.kept requester invoke

-- this is the kept record of the least greater stamp
abbrev pub IsNextKept : ℕ → Content → Option Kept → Type 0
IsNextKept stamp c found = IsKeptAfter c.kept stamp found

-- a page of the kept records, of the events, and of those of a running monitor: the first ones above a stamp or a number
abbrev pub records_page : ℕ → ℕ → Content → List Kept
records_page stamp limit c = records_after c.kept stamp limit

abbrev pub events_page : ℕ → ℕ → Content → List Event
events_page number limit c = events_after c.events number limit

abbrev pub monitor_page : ℕ → ℕ → ℕ → Content → List Event
monitor_page monitor number limit c = events_of_monitor c monitor number limit

-- what a commit asks of the content before it, and what it makes of one that it follows
pub record Commit : Type 1 where
  pub Follows : Content → Type 0
  pub after : Content → Content

-- a commit of whole tables, and one of changes
abbrev pub commit_of : Rows → List Event → Kept → Commit
commit_of rows events kept = record { Follows = Follows rows events kept; after = committed rows events kept }

abbrev pub commit_by : List Change → List Event → Kept → Commit
commit_by changes events kept = record { Follows = FollowsBy changes events kept; after = committed_by changes events kept }

-- nothing that a reopening may find is new
abbrev pub Within : (Content → Type 0) → (Content → Type 0) → Type 0
Within new old = (c : Content) → new c → old c

-- the count has risen, or has reached its greatest value
abbrev pub HasRisen : ℕ → ℕ → Type 0
HasRisen old new = (old < new) ⊎ (2 ^ 64 - 1 ≤ new)
