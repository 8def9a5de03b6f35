-- The numbers of the events at watched devices.
use Rattle.std.specs.Prelude.{◌≡◌, ◌⊎◌, ℕ, ◌+◌, ◌-◌, ◌≤◌, ◌==◌, ◌++◌, ◌∷◌, [], Bool, false, List, map, filter, nat_lt, Option, None, Some, IfSome, option_map, if◌then◌else◌}
use Rattle.std.specs.List.{sum_by}
use Rattle.std.specs.HashMap.{get_by, values}
use base.Stored.{coded_ℕ, coded_list, Coded-set}
use Rattle.acd_terms.specs.Lists.{Every}
use Rattle.acd_terms.specs.declared.event.Event.{Event}
use Rattle.acd_terms.specs.declared.record.MonitorRecord.{MonitorRecord}
use Rattle.acd_model.specs.declared.moves.Change.{Change}
use Rattle.acd_model.specs.declared.moves.Change.TheVariants.{PutMonitor, RemoveMonitor}
use Rattle.acd_book.specs.Content.{is_at_after, device_page}
use Rattle.acd_book.specs.Memory.{number_of_event}
use Rattle.acd_book.specs.declared.numbers.Numbers.{Numbers}
use Rattle.acd_book.specs.declared.monitor_index.MonitorIndex.{MonitorIndex}

-- all events at the device above the number from which they are listed, and no others
abbrev pub IsListed : List Event → ℕ → Numbers → Type 0
IsListed events device l = l.numbers.items ≡ map number_of_event (filter (is_at_after (Some device) l.above) events)

-- a number more is listed, where it is above that one
abbrev pub AddsIfAbove : Numbers → Numbers → ℕ → Type 0
AddsIfAbove old new number = new.numbers.items ≡ old.numbers.items ++ filter (nat_lt old.above) (number ∷ [])

pub listed_prop : (events : List Event) (device : ℕ) (l : Numbers) → IsProp (IsListed events device l)
listed_prop events device l = Coded-set (coded_list coded_ℕ) _ _

-- each list is of these events
abbrev pub ListsEvents : List Event → MonitorIndex → Type 0
ListsEvents events w = (device : ℕ) → IfSome (get_by (λ (d : ℕ). device == d) w.lists) (IsListed events device)

-- where no event has a number above the last one
abbrev pub WatchesAfter : ℕ → MonitorIndex → Type 0
WatchesAfter last w = (events : List Event) → Every (λ (e : Event). e.number ≤ last) events → ListsEvents events w

abbrev pub WatchesFrom : ℕ → MonitorIndex → MonitorIndex → Type 0
WatchesFrom last old new = (events : List Event) → Every (λ (e : Event). e.number ≤ last) events → ListsEvents events old → ListsEvents events new

-- the same events are watched
abbrev pub StillWatches : MonitorIndex → MonitorIndex → Type 0
StillWatches old new = (events : List Event) → ListsEvents events old → ListsEvents events new

-- and more, after them
abbrev pub WatchesMore : List Event → MonitorIndex → MonitorIndex → Type 0
WatchesMore more old new = (events : List Event) → ListsEvents events old → ListsEvents (events ++ more) new

-- the numbers of the first events at a device above a number
abbrev pub ArePageNumbers : MonitorIndex → ℕ → ℕ → ℕ → List ℕ → Type 0
ArePageNumbers w device number limit found = (events : List Event) → ListsEvents events w → found ≡ map number_of_event (device_page device number limit events)

-- ---- nothing is kept of a monitor that was stopped

-- the device that the index has for a monitor
abbrev pub recorded_at : MonitorIndex → ℕ → Option ℕ
recorded_at w monitor = get_by (λ (m : ℕ). monitor == m) w.devices

abbrev pub is_one : ℕ → ℕ → ℕ
is_one device d = if device == d then 1 else 0

-- how many monitors the index has for the device
abbrev pub watching : ℕ → MonitorIndex → ℕ
watching device w = sum_by (is_one device) (values w.devices)

-- how many the list of a device counts, where there is a list
abbrev pub monitor_count : MonitorIndex → ℕ → Option ℕ
monitor_count w device = option_map (λ (l : Numbers). l.monitors) (get_by (λ (d : ℕ). device == d) w.lists)

-- one monitor less: the list is removed with the last one
abbrev pub fewer : Option ℕ → Option ℕ
fewer None = None
fewer (Some n) = if n - 1 == 0 then None else Some (n - 1)

-- the list counts none any more
abbrev pub is_none_left : Option ℕ → Bool
is_none_left None = false
is_none_left (Some n) = n == 0

-- one more; a list that is new may find no memory
abbrev pub IsMore : Option ℕ → Option ℕ → Type 0
IsMore None new = (new ≡ None) ⊎ (new ≡ Some 1)
IsMore (Some n) new = (m : ℕ) × (new ≡ Some m) × (1 ≤ m) × (m ≤ n + 1)

-- so many are counted at one device, and at each other one as many as before
pub record CountsAt (device : ℕ) (P : Option ℕ → Option ℕ → Type 0) (old new : MonitorIndex) : Type 0 where
  pub devices : new.devices ≡ old.devices
  pub one : P (monitor_count old device) (monitor_count new device)
  pub others : (d : ℕ) → (device == d) ≡ false → monitor_count new d ≡ monitor_count old d

abbrev pub IsUpTo : ℕ → ℕ → Type 0
IsUpTo most n = (1 ≤ n) × (n ≤ most)

-- each list counts at least one monitor of its device, and no more than are indexed
abbrev pub KeepsWatched : MonitorIndex → Type 0
KeepsWatched w = (device : ℕ) → IfSome (monitor_count w device) (IsUpTo (watching device w))

abbrev pub StillKeeps : MonitorIndex → MonitorIndex → Type 0
StillKeeps old new = KeepsWatched old → KeepsWatched new

-- what a change says of a monitor: the device that it watches from then on, or none
abbrev pub said_of : ℕ → Change → Option (Option ℕ)
said_of monitor (PutMonitor r) = if monitor == r.monitor then Some (Some r.device) else None
said_of monitor (RemoveMonitor n) = if monitor == n then Some None else None
said_of monitor _ = None

-- the index has of a monitor what was given or, for want of memory, nothing; and what it had before, where nothing was given
abbrev pub IsRecordedAs : Option (Option ℕ) → Option ℕ → Option ℕ → Type 0
IsRecordedAs None old new = new ≡ old
IsRecordedAs (Some said) old new = (new ≡ said) ⊎ (new ≡ None)

abbrev pub or_before : Option (Option ℕ) → Option (Option ℕ) → Option (Option ℕ)
or_before (Some later) before = Some later
or_before None before = before

-- of several changes the last one counts
abbrev pub said_last : Option (Option ℕ) → List Change → ℕ → Option (Option ℕ)
said_last before [] monitor = before
said_last before (c ∷ cs) monitor = said_last (or_before (said_of monitor c) before) cs monitor

-- after the changes just the running monitors are indexed, each at its device, as far as there was memory
abbrev pub RecordsChanges : List Change → MonitorIndex → MonitorIndex → Type 0
RecordsChanges changes old new = (monitor : ℕ) → IsRecordedAs (said_last None changes monitor) (recorded_at old monitor) (recorded_at new monitor)

-- and of these monitors, where none was indexed before
abbrev pub RecordsThese : List MonitorRecord → MonitorIndex → Type 0
RecordsThese monitors w = (monitor : ℕ) → IsRecordedAs (said_last None (map PutMonitor monitors) monitor) None (recorded_at w monitor)
