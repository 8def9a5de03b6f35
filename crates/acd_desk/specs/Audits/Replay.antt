-- How far the replay of a content has come.
use Rattle.std.specs.Prelude.{◌≡◌, ◌⊎◌, ℕ, ◌+◌, ◌<◌, ◌≤◌, take, Bool, true, false, List, [], ◌++◌, length, Option, Some, None, IfSome, option_map}
use Rattle.std.specs.Bool.{Decides}
use Rattle.acd_terms.specs.Limits.{limits_fit}
use Rattle.acd_terms.specs.declared.rows.Rows.{Rows}
use Rattle.acd_terms.specs.declared.event.Event.{Event}
use Rattle.acd_terms.specs.Lists.{Every}
use Rattle.acd_terms.specs.declared.command.Arrival.{Arrival}
use Rattle.acd_terms.specs.declared.command.Request.{Request}
use Rattle.acd_book.specs.declared.kept.Kept.{Kept}
use Rattle.acd_book.specs.Content.{Content, kept_of, IsKeptAfter, events_after}
use Rattle.acd_book.specs.Memory.{stamp_of, number_of_event}
use Rattle.acd_book.specs.Order.{Rises, IsOrdered}
use Rattle.acd_desk.specs.Contents.AbstractDesk.{stepped, record_of, desk_run}
use Rattle.acd_desk.specs.Contents.SoundContent.{arrivals_of, IsSound}
use Rattle.acd_desk.specs.declared.seen_keys.SeenKeys.{SeenKeys}
use Rattle.acd_desk.specs.declared.page.Page.{Page}
use Rattle.acd_desk.specs.declared.replay.Replay.{Replay}
use Rattle.acd_desk.specs.declared.replay.Step.{Step}
use Rattle.acd_desk.specs.declared.replay.Step.TheVariants.{Replayed, Differs, Ended}
use Rattle.acd_desk.specs.Audits.Audit.{AgreesBefore, IsFirstDifference}
use Rattle.acd_desk.specs.Contents.KeyPlaces.{IsSeenKey}
use Rattle.acd_desk.specs.Reads.Pages.{IsPageOf}

-- the rows of its switch
abbrev pub rows_of : Replay → Rows
rows_of r = r.loaded.switch.value

-- a request is left of those that may be executed
abbrev pub HasRoom : Rows → Type 0
HasRoom s = s.last_stamp < s.limits.requests

-- a kept request, at the moment that its record holds
abbrev pub again : Kept → Arrival
again k = record { moment = k.moment; request = k.request }

-- the content is a run of its first kept requests, and then the rest
pub record Splits (c r : Content) (kept_left : List Kept) (events_left : List Event) : Type 0 where
  pub is_run : r ≡ desk_run c.rows.limits (arrivals_of r.kept)
  pub size : length r.kept ≡ r.rows.last_stamp
  pub kept : c.kept ≡ r.kept ++ kept_left
  pub events : c.events ≡ r.events ++ events_left
  pub kept_rise : Rises stamp_of r.rows.last_stamp kept_left
  pub events_rise : Rises number_of_event r.rows.last_event events_left

-- such a run leaves these rows, and each of its places agrees
pub record Replays (c : Content) (s : Rows) : Type 0 where
  pub fits : limits_fit c.rows.limits ≡ true
  pub ran : Content
  pub kept_left : List Kept
  pub events_left : List Event
  pub splits : Splits c ran kept_left events_left
  pub rows : s ≡ ran.rows
  pub agrees : AgreesBefore c (s.last_stamp + 1)

-- the first record of its key has its stamp
abbrev pub IsFirstOfKey : Content → Kept → Type 0
IsFirstOfKey c k = option_map stamp_of (kept_of c.kept k.request.requester k.request.invoke) ≡ Some k.stamp

-- the events above a number are first of all these
abbrev pub ComeNext : Content → ℕ → List Event → Type 0
ComeNext c last events = events_after c.events last (length events) ≡ events

-- so are those above the last one
abbrev pub HasNext : Content → Rows → List Event → Type 0
HasNext c s events = ComeNext c s.last_event events

-- a record is the first of its key, and these events come above a number
abbrev pub IsFirstWith : Kept → ℕ → List Event → Content → Type 0
IsFirstWith k last events c = IsFirstOfKey c k × ComeNext c last events

-- a record is the one that a step from these rows keeps of its request, and the step's events are there
pub record Matches (c : Content) (s : Rows) (k : Kept) : Type 0 where
  pub kept : k ≡ record_of s (again k)
  pub first : IsFirstOfKey c k
  pub events : HasNext c s (stepped s (again k)).events

-- no event is left after the last, and the tables are these
abbrev pub IsEnd : Content → Rows → Type 0
IsEnd c s = (events_after c.events s.last_event 1 ≡ []) × (c.rows ≡ s)

-- no record is left after these rows, and no event, and the tables are these; or something is
abbrev pub IsAll : Content → Rows → Bool → Type 0
IsAll c s true = IsKeptAfter c.kept s.last_stamp None × IsEnd c s
IsAll c s false = ((k : Kept) × IsKeptAfter c.kept s.last_stamp (Some k)) ⊎ (IsKeptAfter c.kept s.last_stamp None × ¬ IsEnd c s)

-- if the key of this record wasn't seen, no earlier record has it
abbrev pub FindsFirst : Content → SeenKeys → Kept → Type 0
FindsFirst c keys k = ¬ IsSeenKey keys k.request → IsFirstOfKey c k

-- so much is known of the content before a record is compared with what its request gives
pub record Knows (c : Content) (keys : SeenKeys) (p : Page Event) (k : Kept) : Type 0 where
  pub finds : FindsFirst c keys k
  pub page : IsPageOf c p

-- where the notes tell it of each record that isn't noted, it is found whether this one is the first of its key
abbrev pub DecidesFirst : SeenKeys → Kept → Content → Bool → Type 0
DecidesFirst keys k c found = FindsFirst c keys k → Decides found (IsFirstOfKey c k)

-- where the page is of the content, it is found whether these events come above a number, and it stays a page of the content
abbrev pub DecidesNext : Page Event → Page Event → ℕ → List Event → Content → Bool → Type 0
DecidesNext old new last events c found = IsPageOf c old → IsPageOf c new × Decides found (ComeNext c last events)

-- where so much is known before, it is found whether this holds, and the page stays one of the content
abbrev pub DecidesKnown : SeenKeys → Page Event × Page Event → Kept → (Content → Type 0) → Content → Bool → Type 0
DecidesKnown keys pages k P c found = Knows c keys pages.0 k → IsPageOf c pages.1 × Decides found (P c)

-- its switch replays the first records, it has seen their keys, and its page is of the content
pub record Goes (c : Content) (r : Replay) : Type 0 where
  pub replays : Replays c (rows_of r)
  pub seen : Every (λ (k : Kept). IsSeenKey r.keys k.request) (take (rows_of r).last_stamp c.kept)
  pub page : IsPageOf c r.page

-- a replay begins with no record, or at limits that don't fit
abbrev pub BeginsReplay : Content → Option Replay → Type 0
BeginsReplay c None = IsFirstDifference c 1
BeginsReplay c (Some first) = IsOrdered c → Goes c first

-- the key of one more record was seen, and the page is of the content
pub record GoesOn (c : Content) (r : Replay) (k : Kept) (next : Replay) : Type 0 where
  pub itself : IsSeenKey next.keys k.request
  pub others : (other : Request) → IsSeenKey r.keys other → IsSeenKey next.keys other
  pub page : IsPageOf c next.page

-- a record is replayed, or it isn't what its request gives
abbrev pub IsReplayed : Content → Replay → Kept → Option Replay → Type 0
IsReplayed c r k None = ¬ Matches c (rows_of r) k
IsReplayed c r k (Some next) = Matches c (rows_of r) k × GoesOn c r k next

-- the same where so much is known before
abbrev pub Plays : Replay → Kept → Content → Option Replay → Type 0
Plays r k c found = Knows c r.keys r.page k → IsReplayed c r k found

-- the switch made one step more, where the record was replayed
abbrev pub StepsOn : Rows → Kept → Option Replay → Type 0
StepsOn s k played = IfSome played (λ (next : Replay). rows_of next ≡ (stepped s (again k)).rows)

-- a replay that begins has replayed nothing, and its limit of requests is one that fits
abbrev pub BeginsEmpty : Option Replay → Type 0
BeginsEmpty found = IfSome found (λ (first : Replay). ((rows_of first).last_stamp ≡ 0) × ((rows_of first).limits.requests ≤ 1000000000))

-- the result of a step of the replay from there
abbrev pub IsStep : Content → Replay → Step → Type 0
IsStep c r (Replayed next) = Goes c r → Goes c next
IsStep c r Differs = Goes c r → IsFirstDifference c ((rows_of r).last_stamp + 1)
IsStep c r Ended = Goes c r → IsSound c

-- it replays one record
abbrev pub CountsOne : Rows → Step → Type 0
CountsOne s (Replayed next) = ((rows_of next).limits ≡ s.limits) × ((rows_of next).last_stamp ≡ s.last_stamp + 1)
CountsOne s Differs = Unit {0}
CountsOne s Ended = Unit {0}
