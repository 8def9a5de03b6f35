-- The answer of an audit of a content with its archive.
use Rattle.std.specs.Prelude.{◌≡◌, ℕ, ◌+◌, ◌<◌, ◌≤◌, List, [], ◌∷◌, ◌++◌, length, find, Option, Some, is_some, option_map}
use Rattle.acd_terms.specs.declared.rows.Rows.{Rows}
use Rattle.acd_terms.specs.declared.event.Event.{Event}
use Rattle.acd_book.specs.declared.kept.Kept.{Kept}
use Rattle.acd_book.specs.Content.{Content, kept_of, IsKeptAfter, IsCounted, GoOn}
use Rattle.acd_book.specs.Memory.{stamp_of, number_of_event}
use Rattle.acd_book.specs.Order.{Rises, IsOrdered}
use Rattle.acd_desk.specs.declared.audit.ArchiveAudit.{ArchiveAudit}
use Rattle.acd_desk.specs.declared.audit.ArchiveAudit.TheVariants.{Sound, SentAgain, Differs}
use Rattle.acd_desk.specs.Contents.SoundContent.{arrivals_of}
use Rattle.acd_desk.specs.Contents.AnyContent.{led}
use Rattle.acd_desk.specs.Audits.Replay.{Matches}
use Rattle.acd_desk.specs.Contents.CarriedContent.{Archive}
use Rattle.acd_desk.specs.Contents.WithArchive.{IsCut, IsSoundWith, IsLedFrom}

-- no moment is before the one that precedes it
abbrev pub Ascends : {T : Type 0} → (T → ℕ) → ℕ → List T → Type 0
Ascends moment last [] = Unit {0}
Ascends moment last (x ∷ xs) = (last ≤ moment x) × Ascends moment (moment x) xs

-- the events are numbered on up to the counter, from whatever number
pub record IsNumbered (a : Content) : Type 0 where
  pub before : ℕ
  pub go_on : GoOn before a.events
  pub up_to : before + length a.events ≡ a.rows.last_event

-- each sound content keeps this, also where an archive of that content has its older records
pub record StandsInTime (a : Content) : Type 0 where
  pub ordered : IsOrdered a
  pub counted : IsCounted a
  pub numbered : IsNumbered a
  pub kept : Ascends (λ (k : Kept). k.moment) 0 a.kept
  pub events : Ascends (λ (e : Event). e.moment) 0 a.events

-- the content begins with the archive's last records and all events of these, and the rest is newer
pub record HoldsArchive (a c : Content) : Type 0 where
  pub left : Archive
  pub carried : Content
  pub cut : IsCut a left carried
  pub kept_left : List Kept
  pub events_left : List Event
  pub kept : c.kept ≡ carried.kept ++ kept_left
  pub events : c.events ≡ carried.events ++ events_left
  pub kept_rise : Rises stamp_of a.rows.last_stamp kept_left
  pub events_rise : Rises number_of_event a.rows.last_event events_left

-- the content is what a run of its first newer requests makes of the carried part, and then the rest
pub record RunsOn (a c r : Content) (kept_left : List Kept) (events_left : List Event) : Type 0 where
  pub left : Archive
  pub carried : Content
  pub cut : IsCut a left carried
  pub newer : List Kept
  pub ran : r.kept ≡ carried.kept ++ newer
  pub made : r ≡ led carried (arrivals_of newer)
  pub kept : c.kept ≡ r.kept ++ kept_left
  pub events : c.events ≡ r.events ++ events_left
  pub counted : IsCounted r
  pub kept_rise : Rises stamp_of r.rows.last_stamp kept_left
  pub events_rise : Rises number_of_event r.rows.last_event events_left

-- such a run leaves these rows
pub record RunsTo (a c : Content) (s : Rows) : Type 0 where
  pub ran : Content
  pub kept_left : List Kept
  pub events_left : List Event
  pub runs : RunsOn a c ran kept_left events_left
  pub rows : s ≡ ran.rows

-- all up to this stamp is as it has to be, and the record there, where there is one and a request is left, isn't
pub record IsNewerDifference (a c : Content) (n : ℕ) : Type 0 where
  pub rows : Rows
  pub before : RunsTo a c rows
  pub place : n ≡ rows.last_stamp + 1
  pub differs : (k : Kept) → IsKeptAfter c.kept rows.last_stamp (Some k) → rows.last_stamp < rows.limits.requests → ¬ Matches c rows k

-- the first of these records whose key an older one has
abbrev pub first_sent_again : Archive → List Kept → Option Kept
first_sent_again p newer = find (λ (k : Kept). is_some (kept_of p.kept k.request.requester k.request.invoke)) newer

-- the content is what its newer requests make of the carried part, and the first of them whose key was left in the archive has this stamp
pub record IsSentAgain (a c : Content) (n : ℕ) : Type 0 where
  pub unsound : ¬ IsSoundWith a c
  pub led : IsLedFrom a c
  pub first : option_map stamp_of (first_sent_again led.left led.newer) ≡ Some n

-- the stamp at which the content differs from the archive's records and what its newer requests make of the carried part
pub record IsDifferenceWith (a c : Content) (n : ℕ) : Type 0 where
  pub unled : ¬ IsLedFrom a c
  -- up to the archive's last stamp: its records aren't the archive's, or some of their events aren't
  pub older : n ≤ a.rows.last_stamp → ¬ HoldsArchive a c
  pub newer : a.rows.last_stamp < n → IsNewerDifference a c n

abbrev pub IsAuditWith : Content → Content → ArchiveAudit → Type 0
IsAuditWith a c Sound = IsSoundWith a c
IsAuditWith a c (SentAgain n) = IsSentAgain a c n
IsAuditWith a c (Differs n) = IsDifferenceWith a c n
