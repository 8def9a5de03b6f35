-- Laws of a content that was carried over, and of its archive.
use Rattle.std.specs.Prelude.{◌≡◌, List}
use Rattle.acd_terms.specs.declared.command.Arrival.{Arrival}
use Rattle.acd_model.specs.Rules.First.{BreaksNoRule}
use Rattle.acd_book.specs.declared.book.Book.{Ghosts}
use Rattle.acd_book.specs.Content.{Content, IsCounted}
use Rattle.acd_book.specs.State.{BookState}
use Rattle.acd_desk.specs.declared.taken.Taken.{Taken}
use Rattle.acd_desk.specs.Contents.AcceptedArrivals.{accepted, maybe_last, answers_sent}
use Rattle.acd_desk.specs.Contents.SoundContent.{IsSound, ran_after, replies, StopsAt}
use Rattle.acd_desk.specs.Laws.{KeepsLaws}
use Rattle.acd_desk.specs.Contents.AnyContent.{led, answers_to, Leads, IsAsTogether}
use Rattle.acd_desk.specs.Contents.CarriedContent.{Archive, together, NoneSentAgain, IsCutAgain}

abbrev pub CarriedGoesOn : Type 0
CarriedGoesOn = (p : Archive) (c : Content) (list : List Arrival) → NoneSentAgain p list → IsAsTogether p c list

-- they are the run of all that was ever kept, followed by these
pub record IsRunOfAll (p : Archive) (c : Content) (list : List Arrival) : Type 0 where
  pub answers : answers_to c list ≡ replies (together p c) list
  pub content : together p (led c list) ≡ ran_after (together p c) list
  pub sound : IsSound (together p (led c list))

abbrev pub CarriedIsRunOfAll : Type 0
CarriedIsRunOfAll = (p : Archive) (c : Content) (list : List Arrival) → IsSound (together p c) → NoneSentAgain p list → IsRunOfAll p c list

abbrev pub CarriedAgain : Type 0
CarriedAgain = (p q : Archive) (c : Content) → IsCutAgain p q c

-- a desk opens over it, and is in step with it
abbrev pub CarriedOpens : Type 0
CarriedOpens = (p : Archive) (c : Content) → IsSound (together p c) → BreaksNoRule c.rows × IsCounted c

-- the headline, of archive and book together
pub record RanTogether (p : Archive) (start : Content) (arrivals : List Arrival) (answers : List Taken) (new : BookState) : Type 0 where
  pub answered : answers_sent answers ≡ replies (together p start) (accepted arrivals answers)
  pub content : new.is_open → together p new.content ≡ ran_after (together p start) (accepted arrivals answers)
  pub whole : new.is_open → IsSound (together p new.content)
  pub laws : new.is_open → KeepsLaws (together p new.content)
  pub stops : (c : Content) → new.stops c → StopsAt (together p start) (accepted arrivals answers) (maybe_last arrivals answers) (together p c)
  pub sound_stops : (c : Content) → new.stops c → IsSound (together p c)

-- where a run leads from such a content, that is kept
abbrev pub LeadsTogether : Archive → Content → List Arrival → List Taken → BookState → Type 0
LeadsTogether p start arrivals answers new =
    Leads start arrivals answers new → IsSound (together p start) → NoneSentAgain p arrivals → RanTogether p start arrivals answers new

-- so it is by each run of a book
abbrev pub CarriedRuns : {B : Type 0} → Ghosts B → Type 0
CarriedRuns {B} book = (p : Archive) (start : Content) (arrivals : List Arrival) (answers : List Taken) (new : B)
    → LeadsTogether p start arrivals answers (book.state new)
