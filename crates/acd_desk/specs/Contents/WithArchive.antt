-- A content that continues another one, which is its archive, and what an audit with the archive has to find.
use Rattle.std.specs.Prelude.{◌≡◌, ◌<◌, List, ◌++◌}
use Rattle.acd_terms.specs.Lists.{Every}
use Rattle.acd_terms.specs.declared.event.Event.{Event}
use Rattle.acd_book.specs.declared.kept.Kept.{Kept}
use Rattle.acd_book.specs.Content.{Content}
use Rattle.acd_desk.specs.Contents.SoundContent.{arrivals_of}
use Rattle.acd_desk.specs.Contents.AnyContent.{led}
use Rattle.acd_desk.specs.Contents.CarriedContent.{Archive, together}

-- each of these events is before each of these records
abbrev pub ComeBefore : List Event → List Kept → Type 0
ComeBefore events kept = Every (λ (e : Event). Every (λ (k : Kept). e.moment < k.moment) kept) events

-- the archive in two: the part left there, and the part carried over, with all events of its requests
pub record IsCut (a : Content) (left : Archive) (carried : Content) : Type 0 where
  pub whole : a ≡ together left carried
  pub events : ComeBefore left.events carried.kept

-- the content has the archive's last records as they are, and what its newer requests make of the archive's rows, counters and keys
pub record IsSoundWith (a c : Content) : Type 0 where
  pub left : Archive
  pub carried : Content
  pub cut : IsCut a left carried
  pub newer : List Kept
  pub kept : c.kept ≡ carried.kept ++ newer
  pub made : together left c ≡ led a (arrivals_of newer)

-- the content has the archive's last records as they are, and what its newer requests make of these, of the archive's rows and of its counters, whatever keys were left in the archive
pub record IsLedFrom (a c : Content) : Type 0 where
  pub left : Archive
  pub carried : Content
  pub cut : IsCut a left carried
  pub newer : List Kept
  pub kept : c.kept ≡ carried.kept ++ newer
  pub made : c ≡ led carried (arrivals_of newer)
