-- A content that was carried over: an archive has its older records.
use Rattle.std.specs.Prelude.{◌≡◌, List, [], ◌++◌, None}
use Rattle.acd_terms.specs.Lists.{Every}
use Rattle.acd_terms.specs.declared.command.Arrival.{Arrival}
use Rattle.acd_terms.specs.declared.event.Event.{Event}
use Rattle.acd_book.specs.declared.kept.Kept.{Kept}
use Rattle.acd_book.specs.Content.{Content, kept_of}

-- older events, and what was kept of older requests
pub record Archive : Type 0 where
  pub events : List Event
  pub kept : List Kept

abbrev pub no_archive : Archive
no_archive = record { events = []; kept = [] }

-- archive and content together: the archive's records come before the current ones
abbrev pub together : Archive → Content → Content
together p c = record { rows = c.rows; events = p.events ++ c.events; kept = p.kept ++ c.kept }

-- one archive before another
abbrev pub joined : Archive → Archive → Archive
joined p q = record { events = p.events ++ q.events; kept = p.kept ++ q.kept }

-- no record of the archive has the key of the arrival
abbrev pub IsNewTo : Archive → Arrival → Type 0
IsNewTo p a = kept_of p.kept a.request.requester a.request.invoke ≡ None

-- no request is sent again after it was carried away
abbrev pub NoneSentAgain : Archive → List Arrival → Type 0
NoneSentAgain p list = Every (IsNewTo p) list

-- the rest may be carried over again: two archives are as one, which has the keys of both
pub record IsCutAgain (p q : Archive) (c : Content) : Type 0 where
  pub content : together p (together q c) ≡ together (joined p q) c
  pub keys : (list : List Arrival) → NoneSentAgain p list → NoneSentAgain q list → NoneSentAgain (joined p q) list
