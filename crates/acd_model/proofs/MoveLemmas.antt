-- Moves one after another.
use Rattle.std.proofs.Common.{◌≡◌, ℕ, [], ◌∷◌, ◌++◌, List, Some, None, Option, refl}
use Rattle.acd_terms.specs.declared.rows.Rows.{Rows}
use Rattle.acd_terms.specs.declared.event.Event.{Event}
use Rattle.acd_terms.specs.declared.event.Report.{Report}
use Rattle.acd_model.specs.declared.moves.Move.{Move}
use Rattle.acd_model.specs.Moves.{changed, moved, with_event, events_of}

pub moved_append : (s : Rows) (moves more : List Move) → moved s (moves ++ more) ≡ moved (moved s moves) more
moved_append s [] more = refl
moved_append s (one ∷ moves) more = moved_append (changed s one.change) moves more

with_event-append : (m : ℕ) (r : Option Report) (es fs : List Event) → with_event m r (es ++ fs) ≡ with_event m r es ++ fs
with_event-append m None es fs = refl
with_event-append m (Some r) es fs = refl

pub events_of_append : (m : ℕ) (moves more : List Move) → events_of m (moves ++ more) ≡ events_of m moves ++ events_of m more
events_of_append m [] more = refl
events_of_append m (one ∷ moves) more = rw (events_of_append m moves more) (with_event-append m one.report (events_of m moves) (events_of m more))
