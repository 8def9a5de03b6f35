-- A desk over any content, sound or not.
use Rattle.std.specs.Prelude.{◌≡◌, ◌⊎◌, List, [], ◌∷◌, ◌++◌}
use Rattle.std.specs.List.{Contains}
use Rattle.acd_terms.specs.declared.command.Arrival.{Arrival}
use Rattle.acd_book.specs.Content.{Content}
use Rattle.acd_book.specs.State.{BookState}
use Rattle.acd_desk.specs.declared.taken.Taken.{Taken}
use Rattle.acd_desk.specs.Contents.Replies.{answer_in, after}
use Rattle.acd_desk.specs.Contents.AcceptedArrivals.{accepted, maybe_last, answers_sent}
use Rattle.acd_desk.specs.Contents.CarriedContent.{Archive, together}

-- the content after some arrivals, one after the other
abbrev pub led : Content → List Arrival → Content
led c [] = c
led c (a ∷ rest) = led (after c a) rest

-- the answer to each of them in its turn
abbrev pub answers_to : Content → List Arrival → List Taken
answers_to c [] = []
answers_to c (a ∷ rest) = answer_in (after c a) a.request ∷ answers_to (after c a) rest

-- a reopening may find that content, or the one after one more of the arrivals that were not accepted
abbrev pub StopsFrom : Content → List Arrival → List Arrival → Content → Type 0
StopsFrom start list others c = (c ≡ led start list) ⊎ ((a : Arrival) × Contains others a × (c ≡ led start (list ++ a ∷ [])))

-- from this content on the accepted arrivals were executed in turn, and nothing else was
pub record Leads (start : Content) (arrivals : List Arrival) (answers : List Taken) (new : BookState) : Type 0 where
  pub replies : answers_sent answers ≡ answers_to start (accepted arrivals answers)
  pub content : new.is_open → new.content ≡ led start (accepted arrivals answers)
  pub stops : (c : Content) → new.stops c → StopsFrom start (accepted arrivals answers) (maybe_last arrivals answers) c

-- answers, rows, events and kept records over the content are those over archive and content together
pub record IsAsTogether (p : Archive) (c : Content) (list : List Arrival) : Type 0 where
  pub answers : answers_to c list ≡ answers_to (together p c) list
  pub content : together p (led c list) ≡ led (together p c) list
