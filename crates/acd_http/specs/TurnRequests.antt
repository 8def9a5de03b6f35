-- The requests that connections brought and the ticks that the clock handed in between them, and that the desk leaves what a run of them all leaves.
use Rattle.std.specs.Prelude.{ℕ, Bool, List, [], ◌∷◌, ◌++◌, Option, Some, None, map}
use Rattle.acd_terms.specs.declared.command.Arrival.{Arrival}
use Rattle.acd_desk.specs.declared.taken.Taken.{Taken}
use Rattle.acd_desk.specs.Contents.Arrivals.{arrival_at}
use Rattle.acd_desk.specs.Desks.Clock.{clock_tick}
use Rattle.acd_desk.specs.Desks.DeskState.{DeskState}
use Rattle.acd_desk.specs.Desks.ArrivalsAndReads.{Attended}
use Rattle.acd_http.specs.ConnectionRequests.{posted_by}
use Rattle.acd_http.specs.Turns.{ServiceTurn, answered, looked, Turned, TurnedEach}

-- the tick of a look at this moment, and the answer to it, where one was handed in
abbrev pub ticked : ℕ → Option Taken → List (Arrival × Taken)
ticked moment None = []
ticked moment (Some t) = (arrival_at moment (clock_tick moment), t) ∷ []

module _ {D : Type 0} (stands : D → DeskState) (looks : Bool) where
  -- by one turn
  abbrev pub handed_by : (d : D) (x : ServiceTurn) (e : D) → Turned stands looks d x e → List (Arrival × Taken)
  handed_by d (answered x) e v = posted_by stands d x e v
  handed_by d (looked taken told) e v = ticked v.1.moment taken

  -- by one turn after another
  abbrev pub all_handed : (d : D) (xs : List ServiceTurn) (e : D) → TurnedEach stands looks d xs e → List (Arrival × Taken)
  all_handed d [] e h = []
  all_handed d (x ∷ xs) e h = handed_by d x h.0 h.1 ++ all_handed h.0 xs e h.2

  -- the requests and ticks among these, and the answers
  abbrev pub requests_handed : (d : D) (xs : List ServiceTurn) (e : D) → TurnedEach stands looks d xs e → List Arrival
  requests_handed d xs e h = map (λ (p : Arrival × Taken). p.0) (all_handed d xs e h)

  abbrev pub answers_handed : (d : D) (xs : List ServiceTurn) (e : D) → TurnedEach stands looks d xs e → List Taken
  answers_handed d xs e h = map (λ (p : Arrival × Taken). p.1) (all_handed d xs e h)

  -- they are one run, in the order in which the desk took them
  abbrev pub AreOneRun : Type 0
  AreOneRun = (d e : D) (xs : List ServiceTurn) (h : TurnedEach stands looks d xs e) → Attended (stands d) (requests_handed d xs e h) (answers_handed d xs e h) (stands e)

-- so it is with looks, and without
abbrev pub TurnsLeadToTheRun : {D : Type 0} → (D → DeskState) → Type 0
TurnsLeadToTheRun stands = (looks : Bool) → AreOneRun stands looks
