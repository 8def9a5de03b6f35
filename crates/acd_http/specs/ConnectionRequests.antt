-- The requests that connections brought, and that the desk leaves what a run of them leaves.
use Rattle.std.specs.Prelude.{ℕ, List, [], ◌∷◌, ◌++◌, map, Ok, Err}
use mathlib.Core.Logic.{inl, inr}
use Rattle.acd_terms.specs.declared.command.Arrival.{Arrival}
use Rattle.acd_desk.specs.declared.taken.Taken.{Taken}
use Rattle.acd_desk.specs.Contents.Arrivals.{arrival_at}
use Rattle.acd_desk.specs.Desks.DeskState.{DeskState}
use Rattle.acd_desk.specs.Desks.ArrivalsAndReads.{Attended}
use Rattle.acd_http.specs.declared.web_request.WebRequest.{WebRequest}
use Rattle.acd_http.specs.declared.web_request.WebRequest.TheVariants as ask
use Rattle.acd_http.specs.declared.exchanging.ExchangeFault.TheVariants.{Truncated, Read, Write, NoMemory}
use Rattle.acd_http.specs.Exchange.{AnswersAsked}
use Rattle.acd_http.specs.ConnectionsInTurn.{Outcome, AnsweredOne, AnsweredEach}

module _ {D : Type 0} (stands : D → DeskState) where
  -- the request that was asked, and what the desk answered to it, where it came so far
  abbrev pub posted : (moment : ℕ) (d : D) (asked : WebRequest) (out : List ℕ) (e : D) → AnswersAsked stands moment d asked out e → List (Arrival × Taken)
  posted moment d (ask.Arrival r) out e (inl h) = (arrival_at moment r, h.0) ∷ []
  posted moment d (ask.Arrival r) out e (inr h) = []
  posted moment d (ask.Look wanted bodiless) out e h = []
  posted moment d (ask.Refused why bodiless) out e h = []
  posted moment d ask.Truncated out e h = []

  -- by one connection
  abbrev pub posted_by : (d : D) (x : Outcome) (e : D) → AnsweredOne stands d x e → List (Arrival × Taken)
  posted_by d (Ok u) e v = posted v.moment d v.asked v.reply e v.answers
  posted_by d (Err Write) e v = posted v.moment d v.asked v.reply e v.answers
  posted_by d (Err Truncated) e v = []
  posted_by d (Err Read) e v = []
  posted_by d (Err NoMemory) e v = []

  -- by one connection after another
  abbrev pub all_posted : (d : D) (xs : List Outcome) (e : D) → AnsweredEach stands d xs e → List (Arrival × Taken)
  all_posted d [] e h = []
  all_posted d (x ∷ xs) e h = posted_by d x h.0 h.1 ++ all_posted h.0 xs e h.2

  -- the requests among these, and the answers
  abbrev pub requests_posted : (d : D) (xs : List Outcome) (e : D) → AnsweredEach stands d xs e → List Arrival
  requests_posted d xs e h = map (λ (p : Arrival × Taken). p.0) (all_posted d xs e h)

  abbrev pub answers_posted : (d : D) (xs : List Outcome) (e : D) → AnsweredEach stands d xs e → List Taken
  answers_posted d xs e h = map (λ (p : Arrival × Taken). p.1) (all_posted d xs e h)

  abbrev pub LeadsToTheRun : Type 0
  LeadsToTheRun = (d e : D) (xs : List Outcome) (h : AnsweredEach stands d xs e) → Attended (stands d) (requests_posted d xs e h) (answers_posted d xs e h) (stands e)
