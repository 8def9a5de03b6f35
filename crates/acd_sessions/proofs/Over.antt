-- Lines over a book, by opening a desk and its run, and over a connection, by its book: what they leave.
use Rattle.std.proofs.Common.{◌≡◌, ℕ, Bool, true, false, List, sym, subst, ◌∙◌, inl, inr, true≢false}
use Rattle.std.specs.List.{Contains}
use Rattle.sqlite.specs.State.{State}
use Rattle.acd_terms.specs.declared.command.Arrival.{Arrival}
use Rattle.acd_model.specs.Rules.First.{BreaksNoRule}
use Rattle.acd_book.specs.Content.{Content, IsCounted, HasRisen}
use Rattle.acd_book.specs.State.{BookState}
use Rattle.acd_book.proofs.BookSteps.{step_then}
use Rattle.acd_sqlbook.specs.declared.cache.Cache.{Cache}
use Rattle.acd_sqlbook.specs.Caches.{followed}
use Rattle.acd_sqlbook.specs.State.{book_state}
use Rattle.acd_desk.specs.declared.taken.Taken.{Taken}
use Rattle.acd_desk.specs.declared.taken.Taken.TheVariants.{StoreFault}
use Rattle.acd_desk.specs.Contents.AcceptedArrivals.{accepted, maybe_last, answers_sent}
use Rattle.acd_desk.specs.Desks.DeskState.{DeskState}
use Rattle.acd_desk.specs.Contents.SoundContent.{IsSound, replies, StopsAt}
use Rattle.acd_desk.specs.Desks.Opening.{Opened}
use Rattle.acd_desk.specs.Desks.DeskCalls.{Ran, IsFault, HoldsRun}
use Rattle.acd_desk.specs.Desks.Session.{Session}
use Rattle.acd_desk.specs.Contents.AnyContent.{Leads}
use Rattle.acd_desk.proofs.Desks.Sessions.{session_ran}
use Rattle.acd_lines.specs.Lines.{LinesAnswered, ArrivalsAnswered}
use Rattle.acd_lines.proofs.WeakerAnswers.{arrivals_so}
use Rattle.acd_sessions.specs.Over.{IsSession, IsSessionTo, IsFailedSession, OverConnection, left}
use Rattle.acd_sessions.specs.ConnectionBook.{IsHeldBook, IsTaken}

-- lines over a desk of the book
pub lines_over : (P : List (List ℕ) → Type 0) (W : List ℕ → Type 0) (old : BookState) (d e : DeskState) → Opened old d → LinesAnswered P (ArrivalsAnswered (λ (l : List Arrival) (ts : List Taken). Ran d l ts e)) W
    → LinesAnswered P (ArrivalsAnswered (IsSession old e.book)) W
lines_over P W old d e opened h = arrivals_so P (λ (l : List Arrival) (ts : List Taken). Ran d l ts e) (IsSession old e.book) W (λ l ts ran. session_ran IsFault old d e l ts opened ran ran.later) h

-- without a storeFault, where the desk hasn't failed
pub lines_well : (P : List (List ℕ) → Type 0) (W : List ℕ → Type 0) (ends : Bool) (old : BookState) (d e : DeskState) → Opened old d → (ends ≡ true → e.failed ≡ false)
    → LinesAnswered P (ArrivalsAnswered (λ (l : List Arrival) (ts : List Taken). Ran d l ts e)) W → LinesAnswered P (ArrivalsAnswered (IsSessionTo ends old e.book)) W
lines_well P W ends old d e opened well h =
    arrivals_so P (λ (l : List Arrival) (ts : List Taken). Ran d l ts e) (IsSessionTo ends old e.book) W
    (λ l ts ran. (session_ran IsFault old d e l ts opened ran ran.later, λ asked found. true≢false (sym (ran.desk.shuts found) ∙ well asked))) h

-- a desk that was just opened hadn't failed
failed_since : (old : BookState) (d e : DeskState) (l : List Arrival) (ts : List Taken) → Opened old d → Ran d l ts e → e.failed ≡ true → Contains ts StoreFault
failed_since old d e l ts opened ran failed = elim (ran.desk.answers failed) [
  | inl before ↦ absurd (true≢false (sym before ∙ opened.working))
  | inr found ↦ found
]

pub lines_failed : (P : List (List ℕ) → Type 0) (W : List ℕ → Type 0) (old : BookState) (d e : DeskState) → Opened old d → e.failed ≡ true → LinesAnswered P (ArrivalsAnswered (λ (l : List Arrival) (ts : List Taken). Ran d l ts e)) W
    → LinesAnswered P (ArrivalsAnswered (IsFailedSession old e.book)) W
lines_failed P W old d e opened failed h =
    arrivals_so P (λ (l : List Arrival) (ts : List Taken). Ran d l ts e) (IsFailedSession old e.book) W (λ l ts ran. (session_ran IsFault old d e l ts opened ran ran.later, failed_since old d e l ts opened ran failed)) h

-- ---- over a book that came of another

pub session_of : (P : Taken → Type 0) (old mid new : BookState) (l : List Arrival) (ts : List Taken) → IsHeldBook old mid → Session P mid l ts new → Session P old l ts new
session_of P old mid new l ts of s =
    let sound : new.is_clean → old.is_sound → mid.is_sound = λ clean sound. of.step.sound (s.step.clean clean) sound in
    let same : new.is_clean → old.is_sound → mid.content ≡ old.content = λ clean sound. of.content (s.step.clean clean) sound in
    let well : new.is_clean → old.is_sound → IsSound old.content → IsSound mid.content = λ clean sound whole. subst IsSound (sym (same clean sound)) whole in
    record {
      even = s.even;
      step = step_then of.step s.step (λ none. absurd none) (λ found. found);
      opened = λ clean is. of.opened (s.step.clean clean) is;
      accepts = λ clean is. subst (λ (c : Content). BreaksNoRule c.rows) (same clean is) (s.accepts clean (sound clean is));
      leads = λ clean is counted. subst (λ (c : Content). Leads c l ts new) (same clean is) (s.leads clean (sound clean is) (subst IsCounted (sym (same clean is)) counted));
      replies = λ clean is whole. subst (λ (c : Content). answers_sent ts ≡ replies c (accepted l ts)) (same clean is) (s.replies clean (sound clean is) (well clean is whole));
      holds = λ clean is whole opened. subst (λ (c : Content). HoldsRun c (accepted l ts) new) (same clean is) (s.holds clean (sound clean is) (well clean is whole) opened);
      up = λ clean is last. s.up clean (sound clean is) last;
      stops = λ clean is whole c at. subst (λ (x : Content). StopsAt x (accepted l ts) (maybe_last l ts) c) (same clean is) (s.stops clean (sound clean is) (well clean is whole) c at);
      sound_stops = λ clean is whole c at. s.sound_stops clean (sound clean is) (well clean is whole) c at;
      later = s.later;
      cause = λ clean is whole found. subst (λ (k : ℕ). HasRisen k new.failures) (of.step.quiet (λ none. none)) (s.cause clean (sound clean is) (well clean is whole) found);
    }

pub lines_since : (P : List (List ℕ) → Type 0) (W : List ℕ → Type 0) (old mid new : BookState) → IsHeldBook old mid → LinesAnswered P (ArrivalsAnswered (IsSession mid new)) W → LinesAnswered P (ArrivalsAnswered (IsSession old new)) W
lines_since P W old mid new of h = arrivals_so P (IsSession mid new) (IsSession old new) W (λ l ts s. session_of IsFault old mid new l ts of s) h

pub well_lines_since : (P : List (List ℕ) → Type 0) (W : List ℕ → Type 0) (ends : Bool) (old mid new : BookState) → IsHeldBook old mid → LinesAnswered P (ArrivalsAnswered (IsSessionTo ends mid new)) W
    → LinesAnswered P (ArrivalsAnswered (IsSessionTo ends old new)) W
well_lines_since P W ends old mid new of h = arrivals_so P (IsSessionTo ends mid new) (IsSessionTo ends old new) W (λ l ts s. (session_of IsFault old mid new l ts of s.0, s.1)) h

pub failed_lines_since : (P : List (List ℕ) → Type 0) (W : List ℕ → Type 0) (old mid new : BookState) → IsHeldBook old mid → LinesAnswered P (ArrivalsAnswered (IsFailedSession mid new)) W → LinesAnswered P (ArrivalsAnswered (IsFailedSession old new)) W
failed_lines_since P W old mid new of h = arrivals_so P (IsFailedSession mid new) (IsFailedSession old new) W (λ l ts s. (session_of IsFault old mid new l ts of s.0, s.1)) h

-- What is so of a book that was opened is so of what it came of, and of what is left in the database. Its disk was clean if it is then.
pub record CarriesOver (P Q : BookState → BookState → Type 0) (mid : BookState) (t : State) (cache : Cache) (failures : ℕ) : Type 1 where
  pub carries : (old : BookState) → IsHeldBook old mid → P mid (followed cache (book_state t failures)) → Q old (followed cache (book_state t failures))
  pub leaves : (old : BookState) → Q old (followed cache (book_state t failures)) → Q old (left t failures)
  pub clean : P mid (followed cache (book_state t failures)) → (followed cache (book_state t failures)).is_clean → mid.is_clean

-- then it is said of the database
pub over_connection : (P Q : BookState → BookState → Type 0) (makes : Bool) (s t : State) (mid : BookState) (cache : Cache) (failures : ℕ)
    → CarriesOver P Q mid t cache failures → IsTaken makes s mid → P mid (followed cache (book_state t failures)) → OverConnection Q makes s t
over_connection P Q makes s t mid cache failures so taken h = (
  failures,
  elim taken [
    | inl found ↦ inl ((λ here. found.tables (so.clean h here)), so.leaves _ (so.carries _ found.of_held h))
    | inr made ↦ inr (made.0, made.1, so.leaves _ (so.carries _ made.2 h))
  ],
)

-- whatever follows from a statement on the book
pub over_so : (P Q : BookState → BookState → Type 0) (makes : Bool) (s t : State) → ((old new : BookState) → P old new → Q old new) → OverConnection P makes s t → OverConnection Q makes s t
over_so P Q makes s t follows h = (
  h.0,
  elim h.1 [
    | inl found ↦ inl (found.0, follows _ _ found.1)
    | inr made ↦ inr (made.0, made.1, follows _ _ made.2)
  ],
)

-- a statement that holds whatever the book is
pub over_fact : (P : BookState → BookState → Type 0) (F : Type 0) (makes : Bool) (s t : State) → ((old new : BookState) → P old new → F) → OverConnection P makes s t → F
over_fact P F makes s t follows h = elim h.1 [ inl found ↦ follows _ _ found.1 | inr made ↦ follows _ _ made.2 ]

-- a new book is made only where one may be
pub over_makes : (P : BookState → BookState → Type 0) (is_new makes : Bool) (s t : State) → (is_new ≡ true → makes ≡ true) → OverConnection P is_new s t → OverConnection P makes s t
over_makes P is_new makes s t may h = (h.0, elim h.1 [ inl found ↦ inl found | inr made ↦ inr (may made.0, made.1, made.2) ])
