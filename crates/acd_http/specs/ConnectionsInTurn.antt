-- The state after connections were answered, one after another.
use Rattle.std.specs.Prelude.{◌≡◌, ◌⊎◌, ℕ, suc, length, true, false, List, [], ◌∷◌, ◌++◌, Option, Result, Ok, Err, codes, decimal}
use Rattle.std.specs.Borrow.{MutBor}
use Rattle.acd_book.specs.declared.book.Book.{Ghosts}
use Rattle.acd_desk.specs.declared.desk.Desk.{Desk}
use Rattle.acd_desk.specs.Desks.DeskCalls.{DeskState, state_of}
use Rattle.acd_io.specs.declared.sending.Stopped.{Stopped}
use Rattle.acd_io.specs.SentBytes.{WasSent}
use Rattle.acd_lines.specs.Lines.{Output}
use Rattle.acd_http.specs.declared.web_request.WebRequest.{WebRequest}
use Rattle.acd_http.specs.declared.exchanging.ExchangeFault.{ExchangeFault}
use Rattle.acd_http.specs.declared.exchanging.ExchangeFault.TheVariants.{Truncated, Read, Write, NoMemory}
use Rattle.acd_http.specs.WebRequests.{Asks}
use Rattle.acd_http.specs.Exchange.{AnswersAsked}
use denote.Triple.Both.{Both}

-- how a connection ended
abbrev pub Outcome : Type 0
Outcome = Result (Unit {0}) ExchangeFault

abbrev pub fault_text : ExchangeFault → List ℕ
fault_text Truncated = codes "truncated"
fault_text Read = codes "read"
fault_text Write = codes "write"
fault_text NoMemory = codes "no memory"

-- the line that reports the fault of a connection, if there was one
unfoldable pub outcome_line : ℕ → Outcome → List ℕ
outcome_line number (Ok u) = []
outcome_line number (Err fault) = codes "acd: connection " ++ decimal number ++ codes ": " ++ fault_text fault ++ codes "\n"

-- the lines of connections, the first of which has this number
unfoldable pub outcome_lines : ℕ → List Outcome → List ℕ
outcome_lines number [] = []
outcome_lines number (x ∷ xs) = outcome_line number x ++ outcome_lines (suc number) xs

-- for private clauses: after lines that were sent as `before` says, this text was sent, as `result` says
abbrev pub PrintsText : List ℕ → Result (Unit {0}) Stopped → Output → Result (Unit {0}) Stopped → Type 0
PrintsText more before output result =
    (first : Option (List ℕ)) (text : List ℕ) → WasSent before first output.before text → WasSent result first output.after (text ++ more)

module _ {D : Type 0} (stands : D → DeskState) where
  -- something was asked at some moment, and answered
  pub record Visited (d e : D) : Type 0 where
    pub moment : ℕ
    pub input : List ℕ
    pub asked : WebRequest
    pub reply : List ℕ
    pub asks : Asks input asked
    pub answers : AnswersAsked stands moment d asked reply e

  -- one connection: it was answered, or the desk is as it was
  abbrev pub AnsweredOne : D → Outcome → D → Type 0
  AnsweredOne d (Ok u) e = Visited d e
  AnsweredOne d (Err Write) e = Visited d e
  AnsweredOne d (Err Truncated) e = e ≡ d
  AnsweredOne d (Err Read) e = e ≡ d
  AnsweredOne d (Err NoMemory) e = e ≡ d

  -- one connection after another
  abbrev pub AnsweredEach : D → List Outcome → D → Type 0
  AnsweredEach d [] e = e ≡ d
  AnsweredEach d (x ∷ xs) e = (f : D) × AnsweredOne d x f × AnsweredEach f xs e

  -- so many connections were answered, and their lines were written as is said
  pub record AnsweredAll (many : ℕ) (d e : D) (WentOut : List ℕ → Type 0) : Type 0 where
    pub outcomes : List Outcome
    pub count : length outcomes ≡ many
    pub answered : AnsweredEach d outcomes e
    pub out : WentOut (outcome_lines 1 outcomes)

  -- each of them by a desk that hadn't failed
  abbrev pub EachWell : (d : D) (xs : List Outcome) (e : D) → AnsweredEach d xs e → Type 0
  EachWell d [] e h = Unit {0}
  EachWell d (x ∷ xs) e h = ((stands d).failed ≡ false) × EachWell h.0 xs e h.2

  -- so many connections were answered, each by a desk that hadn't failed, and their lines were written as is said
  pub record AnsweredWell (many : ℕ) (d e : D) (WentOut : List ℕ → Type 0) : Type 0 where
    pub outcomes : List Outcome
    pub count : length outcomes ≡ many
    pub answered : AnsweredEach d outcomes e
    pub well : EachWell d outcomes e answered
    pub out : WentOut (outcome_lines 1 outcomes)

  -- connections were answered until the desk failed, or as many as 64 bits count
  abbrev pub AnsweredUntilFailed : D → D → (List ℕ → Type 0) → Type 0
  AnsweredUntilFailed d e WentOut = (many : ℕ) × AnsweredWell many d e WentOut × (((stands e).failed ≡ true) ⊎ (many ≡ 18446744073709551615))

-- ---- of a desk over a book, by the words of that book

-- so many connections were answered
abbrev pub SoMany : {B : Type 0} → Ghosts B → ℕ → Both (MutBor (Desk B)) (MutBor (Desk B)) → (List ℕ → Type 0) → Type 0
SoMany book many desk WentOut = AnsweredAll (state_of book) many desk.entry.now desk.exit.now WentOut

-- connections were answered until it failed
abbrev pub UntilFailed : {B : Type 0} → Ghosts B → Both (MutBor (Desk B)) (MutBor (Desk B)) → (List ℕ → Type 0) → Type 0
UntilFailed book desk WentOut = AnsweredUntilFailed (state_of book) desk.entry.now desk.exit.now WentOut
