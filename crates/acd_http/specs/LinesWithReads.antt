-- Lines that ask what a GET asks, beside those that ask for a service.
use Rattle.std.specs.Prelude.{◌≡◌, ◌⊎◌, ℕ, List, [], ◌∷◌, ◌++◌, length, map, take, drop, Bool, ◌&&◌, nat_le, if◌then◌else◌, codes, Option, Some, None, Result, Ok, Err, OnErr}
use Rattle.std.specs.Str.{bytes_eq}
use Rattle.acd_terms.specs.declared.command.Arrival.{Arrival}
use Rattle.acd_codec.specs.declared.fault.FixedAnswer.TheVariants as fixed
use Rattle.acd_codec.specs.ReadTexts.{quoted}
use Rattle.acd_book.specs.declared.book.Book.{Ghosts}
use Rattle.acd_book.specs.Content.{Content}
use Rattle.acd_book.specs.State.{IfHonest}
use Rattle.acd_desk.specs.declared.desk.Desk.{Desk}
use Rattle.acd_desk.specs.declared.fault.DeskFault.{DeskFault}
use Rattle.acd_desk.specs.declared.taken.Taken.{Taken}
use Rattle.acd_desk.specs.Contents.Arrivals.{arrival_at}
use Rattle.acd_desk.specs.Contents.AcceptedArrivals.{accepted}
use Rattle.acd_desk.specs.Contents.SoundContent.{ran_after}
use Rattle.acd_desk.specs.Contents.AnyContent.{led}
use Rattle.acd_desk.specs.Desks.DeskState.{InStep}
use Rattle.acd_desk.specs.Desks.DeskCalls.{DeskState, state_of, IfStarted}
use Rattle.acd_desk.specs.Desks.ArrivalsAndReads.{Attended}
use Rattle.acd_desk.specs.Reads.ReadAnswers.{question_read, is_plain}
use Rattle.acd_desk.specs.declared.question.Question.{Question}
use Rattle.acd_desk.specs.declared.answer_text.AnswerText.{AnswerText}
use Rattle.acd_desk.specs.Reads.AnswerTexts.{found_said}
use Rattle.acd_lines.specs.Input.{Line, no_moment, too_long, faulty, arrival, request_read, line_asked, text_of_line}
use Rattle.acd_lines.specs.Answers.{Answers, line_text, answered_text, fixed_line}
use Rattle.acd_lines.specs.Lines.{Manner}
use Rattle.acd_lines.specs.Parts.{AnswersEach, InTurn}
use Rattle.acd_http.specs.declared.refused.Refused.{Refused}
use Rattle.acd_http.specs.Exchange.{HasRead}
use Rattle.acd_http.specs.RefusalReplies.{refused_said}
use Rattle.acd_http.specs.Lookups.{target_looked}

-- a line as without reads, or what a GET asks at a moment
pub data ReadingLine : Type 0 where
  plain : Line → ReadingLine
  get : ℕ → Result Question Refused → ReadingLine

-- the text after a moment begins as a read does
abbrev pub is_read : List ℕ → Bool
is_read text = nat_le 4 (length text) && bytes_eq (take 4 text) (codes "GET ")

abbrev pub text_asked : ℕ → List ℕ → ReadingLine
text_asked moment text = if is_read text then get moment (target_looked (drop 4 text)) else plain (request_read moment text)

-- the meaning of a line
abbrev pub reading_line_of : List ℕ → ReadingLine
reading_line_of text = line_asked (plain no_moment) (plain too_long) text_asked text

abbrev pub refused_line : Refused → List ℕ
refused_line why = line_text (refused_said why)

-- a report is printed as a JSON text
abbrev pub as_json : Bool → List ℕ → List ℕ
as_json as_text text = if as_text then quoted text else text

abbrev pub json_found : Bool → Result (Option (List ℕ)) DeskFault → Result (Option (List ℕ)) DeskFault
json_found as_text (Ok (Some text)) = Ok (Some (as_json as_text text))
json_found as_text (Ok None) = Ok None
json_found as_text (Err why) = Err why

-- the answer line to a read
abbrev pub found_line : Bool → Result (Option (List ℕ)) DeskFault → List ℕ
found_line as_text found = line_text (found_said (json_found as_text found))

-- for private clauses: an answer is the line to what was found or, where this takes memory, that there was none
abbrev pub SaysFound : AnswerText → Bool → Result (Option (List ℕ)) DeskFault → Type 0
SaysFound answer as_text found = (answered_text answer ≡ found_line as_text found) ⊎ (OnErr found ⊥ × (answered_text answer ≡ fixed_line fixed.NoMemory))

-- the answer of a content to a read, or that it can't be given
abbrev pub IsReadAnswer : Content → ℕ → Question → List ℕ → Type 0
IsReadAnswer c moment question out = (out ≡ found_line (is_plain question) (Ok (question_read c moment question))) ⊎ (out ≡ fixed_line fixed.NoMemory) ⊎ (out ≡ fixed_line fixed.StoreFault)

module _ {D : Type 0} (stands : D → DeskState) where
  -- the answer line to what was found
  abbrev pub AnswersFound : D → ℕ → Question → List ℕ → D → Type 0
  AnswersFound d moment question out e = (found : Result (Option (List ℕ)) DeskFault) × (out ≡ found_line (is_plain question) found) × HasRead stands moment d question found e

  -- a read changes nothing; there may be no memory to see what it asks
  abbrev pub AnswersRead : D → ℕ → Result Question Refused → List ℕ → D → Type 0
  AnswersRead d moment (Err why) out e = ((out ≡ refused_line why) ⊎ (out ≡ fixed_line fixed.NoMemory)) × (e ≡ d)
  AnswersRead d moment (Ok question) out e = ((out ≡ fixed_line fixed.NoMemory) × (e ≡ d)) ⊎ AnswersFound d moment question out e

  -- the desk, a line, what is written for it, and the desk after it
  abbrev pub ReadingAnswers : D → ReadingLine → List ℕ → D → Type 0
  ReadingAnswers d (plain line) out e = Answers stands d line out e
  ReadingAnswers d (get moment wanted) out e = AnswersRead d moment wanted out e

  -- the request that a line asked for, and what the desk answered to it
  abbrev pub asked_by : (d : D) (line : ReadingLine) (out : List ℕ) (e : D) → ReadingAnswers d line out e → List (Arrival × Taken)
  asked_by d (plain no_moment) out e h = []
  asked_by d (plain too_long) out e h = []
  asked_by d (plain (faulty member)) out e h = []
  asked_by d (plain (arrival moment r)) out e h = (arrival_at moment r, h.0) ∷ []
  asked_by d (get moment wanted) out e h = []

  -- each line is answered by the desk that the earlier ones left
  abbrev pub AnswersReads : D → List (List ℕ) → List (List ℕ) → D → Type 0
  AnswersReads d pieces outs e = AnswersEach reading_line_of ReadingAnswers d pieces outs e

  -- by one line after another
  abbrev pub all_asked : (d : D) (pieces outs : List (List ℕ)) (e : D) → AnswersReads d pieces outs e → List (Arrival × Taken)
  all_asked d [] [] e h = []
  all_asked d [] (out ∷ outs) e h = []
  all_asked d (piece ∷ pieces) [] e h = []
  all_asked d (piece ∷ pieces) (out ∷ outs) e h = asked_by d (reading_line_of (text_of_line piece)) out h.0 h.1 ++ all_asked h.0 pieces outs e h.2

  abbrev pub arrivals_of_reads : (d : D) (pieces outs : List (List ℕ)) (e : D) → AnswersReads d pieces outs e → List Arrival
  arrivals_of_reads d pieces outs e h = map (λ (p : Arrival × Taken). p.0) (all_asked d pieces outs e h)

  abbrev pub answers_of : (d : D) (pieces outs : List (List ℕ)) (e : D) → AnswersReads d pieces outs e → List Taken
  answers_of d pieces outs e h = map (λ (p : Arrival × Taken). p.1) (all_asked d pieces outs e h)

  -- lines leave the desk as a run of the requests among them leaves it, whatever was read between these
  abbrev pub LinesLeadToTheRun : Type 0
  LinesLeadToTheRun = (d e : D) (pieces outs : List (List ℕ)) (h : AnswersReads d pieces outs e)
      → Attended (stands d) (arrivals_of_reads d pieces outs e h) (answers_of d pieces outs e h) (stands e)

  -- lines were answered, and after them a read
  pub record ReadAfterLines (d f : D) : Type 0 where
    pub pieces : List (List ℕ)
    pub outs : List (List ℕ)
    -- the desk that the lines left
    pub between : D
    pub lines : AnswersReads d pieces outs between
    pub moment : ℕ
    pub question : Question
    pub out : List ℕ
    -- the read was answered by it
    pub read : ReadingAnswers between (get moment (Ok question)) out f

  -- the requests among the lines that were kept and accepted
  abbrev pub accepted_before : (d f : D) → ReadAfterLines d f → List Arrival
  accepted_before d f r = accepted (arrivals_of_reads d r.pieces r.outs r.between r.lines) (answers_of d r.pieces r.outs r.between r.lines)

  -- what these made of the content before them, and their run from it
  abbrev pub led_before : (d f : D) → ReadAfterLines d f → Content
  led_before d f r = led (stands d).book.content (accepted_before d f r)

  abbrev pub run_before : (d f : D) → ReadAfterLines d f → Content
  run_before d f r = ran_after (stands d).book.content (accepted_before d f r)

  -- the read was answered from this content
  abbrev pub IsReadFrom : (d f : D) → ReadAfterLines d f → Content → Type 0
  IsReadFrom d f r c = IsReadAnswer c r.moment r.question r.out

  -- this is said where the book was open before the lines, in step with its desk, and is open at the read
  abbrev pub IfOpen : (d f : D) → ReadAfterLines d f → Type 0 → Type 0
  IfOpen d f r P = IfHonest (stands d).book (stands f).book ((stands d).book.is_open → InStep (stands d) → (stands r.between).book.is_open → P)

  -- a read after lines gives what the requests among them made of the content, where the book is open, or answers a fault
  abbrev pub ReadsAnswerByTheContent : Type 0
  ReadsAnswerByTheContent = (d f : D) (r : ReadAfterLines d f) → IfOpen d f r (IsReadFrom d f r (led_before d f r))

  -- which is their run, where it was sound
  abbrev pub ReadsAnswerByTheRun : Type 0
  ReadsAnswerByTheRun = (d f : D) (r : ReadAfterLines d f) → IfStarted (stands d) (stands f) ((stands r.between).book.is_open → IsReadFrom d f r (run_before d f r))

-- lines and the reads among them were answered in turn, from one desk over a book to another
abbrev pub ReadInTurn : {B : Type 0} → Ghosts B → Desk B → Desk B → List (List ℕ) → List (List ℕ) → Type 0
ReadInTurn book d e = InTurn reading_line_of (ReadingAnswers (state_of book)) d e

-- they are answered so
abbrev pub by_reads : {B : Type 0} → Ghosts B → Bool → Manner (Desk B)
by_reads book ends = record { stands = state_of book; Answered = ReadInTurn book; ends = ends }

-- for private clauses: at a moment this was asked, of a desk over a book, and this is the answer
abbrev pub AnswersReadWith : {B : Type 0} → Ghosts B → ℕ × Result Question Refused → Desk B → AnswerText → Desk B → Type 0
AnswersReadWith book asked d answer e = AnswersRead (state_of book) d asked.0 asked.1 (answered_text answer) e
