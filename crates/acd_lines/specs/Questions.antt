-- What lines may ask, by all that this says of itself; and for private clauses, how far they were answered.
use Rattle.std.specs.Prelude.{◌≡◌, ℕ, List, [], Bool, Result, MatchResult}
use Rattle.acd_book.specs.declared.book.Book.{Ghosts as Books}
use Rattle.acd_desk.specs.declared.desk.Desk.{Desk}
use Rattle.acd_desk.specs.Desks.DeskCalls.{state_of}
use Rattle.acd_io.specs.declared.sending.Stopped.{Stopped}
use Rattle.acd_lines.specs.declared.answering.Answering.{Ghosts}
use Rattle.acd_lines.specs.Input.{line_asked}
use Rattle.acd_lines.specs.declared.fault.LinesFault.{LinesFault}
use Rattle.acd_lines.specs.Lines.{Manner, LinesDone}
use Rattle.acd_lines.specs.WaitingBytes.{OverCall, between}
use Rattle.acd_lines.specs.Conversing.{LineTurn, Hearing}
use Rattle.acd_lines.specs.Parts.{AnswerPushed, InTurn, Feeds, FeedStops, Finishes, FinishStops, text_kept}

module _ {A B : Type 0} (lines : Ghosts A B) where
  -- the question of a line's text
  abbrev pub question : List ℕ → lines.Asked
  question text = line_asked lines.unmarked lines.long lines.read text

  -- the questions of lines are answered in turn, from one desk to another
  abbrev pub TakesTurns : Desk B → Desk B → List (List ℕ) → List (List ℕ) → Type 0
  TakesTurns d e pieces outs = InTurn question lines.answers d e pieces outs

  -- lines are answered so
  abbrev pub by_questions : Books B → Bool → Manner (Desk B)
  by_questions book ends = record { stands = state_of book; Answered = TakesTurns; ends = ends }

  -- a line of this text was answered, and its answer was pushed
  abbrev pub LineAnswered : List ℕ → OverCall (Desk B) → Result (Unit {0}) Stopped → Type 0
  LineAnswered text over result = AnswerPushed lines.answers (question text) over result

  -- a line that ended in these bytes was, of which a part was kept
  abbrev pub LineEnded : List ℕ → LineTurn (Desk B) → Result (Unit {0}) Stopped → Type 0
  LineEnded end turn result = LineAnswered (text_kept turn.old.kept end) (between turn.old turn.new) result

  -- Of a line a part was kept before these bytes, and a part is kept after them: they were used,
  abbrev pub FedTo : List ℕ → LineTurn (Desk B) → Type 0
  FedTo bytes turn = Feeds question lines.answers turn.old turn.new bytes

  -- and nothing waits
  abbrev pub FedWhole : List ℕ → LineTurn (Desk B) → Type 0
  FedWhole bytes turn = (turn.new.waiting ≡ []) × FedTo bytes turn

  -- the writer stopped in them
  abbrev pub FedPart : List ℕ → LineTurn (Desk B) → Type 0
  FedPart bytes turn = FeedStops question lines.answers turn.old turn.new bytes

  -- the one or the other
  abbrev pub Fed : List ℕ → LineTurn (Desk B) → Result (Unit {0}) Stopped → Type 0
  Fed bytes turn result = MatchResult result (λ _. FedWhole bytes turn) (λ _. FedPart bytes turn)

  -- the input is at its end, and was answered to it
  abbrev pub FinishedWhole : LineTurn (Desk B) → Type 0
  FinishedWhole turn = Finishes question lines.answers turn.old turn.new

  -- the writer stopped there
  abbrev pub FinishedPart : LineTurn (Desk B) → Type 0
  FinishedPart turn = FinishStops question lines.answers turn.old turn.new

  -- the one or the other
  abbrev pub Finished : LineTurn (Desk B) → Result (Unit {0}) Stopped → Type 0
  Finished turn result = MatchResult result (λ _. FinishedWhole turn) (λ _. FinishedPart turn)

  -- so the lines that were heard were answered
  abbrev pub Conversed : Books B → Bool → Hearing (Desk B) → Result (Unit {0}) LinesFault → Type 0
  Conversed book ends hearing result = LinesDone (state_of book) TakesTurns ends hearing.io hearing.old hearing.new result
