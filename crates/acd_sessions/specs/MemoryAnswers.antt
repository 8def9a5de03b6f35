-- The answers of a new desk in memory.
use Rattle.std.specs.Prelude.{◌≡◌, ℕ, false, List, length, Option}
use Rattle.std.specs.List.{Contains}
use Rattle.std.specs.Io.KnownBytes.{Appends}
use Rattle.acd_terms.specs.Limits.{greatest_limits}
use Rattle.acd_terms.specs.declared.command.Arrival.{Arrival}
use Rattle.acd_book.specs.Content.{Content, empty_content}
use Rattle.acd_book.specs.State.{unfailing}
use Rattle.acd_book.specs.declared.book.Book.{Ghosts}
use Rattle.acd_desk.specs.declared.taken.Taken.{Taken}
use Rattle.acd_desk.specs.declared.taken.Taken.TheVariants.{StoreFault}
use Rattle.acd_desk.specs.Contents.AcceptedArrivals.{accepted, answers_sent}
use Rattle.acd_desk.specs.Contents.SoundContent.{replies}
use Rattle.acd_desk.specs.Desks.DeskState.{DeskState, Starts}
use Rattle.acd_lines.specs.Lines.{LinesAnswered, AllLines, ArrivalsAnswered}

-- nothing was executed, under the greatest limits
abbrev pub nothing : Content
nothing = empty_content greatest_limits

-- the state of a book in memory
abbrev pub in_memory : Ghosts Content
in_memory = record { state = unfailing }

-- a desk that was just opened over a new book
pub record IsNewDesk (s : DeskState) : Type 0 where
  pub starts : Starts s
  pub works : s.failed ≡ false
  pub empty : s.book.content ≡ nothing

-- each answer is noMemory, or that of the abstract desk at its place among the arrivals that were not answered so
pub record AnsweredFromNothing (arrivals : List Arrival) (answers : List Taken) : Type 0 where
  pub even : length arrivals ≡ length answers
  pub replies : answers_sent answers ≡ replies nothing (accepted arrivals answers)
  pub no_fault : ¬ (Contains answers StoreFault)

-- the whole input, and one answer line for each of its lines
abbrev pub AnswersAll : Option (List ℕ) → Option (List ℕ) → Option (List ℕ) → Type 0
AnswersAll old_input old_output new_output = LinesAnswered (AllLines old_input) (ArrivalsAnswered AnsweredFromNothing) (Appends old_output new_output)
