-- Lines that ask for services alone: what they leave.
use Rattle.std.specs.Prelude.{ℕ, List}
use Rattle.acd_book.specs.declared.book.Book.{Ghosts}
use Rattle.acd_desk.specs.declared.desk.Desk.{Desk}
use Rattle.acd_desk.specs.Desks.DeskCalls.{state_of}
use Rattle.acd_lines.specs.Answers.{Answers}
use Rattle.acd_lines.specs.Input.{line_of}
use Rattle.acd_lines.specs.Lines.{RunInTurn}
use Rattle.acd_lines.specs.Parts.{InTurn}

-- requests that were answered in turn are a run of the desk over the arrivals among their lines
abbrev pub RequestsRun : {B : Type 0} → Ghosts B → Type 0
RequestsRun {B} book = (old new : Desk B) (lines outs : List (List ℕ)) → InTurn line_of (Answers (state_of book)) old new lines outs → RunInTurn book old new lines outs
