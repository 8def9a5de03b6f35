-- Moves made on the tables.
use Rattle.std.specs.Prelude.{◌≡◌, ℕ, ◌++◌, List, Vec, Result, OnOk}
use Rattle.std.specs.Borrow.{MutBor}
use Rattle.acd_terms.specs.declared.rows.Rows.{Rows}
use Rattle.acd_terms.specs.declared.event.Event.{Event}
use Rattle.acd_terms.specs.declared.command.Command.{Command}
use Rattle.acd_terms.specs.declared.command.Turn.{Turn}
use Rattle.acd_model.specs.declared.moves.Move.{Move}
use Rattle.acd_model.specs.Moves.{moved, events_of}
use Rattle.acd_model.specs.ServiceAnswers.{moves_of}
use Rattle.acd_model.specs.Services.Serve.{serve}
use denote.Triple.Both.{Both}

-- what the command asks for in a turn is carried out by these moves; there are none where it is refused
abbrev pub moves_for : Command → Rows → Turn → List Move
moves_for command s turn = moves_of (serve s turn command)

-- the moves are made at the moment: they change the rows of the tables, and their events follow the earlier ones
pub record AreMade {Z : Type 0} (m : ℕ) (moves : List Move) (tables : Both (MutBor Rows) (MutBor Rows))
    (reports : Both (MutBor (Vec Event Z)) (MutBor (Vec Event Z))) : Type 0 where
  pub rows : tables.exit.now ≡ moved tables.entry.now moves
  pub events : reports.exit.now.items ≡ reports.entry.now.items ++ events_of m moves

-- the list goes on with these, unless memory ran out
abbrev pub ExtendsList : {E T Z : Type 0} → Result (Unit {0}) E → Vec T Z → Vec T Z → List T → Type 0
ExtendsList r old new more = OnOk r (new.items ≡ old.items ++ more)
