-- Moves that a step carries out.
use Rattle.std.specs.Prelude.{◌≡◌, ℕ, ◌++◌, List, Result}
use Rattle.std.specs.Borrow.{MutBor}
use Rattle.acd_terms.specs.declared.rows.Rows.{Rows}
use Rattle.acd_terms.specs.declared.command.Turn.{Turn}
use Rattle.acd_model.specs.declared.moves.Move.{Move}
use Rattle.acd_model.specs.Moves.{moved, events_of}
use Rattle.acd_model.specs.Changes.{changes_of, growth}
use Rattle.acd_services.specs.MovesOnTables.{ExtendsList}
use Rattle.acd_switch.specs.declared.journal.Journal.{Journal}
use denote.Triple.Both.{Both}

-- the moves are made at the moment: they change the rows, and the journal continues with their events and their changes
pub record CarriesOut (m : ℕ) (moves : List Move) (old : Rows) (before : Journal) (new : Rows) (after : Journal) : Type 0 where
  pub rows : new ≡ moved old moves
  pub events : after.events.items ≡ before.events.items ++ events_of m moves
  pub changes : after.changes.items ≡ before.changes.items ++ changes_of moves

-- the same of tables and journal by the names of the parameters, which have both values
abbrev pub Carries : ℕ → List Move → Both (MutBor Rows) (MutBor Rows) → Both (MutBor Journal) (MutBor Journal) → Type 0
Carries m moves tables journal = CarriesOut m moves tables.entry.now journal.entry.now tables.exit.now journal.exit.now

-- and of the moves that the rows ask for in a turn
abbrev pub CarriesAt : Turn → (Rows → Turn → List Move) → Both (MutBor Rows) (MutBor Rows) → Both (MutBor Journal) (MutBor Journal) → Type 0
CarriesAt turn moves tables journal = Carries turn.moment (moves tables.entry.now turn) tables journal

-- the changes of the journal go on with those by which the groups grow, as its events count
abbrev pub RecordsGrowth : {E : Type 0} → Result (Unit {0}) E → Rows → Journal → Journal → Type 0
RecordsGrowth r s old new = ExtendsList r old.changes new.changes (growth s old.events.items)
