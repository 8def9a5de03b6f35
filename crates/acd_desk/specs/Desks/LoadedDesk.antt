-- For private clauses: a desk that has its switch in memory, or has loaded it.
use Rattle.std.specs.Prelude.{◌≡◌, ◌⊎◌, false, Some, None, Result, MatchResult}
use Rattle.acd_terms.specs.declared.rows.Rows.{Rows}
use Rattle.acd_model.specs.Rules.First.{BreaksNoRule}
use Rattle.acd_book.specs.declared.book.Book.{Ghosts}
use Rattle.acd_desk.specs.declared.desk.Desk.{Desk}
use Rattle.acd_desk.specs.declared.fault.DeskFault.{DeskFault}
use Rattle.acd_desk.specs.Desks.DeskCalls.{DeskState, state_of}
use Rattle.acd_desk.specs.Reads.BookReads.{Reread}
use Rattle.acd_desk.specs.Reads.DeskReads.{ReadFailed}

-- the switch is in memory; it was there, or it was loaded
pub record Brought (old new : DeskState) : Type 0 where
  pub reread : Reread old new
  pub works : new.failed ≡ false
  pub rows : Rows
  pub loaded : new.switch ≡ Some rows
  pub rules : BreaksNoRule rows
  pub kept : (old.switch ≡ None) ⊎ (old.switch ≡ new.switch)

-- it wasn't there, and a read of the book failed
abbrev pub BringsNone : DeskState → DeskFault → DeskState → Type 0
BringsNone old fault new = (old.switch ≡ None) × ReadFailed old fault new

abbrev pub DeskBrings : {B : Type 0} → Ghosts B → Desk B → Result (Unit {0}) DeskFault → Desk B → Type 0
DeskBrings book old result new = MatchResult result (λ u. Brought (state_of book old) (state_of book new)) (λ fault. BringsNone (state_of book old) fault (state_of book new))
