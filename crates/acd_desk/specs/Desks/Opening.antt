-- Opening a desk over a book: what it leaves.
use Rattle.std.specs.Prelude.{◌≡◌, false, Some, Result, MatchResult}
use Rattle.acd_model.specs.Rules.First.{first_broken, BreaksNoRule}
use Rattle.acd_switch.specs.declared.row_fault.RowFault.{RowFault}
use Rattle.acd_switch.specs.declared.row_fault.RowFault.TheVariants as row
use Rattle.acd_book.specs.declared.fault.BookFault.{BookFault}
use Rattle.acd_book.specs.declared.fault.BookFault.TheVariants as book
use Rattle.acd_book.specs.declared.book.Book.{Ghosts}
use Rattle.acd_book.specs.Content.{IsCounted, Within, HasRisen}
use Rattle.acd_book.specs.State.{BookState, IfHonest, BookStep, Unchanged}
use Rattle.acd_desk.specs.declared.open_fault.OpenFault.{OpenFault}
use Rattle.acd_desk.specs.declared.open_fault.OpenFault.TheVariants as fault
use Rattle.acd_desk.specs.declared.desk.Desk.{Desk}
use Rattle.acd_desk.specs.Contents.SoundContent.{IsSound}
use Rattle.acd_desk.specs.Contents.CarriedContent.{Archive, together}
use Rattle.acd_desk.specs.Desks.DeskState.{DeskState, InStep, StartsWith, state_of}

-- a desk with the rows of its book, which break no rule
pub record Opened (old : BookState) (new : DeskState) : Type 0 where
  -- no failure was counted
  pub step : BookStep ⊥ old new.book
  pub opened : IfHonest old new.book (old.is_open × new.book.is_open × (new.book.content ≡ old.content) × (new.switch ≡ Some old.content.rows))
  pub working : new.failed ≡ false
  pub stops : IfHonest old new.book (Within new.book.stops old.stops)
  pub keeps : IfHonest old new.book (Within old.stops new.book.stops)
  pub accepts : IfHonest old new.book (BreaksNoRule old.content.rows)
  -- it is in step with any content whose counters are up to its records
  pub in_step : IfHonest old new.book (IsCounted old.content → InStep new)
  -- so with one that is sound, by itself or with its archive
  pub starts : (p : Archive) → IfHonest old new.book (IsSound (together p old.content) → StartsWith p new)

-- the book answered its rows: it is open, and they break this rule first
abbrev pub RefusesBy : BookState → OpenFault → BookState → Type 0
RefusesBy old (fault.Rows rule) new = old.is_open × new.is_open × (new.content ≡ old.content) × (first_broken old.content.rows ≡ Some rule)
RefusesBy old fault.NoMemory new = Unit {0}
RefusesBy old fault.Store new = Unit {0}

-- why a book without rows makes no desk
abbrev pub by_book : BookFault → OpenFault
by_book book.NoMemory = fault.NoMemory
by_book book.Store = fault.Store

-- why rows make no desk
abbrev pub by_rows : RowFault → OpenFault
by_rows (row.Broken rule) = fault.Rows rule
by_rows row.NoMemory = fault.NoMemory

-- no rule is broken
abbrev pub IsNoRule : OpenFault → Type 0
IsNoRule (fault.Rows rule) = ⊥
IsNoRule fault.NoMemory = Unit {0}
IsNoRule fault.Store = Unit {0}

-- no desk, and the book that comes back
pub record Refused (old : BookState) (why : OpenFault) (new : BookState) : Type 0 where
  pub step : BookStep (why ≡ fault.Store) old new
  pub unchanged : Unchanged old new
  pub keeps : IfHonest old new (new.is_open → Within old.stops new.stops)
  pub refuses : IfHonest old new (RefusesBy old why new)
  -- a content that is sound, by itself or with its archive, is never refused
  pub well : (p : Archive) → IfHonest old new (IsSound (together p old.content) → IsNoRule why)
  -- a failure was counted where the store has failed
  pub cause : why ≡ fault.Store → HasRisen old.failures new.failures

-- a desk over the book; or none, and the book comes back
abbrev pub Opens : {B : Type 0} → Ghosts B → B → Result (Desk B) (OpenFault × B) → Type 0
Opens {B} words old result = MatchResult result
    (λ (desk : Desk B). Opened (words.state old) (state_of words desk))
    (λ refused. Refused (words.state old) refused.0 (words.state refused.1))
