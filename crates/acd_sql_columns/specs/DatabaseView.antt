-- The view that a read between transactions has of a database, whatever that holds.
use Rattle.std.specs.Prelude.{◌≡◌, Result, IfOk, OnOk, IsTrue}
use Rattle.sqlite.specs.Effect.{Database, IsDatabase}
use Rattle.sqlite.specs.State.{State, HasCleanDisk}
use Rattle.sqlite.specs.declared.error.Error.{Error}
use Rattle.acd_sql_columns.specs.Transactions.{NoStop}

-- between transactions: the connection is open, and this is its database
pub record HasDatabase (s : State) (d : Database) : Type 0 where
  pub is_open : IsTrue s.is_open
  pub now : s.now ≡ d
  pub committed : s.committed ≡ d

-- it changes nothing, but that a failure may shut the connection, and its answer is true of this database
pub record Sees {A : Type 0} (d : Database) (old new : State) (result : Result A Error) (IsAnswer : A → Type 0) : Type 0 where
  pub clean : HasCleanDisk new → HasCleanDisk old
  pub was_open : HasCleanDisk new → IsTrue new.is_open → IsTrue old.is_open
  pub up : HasCleanDisk new → HasDatabase old d → OnOk result (IsTrue new.is_open)
  pub same : HasCleanDisk new → HasDatabase old d → IsTrue new.is_open → HasDatabase new d
  pub stops : HasCleanDisk new → HasDatabase old d → NoStop old new
  pub answer : HasCleanDisk new → HasDatabase old d → IfOk result IsAnswer

-- a look at a connection that is in no transaction
pub record HasLooked {A : Type 0} (old new : State) (result : Result A Error) (IsAnswer : Database → A → Type 0) : Type 0 where
  pub seen : Sees old.now old new result (IsAnswer old.now)
  pub up : HasCleanDisk new → OnOk result (IsTrue new.is_open)
  pub settled : IsTrue old.is_open → old.now ≡ old.committed
  pub obeys : IsTrue old.is_open → IsDatabase old.now
  pub stops : HasCleanDisk new → NoStop old new
