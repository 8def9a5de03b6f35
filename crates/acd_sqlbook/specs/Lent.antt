-- What a call is lent, as a clause has it by the name of a parameter.
use Rattle.std.specs.Borrow.{Bor, MutBor}
use Rattle.sqlite_trees.specs.declared.store.Store.{Ghosts}
use Rattle.sqlite.specs.Held.{Held, state}
use Rattle.sqlite.specs.State.{State}
use denote.Triple.Both.{Both}

-- to be changed: as it is before the call, and as it is left
abbrev pub Lent : Type 0 → Type 0
Lent A = Both (MutBor A) (MutBor A)

-- to be read
abbrev pub Shown : Type 0 → Type 0
Shown A = Both (Bor A) (Bor A)

-- the state of a connection before the call, and after it
abbrev pub state_before : {S : Type 0} → Ghosts S → Lent (Held S) → State
state_before g conn = state g conn.entry.now

abbrev pub state_after : {S : Type 0} → Ghosts S → Lent (Held S) → State
state_after g conn = state g conn.exit.now
