-- For private clauses: bytes that are written by way of the waiting ones.
use Rattle.std.specs.Prelude.{◌≡◌, ℕ, List, [], ◌++◌, Option, Result, MatchResult}
use Rattle.std.specs.Borrow.{MutBor}
use Rattle.std.specs.declared.io.Write as write
use Rattle.acd_io.specs.declared.sending.Stopped.{Stopped}
use Rattle.acd_io.specs.SentBytes.{Passes, Breaks}
use Rattle.acd_lines.specs.declared.outbox.Outbox.{Outbox}
use denote.Triple.Both.{Both}

-- a writer over a call, and an outbox before it: what the writer had before and has after, each where that is known; what waited, and what waits
pub record Outgoing : Type 0 where
  pub old_output : Option (List ℕ)
  pub new_output : Option (List ℕ)
  pub waited : List ℕ
  pub waits : List ℕ

-- by the names of their parameters, which have both values
abbrev pub outgoing : {W : Type 0} → write.Ghosts W → Both (MutBor W) (MutBor W) → Both (MutBor Outbox) (MutBor Outbox) → Outgoing
outgoing says writer outbox = record {
  old_output = says.contents writer.entry.now;
  new_output = says.contents writer.exit.now;
  waited = outbox.entry.now.waiting.items;
  waits = outbox.exit.now.waiting.items;
}

-- a desk, and an outbox and its writer, over a call: the desk before and after, and the two
pub record OverCall (S : Type 0) : Type 0 where
  pub old : S
  pub new : S
  pub out : Outgoing

-- a conversation at a moment: its desk, what is kept of a line that has not ended, what waits, and what the writer has, where that is known
pub record Talk (S : Type 0) : Type 0 where
  pub desk : S
  pub kept : List ℕ
  pub waiting : List ℕ
  pub output : Option (List ℕ)

-- from one to another, where what is kept doesn't matter
abbrev pub between : {S : Type 0} → Talk S → Talk S → OverCall S
between old new = record {
  old = old.desk;
  new = new.desk;
  out = record { old_output = old.output; new_output = new.output; waited = old.waiting; waits = new.waiting };
}

-- what waited, and then this text, was written but for what waits or, where the writer stopped, a beginning of it and not all
abbrev pub Pushed : Result (Unit {0}) Stopped → Outgoing → List ℕ → Type 0
Pushed result out text = MatchResult result (λ _. Passes out.old_output out.new_output out.waits (out.waited ++ text)) (λ _. Breaks out.old_output out.new_output (out.waited ++ text))

-- all that waited was written, and nothing waits or, where the writer stopped, a beginning of it was and not all
abbrev pub Flushed : Result (Unit {0}) Stopped → Outgoing → Type 0
Flushed result out = MatchResult result (λ _. (out.waits ≡ []) × Passes out.old_output out.new_output [] out.waited) (λ _. Breaks out.old_output out.new_output out.waited)
