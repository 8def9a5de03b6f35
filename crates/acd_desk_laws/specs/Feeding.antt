-- A log that is fed to a desk in parts, some of them again, and what the desk makes of it.
use Rattle.std.specs.Prelude.{◌≡◌, ℕ, ◌+◌, ◌<◌, ◌≤◌, max, List, [], ◌∷◌, ◌++◌, length, take, drop}
use Rattle.acd_terms.specs.declared.rows.Limits.{Limits}
use Rattle.acd_terms.specs.declared.command.Arrival.{Arrival}
use Rattle.acd_desk.specs.Contents.AbstractDesk.{firsts, desk_run}
use Rattle.acd_desk.specs.Contents.Replies.{reply_to}

-- the arrivals by parts of the log, one after the other: each begins at the place that was reached, or at an earlier one
pub data IsFed (log : List Arrival) : ℕ → List Arrival → Type 0 where
  nothing : IsFed log 0 []
  part : (reached : ℕ) (fed : List Arrival) → IsFed log reached fed → (place count : ℕ) → place ≤ reached → IsFed log (max reached (place + count)) (fed ++ take count (drop place log))

-- a part that is fed again adds nothing, whatever follows
abbrev pub AgainAddsNothing : Type 0
AgainAddsNothing = (limit : ℕ) (a b c : List Arrival) → firsts limit (a ++ b ++ b ++ c) ≡ firsts limit (a ++ b ++ c)

-- a desk that was fed parts of a log holds the run of the log, as far as it was reached
abbrev pub FedHoldsTheLog : Type 0
FedHoldsTheLog = (limits : Limits) (log : List Arrival) (reached : ℕ) (fed : List Arrival) → IsFed log reached fed → desk_run limits fed ≡ desk_run limits (take reached log)

-- desks that were fed these give the same answer to the request at each place of the log that both have reached
abbrev pub AnswerAlike : Limits → List Arrival → ℕ → ℕ → List Arrival → List Arrival → Type 0
AnswerAlike limits log here there mine yours =
    (before : List Arrival) (a : Arrival) (rest : List Arrival) → log ≡ before ++ a ∷ rest → length before < here → length before < there
    → reply_to limits mine a.request ≡ reply_to limits yours a.request

-- so do two desks that were fed one log
abbrev pub DesksAgree : Type 0
DesksAgree = (limits : Limits) (log : List Arrival) (here there : ℕ) (mine yours : List Arrival) → IsFed log here mine → IsFed log there yours
    → AnswerAlike limits log here there mine yours
