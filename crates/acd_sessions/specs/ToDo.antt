-- What was to be done, and how that ended.
use Rattle.std.specs.Prelude.{Result, MatchResult}

-- what is so where it is done, and what is left where a fault ended it
pub record ToDo (A F : Type 0) : Type 1 where
  pub Done : A → Type 0
  pub Left : F → Type 0

-- it ended so
abbrev pub Ended : {A F : Type 0} → ToDo A F → Result A F → Type 0
Ended to_do result = MatchResult result to_do.Done to_do.Left

-- the same, by what came back of that over which it was to be done
abbrev pub EndedWith : {A F B : Type 0} → (B → ToDo A F) → Result A F × B → Type 0
EndedWith to_do result = MatchResult result.0 (to_do result.1).Done (to_do result.1).Left
