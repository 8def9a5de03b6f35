-- The bytes that were written, and those that wait to be written.
use Rattle.std.specs.Prelude.{◌≡◌, ℕ, ◌<◌, List, ◌++◌, length, Option, Result, MatchResult}
use Rattle.std.specs.Io.KnownBytes.{Appends}

-- all of text was written, but for what waits
pub record Passes (old new : Option (List ℕ)) (waiting text : List ℕ) : Type 0 where
  pub sent : List ℕ
  pub whole : text ≡ sent ++ waiting
  pub written : Appends old new sent

-- a beginning of text was written
pub record Begins (old new : Option (List ℕ)) (text : List ℕ) : Type 0 where
  pub front : List ℕ
  pub rest : List ℕ
  pub whole : text ≡ front ++ rest
  pub written : Appends old new front

-- a beginning of text was written, and not all of it
pub record Breaks (old new : Option (List ℕ)) (text : List ℕ) : Type 0 where
  pub front : List ℕ
  pub rest : List ℕ
  pub short : 0 < length rest
  pub whole : text ≡ front ++ rest
  pub written : Appends old new front

-- all of text was written or, where the writer stopped, a beginning of it and not all
abbrev pub WasSent : {E : Type 0} → Result (Unit {0}) E → Option (List ℕ) → Option (List ℕ) → List ℕ → Type 0
WasSent result old new text = MatchResult result (λ _. Appends old new text) (λ _. Breaks old new text)

-- the same of a writer, as it was before a call and as it is after
abbrev pub Sends : {W E : Type 0} → (W → Option (List ℕ)) → W → W → Result (Unit {0}) E → List ℕ → Type 0
Sends contents old new result text = WasSent result (contents old) (contents new) text
