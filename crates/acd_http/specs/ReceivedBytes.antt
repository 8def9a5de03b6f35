-- For private clauses: the bytes read so far of an input.
use Rattle.std.specs.Prelude.{◌≡◌, ℕ, ◌<◌, ◌≤◌, List, [], ◌++◌, length, take, Bool, true, false, Option, Some, None, Result, MatchResult}
use Rattle.std.specs.Io.KnownBytes.{Consumes, IsAtEnd, Keeps}
use Rattle.acd_io.specs.declared.sending.Stopped.{Stopped}
use Rattle.acd_http.specs.Head.{head_len}

-- `seen` are the bytes read before a call and after it, `left` what the reader has left before and after

-- bytes were read once more, none at the end of the input alone
abbrev pub ReadMore : List ℕ × List ℕ → Option (List ℕ) × Option (List ℕ) → Bool → Type 0
ReadMore seen left more = (bytes : List ℕ) × Consumes left.0 left.1 bytes × (seen.1 ≡ seen.0 ++ bytes) × (more ≡ false → IsAtEnd left.1 × (bytes ≡ []))

-- they were, or reading stopped, and nothing was
abbrev pub Filled : List ℕ × List ℕ → Option (List ℕ) × Option (List ℕ) → Result Bool Stopped → Type 0
Filled seen left result = MatchResult result (λ more. ReadMore seen left more) (λ _. (seen.1 ≡ seen.0) × Keeps left.0 left.1)

-- the length of a head in what was read; where none has ended, so much was read as a head may have, or all
abbrev pub HeadIn : Option ℕ → List ℕ → Option (List ℕ) → Type 0
HeadIn (Some n) now left = (head_len (take 8192 now) ≡ Some n) × (n ≤ 8192) × (n ≤ length now)
HeadIn None now left = (head_len (take 8192 now) ≡ None) × (length now < 8192 → IsAtEnd left)

pub record Found (found : Option ℕ) (now : List ℕ) (old new : Option (List ℕ)) : Type 0 where
  pub read : Consumes old new now
  pub head : HeadIn found now new

-- so many bytes have come, or the input is at its end
abbrev pub IsRead : Bool → ℕ → List ℕ → Option (List ℕ) → Type 0
IsRead true len now left = len ≤ length now
IsRead false len now left = (length now < len) × IsAtEnd left

-- reading stopped, and no head has ended in what was read, nor was so much read as a head may have
pub record StopsInHead (now : List ℕ) (old new : Option (List ℕ)) : Type 0 where
  pub read : Consumes old new now
  pub none : head_len (take 8192 now) ≡ None
  pub short : length now < 8192

-- the result of reading a head
abbrev pub HeadRead : List ℕ → Option (List ℕ) × Option (List ℕ) → Result (Option ℕ) Stopped → Type 0
HeadRead now left result = MatchResult result (λ found. Found found now left.0 left.1) (λ _. StopsInHead now left.0 left.1)

pub record BodyFound (whole : Bool) (len : ℕ) (seen : List ℕ × List ℕ) (left : Option (List ℕ) × Option (List ℕ)) : Type 0 where
  pub more : List ℕ
  pub read : Consumes left.0 left.1 more
  pub grown : seen.1 ≡ seen.0 ++ more
  pub end : IsRead whole len seen.1 left.1

-- reading stopped before so many bytes came
pub record StopsInBody (len : ℕ) (seen : List ℕ × List ℕ) (left : Option (List ℕ) × Option (List ℕ)) : Type 0 where
  pub more : List ℕ
  pub read : Consumes left.0 left.1 more
  pub grown : seen.1 ≡ seen.0 ++ more
  pub short : length seen.1 < len

-- the result of reading a body
abbrev pub BodyRead : ℕ → List ℕ × List ℕ → Option (List ℕ) × Option (List ℕ) → Result Bool Stopped → Type 0
BodyRead len seen left result = MatchResult result (λ whole. BodyFound whole len seen left) (λ _. StopsInBody len seen left)
