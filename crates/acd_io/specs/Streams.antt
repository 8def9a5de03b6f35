-- What is known of a stream over a call, and what a reader held.
use Rattle.std.specs.Prelude.{◌≡◌, ℕ, List, Option, IfSome}

-- the bytes known of a reader or a writer, before a call and after it
abbrev pub across : {S : Type 0} → (S → Option (List ℕ)) → S → S → Option (List ℕ) × Option (List ℕ)
across known old new = (known old, known new)

-- an input, which is what the reader held where that is known
abbrev pub IsInput : Option (List ℕ) → List ℕ → Type 0
IsInput known input = IfSome known (λ xs. xs ≡ input)
