-- What is written in one line.
use Rattle.std.specs.Prelude.{ℕ, List, ◌∷◌, [], ◌++◌, decimal}

-- a number between two texts
abbrev pub number_text : List ℕ → ℕ → List ℕ → List ℕ
number_text front number back = front ++ (decimal number ++ back)

-- a line that ends in a number
abbrev pub number_line : List ℕ → ℕ → List ℕ
number_line front number = front ++ (decimal number ++ 10 ∷ [])

abbrev pub text_line : List ℕ → List ℕ → List ℕ
text_line front text = front ++ (text ++ 10 ∷ [])
