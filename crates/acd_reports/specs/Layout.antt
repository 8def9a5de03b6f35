-- Lines of columns.
use Rattle.std.specs.Prelude.{◌≡◌, ℕ, ◌-◌, List, ◌∷◌, ◌++◌, length, map, replicate, codes, decimal, Option, Some, None, Result, OnOk, String, string_bytes}
use Rattle.std.specs.List.{concat}

-- a text at the left of a column, or at its right; a text that is longer than its column remains as it is
abbrev pub left_aligned : ℕ → List ℕ → List ℕ
left_aligned width text = text ++ replicate (width - length text) 32

abbrev pub right : ℕ → List ℕ → List ℕ
right width text = replicate (width - length text) 32 ++ text

-- a number, or a hyphen where there is none
abbrev pub number_or_hyphen : Option ℕ → List ℕ
number_or_hyphen (Some n) = decimal n
number_or_hyphen None = codes "-"

-- texts at the right of their columns, each column after a space
abbrev pub columns_text : List (ℕ × List ℕ) → List ℕ
columns_text columns = concat (map (λ c. 32 ∷ right c.0 c.1) columns)

-- the numbers of such columns as texts
abbrev pub numbers_as_texts : List (ℕ × Option ℕ) → List (ℕ × List ℕ)
numbers_as_texts numbers = map (λ (n : ℕ × Option ℕ). (n.0, number_or_hyphen n.1)) numbers

-- such columns as they are written
abbrev pub numbers_text : List (ℕ × Option ℕ) → List ℕ
numbers_text numbers = columns_text (numbers_as_texts numbers)

-- the text is put after what the string held, unless memory ran out
abbrev pub Appends : {E : Type 0} {Z : Type 0} → Result (Unit {0}) E → String Z → String Z → List ℕ → Type 0
Appends r old new text = OnOk r (string_bytes new ≡ string_bytes old ++ text)
