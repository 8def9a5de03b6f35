-- The end of the head of a request, and how many lines it has.
use Rattle.std.specs.Prelude.{ℕ, suc, ◌+◌, List, [], ◌∷◌, Bool, true, false, ◌==◌, if◌then◌else◌, Option, Some, None, option_map}
use Rattle.acd_http.specs.declared.head.Place.{Place}
use Rattle.acd_http.specs.declared.head.Place.TheVariants.{Start, Return, Other}

-- a line that ends here is empty: there is nothing in it, or one carriage return
abbrev pub is_empty_at : Place → Bool
is_empty_at Start = true
is_empty_at Return = true
is_empty_at Other = false

-- the place after a byte that is no line feed
abbrev pub head_place_after : Place → ℕ → Place
head_place_after Start x = if x == 13 then Return else Other
head_place_after Return x = Other
head_place_after Other x = Other

-- The length up to and with the first empty line after one that isn't empty. `some` says whether one has come that isn't, and the place is that in the line.
unfoldable pub head_from : Bool → Place → List ℕ → Option ℕ
head_from some place [] = None
head_from some place (x ∷ xs) =
    if x == 10 then (if is_empty_at place then (if some then Some 1 else option_map suc (head_from false Start xs)) else option_map suc (head_from true Start xs))
    else option_map suc (head_from some (head_place_after place x) xs)

-- the length of the head, where it has come whole
abbrev pub head_len : List ℕ → Option ℕ
head_len bytes = head_from false Start bytes

-- how many lines that aren't empty end in the bytes, from that place in a line
unfoldable pub lines_from : Place → List ℕ → ℕ
lines_from place [] = 0
lines_from place (x ∷ xs) = if x == 10 then (if is_empty_at place then lines_from Start xs else 1 + lines_from Start xs) else lines_from (head_place_after place x) xs

abbrev pub lines_in : List ℕ → ℕ
lines_in bytes = lines_from Start bytes
