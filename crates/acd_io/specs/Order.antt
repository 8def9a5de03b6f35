-- The order to serve: the first line of an input that is exactly `serve`.
use Rattle.std.specs.Prelude.{◌≡◌, ℕ, List, [], ◌∷◌, ◌++◌, take, drop, Bool, true, false, not, ◌&&◌, ◌||◌, ◌==◌, nat_eq, if◌then◌else◌, codes}
use Rattle.std.specs.List.{starts_with}

-- the order is first: `serve` and a line feed, before which a carriage return may be
abbrev pub begins_order : List ℕ → Bool
begins_order bytes = starts_with nat_eq bytes (codes "serve\n") || starts_with nat_eq bytes (codes "serve\r\n")

-- they are the first bytes of an order
abbrev pub is_beginning : List ℕ → Bool
is_beginning bytes = starts_with nat_eq (codes "serve\n") bytes || starts_with nat_eq (codes "serve\r\n") bytes

-- the bytes before the order, which is a line of its own; `starts` says that they begin a line
unfoldable pub before_order : Bool → List ℕ → List ℕ
before_order starts [] = []
before_order starts (x ∷ xs) = if starts && begins_order (x ∷ xs) then [] else x ∷ before_order (x == 10) xs

-- one of their lines is the order
unfoldable pub has_order : Bool → List ℕ → Bool
has_order starts [] = false
has_order starts (x ∷ xs) = if starts && begins_order (x ∷ xs) then true else has_order (x == 10) xs

-- what tells a reader's end at the order from its end without one: no input without the order ends so
abbrev pub mark : List ℕ
mark = codes "\nserve\n"

-- the bytes before the order and, where there is one, the mark in its place
abbrev pub marked_from : Bool → List ℕ → List ℕ
marked_from starts bytes = before_order starts bytes ++ (if has_order starts bytes then mark else [])

-- so an input is, which begins a line
abbrev pub marked : List ℕ → List ℕ
marked input = marked_from true input

-- for private clauses: bytes that begin a line aren't given on
abbrev pub is_held : Bool → List ℕ → Bool
is_held ended bytes = begins_order bytes || (not ended && is_beginning bytes)

-- for private clauses: so many of these bytes were given on, and the one after them begins a line or not; after `ended` nothing follows them
abbrev pub PassesOrder : Bool → Bool → List ℕ → ℕ × Bool → Type 0
PassesOrder ended starts bytes given =
    (xs : List ℕ) → (ended ≡ true → xs ≡ []) → marked_from starts (bytes ++ xs) ≡ take given.0 bytes ++ marked_from given.1 (drop given.0 bytes ++ xs)
