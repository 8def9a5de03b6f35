-- The groups of an agent: at most eight devices in ascending number.
use Rattle.std.specs.Prelude.{ℕ, Bool, ◌&&◌, ◌||◌, ◌==◌, nat_le, List, [], ◌∷◌, length, Option, Some, None, option_and_then, if◌then◌else◌}
use Rattle.std.specs.List.{list_any}
use Rattle.std.specs.Ordering.{nat_cmp}
use Rattle.acd_terms.specs.Lists.{ascends, put_by}

-- the most groups of an agent
abbrev pub most_groups : ℕ
most_groups = 8

-- the number is one of these
abbrev pub is_one_of : List ℕ → ℕ → Bool
is_one_of gs d = list_any (λ (g : ℕ). g == d) gs

-- at most eight, in ascending number
abbrev pub are_groups : List ℕ → Bool
are_groups gs = nat_le (length gs) most_groups && ascends nat_cmp gs

-- one to eight of them
abbrev pub is_choice : List ℕ → Bool
is_choice gs = nat_le 1 (length gs) && are_groups gs

-- the one of least number
abbrev pub least_group : List ℕ → Option ℕ
least_group [] = None
least_group (g ∷ gs) = Some g

-- all but the one of least number
abbrev pub further_groups : List ℕ → List ℕ
further_groups [] = []
further_groups (g ∷ gs) = gs

-- the one, where there is just one
abbrev pub only_group : List ℕ → Option ℕ
only_group (g ∷ []) = Some g
only_group _ = None

-- with one more in its place, where it isn't there and fewer than eight are
unfoldable pub with_one_more : List ℕ → ℕ → Option (List ℕ)
with_one_more gs d = if nat_le most_groups (length gs) || is_one_of gs d then None else Some (put_by (nat_cmp d) gs d)

-- with all of these, in whatever order they come
abbrev pub with_all : List ℕ → List ℕ → Option (List ℕ)
with_all gs [] = Some gs
with_all gs (d ∷ ds) = option_and_then (λ (more : List ℕ). with_all more ds) (with_one_more gs d)

-- the same, where there is one at least
abbrev pub some_of : List ℕ → Option (List ℕ)
some_of [] = None
some_of (g ∷ gs) = Some (g ∷ gs)
