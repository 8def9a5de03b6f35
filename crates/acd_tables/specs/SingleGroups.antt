-- One group, seen as a list.
use Rattle.std.specs.Prelude.{List, [], ◌∷◌}
use Rattle.acd_terms.specs.Numbers.{Device}

-- the first of the groups, or the number of no group
abbrev pub first_or_none : List Device → Device
first_or_none [] = 0
first_or_none (g ∷ gs) = g
