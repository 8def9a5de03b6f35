use Rattle.std.proofs.Common.{◌≡◌, ◌∷◌, take}
use Rattle.std.specs.Str.Parse.{digits_value}
use Rattle.acd_terms.proofs.id.number_of.Given as goal

abbrev pub invariant-loop-b : goal.invariant-loop-b
invariant-loop-b l = l.number ≡ digits_value 10 (49 ∷ take l.b-index l.digits)
