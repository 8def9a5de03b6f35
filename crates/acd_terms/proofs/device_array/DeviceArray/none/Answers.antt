use Rattle.std.proofs.Common.{refl, lit<, lit≤, [], ◌∷◌}
use Rattle.acd_terms.proofs.Identifiers.{formed}
use Rattle.acd_terms.proofs.device_array.DeviceArray.none.Goals as goal

pub invariant_of-result : goal.invariant_of-result
invariant_of-result c = formed 15 (48 ∷ []) (lit≤ tt) (lit< tt) (lit≤ tt) refl
