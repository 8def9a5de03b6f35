-- Options as lists.
use Rattle.std.proofs.Common.{List, [], ◌∷◌, Option, Some, None}

-- an optional value, as a list
abbrev pub as_list : {T : Type 0} → Option T → List T
as_list None = []
as_list (Some x) = x ∷ []
