-- What a call gives, if it gives anything.
use Rattle.std.specs.Prelude.{◌≡◌, List, Vec, Result, IfOk}

-- its list, where there is one, is this
abbrev pub GivesList : {T Z E : Type 0} → Result (Vec T Z) E → List T → Type 0
GivesList {T = T} {Z = Z} result items = IfOk result (λ (found : Vec T Z). found.items ≡ items)
