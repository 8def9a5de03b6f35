-- Results that differ.
use Rattle.std.proofs.Common.{◌≡◌, Result, Ok, Err}

-- a value that was found is no error
pub ok_err : {A E : Type 0} {found : A} {e : E} → ◌≡◌ {A = Result A E} (Ok found) (Err e) → ⊥
ok_err h = cc

pub same_error : {A E : Type 0} {e f : E} → ◌≡◌ {A = Result A E} (Err e) (Err f) → e ≡ f
same_error h = cc
