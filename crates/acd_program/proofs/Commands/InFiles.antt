-- A task, by the work over a connection to files: what it leaves.
use Rattle.std.proofs.Common.{ℕ, List, [], Option, subst, append-nil}
use Rattle.std.specs.Io.KnownBytes.{Appends}
use Rattle.std.proofs.KnownBytes.{Appends-trans}

pub appends_nothing : (a b c : Option (List ℕ)) (text : List ℕ) → Appends a b text → Appends b c [] → Appends a c text
appends_nothing a b c text first second = subst (λ (x : List ℕ). Appends a c x) (append-nil text) (Appends-trans a b c text [] first second)
