-- Bytes of ASCII are text.
use Rattle.std.proofs.lemmas.Str.{IsUtf8-from_ascii}
use Rattle.std.specs.Str.{IsUtf8}
use Rattle.std.specs.Result.{IsOk, MatchResult}
use Rattle.std.proofs.Common.{Result, Ok, Err, get_or, lit<, zero, suc, ◌≡◌, ℕ, ◌<◌, true, List, [], ◌∷◌, refl, arith}
use Rattle.std.proofs.lemmas.Bool.Decides.{nat_tests}
use Rattle.std.proofs.lemmas.Bool.{and_parts}
use Rattle.std.specs.List.{list_all}
use Rattle.std.specs.Char.{is_ascii}

at_each : (xs : List ℕ) → list_all is_ascii xs ≡ true → (i : ℕ) → get_or xs i 0 < 128
at_each [] e i = lit< tt
at_each (x ∷ xs) e zero = let both = and_parts (is_ascii x) (list_all is_ascii xs) e in grind (arith, nat_tests, both.0)
at_each (x ∷ xs) e (suc i) = at_each xs (and_parts (is_ascii x) (list_all is_ascii xs) e).1 i

pub utf8_ascii : (xs : List ℕ) → list_all is_ascii xs ≡ true → IsUtf8 xs
utf8_ascii xs e = IsUtf8-from_ascii xs (at_each xs e)

pub ok_utf8 : {T E : Type 0} (r : Result T E) (P : T → Type 0) (Q : E → Type 0) → MatchResult r P Q → ((e : E) → Q e → ⊥) → IsOk r
ok_utf8 (Ok x) P Q h never = refl
ok_utf8 (Err e) P Q h never = absurd (never e h)
