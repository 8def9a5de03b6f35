-- The bytes read of an input.
use Rattle.std.proofs.Common.{◌≡◌, ℕ, List, [], ◌++◌, take, Option, Some, None, refl, sym, ap, ◌∙◌, subst, append-nil}
use Rattle.std.specs.Io.KnownBytes.{Consumes, Keeps, IsAtEnd}
use Rattle.std.proofs.KnownBytes.{Consumes-trans, Consumes-whole}
use Rattle.acd_io.specs.Streams.{IsInput}

pub no_bytes : (n : ℕ) (xs : List ℕ) → n ≡ 0 → take n xs ≡ []
no_bytes n xs e = ap (λ (k : ℕ). take k xs) e

-- the bytes consumed up to the end are the input
pub input_ended : (a b c : Option (List ℕ)) (seen buf : List ℕ) (n : ℕ) → Consumes a b seen → Consumes b c (take n buf) → n ≡ 0 → IsAtEnd c → IsInput a seen
input_ended a b c seen buf n h k e last =
    Consumes-whole a c seen (λ (xs : List ℕ). xs ≡ seen) (subst (λ (l : List ℕ). Consumes a c l) (ap (λ (l : List ℕ). seen ++ l) (no_bytes n buf e) ∙ append-nil seen) (Consumes-trans a b c seen (take n buf) h k)) last refl

-- the bytes consumed begin the input
pub input_begun : (a b : Option (List ℕ)) (seen : List ℕ) → Consumes a b seen → (more : List ℕ) × IsInput a (seen ++ more)
input_begun None b seen h = ([], tt)
input_begun (Some xs) None seen h = absurd h
input_begun (Some xs) (Some ys) seen h = (ys, h)

-- bytes that were read where there were none before
pub kept_then : (a b c : Option (List ℕ)) (bs : List ℕ) → Keeps a b → Consumes b c bs → Consumes a c bs
kept_then None b c bs h k = tt
kept_then (Some xs) None c bs h k = absurd h
kept_then (Some xs) (Some ys) None bs h k = k
kept_then (Some xs) (Some ys) (Some zs) bs h k = sym h ∙ k
