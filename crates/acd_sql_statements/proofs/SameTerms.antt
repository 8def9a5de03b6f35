-- Terms that are the same at some roots.
use Rattle.std.proofs.Common.{◌≡◌, ℕ, zero, suc, ◌<◌, true, List, [], ◌∷◌, length, map, get_or, arith}
use Rattle.std.proofs.lemmas.Bool.{and_parts}
use Rattle.sqlite_sql.specs.Term.{Term}
use Rattle.acd_lemmas.proofs.Lists.{head_is, tail_is}
use Rattle.acd_sql_statements.specs.ComparedSchemas.{is_plain_term, are_plain_terms}

pub each_same : {X Y : Type 0} (f g : X → Y) (xs ys : List X) (i : ℕ) (d e : X) → i < length xs → i < length ys → map f xs ≡ map g ys
    → f (get_or xs i d) ≡ g (get_or ys i e)
each_same f g [] ys i d e low under h = absurd (omega (arith, low))
each_same f g (x ∷ xs) [] i d e low under h = absurd (omega (arith, under))
each_same f g (x ∷ xs) (y ∷ ys) zero d e low under h = head_is (f x) (g y) (map f xs) (map g ys) h
each_same f g (x ∷ xs) (y ∷ ys) (suc i) d e low under h =
    each_same f g xs ys i d e (omega (arith, low)) (omega (arith, under)) (tail_is (f x) (g y) (map f xs) (map g ys) h)

pub plain_at : {X : Type 0} (g : X → Term) (ys : List X) (i : ℕ) (e : X) → i < length ys → are_plain_terms (map g ys) ≡ true
    → is_plain_term (g (get_or ys i e)) ≡ true
plain_at g [] i e low h = absurd (omega (arith, low))
plain_at g (y ∷ ys) zero e low h = (and_parts (is_plain_term (g y)) (are_plain_terms (map g ys)) h).0
plain_at g (y ∷ ys) (suc i) e low h = plain_at g ys i e (omega (arith, low)) (and_parts (is_plain_term (g y)) (are_plain_terms (map g ys)) h).1
