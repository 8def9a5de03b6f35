-- Bytes that begin with an order, or may.
use Rattle.std.proofs.Common.{◌≡◌, ℕ, Bool, true, false, ◌&&◌, ◌||◌, nat_eq, List, [], ◌∷◌, ◌++◌, refl, sym, ap, ◌∙◌, subst, append-nil, codes}
use Rattle.std.proofs.lemmas.Bool.{true≢false, eqb-true, eq-eqb}
use Rattle.std.specs.List.{starts_with}
use Rattle.acd_io.specs.Order.{begins_order, is_beginning, is_held}

-- bytes that begin so do it whatever follows
begins_more : (p w xs : List ℕ) → starts_with nat_eq w p ≡ true → starts_with nat_eq (w ++ xs) p ≡ true
begins_more [] w xs h = refl
begins_more (a ∷ p) [] xs h = absurd (true≢false (sym h))
begins_more (a ∷ p) (b ∷ w) xs h = elim (nat_eq a b) as (λ c. (c && starts_with nat_eq w p) ≡ true → (c && starts_with nat_eq (w ++ xs) p) ≡ true) [
  | false ↦ λ h. absurd (true≢false (sym h))
  | true ↦ λ h. begins_more p w xs h
] h

same_test : (a b : ℕ) → nat_eq a b ≡ true → nat_eq b a ≡ true
same_test a b h = eq-eqb b a (sym (eqb-true a b h))

-- and those that don't, and aren't a beginning of it, never do
begins_never : (p w xs : List ℕ) → starts_with nat_eq w p ≡ false → starts_with nat_eq p w ≡ false → starts_with nat_eq (w ++ xs) p ≡ false
begins_never [] w xs h k = absurd (true≢false h)
begins_never (a ∷ p) [] xs h k = absurd (true≢false k)
begins_never (a ∷ p) (b ∷ w) xs h k = elim (nat_eq a b) as (λ c. nat_eq a b ≡ c → (c && starts_with nat_eq w p) ≡ false → (c && starts_with nat_eq (w ++ xs) p) ≡ false) [
  | false ↦ λ e h. refl
  | true ↦ λ e h. begins_never p w xs h (subst (λ (c : Bool). (c && starts_with nat_eq p w) ≡ false) (same_test a b e) k)
] refl h

either_true : (a b c d : Bool) → (a ≡ true → c ≡ true) → (b ≡ true → d ≡ true) → (a || b) ≡ true → (c || d) ≡ true
either_true true b c d f g h = ap (λ (x : Bool). x || d) (f refl)
either_true false true true d f g h = refl
either_true false true false d f g h = g refl
either_true false false c d f g h = absurd (true≢false (sym h))

pub both_false : (a b : Bool) → (a || b) ≡ false → (a ≡ false) × (b ≡ false)
both_false true b h = absurd (true≢false h)
both_false false b h = (refl, h)

neither : (a b : Bool) → a ≡ false → b ≡ false → (a || b) ≡ false
neither true b h k = h
neither false b h k = k

pub order_more : (w xs : List ℕ) → begins_order w ≡ true → begins_order (w ++ xs) ≡ true
order_more w xs h =
    either_true (starts_with nat_eq w (codes "serve\n")) (starts_with nat_eq w (codes "serve\r\n")) (starts_with nat_eq (w ++ xs) (codes "serve\n")) (starts_with nat_eq (w ++ xs) (codes "serve\r\n"))
    (begins_more (codes "serve\n") w xs) (begins_more (codes "serve\r\n") w xs) h

order_never : (w xs : List ℕ) → begins_order w ≡ false → is_beginning w ≡ false → begins_order (w ++ xs) ≡ false
order_never w xs h k =
    let a = both_false (starts_with nat_eq w (codes "serve\n")) (starts_with nat_eq w (codes "serve\r\n")) h in
    let b = both_false (starts_with nat_eq (codes "serve\n") w) (starts_with nat_eq (codes "serve\r\n") w) k in
    neither (starts_with nat_eq (w ++ xs) (codes "serve\n")) (starts_with nat_eq (w ++ xs) (codes "serve\r\n")) (begins_never (codes "serve\n") w xs a.0 b.0) (begins_never (codes "serve\r\n") w xs a.1 b.1)

-- bytes that aren't held don't begin with an order, whatever follows; after `ended` nothing does
pub not_held : (ended : Bool) (w xs : List ℕ) → (ended ≡ true → xs ≡ []) → is_held ended w ≡ false → begins_order (w ++ xs) ≡ false
not_held true w xs none h = subst (λ (l : List ℕ). begins_order l ≡ false) (sym (ap (λ (l : List ℕ). w ++ l) (none refl) ∙ append-nil w)) (both_false (begins_order w) false h).0
not_held false w xs none h = let parts = both_false (begins_order w) (is_beginning w) h in order_never w xs parts.0 parts.1

pub not_stopped : (starts ended : Bool) (w xs : List ℕ) → (ended ≡ true → xs ≡ []) → (starts && is_held ended w) ≡ false → (starts && begins_order (w ++ xs)) ≡ false
not_stopped false ended w xs none h = refl
not_stopped true ended w xs none h = not_held ended w xs none h
