-- Parts that compare equal are equal.
use Rattle.std.proofs.Common.{◌≡◌, ℕ, Bool, true, false, List, [], ◌∷◌, Option, Some, None, true≢false, sym, refl, ap, ap₂, ◌&&◌, ◌==◌, eqb-true}
use Rattle.std.specs.Option.{option_eq}
use Rattle.std.specs.Str.{bytes_eq}
use Rattle.std.specs.Cmp.Lexicographic.{same_text, pointwise}

-- two tests that both pass
pub two : {a b : Bool} → (a && b) ≡ true → (a ≡ true) × (b ≡ true)
two {a = true} {b = true} h = (refl, refl)
two {a = true} {b = false} h = (refl, h)
two {a = false} {b = b} h = (h, absurd (true≢false (sym h)))

-- lists of numbers, as texts and groups are
pub numbers : (s t : List ℕ) → bytes_eq s t ≡ true → s ≡ t
numbers s t h = same_text s t (sym h)

pub same_list : {T : Type 0} (E : T → T → Bool) → ((x y : T) → E x y ≡ true → x ≡ y) → (xs ys : List T) → pointwise E xs ys ≡ true → xs ≡ ys
same_list E same [] [] h = refl
same_list E same [] (y ∷ ys) h = absurd (true≢false (sym h))
same_list E same (x ∷ xs) [] h = absurd (true≢false (sym h))
same_list E same (x ∷ xs) (y ∷ ys) h = let both = two h in ap₂ (λ z zs. z ∷ zs) (same x y both.0) (same_list E same xs ys both.1)

pub option_same : {A : Type 0} (e : A → A → Bool) → ((x y : A) → e x y ≡ true → x ≡ y) → (x y : Option A) → option_eq e x y ≡ true → x ≡ y
option_same e exact None None h = refl
option_same e exact None (Some y) h = absurd (true≢false (sym h))
option_same e exact (Some x) None h = absurd (true≢false (sym h))
option_same e exact (Some x) (Some y) h = ap Some (exact x y h)

pub number_same : (x y : Option ℕ) → option_eq ◌==◌ x y ≡ true → x ≡ y
number_same = option_same ◌==◌ eqb-true
