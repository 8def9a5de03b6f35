-- Look-ups, puts and filters in a list whose records are rewritten in a way that no test sees, and what is made of the record found.
use Rattle.std.proofs.Common.{◌≡◌, Bool, true, false, cond, List, [], ◌∷◌, Option, Some, None, refl, ap, map}
use Rattle.std.specs.Prelude.{filter, find, option_map}
use Rattle.std.specs.declared.cmp.Ordering.{Ordering}
use Rattle.std.specs.declared.cmp.Ordering.TheVariants.{Less, Equal, Greater}
use Rattle.std.specs.Ordering.{is_eq, match_ordering}
use Rattle.acd_lemmas.proofs.Words.{find_by, put_by}

module _ {T S : Type 0} (f : T → S) where
  -- by a key: a rewritten record compares with it as the record does
  pub find_by-map : (at : S → Ordering) (by : T → Ordering) → ((x : T) → at (f x) ≡ by x) → (xs : List T) → find_by at (map f xs) ≡ option_map f (find_by by xs)
  find_by-map at by h [] = refl
  find_by-map at by h (x ∷ xs) =
      rw (h x) (elim (is_eq (by x)) as (λ b. cond b (Some (f x)) (find_by at (map f xs)) ≡ option_map f (cond b (Some x) (find_by by xs))) [
        | true ↦ refl
        | false ↦ find_by-map at by h xs
      ])

  pub put_by-map : (at : S → Ordering) (by : T → Ordering) → ((x : T) → at (f x) ≡ by x) → (r : T) (xs : List T)
      → put_by at (map f xs) (f r) ≡ map f (put_by by xs r)
  put_by-map at by h r [] = refl
  put_by-map at by h r (x ∷ xs) =
      rw (h x) (elim (by x) as (λ o. match_ordering o (f r ∷ f x ∷ map f xs) (f r ∷ map f xs) (f x ∷ put_by at (map f xs) (f r))
      ≡ map f (match_ordering o (r ∷ x ∷ xs) (r ∷ xs) (x ∷ put_by by xs r))) [
        | Less ↦ refl
        | Equal ↦ refl
        | Greater ↦ ap (λ l. f x ∷ l) (put_by-map at by h r xs)
      ])

  -- by a test: a rewritten record passes p where the record passes q
  pub find-map : (p : S → Bool) (q : T → Bool) → ((x : T) → p (f x) ≡ q x) → (xs : List T) → find p (map f xs) ≡ option_map f (find q xs)
  find-map p q h [] = refl
  find-map p q h (x ∷ xs) = rw (h x) (elim (q x) as (λ b. cond b (Some (f x)) (find p (map f xs)) ≡ option_map f (cond b (Some x) (find q xs))) [
    | true ↦ refl
    | false ↦ find-map p q h xs
  ])

  pub filter-map : (p : S → Bool) (q : T → Bool) → ((x : T) → p (f x) ≡ q x) → (xs : List T) → filter p (map f xs) ≡ map f (filter q xs)
  filter-map p q h [] = refl
  filter-map p q h (x ∷ xs) =
      rw (h x) (elim (q x) as (λ b. cond b (f x ∷ filter p (map f xs)) (filter p (map f xs)) ≡ map f (cond b (x ∷ filter q xs) (filter q xs))) [
        | true ↦ ap (λ l. f x ∷ l) (filter-map p q h xs)
        | false ↦ filter-map p q h xs
      ])

  pub of-option_map : {A : Type 0} (k : Option S → A) (h : Option T → A) → k None ≡ h None → ((x : T) → k (Some (f x)) ≡ h (Some x)) → (o : Option T)
      → k (option_map f o) ≡ h o
  of-option_map k h none some None = none
  of-option_map k h none some (Some x) = some x
