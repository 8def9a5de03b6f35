-- Two lists of the same members, each once, are one in another order.
use Rattle.std.proofs.Common.{◌≡◌, ◌⊎◌, inl, inr, List, [], ◌∷◌, ◌++◌, map, refl, sym, subst, ap}
use Rattle.std.specs.List.{AllByRecursion}
use Rattle.std.specs.List.Sorted.{IsPermutation}
use Rattle.std.proofs.lemmas.List.Sorted.{IsPermutation-refl, IsPermutation-cons, IsPermutation-sym, IsPermutation-trans, IsPermutation-middle}
use Rattle.sqlite_trees.specs.Tree.{IsAscending}
use Rattle.sqlite_rules.specs.Lists.{Has}
use Rattle.sqlite_rules.proofs.ListLemmas.{all_has, all_from, has_left, has_right, has_either}
use Rattle.sqlite_keyed.proofs.ListLemmas.{all_map}

module _ {X : Type 0} where
  abbrev pub Differ : X → X → Type 0
  Differ a b = a ≡ b → ⊥

  -- each member once
  abbrev pub AreApart : List X → Type 0
  AreApart = IsAscending Differ

  -- of images that differ where the members follow one another
  pub apart_under : {A : Type 0} {S : A → A → Type 0} (f : A → X) (xs : List A) → ((a b : A) → Has xs a → Has xs b → S a b → Differ (f a) (f b))
      → IsAscending S xs → AreApart (map f xs)
  apart_under f [] so up = tt
  apart_under {S = S} f (a ∷ xs) so up = (
    all_map (Differ (f a)) f xs (all_from (λ b. Differ (f a) (f b)) xs (λ b k. so a b (inl refl) (inr k) (all_has (S a) xs b up.0 k))),
    apart_under f xs (λ b c p q. so b c (inr p) (inr q)) up.1,
  )

  -- its place
  place : (ys : List X) (x : X) → Has ys x → (front : List X) × (back : List X) × (ys ≡ front ++ x ∷ back)
  place [] x h = absurd h
  place (y ∷ ys) x (inl e) = ([], ys, ap (λ z. z ∷ ys) (sym e))
  place (y ∷ ys) x (inr h) = let found = place ys x h in (y ∷ found.0, found.1, ap (λ l. y ∷ l) found.2)

  module _ (x : X) (back : List X) where
    there : (front : List X) (y : X) → Has (front ++ back) y → Has (front ++ x ∷ back) y
    there front y h = elim (has_either front back y h) [ inl k ↦ has_left front (x ∷ back) y k | inr k ↦ has_right front (x ∷ back) y (inr k) ]

    here : (front : List X) → Has (front ++ x ∷ back) x
    here front = has_right front (x ∷ back) x (inl refl)

    other : (front : List X) (y : X) → Has (front ++ x ∷ back) y → (y ≡ x) ⊎ Has (front ++ back) y
    other front y h = elim (has_either front (x ∷ back) y h) [
      | inl k ↦ inr (has_left front back y k)
      | inr k ↦ elim k [ inl e ↦ inl e | inr m ↦ inr (has_right front back y m) ]
    ]

    shorter : (P : X → Type 0) (front : List X) → AllByRecursion P (front ++ x ∷ back) → AllByRecursion P (front ++ back)
    shorter P [] all = all.1
    shorter P (y ∷ front) all = (all.0, shorter P front all.1)

    apart_left : (front : List X) → AreApart (front ++ x ∷ back) → AreApart (front ++ back)
    apart_left [] up = up.1
    apart_left (y ∷ front) up = (shorter (Differ y) front up.0, apart_left front up.1)

    not_there : (front : List X) → AreApart (front ++ x ∷ back) → Has (front ++ back) x → ⊥
    not_there [] up h = all_has (Differ x) back x up.0 h refl
    not_there (y ∷ front) up (inl e) = all_has (Differ y) (front ++ x ∷ back) x up.0 (here front) (sym e)
    not_there (y ∷ front) up (inr h) = not_there front up.1 h

  pub same_members : (xs ys : List X) → AreApart xs → AreApart ys → ((x : X) → Has xs x → Has ys x) → ((x : X) → Has ys x → Has xs x) → IsPermutation xs ys
  same_members [] [] p q f g = IsPermutation-refl []
  same_members [] (y ∷ ys) p q f g = absurd (g y (inl refl))
  same_members (x ∷ xs) ys p q f g =
      let at = place ys x (f x (inl refl)) in
      let front = at.0 in
      let back = at.1 in
      let apart : AreApart (front ++ x ∷ back) = subst AreApart at.2 q in
      let rest = same_members xs (front ++ back) p.1 (apart_left x back front apart)
      (λ y h. elim (other x back front y (subst (λ l. Has l y) at.2 (f y (inr h)))) [ inl e ↦ absurd (all_has (Differ x) xs y p.0 h (sym e)) | inr k ↦ k ])
      (λ y h. elim (g y (subst (λ l. Has l y) (sym at.2) (there x back front y h))) [
        | inl e ↦ absurd (not_there x back front apart (subst (Has (front ++ back)) e h))
        | inr k ↦ k
      ]) in
      subst (IsPermutation (x ∷ xs)) (sym at.2)
      (IsPermutation-trans _ _ _ (IsPermutation-cons x _ _ rest) (IsPermutation-sym _ _ (IsPermutation-middle front x back)))
