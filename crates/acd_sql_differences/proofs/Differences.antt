-- Two lists in ascending key, compared in one pass, give each difference once and in order.
use Rattle.std.proofs.Common.{◌≡◌, inl, inr, Bool, true, false, cond, List, [], ◌∷◌, map, refl, sym, ap, subst, ◌∙◌}
use Rattle.std.specs.Cmp.{IsTotalOrder}
use Rattle.std.specs.declared.cmp.Ordering.{Ordering}
use Rattle.std.specs.declared.cmp.Ordering.TheVariants.{Less, Equal, Greater}
use Rattle.std.specs.Ordering.{match_ordering, ordering_reverse, is_eq}
use Rattle.std.proofs.lemmas.Cmp.{tied_itself}
use Rattle.acd_terms.specs.Lists.{Among, Every, AllAfter, IsAscending, put_by, remove_by}
use Rattle.acd_lemmas.proofs.Lists.{after_among, after_lower, after_same}
use Rattle.acd_sql_differences.specs.DifferenceSteps.{Step, gone, put, record_of_step, stepped_list, IsNoKey, IsOtherRecord, AreSteps, replaced, merged_from, merged}

module _ {T : Type 0} where
  is_gone : Step T → Bool
  is_gone (gone x) = true
  is_gone (put y) = false

  gone_not_put : (x y : T) → gone x ≡ put y → ⊥
  gone_not_put x y e = let k = ap is_gone e in cc

  gone_is : (x y : T) → gone x ≡ gone y → x ≡ y
  gone_is x y e = ap record_of_step e

  put_is : (x y : T) → put x ≡ put y → x ≡ y
  put_is x y e = ap record_of_step e

  put_among : (z : T) (ys : List T) → Among (put z) (map put ys) → Among z ys
  put_among z [] a = absurd a
  put_among z (y ∷ ys) (inl e) = inl (put_is z y e)
  put_among z (y ∷ ys) (inr a) = inr (put_among z ys a)

  among_put : (z : T) (ys : List T) → Among z ys → Among (put z) (map put ys)
  among_put z [] a = absurd a
  among_put z (y ∷ ys) (inl e) = inl (ap put e)
  among_put z (y ∷ ys) (inr a) = inr (among_put z ys a)

  gone_among : (z : T) (ys : List T) → Among (gone z) (map put ys) → ⊥
  gone_among z [] a = a
  gone_among z (y ∷ ys) (inl e) = gone_not_put z y e
  gone_among z (y ∷ ys) (inr a) = gone_among z ys a

module _ {T : Type 0} (cmp : T → T → Ordering) (total : IsTotalOrder cmp) (same : T → T → Bool) where
  turned : (x y : T) (o : Ordering) → cmp x y ≡ o → cmp y x ≡ ordering_reverse o
  turned x y o e = total.antisymm y x ∙ ap ordering_reverse e

  -- ---- in order

  abbrev Later : T → Step T → Type 0
  Later z s = cmp z (record_of_step s) ≡ Less

  later : (z : T) (xs : List T) → AllAfter cmp z xs → Every (λ x. cmp z x ≡ Less) xs
  later z [] h = tt
  later z (x ∷ xs) h = (h.0, later z xs h.1)

  -- a property of all records is one of those of the steps
  module _ (P : T → Type 0) where
    every_put : (ys : List T) → Every P ys → Every (λ s. P (record_of_step s)) (map put ys)
    every_put [] h = tt
    every_put (y ∷ ys) h = (h.0, every_put ys h.1)

    every_merged : (x : T) (rest : List T → List (Step T)) → P x → ((ys : List T) → Every P ys → Every (λ s. P (record_of_step s)) (rest ys)) → (ys : List T)
        → Every P ys → Every (λ s. P (record_of_step s)) (merged_from cmp same x rest ys)
    every_merged x rest p more [] h = (p, more [] tt)
    every_merged x rest p more (y ∷ ys) h = go (cmp x y) (every_merged x rest p more ys h.1)
      where
        either : (b : Bool) → Every (λ s. P (record_of_step s)) (cond b (rest ys) (put y ∷ rest ys))
        either true = more ys h.1
        either false = (h.0, more ys h.1)

        go : (o : Ordering) → Every (λ s. P (record_of_step s)) (merged_from cmp same x rest ys)
            → Every (λ s. P (record_of_step s)) (match_ordering o (gone x ∷ rest (y ∷ ys)) (replaced same x y (rest ys)) (put y ∷ merged_from cmp same x rest ys))
        go Less ih = (p, more (y ∷ ys) h)
        go Equal ih = either (same y x)
        go Greater ih = (h.0, ih)

    every_step : (held new : List T) → Every P held → Every P new → Every (λ s. P (record_of_step s)) (merged cmp same held new)
    every_step [] new h k = every_put new k
    every_step (x ∷ held) new h k = every_merged x (merged cmp same held) h.0 (λ ys l. every_step held ys h.1 l) new k

  after_steps : (z : T) (held new : List T) → AllAfter cmp z held → AllAfter cmp z new → Every (Later z) (merged cmp same held new)
  after_steps z held new h k = every_step (λ x. cmp z x ≡ Less) held new (later z held h) (later z new k)

  abbrev by_record : Step T → Step T → Ordering
  by_record a b = cmp (record_of_step a) (record_of_step b)

  all_later : (s : Step T) (steps : List (Step T)) → Every (Later (record_of_step s)) steps → AllAfter by_record s steps
  all_later s [] h = tt
  all_later s (t ∷ steps) h = (h.0, all_later s steps h.1)

  -- y comes before the records of a list whose first is after it, or equals it
  module _ (x y : T) (xs : List T) (up : AllAfter cmp x xs) where
    before_all : cmp x y ≡ Greater → AllAfter cmp y xs
    before_all e = after_lower cmp total y x (turned x y Greater e) xs up

    level_all : cmp x y ≡ Equal → AllAfter cmp y xs
    level_all e = after_same cmp total y x (turned x y Equal e) xs up

  ascending_put : (ys : List T) → IsAscending cmp ys → IsAscending by_record (map put ys)
  ascending_put [] up = tt
  ascending_put (y ∷ ys) up = (all_later (put y) (map put ys) (every_put (λ x. cmp y x ≡ Less) ys (later y ys up.0)), ascending_put ys up.1)

  ascending_merged : (x : T) (held : List T) → AllAfter cmp x held → ((ys : List T) → IsAscending cmp ys → IsAscending by_record (merged cmp same held ys))
      → (new : List T) → IsAscending cmp new
      → IsAscending by_record (merged cmp same (x ∷ held) new)
  ascending_merged x held low more [] up = (all_later (gone x) (merged cmp same held []) (after_steps x held [] low tt), more [] tt)
  ascending_merged x held low more (y ∷ ys) up = go (cmp x y) refl (ascending_merged x held low more ys up.1)
    where
      either : (b : Bool) → cmp x y ≡ Equal → IsAscending by_record (cond b (merged cmp same held ys) (put y ∷ merged cmp same held ys))
      either true e = more ys up.1
      either false e = (all_later (put y) (merged cmp same held ys) (after_steps y held ys (level_all x y held low e) up.0), more ys up.1)

      go : (o : Ordering) → cmp x y ≡ o → IsAscending by_record (merged cmp same (x ∷ held) ys)
          → IsAscending by_record
          (match_ordering o (gone x ∷ merged cmp same held (y ∷ ys)) (replaced same x y (merged cmp same held ys)) (put y ∷ merged cmp same (x ∷ held) ys))
      go Less e ih =
          (all_later (gone x) (merged cmp same held (y ∷ ys)) (after_steps x held (y ∷ ys) low (e, after_lower cmp total x y e ys up.0)), more (y ∷ ys) up)
      go Equal e ih = either (same y x) e
      go Greater e ih =
          let first = turned x y Greater e in
          (all_later (put y) (merged cmp same (x ∷ held) ys) (after_steps y (x ∷ held) ys (first, before_all x y held low e) up.0), ih)

  pub ascending_steps : (held new : List T) → IsAscending cmp held → IsAscending cmp new → IsAscending by_record (merged cmp same held new)
  ascending_steps [] new h k = ascending_put new k
  ascending_steps (x ∷ held) new h k = ascending_merged x held h.0 (λ ys l. ascending_steps held ys h.1 l) new k

  -- ---- made

  abbrev begins : T → List (Step T) → Type 0
  begins z = Every (Later z)

  passes_put : (z y : T) (xs : List T) → cmp z y ≡ Less → put_by (cmp y) (z ∷ xs) y ≡ z ∷ put_by (cmp y) xs y
  passes_put z y xs e = ap (λ o. match_ordering o (y ∷ z ∷ xs) (y ∷ xs) (z ∷ put_by (cmp y) xs y)) (turned z y Less e)

  passes_gone : (z x : T) (xs : List T) → cmp z x ≡ Less → remove_by (cmp x) (z ∷ xs) ≡ z ∷ remove_by (cmp x) xs
  passes_gone z x xs e = ap (λ o. cond (is_eq o) xs (z ∷ remove_by (cmp x) xs)) (turned z x Less e)

  -- steps after a record leave it where it is
  past : (z : T) (xs : List T) (steps : List (Step T)) → begins z steps → stepped_list cmp (z ∷ xs) steps ≡ z ∷ stepped_list cmp xs steps
  past z xs [] h = refl
  past z xs (gone x ∷ steps) h = ap (λ l. stepped_list cmp l steps) (passes_gone z x xs h.0) ∙ past z (remove_by (cmp x) xs) steps h.1
  past z xs (put y ∷ steps) h = ap (λ l. stepped_list cmp l steps) (passes_put z y xs h.0) ∙ past z (put_by (cmp y) xs y) steps h.1

  equal_itself : (x : T) → is_eq (cmp x x) ≡ true
  equal_itself x = ap is_eq (tied_itself total x)

  first_gone : (x : T) (xs : List T) → remove_by (cmp x) (x ∷ xs) ≡ xs
  first_gone x xs = ap (λ b. cond b xs (x ∷ remove_by (cmp x) xs)) (equal_itself x)

  module _ (exact : (x y : T) → same x y ≡ true → x ≡ y) where
    made_put : (new : List T) → IsAscending cmp new → stepped_list cmp [] (map put new) ≡ new
    made_put [] up = refl
    made_put (y ∷ ys) up = past y [] (map put ys) (every_put (λ x. cmp y x ≡ Less) ys (later y ys up.0)) ∙ ap (λ l. y ∷ l) (made_put ys up.1)

    made_merged : (x : T) (held : List T) → AllAfter cmp x held → ((ys : List T) → IsAscending cmp ys → stepped_list cmp held (merged cmp same held ys) ≡ ys)
        → (new : List T) → IsAscending cmp new
        → stepped_list cmp (x ∷ held) (merged cmp same (x ∷ held) new) ≡ new
    made_merged x held low more [] up = ap (λ l. stepped_list cmp l (merged cmp same held [])) (first_gone x held) ∙ more [] tt
    made_merged x held low more (y ∷ ys) up = go (cmp x y) refl (made_merged x held low more ys up.1)
      where
        either : (b : Bool) → same y x ≡ b → cmp x y ≡ Equal
            → stepped_list cmp (x ∷ held) (cond b (merged cmp same held ys) (put y ∷ merged cmp same held ys)) ≡ y ∷ ys
        either true k e =
            let is = exact y x k in
            past x held (merged cmp same held ys) (after_steps x held ys low (subst (λ z. AllAfter cmp z ys) is up.0)) ∙ ap (λ l. x ∷ l) (more ys up.1)
            ∙ ap (λ z. z ∷ ys) (sym is)
        either false k e =
            ap (λ o. stepped_list cmp (match_ordering o (y ∷ x ∷ held) (y ∷ held) (x ∷ put_by (cmp y) held y)) (merged cmp same held ys)) (turned x y Equal e)
            ∙ past y held (merged cmp same held ys) (after_steps y held ys (level_all x y held low e) up.0) ∙ ap (λ l. y ∷ l) (more ys up.1)

        go : (o : Ordering) → cmp x y ≡ o → stepped_list cmp (x ∷ held) (merged cmp same (x ∷ held) ys) ≡ ys
            → stepped_list cmp (x
            ∷ held) (match_ordering o (gone x ∷ merged cmp same held (y ∷ ys)) (replaced same x y (merged cmp same held ys))
            (put y ∷ merged cmp same (x ∷ held) ys))
            ≡ y ∷ ys
        go Less e ih = ap (λ l. stepped_list cmp l (merged cmp same held (y ∷ ys))) (first_gone x held) ∙ more (y ∷ ys) up
        go Equal e ih = either (same y x) refl e
        go Greater e ih =
            let first = turned x y Greater e in
            ap (λ o. stepped_list cmp (match_ordering o (y ∷ x ∷ held) (y ∷ held) (x ∷ put_by (cmp y) held y)) (merged cmp same (x ∷ held) ys)) first
            ∙ past y (x ∷ held) (merged cmp same (x ∷ held) ys) (after_steps y (x ∷ held) ys (first, before_all x y held low e) up.0) ∙ ap (λ l. y ∷ l) ih

    pub made_steps : (held new : List T) → IsAscending cmp held → IsAscending cmp new → stepped_list cmp held (merged cmp same held new) ≡ new
    made_steps [] new h k = made_put new k
    made_steps (x ∷ held) new h k = made_merged x held h.0 (λ ys l. made_steps held ys h.1 l) new k

  -- ---- what is named

  not_equal : (x y : T) (o : Ordering) → cmp x y ≡ o → is_eq o ≡ false → cmp x y ≡ Equal → ⊥
  not_equal x y o e n k = let both = ap is_eq (sym e ∙ k) in cc

  -- a record before all of a list has no key of it
  no_key : (x : T) (ys : List T) → AllAfter cmp x ys → IsNoKey cmp x ys
  no_key x [] h = tt
  no_key x (y ∷ ys) h = (not_equal x y Less h.0 refl, no_key x ys h.1)

  -- and none of the list has its key
  none_keyed : (x z : T) → cmp x z ≡ Less → cmp z x ≡ Equal → ⊥
  none_keyed x z low k = not_equal z x Greater (turned x z Less low) refl k

  other_after : (z : T) (xs : List T) → AllAfter cmp z xs → IsOtherRecord cmp same z xs
  other_after z [] h = tt
  other_after z (x ∷ xs) h = (λ k. absurd (none_keyed z x h.0 k), other_after z xs h.1)

  abbrev GoneIn : T → List T → List T → List (Step T) → Type 0
  GoneIn z held new steps = (Among (gone z) steps → Among z held × IsNoKey cmp z new) × (Among z held × IsNoKey cmp z new → Among (gone z) steps)

  abbrev NamesGone : List T → List T → Type 0
  NamesGone held new = (z : T) → GoneIn z held new (merged cmp same held new)

  names_merged : (x : T) (held : List T) → AllAfter cmp x held → ((ys : List T) → IsAscending cmp ys → NamesGone held ys) → (new : List T) → IsAscending cmp new
      → NamesGone (x ∷ held) new
  names_merged x held low more [] up z = (
    λ a. elim a [ inl e ↦ (inl (gone_is z x e), tt) | inr k ↦ (inr ((more [] tt z).0 k).0, tt) ],
    λ h. elim h.0 [ inl e ↦ inl (ap gone e) | inr k ↦ inr ((more [] tt z).1 (k, tt)) ],
  )
  names_merged x held low more (y ∷ ys) up z = go (cmp x y) refl (names_merged x held low more ys up.1 z)
    where
      -- no record of the held list after x has the key of y, which comes at x or before it
      clear : AllAfter cmp y held → Among z held → cmp z y ≡ Equal → ⊥
      clear after a k = none_keyed y z (after_among cmp y held z after a) k

      first : IsNoKey cmp z (y ∷ ys) → cmp x y ≡ Equal → z ≡ x → ⊥
      first n e is = n.0 (ap (λ k. cmp k y) is ∙ e)

      either : (b : Bool) → cmp x y ≡ Equal → GoneIn z (x ∷ held) (y ∷ ys) (cond b (merged cmp same held ys) (put y ∷ merged cmp same held ys))
      either true e = (
        λ a. let k = (more ys up.1 z).0 a in (inr k.0, (clear (level_all x y held low e) k.0, k.1)),
        λ h. elim h.0 [ inl is ↦ absurd (first h.1 e is) | inr k ↦ (more ys up.1 z).1 (k, h.1.1) ],
      )
      either false e = (
        λ a. elim a [ inl is ↦ absurd (gone_not_put z y is) | inr b ↦ let k = (more ys up.1 z).0 b in (inr k.0, (clear (level_all x y held low e) k.0, k.1)) ],
        λ h. elim h.0 [ inl is ↦ absurd (first h.1 e is) | inr k ↦ inr ((more ys up.1 z).1 (k, h.1.1)) ],
      )

      go : (o : Ordering) → cmp x y ≡ o → GoneIn z (x ∷ held) ys (merged cmp same (x ∷ held) ys)
          → GoneIn z (x ∷ held) (y ∷ ys)
          (match_ordering o (gone x ∷ merged cmp same held (y ∷ ys)) (replaced same x y (merged cmp same held ys)) (put y ∷ merged cmp same (x ∷ held) ys))
      go Less e ih = (
        λ a. elim a [
          | inl is ↦ (
            inl (gone_is z x is),
            subst (λ k. IsNoKey cmp k (y ∷ ys)) (sym (gone_is z x is)) (not_equal x y Less e refl, no_key x ys (after_lower cmp total x y e ys up.0)),
          )
          | inr b ↦ let k = (more (y ∷ ys) up z).0 b in (inr k.0, k.1)
        ],
        λ h. elim h.0 [ inl is ↦ inl (ap gone is) | inr k ↦ inr ((more (y ∷ ys) up z).1 (k, h.1)) ],
      )
      go Equal e ih = either (same y x) e
      go Greater e ih = (
        λ a. elim a [
          | inl is ↦ absurd (gone_not_put z y is)
          | inr b ↦
              let k = ih.0 b in (
                k.0,
                (
                  elim k.0 [
                    | inl is ↦ λ same_key. not_equal x y Greater e refl (ap (λ v. cmp v y) (sym is) ∙ same_key)
                    | inr m ↦ clear (before_all x y held low e) m
                  ],
                  k.1,
                ),
              )
        ],
        λ h. inr (ih.1 (h.0, h.1.1)),
      )

  pub names_gone : (held new : List T) → IsAscending cmp held → IsAscending cmp new → NamesGone held new
  names_gone [] new h k z = (λ a. absurd (gone_among z new a), λ none. absurd none.0)
  names_gone (x ∷ held) new h k z = names_merged x held h.0 (λ ys l. names_gone held ys h.1 l) new k z

  abbrev PutIn : T → List T → List T → List (Step T) → Type 0
  PutIn z held new steps = (Among (put z) steps → Among z new × IsOtherRecord cmp same z held) × (Among z new × IsOtherRecord cmp same z held → Among (put z) steps)

  abbrev NamesPut : List T → List T → Type 0
  NamesPut held new = (z : T) → PutIn z held new (merged cmp same held new)

  puts_merged : (x : T) (held : List T) → AllAfter cmp x held → ((ys : List T) → IsAscending cmp ys → NamesPut held ys) → (new : List T) → IsAscending cmp new
      → NamesPut (x ∷ held) new
  puts_merged x held low more [] up z = (
    λ a. elim a [ inl e ↦ absurd (gone_not_put x z (sym e)) | inr k ↦ absurd ((more [] tt z).0 k).0 ],
    λ h. absurd h.0,
  )
  puts_merged x held low more (y ∷ ys) up z = go (cmp x y) refl (puts_merged x held low more ys up.1 z)
    where
      -- x comes before what is after y, where it comes before y or at it
      ahead : cmp x z ≡ Less → cmp x z ≡ Equal → same z x ≡ false
      ahead less k = absurd (not_equal x z Less less refl k)

      after_level : cmp x y ≡ Equal → Among z ys → cmp x z ≡ Less
      after_level e a = after_among cmp x ys z (after_same cmp total x y e ys up.0) a

      either : (b : Bool) → same y x ≡ b → cmp x y ≡ Equal → PutIn z (x ∷ held) (y ∷ ys) (cond b (merged cmp same held ys) (put y ∷ merged cmp same held ys))
      either true k e = (
        λ a. let m = (more ys up.1 z).0 a in (inr m.0, (ahead (after_level e m.0), m.1)),
        λ h. elim h.0 [
          | inl is ↦ absurd (let never = h.1.0 (ap (cmp x) is ∙ e) in let met : same z x ≡ true = ap (λ v. same v x) is ∙ k in cc)
          | inr m ↦ (more ys up.1 z).1 (m, h.1.1)
        ],
      )
      either false k e = (
        λ a. elim a [
          | inl is ↦ (
            inl (put_is z y is),
            subst (λ v. IsOtherRecord cmp same v (x ∷ held)) (sym (put_is z y is)) (λ _. k, other_after y held (level_all x y held low e)),
          )
          | inr b ↦ let m = (more ys up.1 z).0 b in (inr m.0, (ahead (after_level e m.0), m.1))
        ],
        λ h. elim h.0 [ inl is ↦ inl (ap put is) | inr m ↦ inr ((more ys up.1 z).1 (m, h.1.1)) ],
      )

      go : (o : Ordering) → cmp x y ≡ o → PutIn z (x ∷ held) ys (merged cmp same (x ∷ held) ys)
          → PutIn z (x ∷ held) (y ∷ ys)
          (match_ordering o (gone x ∷ merged cmp same held (y ∷ ys)) (replaced same x y (merged cmp same held ys)) (put y ∷ merged cmp same (x ∷ held) ys))
      go Less e ih =
          let all : AllAfter cmp x (y ∷ ys) = (e, after_lower cmp total x y e ys up.0) in (
            λ a. elim a [
              | inl is ↦ absurd (gone_not_put x z (sym is))
              | inr b ↦ let m = (more (y ∷ ys) up z).0 b in (m.0, (ahead (after_among cmp x (y ∷ ys) z all m.0), m.1))
            ],
            λ h. inr ((more (y ∷ ys) up z).1 (h.0, h.1.1)),
          )
      go Equal e ih = either (same y x) refl e
      go Greater e ih = (
        λ a. elim a [
          | inl is ↦ (
            inl (put_is z y is),
            subst (λ v. IsOtherRecord cmp same v (x ∷ held)) (sym (put_is z y is)) (other_after y (x ∷ held) (turned x y Greater e, before_all x y held low e)),
          )
          | inr b ↦ let m = ih.0 b in (inr m.0, m.1)
        ],
        λ h. elim h.0 [ inl is ↦ inl (ap put is) | inr m ↦ inr (ih.1 (m, h.1)) ],
      )

  pub names_put : (held new : List T) → IsAscending cmp held → IsAscending cmp new → NamesPut held new
  names_put [] new h k z = (λ a. (put_among z new a, tt), λ a. among_put z new a.0)
  names_put (x ∷ held) new h k z = puts_merged x held h.0 (λ ys l. names_put held ys h.1 l) new k z

  pub are_steps : (held new : List T) → IsAscending cmp held → IsAscending cmp new → AreSteps cmp same held new (merged cmp same held new)
  are_steps held new h k = record {
    ascending = ascending_steps held new h k;
    gone_are = names_gone held new h k;
    put_are = names_put held new h k;
    made = λ exact. made_steps exact held new h k;
  }
