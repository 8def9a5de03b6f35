-- Lemmas on lists of records in ascending key.
use Rattle.std.proofs.Common.{◌≡◌, ℕ, zero, suc, ◌+◌, ◌≤◌, ◌<◌, take, get_or, inl, inr, Bool, true, false, not, ◌||◌, cond, List, [], ◌∷◌, ◌++◌, Option, Some, None, refl, sym, ◌∙◌, ap, subst, arith, length, map, ◌⊎◌}
use Rattle.std.specs.Prelude.{is_some, filter, find}
use Rattle.std.specs.List.{list_any, list_all}
use Rattle.std.specs.declared.cmp.Ordering.{Ordering}
use Rattle.std.specs.declared.cmp.Ordering.TheVariants.{Less, Equal, Greater}
use Rattle.std.proofs.lemmas.Bool.{false_from_ne_true, and_parts, and_from}
use Rattle.std.specs.Cmp.{IsTotalOrder}
use Rattle.std.specs.Ordering.{ordering_reverse, is_eq, match_ordering}
use Rattle.std.proofs.lemmas.Grind.{common_steps}
use Rattle.acd_lemmas.proofs.Words.{find_by, put_by, remove_by, count, total, Among, Every, AllAfter, IsAscending}

abbrev pub one : Bool → ℕ
one b = cond b 1 0

pub eq_is : (o : Ordering) → is_eq o ≡ true → o ≡ Equal
eq_is Equal e = refl
eq_is _ e = absurd (cc (e))

pub is_eq_of : (o : Ordering) → o ≡ Equal → is_eq o ≡ true
is_eq_of o e = rw e refl

pub greater_ne : (o : Ordering) → o ≡ Greater → is_eq o ≡ false
greater_ne o e = rw e refl

pub less_ne : (o : Ordering) → o ≡ Less → is_eq o ≡ false
less_ne o e = rw e refl

-- find_by as find

pub find_by_find : {X : Type 0} (at : X → Ordering) (p : X → Bool) → ((x : X) → is_eq (at x) ≡ p x) → (xs : List X) → find_by at xs ≡ find p xs
find_by_find at p h [] = refl
find_by_find at p h (y ∷ ys) = rw (h y) (ap (λ r. cond (p y) (Some y) r) (find_by_find at p h ys))

none_head : {X : Type 0} (k : X → Bool) (y : X) (ys : List X) → k y ≡ true → find k (y ∷ ys) ≡ None → ⊥
none_head k y ys e q = cc (rw e at q)

none_tail : {X : Type 0} (k : X → Bool) (y : X) (ys : List X) → find k (y ∷ ys) ≡ None → find k ys ≡ None
none_tail k y ys e = (elim (k y) as (λ b. cond b (Some y) (find k ys) ≡ None → find k ys ≡ None) [ true ↦ λ q. absurd (cc (q)) | false ↦ λ q. q ]) e

some_head : {X : Type 0} (k : X → Bool) (y : X) (ys : List X) (z : X) → k y ≡ true → find k (y ∷ ys) ≡ Some z → y ≡ z
some_head k y ys z e q = cc (rw e at q)

some_tail : {X : Type 0} (k : X → Bool) (y : X) (ys : List X) (z : X) → k y ≡ false → find k (y ∷ ys) ≡ Some z → find k ys ≡ Some z
some_tail k y ys z e q = rw e at q

not_key : {X : Type 0} (cmp : X → X → Ordering) (k : X → Bool) (x y : X) → ((y : X) → k y ≡ true → cmp x y ≡ Equal) → cmp x y ≡ Greater → k y ≡ false
not_key cmp k x y g q = false_from_ne_true (k y) (λ r. cc (q, g y r))

-- a record that was put is found where it passes, and else what was found before
pub find-put : {X : Type 0} (cmp : X → X → Ordering) (p : X → Bool) (x : X) → ((y : X) → cmp x y ≡ Equal → p y ≡ p x)
    → ((y : X) → p x ≡ true → p y ≡ true → cmp x y ≡ Equal) → (xs : List X)
    → find p (put_by (cmp x) xs x) ≡ cond (p x) (Some x) (find p xs)
find-put cmp p x h g [] = refl
find-put cmp p x h g (y ∷ ys) =
    (elim (cmp x y) as (λ o. cmp x y ≡ o
    → find p (match_ordering o (x ∷ y ∷ ys) (x ∷ ys) (y ∷ put_by (cmp x) ys x)) ≡ cond (p x) (Some x) (cond (p y) (Some y) (find p ys))) [
      | Less ↦ λ _. refl
      | Equal ↦ λ e. rw (h y e)
          (elim (p x) as (λ b. cond b (Some x) (find p ys) ≡ cond b (Some x) (cond b (Some y) (find p ys))) [ true ↦ refl | false ↦ refl ])
      | Greater ↦ λ e.
          (elim (p y) as (λ b. p y ≡ b → cond b (Some y) (find p (put_by (cmp x) ys x)) ≡ cond (p x) (Some x) (cond b (Some y) (find p ys))) [
            | true ↦ λ r. rw (false_from_ne_true (p x) (λ q. cc (e, g y q r))) refl
            | false ↦ λ _. find-put cmp p x h g ys
          ]) refl
    ]) refl

pub find_passes : {X : Type 0} (p : X → Bool) (xs : List X) (x : X) → find p xs ≡ Some x → p x ≡ true
find_passes p [] x e = absurd (cc (e))
find_passes p (y ∷ ys) x e =
    (elim (p y) as (λ b. p y ≡ b → cond b (Some y) (find p ys) ≡ Some x → p x ≡ true) [
      | true ↦ λ r q. cc
      | false ↦ λ r q. find_passes p ys x q
    ]) refl e

pub find_among : {X : Type 0} (p : X → Bool) (xs : List X) (x : X) → find p xs ≡ Some x → Among x xs
find_among p [] x e = absurd (cc (e))
find_among p (y ∷ ys) x e =
    (elim (p y) as (λ b. cond b (Some y) (find p ys) ≡ Some x → Among x (y ∷ ys)) [
      | true ↦ λ q. inl cc
      | false ↦ λ q. inr (find_among p ys x q)
    ]) e

pub find_none : {X : Type 0} (p : X → Bool) (xs : List X) → find p xs ≡ None → (x : X) → Among x xs → p x ≡ false
find_none p [] e x a = absurd a
find_none p (y ∷ ys) e x (inl q) = false_from_ne_true (p x) (λ r. none_head p y ys (subst (λ w. p w ≡ true) q r) e)
find_none p (y ∷ ys) e x (inr a) = find_none p ys (none_tail p y ys e) x a

pub some_found : {X : Type 0} (p : X → Bool) (xs : List X) (x : X) → Among x xs → p x ≡ true → is_some (find p xs) ≡ true
some_found p [] x a e = absurd a
some_found p (y ∷ ys) x (inl q) e = rw (← q, e) refl
some_found p (y ∷ ys) x (inr a) e = elim (p y) as (λ b. is_some (cond b (Some y) (find p ys)) ≡ true) [ true ↦ refl | false ↦ some_found p ys x a e ]

pub any-find : {X : Type 0} (p : X → Bool) (xs : List X) → list_any p xs ≡ is_some (find p xs)
any-find p [] = refl
any-find p (y ∷ ys) = elim (p y) as (λ b. (b || list_any p ys) ≡ is_some (cond b (Some y) (find p ys))) [ true ↦ refl | false ↦ any-find p ys ]

pub any_some : {X : Type 0} (p : X → Bool) (xs : List X) (x : X) → Among x xs → p x ≡ true → list_any p xs ≡ true
any_some p [] x a e = absurd a
any_some p (y ∷ ys) x (inl q) e = rw (← q, e) refl
any_some p (y ∷ ys) x (inr a) e =
    (elim (p y) as (λ b. (b || list_any p ys) ≡ true) [ true ↦ refl | false ↦ any_some p ys x a e ])

pub any_found : {X : Type 0} (p : X → Bool) (xs : List X) → list_any p xs ≡ true → is_some (find p xs) ≡ true
any_found p xs e = subst (λ b. b ≡ true) (any-find p xs) e

pub filter_among : {X : Type 0} (p : X → Bool) (xs : List X) (x : X) → Among x (filter p xs) → Among x xs × (p x ≡ true)
filter_among p [] x a = absurd a
filter_among p (y ∷ ys) x a =
    (elim (p y) as (λ b. p y ≡ b → Among x (cond b (y ∷ filter p ys) (filter p ys)) → Among x (y ∷ ys) × (p x ≡ true)) [
      | true ↦ λ r w. elim w [ inl q ↦ (inl q, cc) | inr v ↦ (inr (filter_among p ys x v).0, (filter_among p ys x v).1) ]
      | false ↦ λ r w. (inr (filter_among p ys x w).0, (filter_among p ys x w).1)
    ]) refl a

pub among-filter : {X : Type 0} (p : X → Bool) (xs : List X) (z : X) → Among z xs → p z ≡ true → Among z (filter p xs)
among-filter p [] z a e = absurd a
among-filter p (y ∷ ys) z (inl q) e = rw (← q, e) (inl refl)
among-filter p (y ∷ ys) z (inr a) e =
    elim (p y) as (λ b. Among z (cond b (y ∷ filter p ys) (filter p ys))) [ true ↦ inr (among-filter p ys z a e) | false ↦ among-filter p ys z a e ]

-- order

pub after_among : {X : Type 0} (cmp : X → X → Ordering) (z : X) (xs : List X) (x : X) → AllAfter cmp z xs → Among x xs → cmp z x ≡ Less
after_among cmp z [] x h a = absurd a
after_among cmp z (y ∷ ys) x h (inl q) = rw q h.0
after_among cmp z (y ∷ ys) x h (inr a) = after_among cmp z ys x h.1 a

pub after_lower : {X : Type 0} (cmp : X → X → Ordering) (o : IsTotalOrder cmp) (z y : X) → cmp z y ≡ Less → (xs : List X) → AllAfter cmp y xs
    → AllAfter cmp z xs
after_lower cmp o z y e [] h = tt
after_lower cmp o z y e (x ∷ xs) h = (o.trans z y x e h.0, after_lower cmp o z y e xs h.1)

pub after_same : {X : Type 0} (cmp : X → X → Ordering) (o : IsTotalOrder cmp) (z y : X) → cmp z y ≡ Equal → (xs : List X) → AllAfter cmp y xs
    → AllAfter cmp z xs
after_same cmp o z y e [] h = tt
after_same cmp o z y e (x ∷ xs) h = (o.congr z y x e ∙ h.0, after_same cmp o z y e xs h.1)

pub after-put : {X : Type 0} (cmp : X → X → Ordering) (z x : X) → cmp z x ≡ Less → (xs : List X) → AllAfter cmp z xs → AllAfter cmp z (put_by (cmp x) xs x)
after-put cmp z x e [] h = (e, tt)
after-put cmp z x e (y ∷ ys) h =
    elim (cmp x y) as (λ o. AllAfter cmp z (match_ordering o (x ∷ y ∷ ys) (x ∷ ys) (y ∷ put_by (cmp x) ys x))) [
      | Less ↦ (e, h)
      | Equal ↦ (e, h.1)
      | Greater ↦ (h.0, after-put cmp z x e ys h.1)
    ]

pub ascending-put : {X : Type 0} (cmp : X → X → Ordering) (o : IsTotalOrder cmp) (x : X) (xs : List X) → IsAscending cmp xs
    → IsAscending cmp (put_by (cmp x) xs x)
ascending-put cmp o x [] h = (tt, tt)
ascending-put cmp o x (y ∷ ys) h =
    (elim (cmp x y) as (λ r. cmp x y ≡ r → IsAscending cmp (match_ordering r (x ∷ y ∷ ys) (x ∷ ys) (y ∷ put_by (cmp x) ys x))) [
      | Less ↦ λ e. ((e, after_lower cmp o x y e ys h.0), h)
      | Equal ↦ λ e. (after_same cmp o x y e ys h.0, h.1)
      | Greater ↦ λ e. (after-put cmp y x (o.antisymm y x ∙ ap ordering_reverse e) ys h.0, ascending-put cmp o x ys h.1)
    ]) refl

pub after-filter : {X : Type 0} (cmp : X → X → Ordering) (p : X → Bool) (z : X) (xs : List X) → AllAfter cmp z xs → AllAfter cmp z (filter p xs)
after-filter cmp p z [] h = tt
after-filter cmp p z (y ∷ ys) h =
    elim (p y) as (λ b. AllAfter cmp z (cond b (y ∷ filter p ys) (filter p ys))) [
      | true ↦ (h.0, after-filter cmp p z ys h.1)
      | false ↦ after-filter cmp p z ys h.1
    ]

pub ascending-filter : {X : Type 0} (cmp : X → X → Ordering) (p : X → Bool) (xs : List X) → IsAscending cmp xs → IsAscending cmp (filter p xs)
ascending-filter cmp p [] h = tt
ascending-filter cmp p (y ∷ ys) h =
    elim (p y) as (λ b. IsAscending cmp (cond b (y ∷ filter p ys) (filter p ys))) [
      | true ↦ (after-filter cmp p y ys h.0, ascending-filter cmp p ys h.1)
      | false ↦ ascending-filter cmp p ys h.1
    ]

-- a record of an ascending list is the one found by its key
pub find_found : {X : Type 0} (cmp : X → X → Ordering) (k : X → Bool) (x : X) → k x ≡ true → ((y : X) → k y ≡ true → cmp y x ≡ Equal) → (xs : List X)
    → IsAscending cmp xs → Among x xs → find k xs ≡ Some x
find_found cmp k x e h [] s a = absurd a
find_found cmp k x e h (y ∷ ys) s (inl q) = rw (← q, e) refl
find_found cmp k x e h (y ∷ ys) s (inr a) =
    (elim (k y) as (λ b. k y ≡ b → cond b (Some y) (find k ys) ≡ Some x) [
      | true ↦ λ r. absurd (cc (h y r, after_among cmp y ys x s.0 a))
      | false ↦ λ r. find_found cmp k x e h ys s.1 a
    ]) refl

-- equal records have a key, and a key's records are equal
abbrev pub HasEqual : {X : Type 0} → (X → X → Ordering) → (X → Bool) → X → Type 0
HasEqual {X} cmp k x = (y : X) → cmp x y ≡ Equal → k y ≡ true

abbrev pub AllEqual : {X : Type 0} → (X → X → Ordering) → (X → Bool) → X → Type 0
AllEqual {X} cmp k x = (y : X) → k y ≡ true → cmp x y ≡ Equal

abbrev pub IsKey : {X : Type 0} → (X → X → Ordering) → (X → Bool) → Type 0
IsKey {X} cmp k = (y z : X) → k y ≡ true → k z ≡ true → cmp y z ≡ Equal

key_only : {X : Type 0} (cmp : X → X → Ordering) (k : X → Bool) → IsKey cmp k → (y : X) → k y ≡ true → (ys : List X) → AllAfter cmp y ys → (x : X) → Among x ys
    → k x ≡ false
key_only cmp k h y r ys s x a = false_from_ne_true (k x) (λ e. cc (h y x r e, after_among cmp y ys x s a))

pub filter_all : {X : Type 0} (p : X → Bool) (xs : List X) → ((x : X) → Among x xs → p x ≡ true) → filter p xs ≡ xs
filter_all p [] h = refl
filter_all p (y ∷ ys) h = rw (h y (inl refl)) (ap (λ r. y ∷ r) (filter_all p ys (λ x a. h x (inr a))))

pub filter_none : {X : Type 0} (p : X → Bool) (xs : List X) → ((x : X) → Among x xs → p x ≡ false) → filter p xs ≡ []
filter_none p [] h = refl
filter_none p (y ∷ ys) h = rw (h y (inl refl)) (filter_none p ys (λ x a. h x (inr a)))

pub none_filtered : {X : Type 0} (p : X → Bool) (xs : List X) → filter p xs ≡ [] → (x : X) → Among x xs → p x ≡ false
none_filtered p xs e x a = false_from_ne_true (p x) (λ q. subst (Among x) e (among-filter p xs x a q))

-- in an ascending list a removal leaves those with other keys
pub remove_is : {X : Type 0} (cmp : X → X → Ordering) (at : X → Ordering) (k : X → Bool) → ((x : X) → is_eq (at x) ≡ k x)
    → IsKey cmp k → (xs : List X) → IsAscending cmp xs → remove_by at xs ≡ filter (λ y. not (k y)) xs
remove_is cmp at k f h [] s = refl
remove_is cmp at k f h (y ∷ ys) s =
    rw (f y) ((elim (k y) as (λ b. k y ≡ b → cond b ys (y ∷ remove_by at ys) ≡ cond (not b) (y ∷ filter (λ w. not (k w)) ys) (filter (λ w. not (k w)) ys)) [
      | true ↦ λ r. sym (filter_all (λ w. not (k w)) ys (λ x a. ap not (key_only cmp k h y r ys s.0 x a)))
      | false ↦ λ r. ap (λ t. y ∷ t) (remove_is cmp at k f h ys s.1)
    ]) refl)

pub find-filter : {X : Type 0} (p q : X → Bool) → ((y : X) → p y ≡ true → q y ≡ true) → (xs : List X) → find p (filter q xs) ≡ find p xs
find-filter p q h [] = refl
find-filter p q h (y ∷ ys) =
    (elim (q y) as (λ b. q y ≡ b → find p (cond b (y ∷ filter q ys) (filter q ys)) ≡ find p (y ∷ ys)) [
      | true ↦ λ _. ap (λ r. cond (p y) (Some y) r) (find-filter p q h ys)
      | false ↦ λ e.
          (elim (p y) as (λ b. p y ≡ b → find p (filter q ys) ≡ cond b (Some y) (find p ys)) [
            | true ↦ λ r. absurd (cc (e, h y r))
            | false ↦ λ _. find-filter p q h ys
          ]) refl
    ]) refl

pub find-filter_none : {X : Type 0} (p q : X → Bool) → ((y : X) → p y ≡ true → q y ≡ false) → (xs : List X) → find p (filter q xs) ≡ None
find-filter_none p q h [] = refl
find-filter_none p q h (y ∷ ys) =
    (elim (q y) as (λ b. q y ≡ b → find p (cond b (y ∷ filter q ys) (filter q ys)) ≡ None) [
      | true ↦ λ e.
          (elim (p y) as (λ b. p y ≡ b → cond b (Some y) (find p (filter q ys)) ≡ None) [
            | true ↦ λ r. absurd (cc (e, h y r))
            | false ↦ λ _. find-filter_none p q h ys
          ]) refl
      | false ↦ λ _. find-filter_none p q h ys
    ]) refl

-- counts

pub count-put_new : {X : Type 0} (cmp : X → X → Ordering) (k p : X → Bool) (x : X) → HasEqual cmp k x → (xs : List X) → find k xs ≡ None
    → count p (put_by (cmp x) xs x) ≡ one (p x) + count p xs
count-put_new cmp k p x h [] e = refl
count-put_new cmp k p x h (y ∷ ys) e =
    (elim (cmp x y) as (λ o. cmp x y ≡ o → count p (match_ordering o (x ∷ y ∷ ys) (x ∷ ys) (y ∷ put_by (cmp x) ys x)) ≡ one (p x) + (one (p y) + count p ys)) [
      | Less ↦ λ _. refl
      | Equal ↦ λ q. absurd (none_head k y ys (h y q) e)
      | Greater ↦ λ _. let ih = count-put_new cmp k p x h ys (none_tail k y ys e) in omega (arith, ih)
    ]) refl

pub count-put_old : {X : Type 0} (cmp : X → X → Ordering) (o : IsTotalOrder cmp) (k p : X → Bool) (x : X) → HasEqual cmp k x → AllEqual cmp k x
    → (xs : List X) → IsAscending cmp xs → (z : X) → find k xs ≡ Some z → count p (put_by (cmp x) xs x) + one (p z) ≡ one (p x) + count p xs
count-put_old cmp o k p x h g [] s z e = absurd (cc (e))
count-put_old cmp o k p x h g (y ∷ ys) s z e =
    (elim (cmp x y) as (λ r. cmp x y ≡ r
    → count p (match_ordering r (x ∷ y ∷ ys) (x ∷ ys) (y ∷ put_by (cmp x) ys x)) + one (p z) ≡ one (p x) + (one (p y) + count p ys)) [
      | Less ↦ λ q. let l : cmp x z ≡ Less = after_among cmp x (y ∷ ys) z (q, after_lower cmp o x y q ys s.0) (find_among k (y ∷ ys) z e) in
          absurd (cc (l, g z (find_passes k (y ∷ ys) z e)))
      | Equal ↦ λ q. let same : y ≡ z = some_head k y ys z (h y q) e in rw same (omega arith)
      | Greater ↦ λ q.
          let other : k y ≡ false = not_key cmp k x y g q in
          let ih = count-put_old cmp o k p x h g ys s.1 z (some_tail k y ys z other e) in omega (arith, ih)
    ]) refl

-- a put adds no more than the record
pub count-put_most : {X : Type 0} (at : X → Ordering) (p : X → Bool) (x : X) (xs : List X) → count p (put_by at xs x) ≤ one (p x) + count p xs
count-put_most at p x [] = omega arith
count-put_most at p x (y ∷ ys) =
    let ih = count-put_most at p x ys in
    elim (at y) as (λ o. count p (match_ordering o (x ∷ y ∷ ys) (x ∷ ys) (y ∷ put_by at ys x)) ≤ one (p x) + (one (p y) + count p ys)) [
      | Greater ↦ omega (arith, ih)
      | _ ↦ omega arith
    ]

pub count-remove_most : {X : Type 0} (at : X → Ordering) (p : X → Bool) (xs : List X) → count p (remove_by at xs) ≤ count p xs
count-remove_most at p [] = omega arith
count-remove_most at p (y ∷ ys) =
    let ih = count-remove_most at p ys in
    elim (is_eq (at y)) as (λ b. count p (cond b ys (y ∷ remove_by at ys)) ≤ one (p y) + count p ys) [ true ↦ omega arith | false ↦ omega (arith, ih) ]

pub count-removed : {X : Type 0} (at : X → Ordering) (p : X → Bool) (xs : List X) (z : X) → find_by at xs ≡ Some z
    → count p (remove_by at xs) + one (p z) ≡ count p xs
count-removed at p [] z e = absurd (cc (e))
count-removed at p (y ∷ ys) z e =
    (elim (is_eq (at y)) as (λ b. cond b (Some y) (find_by at ys) ≡ Some z → count p (cond b ys (y ∷ remove_by at ys)) + one (p z) ≡ one (p y) + count p ys) [
      | true ↦ λ q. let same : y ≡ z = cc in rw same (omega arith)
      | false ↦ λ q. let ih = count-removed at p ys z q in omega (arith, ih)
    ]) e

-- each of a list

pub every_among : {X : Type 0} (P : X → Type 0) (xs : List X) (x : X) → Every P xs → Among x xs → P x
every_among P [] x h a = absurd a
every_among P (y ∷ ys) x h (inl e) = subst P (sym e) h.0
every_among P (y ∷ ys) x h (inr a) = every_among P ys x h.1 a

pub every_from : {X : Type 0} (P : X → Type 0) (xs : List X) → ((x : X) → Among x xs → P x) → Every P xs
every_from P [] h = tt
every_from P (y ∷ ys) h = (h y (inl refl), every_from P ys (λ x a. h x (inr a)))

pub every-take : {X : Type 0} (P : X → Type 0) (n : ℕ) (xs : List X) → Every P xs → Every P (take n xs)
every-take P zero xs h = tt
every-take P (suc n) [] h = tt
every-take P (suc n) (x ∷ xs) h = (h.0, every-take P n xs h.1)

pub every-filter : {X : Type 0} (P : X → Type 0) (p : X → Bool) (xs : List X) → Every P xs → Every P (filter p xs)
every-filter P p [] h = tt
every-filter P p (x ∷ xs) h =
    elim (p x) as (λ t. Every P (cond t (x ∷ filter p xs) (filter p xs))) [ true ↦ (h.0, every-filter P p xs h.1) | false ↦ every-filter P p xs h.1 ]

pub every-append : {X : Type 0} (P : X → Type 0) (xs ys : List X) → Every P xs → Every P ys → Every P (xs ++ ys)
every-append P [] ys h g = g
every-append P (x ∷ xs) ys h g = (h.0, every-append P xs ys h.1 g)

pub every-put : {X : Type 0} (at : X → Ordering) (P : X → Type 0) (x : X) → P x → (xs : List X) → Every P xs → Every P (put_by at xs x)
every-put at P x p [] h = (p, tt)
every-put at P x p (y ∷ ys) h =
    elim (at y) as (λ o. Every P (match_ordering o (x ∷ y ∷ ys) (x ∷ ys) (y ∷ put_by at ys x))) [
      | Less ↦ (p, h)
      | Equal ↦ (p, h.1)
      | Greater ↦ (h.0, every-put at P x p ys h.1)
    ]

pub every-remove : {X : Type 0} (at : X → Ordering) (P : X → Type 0) (xs : List X) → Every P xs → Every P (remove_by at xs)
every-remove at P [] h = tt
every-remove at P (y ∷ ys) h = elim (is_eq (at y)) as (λ b. Every P (cond b ys (y ∷ remove_by at ys))) [ true ↦ h.1 | false ↦ (h.0, every-remove at P ys h.1) ]

pub among-remove : {X : Type 0} (at : X → Ordering) (xs : List X) (x : X) → Among x (remove_by at xs) → Among x xs
among-remove at [] x a = absurd a
among-remove at (y ∷ ys) x a =
    (elim (is_eq (at y)) as (λ b. Among x (cond b ys (y ∷ remove_by at ys)) → Among x (y ∷ ys)) [
      | true ↦ λ w. inr w
      | false ↦ λ w. elim w [ inl q ↦ inl q | inr v ↦ inr (among-remove at ys x v) ]
    ]) a

pub after-remove : {X : Type 0} (cmp : X → X → Ordering) (at : X → Ordering) (z : X) (xs : List X) → AllAfter cmp z xs → AllAfter cmp z (remove_by at xs)
after-remove cmp at z [] h = tt
after-remove cmp at z (y ∷ ys) h =
    elim (is_eq (at y)) as (λ b. AllAfter cmp z (cond b ys (y ∷ remove_by at ys))) [ true ↦ h.1 | false ↦ (h.0, after-remove cmp at z ys h.1) ]

pub ascending-remove : {X : Type 0} (cmp : X → X → Ordering) (at : X → Ordering) (xs : List X) → IsAscending cmp xs → IsAscending cmp (remove_by at xs)
ascending-remove cmp at [] h = tt
ascending-remove cmp at (y ∷ ys) h =
    elim (is_eq (at y)) as (λ b. IsAscending cmp (cond b ys (y ∷ remove_by at ys))) [
      | true ↦ h.1
      | false ↦ (after-remove cmp at y ys h.0, ascending-remove cmp at ys h.1)
    ]

pub among-put : {X : Type 0} (at : X → Ordering) (x : X) (xs : List X) → Among x (put_by at xs x)
among-put at x [] = inl refl
among-put at x (y ∷ ys) = elim (at y) as (λ o. Among x (match_ordering o (x ∷ y ∷ ys) (x ∷ ys) (y ∷ put_by at ys x))) [
  | Less ↦ inl refl
  | Equal ↦ inl refl
  | Greater ↦ inr (among-put at x ys)
]

pub among-put_other : {X : Type 0} (at : X → Ordering) (x : X) (xs : List X) (z : X) → Among z xs → (at z ≡ Equal → ⊥) → Among z (put_by at xs x)
among-put_other at x [] z a ne = absurd a
among-put_other at x (y ∷ ys) z (inl q) ne =
    (elim (at y) as (λ o. at y ≡ o → Among z (match_ordering o (x ∷ y ∷ ys) (x ∷ ys) (y ∷ put_by at ys x))) [
      | Less ↦ λ _. inr (inl q)
      | Equal ↦ λ e. absurd (ne (rw q e))
      | Greater ↦ λ _. inl q
    ]) refl
among-put_other at x (y ∷ ys) z (inr a) ne =
    elim (at y) as (λ o. Among z (match_ordering o (x ∷ y ∷ ys) (x ∷ ys) (y ∷ put_by at ys x))) [
      | Less ↦ inr (inr a)
      | Equal ↦ inr a
      | Greater ↦ inr (among-put_other at x ys z a ne)
    ]

pub among-remove_other : {X : Type 0} (at : X → Ordering) (xs : List X) (z : X) → Among z xs → is_eq (at z) ≡ false → Among z (remove_by at xs)
among-remove_other at [] z a e = absurd a
among-remove_other at (y ∷ ys) z (inl q) e = rw (← q, e) (inl refl)
among-remove_other at (y ∷ ys) z (inr a) e =
    elim (is_eq (at y)) as (λ b. Among z (cond b ys (y ∷ remove_by at ys))) [ true ↦ a | false ↦ inr (among-remove_other at ys z a e) ]

-- the counted records

pub counted : {X : Type 0} (p : X → Bool) (xs : List X) (x : X) → Among x xs → p x ≡ true → 1 ≤ count p xs
counted p [] x a e = absurd a
counted p (y ∷ ys) x (inl q) e = let h : one (p y) ≡ 1 = rw (← q, e) refl in omega (arith, h)
counted p (y ∷ ys) x (inr a) e = let ih = counted p ys x a e in omega (arith, ih)

pub none_counted : {X : Type 0} (p : X → Bool) (xs : List X) → list_any p xs ≡ false → count p xs ≡ 0
none_counted p [] e = refl
none_counted p (y ∷ ys) e =
    (elim (p y) as (λ b. (b || list_any p ys) ≡ false → one b + count p ys ≡ 0) [
      | true ↦ λ q. absurd (cc (q))
      | false ↦ λ q. let ih = none_counted p ys q in omega (arith, ih)
    ]) e

pub fewer : {X : Type 0} (p q : X → Bool) → ((x : X) → p x ≡ true → q x ≡ true) → (xs : List X) → count p xs ≤ count q xs
fewer p q h [] = omega arith
fewer p q h (y ∷ ys) =
    let ih = fewer p q h ys in
    (elim (p y) as (λ b. p y ≡ b → one b + count p ys ≤ one (q y) + count q ys) [
      | true ↦ λ e. let f : one (q y) ≡ 1 = rw (h y e) refl in omega (arith, ih, f)
      | false ↦ λ _. omega (arith, ih)
    ]) refl

-- two that pass are counted as two
pub two_counted : {X : Type 0} (p : X → Bool) (xs : List X) (x y : X) → Among x xs → Among y xs → p x ≡ true → p y ≡ true → (x ≡ y → ⊥) → 2 ≤ count p xs
two_counted p [] x y a b e f ne = absurd a
two_counted p (z ∷ zs) x y (inl q) (inl r) e f ne = absurd (ne (q ∙ sym r))
two_counted p (z ∷ zs) x y (inl q) (inr b) e f ne = let h : one (p z) ≡ 1 = rw (← q, e) refl in let c = counted p zs y b f in omega (arith, h, c)
two_counted p (z ∷ zs) x y (inr a) (inl r) e f ne = let h : one (p z) ≡ 1 = rw (← r, f) refl in let c = counted p zs x a e in omega (arith, h, c)
two_counted p (z ∷ zs) x y (inr a) (inr b) e f ne = let ih = two_counted p zs x y a b e f ne in omega (arith, ih)

-- counts of two kinds that exclude each other
pub both_fewer : {X : Type 0} (p q r : X → Bool) → ((x : X) → one (p x) + one (q x) ≤ one (r x)) → (xs : List X) → count p xs + count q xs ≤ count r xs
both_fewer p q r h [] = omega arith
both_fewer p q r h (y ∷ ys) = let a = h y in let b = both_fewer p q r h ys in omega (arith, a, b)

pub count_zero : {X : Type 0} (p : X → Bool) (xs : List X) → ((x : X) → Among x xs → p x ≡ false) → count p xs ≡ 0
count_zero p [] h = refl
count_zero p (y ∷ ys) h = let e : one (p y) ≡ 0 = ap one (h y (inl refl)) in let ih = count_zero p ys (λ x a. h x (inr a)) in omega (arith, e, ih)

-- the one that is found passes, where at most one may and some does
pub the_one : {X : Type 0} (p q : X → Bool) → ((x : X) → q x ≡ true → p x ≡ true) → (xs : List X) (a : X) → count p xs ≤ 1 → 1 ≤ count q xs → find p xs ≡ Some a
    → q a ≡ true
the_one p q h [] a l m e = absurd (cc (e))
the_one p q h (y ∷ ys) a l m e =
    let f = fewer q p h ys in
    (elim (p y) as (λ b. p y ≡ b → one b + count p ys ≤ 1 → cond b (Some y) (find p ys) ≡ Some a → q a ≡ true) [
      | true ↦ λ r l2 e2.
          (elim (q y) as (λ b. q y ≡ b → q a ≡ true) [
            | true ↦ λ w. let same : Some y ≡ Some a = e2 in cc
            | false ↦ λ w. let z : one (q y) ≡ 0 = ap one w in absurd (omega (arith, f, l2, m, z))
          ]) refl
      | false ↦ λ r l2 e2.
          let w : q y ≡ false = false_from_ne_true (q y) (λ v. cc (h y v, r)) in
          let z : one (q y) ≡ 0 = ap one w in
          the_one p q h ys a (omega (arith, l2)) (omega (arith, m, z)) e2
    ]) refl l e

pub some_counted : {X : Type 0} (p : X → Bool) (xs : List X) → 1 ≤ count p xs → is_some (find p xs) ≡ true
some_counted p [] l = absurd (omega (arith, l))
some_counted p (y ∷ ys) l =
    (elim (p y) as (λ b. 1 ≤ one b + count p ys → is_some (cond b (Some y) (find p ys)) ≡ true) [
      | true ↦ λ _. refl
      | false ↦ λ m. some_counted p ys (omega (arith, m))
    ]) l

pub all_true : {X : Type 0} (p : X → Bool) (xs : List X) → list_all p xs ≡ true → (x : X) → Among x xs → p x ≡ true
all_true p [] e x a = absurd a
all_true p (y ∷ ys) e x (inl q) = subst (λ w. p w ≡ true) (sym q) (and_parts (p y) (list_all p ys) e).0
all_true p (y ∷ ys) e x (inr a) = all_true p ys (and_parts (p y) (list_all p ys) e).1 x a

pub all_from : {X : Type 0} (p : X → Bool) (xs : List X) → ((x : X) → Among x xs → p x ≡ true) → list_all p xs ≡ true
all_from p [] h = refl
all_from p (y ∷ ys) h = and_from (p y) (list_all p ys) (h y (inl refl)) (all_from p ys (λ x a. h x (inr a)))

pub count-append : {X : Type 0} (p : X → Bool) (xs ys : List X) → count p (xs ++ ys) ≡ count p xs + count p ys
count-append p [] ys = omega arith
count-append p (x ∷ xs) ys = let ih = count-append p xs ys in omega (arith, ih)

pub total-append : {X : Type 0} (f : X → ℕ) (xs ys : List X) → total f (xs ++ ys) ≡ total f xs + total f ys
total-append f [] ys = omega arith
total-append f (x ∷ xs) ys = let ih = total-append f xs ys in omega (arith, ih)

pub count_length : {X : Type 0} (p : X → Bool) (xs : List X) → count p xs ≡ length (filter p xs)
count_length p [] = refl
count_length p (y ∷ ys) =
    let ih = count_length p ys in
    elim (p y) as (λ b. one b + count p ys ≡ length (cond b (y ∷ filter p ys) (filter p ys))) [ true ↦ omega (arith, ih) | false ↦ omega (arith, ih) ]

pub none_from : {X : Type 0} (o : Option X) → ((x : X) → o ≡ Some x → ⊥) → o ≡ None
none_from None h = refl
none_from (Some x) h = absurd (h x refl)

pub some_from : {X : Type 0} (o : Option X) → is_some o ≡ true → (x : X) × (o ≡ Some x)
some_from None e = absurd (cc (e))
some_from (Some x) e = (x, refl)

pub some_is : {X : Type 0} (x y : X) → Some x ≡ Some y → x ≡ y
some_is x y e = cc

-- the members of a list after a put, or under a map, and what a look-up finds of it

pub among_put : {T : Type 0} (at : T → Ordering) (r : T) (xs : List T) (z : T) → Among z (put_by at xs r) → (z ≡ r) ⊎ Among z xs
among_put at r [] z (inl e) = inl e
among_put at r [] z (inr a) = absurd a
among_put at r (x ∷ xs) z a =
    (elim (at x) as (λ o. Among z (match_ordering o (r ∷ x ∷ xs) (r ∷ xs) (x ∷ put_by at xs r)) → (z ≡ r) ⊎ Among z (x ∷ xs)) [
      | Less ↦ λ b. b
      | Equal ↦ λ b. elim b [ inl e ↦ inl e | inr w ↦ inr (inr w) ]
      | Greater ↦ λ b. elim b [ inl e ↦ inr (inl e) | inr w ↦ elim (among_put at r xs z w) [ inl e ↦ inl e | inr v ↦ inr (inr v) ] ]
    ]) a

-- a filter that finds none finds none after a put of what doesn't pass
pub filter_put : {X : Type 0} (p : X → Bool) (at : X → Ordering) (r : X) (xs : List X) → filter p xs ≡ [] → p r ≡ false → filter p (put_by at xs r) ≡ []
filter_put p at r xs e fails =
    filter_none p (put_by at xs r) (λ z a. elim (among_put at r xs z a) [ inl q ↦ ap p q ∙ fails | inr old ↦ none_filtered p xs e z old ])

pub found_among : {T : Type 0} (at : T → Ordering) (xs : List T) (x : T) → find_by at xs ≡ Some x → Among x xs
found_among at [] x e = absurd (cc (e))
found_among at (y ∷ ys) x e =
    (elim (is_eq (at y)) as (λ b. cond b (Some y) (find_by at ys) ≡ Some x → Among x (y ∷ ys)) [
      | true ↦ λ q. inl cc
      | false ↦ λ q. inr (found_among at ys x q)
    ]) e

pub mapped_among : {T S : Type 0} (f : T → S) (xs : List T) (z : S) → Among z (map f xs) → (x : T) × (Among x xs × (z ≡ f x))
mapped_among f [] z a = absurd a
mapped_among f (x ∷ xs) z (inl e) = (x, (inl refl, e))
mapped_among f (x ∷ xs) z (inr a) = let m = mapped_among f xs z a in (m.0, (inr m.1.0, m.1.1))

-- lengths

pub count_all : {X : Type 0} (xs : List X) → count (λ _. true) xs ≡ length xs
count_all [] = refl
count_all (x ∷ xs) = let ih = count_all xs in omega (arith, ih)

pub length-remove : {X : Type 0} (at : X → Ordering) (xs : List X) → length (remove_by at xs) ≤ length xs
length-remove at xs = let a = count_all (remove_by at xs) in let b = count_all xs in let c = count-remove_most at (λ _. true) xs in omega (arith, a, b, c)

pub length-put : {X : Type 0} (at : X → Ordering) (x : X) (xs : List X) → length (put_by at xs x) ≤ length xs + 1
length-put at x xs = let a = count_all (put_by at xs x) in let b = count_all xs in let c = count-put_most at (λ _. true) x xs in omega (arith, a, b, c)

pub filter_length : {X : Type 0} (p : X → Bool) (xs : List X) → length (filter p xs) ≤ length xs
filter_length p xs = let a = count_length p xs in let b = count_all xs in let c = fewer p (λ _. true) (λ x e. refl) xs in omega (arith, a, b, c)

pub split_length : {X : Type 0} (p : X → Bool) (xs : List X) → length xs ≡ count p xs + length (filter (λ x. not (p x)) xs)
split_length p [] = refl
split_length p (x ∷ xs) =
    let ih = split_length p xs in
    elim (p x) as (λ b. suc (length xs) ≡ (one b + count p xs) + length (cond (not b) (x ∷ filter (λ x. not (p x)) xs) (filter (λ x. not (p x)) xs))) [
      | true ↦ omega (arith, ih)
      | false ↦ omega (arith, ih)
    ]

pub fewer_filtered : {X : Type 0} (p q : X → Bool) (xs : List X) → count p (filter q xs) ≤ count p xs
fewer_filtered p q [] = omega arith
fewer_filtered p q (x ∷ xs) =
    let ih = fewer_filtered p q xs in
    elim (q x) as (λ b. count p (cond b (x ∷ filter q xs) (filter q xs)) ≤ one (p x) + count p xs) [ true ↦ omega (arith, ih) | false ↦ omega (arith, ih) ]

-- parts, and what a function makes of them

pub take-push : {T : Type 0} (i : ℕ) (l : List T) (d : T) → i < length l → take (i + 1) l ≡ take i l ++ get_or l i d ∷ []
take-push i l d h = grind (arith, common_steps)

pub filter_true : {X : Type 0} (xs : List X) → filter (λ _. true) xs ≡ xs
filter_true [] = refl
filter_true (x ∷ xs) = ap (λ l. x ∷ l) (filter_true xs)

pub head_is : {A : Type 0} (x y : A) (xs ys : List A) → x ∷ xs ≡ y ∷ ys → x ≡ y
head_is x y xs ys e = cc (e)

pub tail_is : {A : Type 0} (x y : A) (xs ys : List A) → x ∷ xs ≡ y ∷ ys → xs ≡ ys
tail_is x y xs ys e = cc (e)

pub map-push : {X Y : Type 0} (f : X → Y) (xs : List X) (x : X) → map f (xs ++ x ∷ []) ≡ map f xs ++ f x ∷ []
map-push f [] x = refl
map-push f (y ∷ xs) x = ap (λ l. f y ∷ l) (map-push f xs x)

pub among-map : {X Y : Type 0} (f : X → Y) (x : X) (xs : List X) → Among x xs → Among (f x) (map f xs)
among-map f x [] a = absurd a
among-map f x (y ∷ ys) (inl e) = inl (ap f e)
among-map f x (y ∷ ys) (inr a) = inr (among-map f x ys a)

-- a filter finds all that it looks for in a part that has it
pub filter-filter : {X : Type 0} (p q : X → Bool) → ((y : X) → p y ≡ true → q y ≡ true) → (xs : List X) → filter p (filter q xs) ≡ filter p xs
filter-filter p q h [] = refl
filter-filter p q h (y ∷ ys) =
    (elim (q y) as (λ b. q y ≡ b → filter p (cond b (y ∷ filter q ys) (filter q ys)) ≡ filter p (y ∷ ys)) [
      | true ↦ λ _. ap (λ r. cond (p y) (y ∷ r) r) (filter-filter p q h ys)
      | false ↦ λ e.
          (elim (p y) as (λ b. p y ≡ b → filter p (filter q ys) ≡ cond b (y ∷ filter p ys) (filter p ys)) [
            | true ↦ λ r. absurd (cc (e, h y r))
            | false ↦ λ _. filter-filter p q h ys
          ]) refl
    ]) refl
