-- Maps that keep no order, whose records hold their keys, against lists in ascending key.
use Rattle.std.proofs.Common.{◌≡◌, ◌+◌, inl, inr, Bool, true, false, cond, List, [], ◌∷◌, Option, Some, None, length, refl, sym, ap, subst, ◌∙◌, arith}
use Rattle.std.specs.Prelude.{is_some}
use Rattle.std.specs.Cmp.{IsTotalOrder, both_ways}
use Rattle.std.specs.List.{AllByRecursion, IsDistinct}
use Rattle.std.specs.Map.{lookup, keys_of, values_of}
use Rattle.std.specs.Ordering.{is_eq, ordering_reverse}
use Rattle.std.specs.declared.cmp.Ordering.{Ordering}
use Rattle.std.specs.declared.cmp.Ordering.TheVariants.{Less, Equal, Greater}
use Rattle.std.proofs.lemmas.Cmp.{on_total}
use Rattle.std.proofs.lemmas.Map.Lookups.{CmpEqualImpliesEq}
use Rattle.acd_terms.specs.Lists.{find_by, put_by, remove_by, Among, IsAscending}
use Rattle.acd_lemmas.proofs.Lists.{eq_is, is_eq_of, ascending-put, ascending-remove, count_all}
use Rattle.acd_lemmas.proofs.KeyedLists.{Keyed, found_among, found_itself, found_put, found_left, counted_new}
use Rattle.acd_tables.specs.KeyedMaps.{placed, IsKeyed}
use Rattle.acd_tables.proofs.ScansByIndex.{ascending-same}

-- the first, if there is one
abbrev either : {X : Type 0} → Option X → Option X → Option X
either (Some x) o = Some x
either None o = o

either_none : {X : Type 0} (o : Option X) → either o None ≡ o
either_none (Some x) = refl
either_none None = refl

module _ {K R : Type 0} (cmp : K → K → Ordering) (eq : K → K → Bool) (key : R → K) (total : IsTotalOrder cmp) (exact : CmpEqualImpliesEq cmp)
    (same : (x y : K) → eq x y ≡ is_eq (cmp x y)) where
  abbrev order : R → R → Ordering
  order x y = cmp (key x) (key y)

  is_key : (j k : K) → eq j k ≡ true → j ≡ k
  is_key j k e = exact j k (eq_is (cmp j k) (sym (same j k) ∙ e))

  self_equal : (k : K) → cmp k k ≡ Equal
  self_equal k = by (cmp k k) refl (total.antisymm k k)
    where
      by : (o : Ordering) → cmp k k ≡ o → cmp k k ≡ ordering_reverse (cmp k k) → o ≡ Equal
      by Less e f = absurd (cc (e, f))
      by Equal e f = refl
      by Greater e f = absurd (cc (e, f))

  self : (k : K) → eq k k ≡ true
  self k = same k k ∙ is_eq_of (cmp k k) (self_equal k)

  swap : (j k : K) → eq j k ≡ eq k j
  swap j k = both_ways (eq j k) (eq k j) (λ e. subst (λ i. eq i j ≡ true) (is_key j k e) (self j)) (λ e. subst (λ i. eq i k ≡ true) (is_key k j e) (self k))

  abbrev by_key : Keyed R K
  by_key = record {
    order = λ x y. cmp (key x) (key y);
    at = λ k x. cmp k (key x);
    has = λ k x. eq k (key x);
    key = key;
    total = on_total key total;
    test = λ k x. sym (same k (key x));
    itself = λ x. self (key x);
    equal = λ k x y p q. subst (λ i. cmp i (key y) ≡ Equal) (is_key k (key x) p) (subst (λ i. cmp k i ≡ Equal) (is_key k (key y) q) (self_equal k));
    same = λ k x y e. ap (eq k) (sym (exact (key x) (key y) e));
  }

  -- ---- the entries

  not_later : (k : K) (es : List (K × R)) → AllByRecursion (λ y. eq k y ≡ false) (keys_of es) → lookup (eq k) es ≡ None
  not_later k [] h = refl
  not_later k (e ∷ es) h = ap (λ b. cond b (Some e.1) (lookup (eq k) es)) h.0 ∙ not_later k es h.1

  not_twice : (k : K) (e : K × R) (es : List (K × R)) → AllByRecursion (λ y. eq e.0 y ≡ false) (keys_of es) → eq k e.0 ≡ true → lookup (eq k) es ≡ None
  not_twice k e es h p = subst (λ i. lookup (eq i) es ≡ None) (sym (is_key k e.0 p)) (not_later e.0 es h)

  rest : (e : K × R) (es : List (K × R)) → IsKeyed eq key (e ∷ es) → IsKeyed eq key es
  unfolding IsDistinct
  rest e es h = (λ k r f. by k r f (eq k e.0) refl, h.1.1)
    where
      by : (k : K) (r : R) → lookup (eq k) es ≡ Some r → (b : Bool) → eq k e.0 ≡ b → key r ≡ k
      by k r f true p = let none = not_twice k e es h.1.0 p in absurd (cc (none, f))
      by k r f false p = h.0 k r (ap (λ b. cond b (Some e.1) (lookup (eq k) es)) p ∙ f)

  owned : (es : List (K × R)) → IsKeyed eq key es → AllByRecursion (λ e. key e.1 ≡ e.0) es
  owned [] h = tt
  owned (e ∷ es) h = (h.0 e.0 e.1 (ap (λ b. cond b (Some e.1) (lookup (eq e.0) es)) (self e.0)), owned es (rest e es h))

  -- ---- the records put at their keys

  found : (k : K) (es : List (K × R)) (held : List R) → AllByRecursion (λ e. key e.1 ≡ e.0) es → IsDistinct eq (keys_of es)
      → find_by (λ x. cmp k (key x)) (placed cmp key held (values_of es)) ≡ either (lookup (eq k) es) (find_by (λ x. cmp k (key x)) held)
  unfolding IsDistinct
  found k [] held h d = refl
  found k (e ∷ es) held h d =
      found k es (put_by (λ x. cmp (key e.1) (key x)) held e.1) h.1 d.1
      ∙ ap (either (lookup (eq k) es)) (found_put by_key held e.1 k ∙ ap (λ j. cond (eq k j) (Some e.1) (find_by (λ x. cmp k (key x)) held)) h.0)
      ∙ by (eq k e.0) refl
    where
      by : (b : Bool) → eq k e.0 ≡ b
          → either (lookup (eq k) es) (cond b (Some e.1) (find_by (λ x. cmp k (key x)) held))
          ≡ either (cond b (Some e.1) (lookup (eq k) es)) (find_by (λ x. cmp k (key x)) held)
      by true p = ap (λ o. either o (Some e.1)) (not_twice k e es d.0 p)
      by false p = refl

  -- a look-up finds at a key what the map has there
  pub found-entry : (k : K) (es : List (K × R)) → IsKeyed eq key es → find_by (λ x. cmp k (key x)) (placed cmp key [] (values_of es)) ≡ lookup (eq k) es
  found-entry k es h = found k es [] (owned es h) h.1 ∙ either_none (lookup (eq k) es)

  ascending-placed : (rs held : List R) → IsAscending order held → IsAscending order (placed cmp key held rs)
  ascending-placed [] held h = h
  ascending-placed (r ∷ rs) held h =
      ascending-placed rs (put_by (λ x. cmp (key r) (key x)) held r) (ascending-put (λ x y. cmp (key x) (key y)) (on_total key total) r held h)

  -- ascending lists in which the same is found at each key are equal
  same_list : (xs ys : List R) → IsAscending order xs → IsAscending order ys → ((k : K) → find_by (λ x. cmp k (key x)) xs ≡ find_by (λ x. cmp k (key x)) ys)
      → xs ≡ ys
  same_list xs ys h i f = ascending-same (λ x y. cmp (key x) (key y)) (on_total key total) xs ys h i
      (λ z a. found_among by_key ys (key z) z (sym (f (key z)) ∙ found_itself by_key xs h z a))
      (λ z a. found_among by_key xs (key z) z (f (key z) ∙ found_itself by_key ys i z a))

  module _ (es new : List (K × R)) (h : IsKeyed eq key es) (d : IsDistinct eq (keys_of new)) where
    -- a record that is put
    module _ (r : R) (f : (k : K) → lookup (eq k) new ≡ cond (eq (key r) k) (Some r) (lookup (eq k) es)) where
      pub keyed-put : IsKeyed eq key new
      keyed-put = (λ k x e. by k x (eq (key r) k) refl (sym (f k) ∙ e), d)
        where
          by : (k : K) (x : R) (b : Bool) → eq (key r) k ≡ b → cond b (Some r) (lookup (eq k) es) ≡ Some x → key x ≡ k
          by k x true p e = let is : r ≡ x = cc (e) in ap key (sym is) ∙ is_key (key r) k p
          by k x false p e = h.0 k x e

      pub list-put : placed cmp key [] (values_of new) ≡ put_by (λ x. cmp (key r) (key x)) (placed cmp key [] (values_of es)) r
      list-put = same_list (placed cmp key [] (values_of new)) (put_by (λ x. cmp (key r) (key x)) (placed cmp key [] (values_of es)) r)
          (ascending-placed (values_of new) [] tt)
          (ascending-put (λ x y. cmp (key x) (key y)) (on_total key total) r (placed cmp key [] (values_of es)) (ascending-placed (values_of es) [] tt))
          (λ k. found-entry k new keyed-put ∙ f k
          ∙ ap (λ b. cond b (Some r) (lookup (eq k) es)) (swap (key r) k)
          ∙ ap (λ o. cond (eq k (key r)) (Some r) o) (sym (found-entry k es h))
          ∙ sym (found_put by_key (placed cmp key [] (values_of es)) r k))

    -- a record that is removed
    module _ (gone : K) (f : (k : K) → lookup (eq k) new ≡ cond (eq gone k) None (lookup (eq k) es)) where
      pub keyed-remove : IsKeyed eq key new
      keyed-remove = (λ k x e. by k x (eq gone k) (sym (f k) ∙ e), d)
        where
          by : (k : K) (x : R) (b : Bool) → cond b None (lookup (eq k) es) ≡ Some x → key x ≡ k
          by k x true e = absurd (cc (e))
          by k x false e = h.0 k x e

      pub list-remove : placed cmp key [] (values_of new) ≡ remove_by (λ x. cmp gone (key x)) (placed cmp key [] (values_of es))
      list-remove = same_list (placed cmp key [] (values_of new)) (remove_by (λ x. cmp gone (key x)) (placed cmp key [] (values_of es)))
          (ascending-placed (values_of new) [] tt)
          (ascending-remove (λ x y. cmp (key x) (key y)) (λ x. cmp gone (key x)) (placed cmp key [] (values_of es)) (ascending-placed (values_of es) [] tt))
          (λ k. found-entry k new keyed-remove ∙ f k
          ∙ ap (λ o. cond (eq gone k) None o) (sym (found-entry k es h))
          ∙ sym (found_left by_key (placed cmp key [] (values_of es)) (ascending-placed (values_of es) [] tt) gone k (eq gone k)
          (λ y p. ap (eq gone) (sym (is_key k (key y) p)))))

  -- ---- how many there are

  length-placed : (es : List (K × R)) (held : List R) → AllByRecursion (λ e. key e.1 ≡ e.0) es → IsDistinct eq (keys_of es)
      → ((k : K) → is_some (lookup (eq k) es) ≡ true → find_by (λ x. cmp k (key x)) held ≡ None)
      → length (placed cmp key held (values_of es)) ≡ length held + length es
  unfolding IsDistinct
  length-placed [] held h d n = omega arith
  length-placed (e ∷ es) held h d n =
      let more =
      length-placed es (put_by (λ x. cmp (key e.1) (key x)) held e.1) h.1 d.1
      (λ k p. found_put by_key held e.1 k ∙ ap (λ j. cond (eq k j) (Some e.1) (find_by (λ x. cmp k (key x)) held)) h.0 ∙ by k p (eq k e.0) refl) in
      let one = counted_new by_key held (λ _. true) e.1 new in
      let a = count_all (put_by (λ x. cmp (key e.1) (key x)) held e.1) in
      let b = count_all held in
      omega (arith, more, one, a, b)
    where
      new : find_by (λ x. cmp (key e.1) (key x)) held ≡ None
      new = subst (λ k. find_by (λ x. cmp k (key x)) held ≡ None) (sym h.0) (n e.0 (ap (λ b. is_some (cond b (Some e.1) (lookup (eq e.0) es))) (self e.0)))

      by : (k : K) → is_some (lookup (eq k) es) ≡ true → (b : Bool) → eq k e.0 ≡ b → cond b (Some e.1) (find_by (λ x. cmp k (key x)) held) ≡ None
      by k p true q = let none = not_twice k e es d.0 q in absurd (cc (p, none))
      by k p false q = n k (ap (λ b. is_some (cond b (Some e.1) (lookup (eq k) es))) q ∙ p)

  pub length-entries : (es : List (K × R)) → IsKeyed eq key es → length (placed cmp key [] (values_of es)) ≡ length es
  length-entries es h = let is = length-placed es [] (owned es h) h.1 (λ k p. refl) in omega (arith, is)

  -- ---- who is there

  found-value : (k : K) (r : R) (es : List (K × R)) → lookup (eq k) es ≡ Some r → Among r (values_of es)
  found-value k r [] e = absurd (cc (e))
  found-value k r (x ∷ es) e = by (eq k x.0) e (found-value k r es)
    where
      by : (b : Bool) → cond b (Some x.1) (lookup (eq k) es) ≡ Some r → (lookup (eq k) es ≡ Some r → Among r (values_of es)) → Among r (x.1 ∷ values_of es)
      by true p more = (let is : r ≡ x.1 = cc (p) in inl is)
      by false p more = inr (more p)

  value-found : (r : R) (es : List (K × R)) → IsKeyed eq key es → Among r (values_of es) → lookup (eq (key r)) es ≡ Some r
  unfolding IsDistinct
  value-found r [] h a = absurd a
  value-found r (e ∷ es) h (inl is) =
      let at : key r ≡ e.0 = ap key is ∙ (owned (e ∷ es) h).0 in
      ap (λ b. cond b (Some e.1) (lookup (eq (key r)) es)) (subst (λ k. eq (key r) k ≡ true) at (self (key r))) ∙ ap Some (sym is)
  value-found r (e ∷ es) h (inr a) = by (eq (key r) e.0) refl (value-found r es (rest e es h) a)
    where
      by : (b : Bool) → eq (key r) e.0 ≡ b → lookup (eq (key r)) es ≡ Some r → lookup (eq (key r)) (e ∷ es) ≡ Some r
      by true p f = let none = not_twice (key r) e es h.1.0 p in absurd (cc (none, f))
      by false p f = ap (λ b. cond b (Some e.1) (lookup (eq (key r)) es)) p ∙ f

  pub among-forth : (r : R) (es : List (K × R)) → IsKeyed eq key es → Among r (placed cmp key [] (values_of es)) → Among r (values_of es)
  among-forth r es h a =
      found-value (key r) r es
      (sym (found-entry (key r) es h) ∙ found_itself by_key (placed cmp key [] (values_of es)) (ascending-placed (values_of es) [] tt) r a)

  pub among-back : (r : R) (es : List (K × R)) → IsKeyed eq key es → Among r (values_of es) → Among r (placed cmp key [] (values_of es))
  among-back r es h a = found_among by_key (placed cmp key [] (values_of es)) (key r) r (found-entry (key r) es h ∙ value-found r es h a)
