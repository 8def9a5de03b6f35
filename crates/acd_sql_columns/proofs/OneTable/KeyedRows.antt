-- A table whose rows are those of records with a key that is the row's number.
use Rattle.std.proofs.Common.{◌≡◌, ℕ, pos, inl, inr, List, [], ◌∷◌, map, filter, not, ◌==◌, Bool, true, false, refl, sym, ap, ◌∙◌, cond, arith}
use Rattle.std.proofs.lemmas.Int.{ints}
use Rattle.std.proofs.lemmas.Bool.Decides.{nat_tests}
use Rattle.std.proofs.lemmas.Cmp.{nat_cmp_total}
use Rattle.std.specs.Cmp.{IsTotalOrder}
use Rattle.std.specs.declared.cmp.Ordering.{Ordering}
use Rattle.std.specs.declared.cmp.Ordering.TheVariants.{Less, Equal, Greater}
use Rattle.std.specs.Ordering.{nat_cmp, match_ordering, ordering_reverse, is_eq}
use Rattle.sqlite_value.specs.Order.{Row, value_cmp}
use Rattle.sqlite_value.proofs.OrderLemmas.{value_cmp-Int}
use Rattle.sqlite_trees.specs.Tree.{rowid, put_row}
use Rattle.sqlite_rules.specs.Lists.{Has}
use Rattle.acd_terms.specs.Lists.{Among, AllAfter, IsAscending, put_by}
use Rattle.acd_lemmas.proofs.KeyedLists.{key_is, eq_key}
use Rattle.acd_lemmas.proofs.Lists.{after_among, after_lower, after_same, filter_all}
use Rattle.acd_sql_columns.specs.Values.{id_value}

pub id_cmp : (m n : ℕ) → value_cmp (id_value m) (id_value n) ≡ nat_cmp m n
id_cmp m n = value_cmp-Int (pos m) (pos n) ∙ grind (arith, ints, nat_tests)

pub id_tied : (m n : ℕ) → is_eq (value_cmp (id_value m) (id_value n)) ≡ (m == n)
id_tied m n = ap is_eq (id_cmp m n) ∙ eq_key m n

-- `apart 0 1 refl`, of two numbers that are written out
pub apart : (m n : ℕ) → (m == n) ≡ false → m ≡ n → ⊥
apart m n h e = grind (arith, nat_tests)

-- the one that is removed from an ascending list is the one that is added again
module _ {R : Type 0} (order : R → R → Ordering) (total : IsTotalOrder order) (has : R → R → Bool) (tied : (new r : R) → is_eq (order new r) ≡ has new r) where
  module _ (new : R) where
    -- none of these has the key
    none_has : (rs : List R) → AllAfter order new rs → filter (λ r. not (has new r)) rs ≡ rs
    none_has rs h = filter_all (λ r. not (has new r)) rs (λ x a. ap not (sym (tied new x) ∙ ap is_eq (after_among order new rs x h a)))

    first_of : (rs : List R) → AllAfter order new rs → put_by (order new) rs new ≡ new ∷ rs
    first_of [] h = refl
    first_of (r ∷ rs) h = rw h.0 refl

    has_is : (r : R) (o : Ordering) → order new r ≡ o → has new r ≡ is_eq o
    has_is r o e = sym (tied new r) ∙ ap is_eq e

  pub put_back : (new : R) (rs : List R) → IsAscending order rs → put_by (order new) (filter (λ r. not (has new r)) rs) new ≡ put_by (order new) rs new
  put_back new [] h = refl
  put_back new (r ∷ rs) h = go (order new r) refl (put_back new rs h.1)
    where
      go : (o : Ordering) → order new r ≡ o → put_by (order new) (filter (λ r. not (has new r)) rs) new ≡ put_by (order new) rs new
          → put_by (order new) (cond (not (has new r)) (r ∷ filter (λ r. not (has new r)) rs) (filter (λ r. not (has new r)) rs)) new
          ≡ match_ordering o (new ∷ r ∷ rs) (new ∷ rs) (r ∷ put_by (order new) rs new)
      go Less e ih = rw (has_is new r Less e, e) (ap (λ l. new ∷ r ∷ l) (none_has new rs (after_lower order total new r e rs h.0)))
      go Equal e ih =
          let after = after_same order total new r e rs h.0 in
          rw (has_is new r Equal e, none_has new rs after) (first_of new rs after)
      go Greater e ih = rw (has_is new r Greater e, e) (ap (λ l. r ∷ l) ih)

module _ {R : Type 0} (key : R → ℕ) where
  abbrev pub by_key : R → R → Ordering
  by_key a b = nat_cmp (key a) (key b)

  pub by_key_total : IsTotalOrder by_key
  by_key_total = record {
    antisymm = λ x y. nat_cmp_total.antisymm (key x) (key y);
    trans = λ x y z. nat_cmp_total.trans (key x) (key y) (key z);
    congr = λ x y z. nat_cmp_total.congr (key x) (key y) (key z);
  }

  less_key : (new r : R) → by_key new r ≡ Less → (key r == key new) ≡ false
  less_key new r h = grind (arith, nat_tests)

  pub put_left : (new : R) (rs : List R) → IsAscending by_key rs
      → put_by (by_key new) (filter (λ r. not (key r == key new)) rs) new ≡ put_by (by_key new) rs new
  put_left new rs h = put_back by_key by_key_total (λ x r. key r == key x) (λ x r. key_is (key x) (key r)) new rs h

  -- none of those after a record has its key
  none_more : (new r : R) (rs : List R) → key r ≡ key new → AllAfter by_key r rs → filter (λ x. key x == key new) rs ≡ []
  none_more new r [] same h = refl
  none_more new r (x ∷ rs) same h = rw (less_key new x (ap (λ k. nat_cmp k (key x)) (sym same) ∙ h.0)) (none_more new r rs same h.1)

  before : (new r : R) (rs : List R) (x : R) → AllAfter by_key r rs → Among x rs → key x ≡ key new → (key r == key new) ≡ false
  before new r rs x h a same = let low : nat_cmp (key r) (key x) ≡ Less = after_among by_key r rs x h a in grind (arith, nat_tests)

  -- an ascending list has one record of a key at most
  pub only_one : (new x : R) (rs : List R) → IsAscending by_key rs → Among x rs → key x ≡ key new → filter (λ r. key r == key new) rs ≡ x ∷ []
  only_one new x [] h a same = absurd a
  only_one new x (r ∷ rs) h (inl e) same =
      let same_key : key r ≡ key new = ap key (sym e) ∙ same in
      rw (has_same_key r new same_key, none_more new r rs same_key h.0) (ap (λ y. y ∷ []) (sym e))
    where
      has_same_key : (r new : R) → key r ≡ key new → (key r == key new) ≡ true
      has_same_key r new same_key = grind (arith, nat_tests)
  only_one new x (r ∷ rs) h (inr a) same = rw (before new r rs x h.0 a same) (only_one new x rs h.1 a same)

  module _ (row : R → Row) (keyed : (r : R) → rowid (row r) ≡ id_value (key r)) where
    cmp : (r new : R) → value_cmp (rowid (row r)) (rowid (row new)) ≡ ordering_reverse (by_key new r)
    cmp r new = rw (keyed r, keyed new) (id_cmp (key r) (key new) ∙ nat_cmp_total.antisymm (key r) (key new))

    pub puts : (new : R) (rs : List R) → put_row (row new) (map row rs) ≡ map row (put_by (by_key new) rs new)
    puts new [] = refl
    puts new (r ∷ rs) = rw (cmp r new) (go (by_key new r) (puts new rs))
      where
        go : (o : Ordering) → put_row (row new) (map row rs) ≡ map row (put_by (by_key new) rs new)
            → match_ordering (ordering_reverse o) (row r ∷ put_row (row new) (map row rs)) (row new ∷ map row rs) (row new ∷ row r ∷ map row rs)
            ≡ map row (match_ordering o (new ∷ r ∷ rs) (new ∷ rs) (r ∷ put_by (by_key new) rs new))
        go Less e = refl
        go Equal e = refl
        go Greater e = ap (λ t. row r ∷ t) e

    pub row_of : (rs : List R) (x : Row) → Has (map row rs) x → (r : R) × Among r rs × (x ≡ row r)
    row_of [] x h = absurd h
    row_of (r ∷ rs) x (inl e) = (r, inl refl, e)
    row_of (r ∷ rs) x (inr h) = let found = row_of rs x h in (found.0, inr found.1, found.2)
