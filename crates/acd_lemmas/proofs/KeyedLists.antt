-- Lists of records in ascending key: look-ups by a key in any of them, also after a record was put or removed.
use Rattle.std.proofs.Common.{◌≡◌, ℕ, ◌+◌, Bool, true, false, not, ◌||◌, cond, List, Some, None, refl, sym, ◌∙◌, ap, eq-eqb, arith}
use Rattle.std.specs.Prelude.{◌==◌, is_some, find, filter}
use Rattle.std.specs.List.{list_any}
use Rattle.std.specs.Cmp.{IsTotalOrder, both_ways}
use Rattle.std.specs.Ordering.{nat_cmp, is_eq}
use Rattle.std.specs.declared.cmp.Ordering.{Ordering}
use Rattle.std.specs.declared.cmp.Ordering.TheVariants.{Equal}
use Rattle.std.proofs.lemmas.Bool.{eqb-true}
use Rattle.std.proofs.lemmas.Bool.Decides.{nat_tests}
use Rattle.std.proofs.lemmas.Cmp.{nat_cmp_total, on_total}
pub use Rattle.acd_terms.proofs.Numbers.{cmp_equal, eqb_self, eqb_swap}
use Rattle.acd_lemmas.proofs.Words.{find_by, put_by, remove_by, count, Among, IsAscending}
use Rattle.acd_lemmas.proofs.Lists.{one, eq_is, is_eq_of, find_by_find, find-put, find-filter, find-filter_none, find_passes, find_among, find_found, any-find, remove_is, count-put_new, count-put_old}

pub cmp_self : (m n : ℕ) → m ≡ n → nat_cmp m n ≡ Equal
cmp_self m n e = grind (arith, nat_tests)

pub key_is : (m n : ℕ) → is_eq (nat_cmp m n) ≡ (n == m)
key_is m n =
    both_ways (is_eq (nat_cmp m n)) (n == m) (λ e. eq-eqb n m (sym (cmp_equal m n (eq_is (nat_cmp m n) e))))
    (λ e. is_eq_of (nat_cmp m n) (cmp_self m n (sym (eqb-true n m e))))

-- records with a key: how two compare, how a record compares with a key, and whether it has that key
pub record Keyed (T K : Type 0) : Type 0 where
  pub order : T → T → Ordering
  pub at : K → T → Ordering
  pub has : K → T → Bool
  pub key : T → K
  pub total : IsTotalOrder order
  pub test : (k : K) (x : T) → is_eq (at k x) ≡ has k x
  pub itself : (x : T) → has (key x) x ≡ true
  pub equal : (k : K) (x y : T) → has k x ≡ true → has k y ≡ true → order x y ≡ Equal
  pub same : (k : K) (x y : T) → order x y ≡ Equal → has k y ≡ has k x

-- by a number
abbrev pub by_number : {T : Type 0} → (T → ℕ) → Keyed T ℕ
by_number f = record {
  order = λ x y. nat_cmp (f x) (f y);
  at = λ k x. nat_cmp k (f x);
  has = λ k x. f x == k;
  key = f;
  total = on_total f nat_cmp_total;
  test = λ k x. key_is k (f x);
  itself = λ x. eqb_self (f x);
  equal = λ k x y p q. cmp_self (f x) (f y) (eqb-true (f x) k p ∙ sym (eqb-true (f y) k q));
  same = λ k x y e. ap (λ v. v == k) (sym (cmp_equal (f x) (f y) e));
}

module _ {T K : Type 0} (r : Keyed T K) (xs : List T) where
  pub find_is : (k : K) → find_by (r.at k) xs ≡ find (r.has k) xs
  find_is k = find_by_find (r.at k) (r.has k) (r.test k) xs

  pub some_is_any : (k : K) → is_some (find_by (r.at k) xs) ≡ list_any (r.has k) xs
  some_is_any k = ap is_some (find_is k) ∙ sym (any-find (r.has k) xs)

  pub found_among : (k : K) (x : T) → find_by (r.at k) xs ≡ Some x → Among x xs
  found_among k x e = find_among (r.has k) xs x (sym (find_is k) ∙ e)

  pub found_has : (k : K) (x : T) → find_by (r.at k) xs ≡ Some x → r.has k x ≡ true
  found_has k x e = find_passes (r.has k) xs x (sym (find_is k) ∙ e)

  pub found_itself : IsAscending r.order xs → (x : T) → Among x xs → find_by (r.at (r.key x)) xs ≡ Some x
  found_itself h x i = find_is (r.key x) ∙ find_found r.order (r.has (r.key x)) x (r.itself x) (λ y q. r.equal (r.key x) y x q (r.itself x)) xs h i

  pub found_put : (x : T) (k : K) → find_by (r.at k) (put_by (r.order x) xs x) ≡ cond (r.has k x) (Some x) (find_by (r.at k) xs)
  found_put x k =
      find_by_find (r.at k) (r.has k) (r.test k) (put_by (r.order x) xs x)
      ∙ find-put r.order (r.has k) x (λ y e. r.same k x y e) (λ y p q. r.equal k x y p q) xs
      ∙ ap (λ o. cond (r.has k x) (Some x) o) (sym (find_is k))

  pub some_put : (x : T) (k : K) → is_some (find_by (r.at k) (put_by (r.order x) xs x)) ≡ (r.has k x || is_some (find_by (r.at k) xs))
  some_put x k =
      ap is_some (found_put x k)
      ∙ (elim (r.has k x) as (λ b. is_some (cond b (Some x) (find_by (r.at k) xs)) ≡ (b || is_some (find_by (r.at k) xs))) [ true ↦ refl | false ↦ refl ])

  pub others_left : IsAscending r.order xs → (k : K) → remove_by (r.at k) xs ≡ filter (λ y. not (r.has k y)) xs
  others_left h k = remove_is r.order (r.at k) (r.has k) (r.test k) (r.equal k) xs h

  -- b says whether the two keys are one
  pub found_left : IsAscending r.order xs → (j k : K) (b : Bool) → ((y : T) → r.has k y ≡ true → r.has j y ≡ b)
      → find_by (r.at k) (remove_by (r.at j) xs) ≡ cond b None (find_by (r.at k) xs)
  found_left h j k b f =
      find_by_find (r.at k) (r.has k) (r.test k) (remove_by (r.at j) xs) ∙ ap (find (r.has k)) (others_left h j) ∙
      (elim b as (λ b. ((y : T) → r.has k y ≡ true → r.has j y ≡ b) → find (r.has k) (filter (λ y. not (r.has j y)) xs) ≡ cond b None (find_by (r.at k) xs)) [
        | true ↦ λ f. find-filter_none (r.has k) (λ y. not (r.has j y)) (λ y q. ap not (f y q)) xs
        | false ↦ λ f. find-filter (r.has k) (λ y. not (r.has j y)) (λ y q. ap not (f y q)) xs ∙ sym (find_is k)
      ]) f

  pub counted_new : (p : T → Bool) (x : T) → find_by (r.at (r.key x)) xs ≡ None → count p (put_by (r.order x) xs x) ≡ one (p x) + count p xs
  counted_new p x e = count-put_new r.order (r.has (r.key x)) p x (λ y q. r.same (r.key x) x y q ∙ r.itself x) xs (sym (find_is (r.key x)) ∙ e)

  pub counted_old : (p : T → Bool) (x z : T) → IsAscending r.order xs → find_by (r.at (r.key x)) xs ≡ Some z
      → count p (put_by (r.order x) xs x) + one (p z) ≡ one (p x) + count p xs
  counted_old p x z h e =
      count-put_old r.order r.total (r.has (r.key x)) p x (λ y q. r.same (r.key x) x y q ∙ r.itself x) (λ y q. r.equal (r.key x) x y (r.itself x) q) xs h z
      (sym (find_is (r.key x)) ∙ e)

pub eq_key : (m n : ℕ) → is_eq (nat_cmp m n) ≡ (m == n)
eq_key m n =
    both_ways (is_eq (nat_cmp m n)) (m == n) (λ e. eq-eqb m n (cmp_equal m n (eq_is (nat_cmp m n) e)))
    (λ e. is_eq_of (nat_cmp m n) (cmp_self m n (eqb-true m n e)))
