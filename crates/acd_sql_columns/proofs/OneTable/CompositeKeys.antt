-- Rows with rowids apart from their keys, which represent records that two numbers identify.
use Rattle.std.proofs.Common.{◌≡◌, ◌⊎◌, inl, inr, ℕ, ℤ, pos, List, [], ◌∷◌, Bool, true, false, not, ◌==◌, ◌&&◌, filter, map, drop, refl, sym, ap, ap₂, ◌∙◌, eq-eqb}
use Rattle.std.specs.Cmp.{IsTotalOrder, both_ways}
use Rattle.std.specs.List.{list_any, list_all}
use Rattle.std.specs.List.Sorted.{IsPermutation}
use Rattle.std.specs.Ordering.{nat_cmp, ordering_then, ordering_reverse, is_eq}
use Rattle.std.specs.declared.cmp.Ordering.TheVariants.{Less, Equal}
use Rattle.std.proofs.lemmas.Bool.{and_parts, and_from, eqb-true}
use Rattle.std.proofs.lemmas.Cmp.{nat_cmp_total, on_total, then_total, tied_itself}
use Rattle.std.proofs.lemmas.List.Sorted.{IsPermutation-map, list_any-IsPermutation}
use Rattle.sqlite_value.specs.declared.value.Value.TheVariants.{Int}
use Rattle.sqlite_value.specs.Order.{Row, column, value_cmp}
use Rattle.sqlite_value.proofs.OrderLemmas.{value_cmp_total}
use Rattle.sqlite_trees.specs.Tree.{IsTable, rowid, has_rowid}
use Rattle.sqlite_trees.proofs.ListLemmas.{ascending-filter as rising-filter}
use Rattle.sqlite_trees.proofs.TreeLemmas.{IsTable-put_row}
use Rattle.sqlite_sql.specs.Term.{Term, col, holds}
use Rattle.sqlite_rules.specs.Calls.{ids_of}
use Rattle.sqlite_rules.specs.Edit.{id_in, are_fresh, put_all, without_all}
use Rattle.sqlite_rules.specs.Lists.{Has}
use Rattle.sqlite_rules.proofs.ListLemmas.{all_has, all_from, has_filtered, has_kept, some_has, some_from}
use Rattle.sqlite_rules.proofs.TableLemmas.{put_all_has, put_all_keeps, put_all_adds}
use Rattle.acd_terms.specs.Lists.{Among, put_by}
use Rattle.acd_lemmas.proofs.KeyedLists.{key_is}
use Rattle.acd_lemmas.proofs.Lists.{eq_is, is_eq_of, among-filter, filter_among, among-put, among-put_other, among_put, ascending-filter, ascending-put}
use Rattle.acd_sql_columns.specs.Content.{AreHeaped}
use Rattle.acd_sql_columns.specs.Descriptions.{Heap, numbered_row, by_both}
use Rattle.acd_sql_columns.specs.Values.{id_value}
use Rattle.acd_sql_columns.proofs.OneTable.Scans.{showing, passing, filter_like, all_out, any_mapped}
use Rattle.acd_lemmas.proofs.Numbers.{eq_then}

-- ---- two numbers

pub same_id : (m n : ℕ) → id_value m ≡ id_value n → m ≡ n
same_id m n e = let k : pos m ≡ pos n = cc in pos_same m n k
  where
    pos_same : (m n : ℕ) → pos m ≡ pos n → m ≡ n
    pos_same m n e = cc

pub pair_tied : (m n p q : ℕ) → is_eq (ordering_then (nat_cmp m p) (nat_cmp n q)) ≡ ((p == m) && (q == n))
pair_tied m n p q = eq_then (nat_cmp m p) (nat_cmp n q) ∙ ap₂ ◌&&◌ (key_is m p) (key_is n q)

pub both_same : (m n p q : ℕ) → ((p == m) && (q == n)) ≡ true → (p ≡ m) × (q ≡ n)
both_same m n p q h = let k = and_parts (p == m) (q == n) h in (eqb-true p m k.0, eqb-true q n k.1)

pub both_are : (m n p q : ℕ) → p ≡ m → q ≡ n → ((p == m) && (q == n)) ≡ true
both_are m n p q e f = and_from (p == m) (q == n) (eq-eqb p m e) (eq-eqb q n f)

-- ---- rows whose numbers rise

-- two of one number are one
pub one_number : (rows : List Row) (a b : Row) → IsTable rows → Has rows a → Has rows b → value_cmp (rowid a) (rowid b) ≡ Equal → a ≡ b
one_number [] a b up h k e = absurd h
one_number (r ∷ rows) a b up (inl p) (inl q) e = p ∙ sym q
one_number (r ∷ rows) a b up (inl p) (inr k) e =
    absurd (let low = all_has (λ y. value_cmp (rowid r) (rowid y) ≡ Less) rows b up.0 k in
    let never : Equal ≡ Less = sym (ap (λ y. value_cmp (rowid y) (rowid b)) (sym p) ∙ e) ∙ low in cc never)
one_number (r ∷ rows) a b up (inr h) (inl q) e =
    absurd (let low = all_has (λ y. value_cmp (rowid r) (rowid y) ≡ Less) rows a up.0 h in
    let turned = value_cmp_total.antisymm (rowid b) (rowid a) ∙ ap ordering_reverse e in
    let never : Equal ≡ Less = sym (ap (λ y. value_cmp (rowid y) (rowid a)) (sym q) ∙ turned) ∙ low in cc never)
one_number (r ∷ rows) a b up (inr h) (inr k) e = one_number rows a b up.1 h k e

-- where each is the same row, there is one
pub lone : (rows : List Row) (w : Row) → IsTable rows → ((r : Row) → Has rows r → r ≡ w) → Has rows w → rows ≡ w ∷ []
lone [] w up all here = absurd here
lone (r ∷ []) w up all here = ap (λ k. k ∷ []) (all r (inl refl))
lone (r ∷ s ∷ rows) w up all here =
    absurd (let same = all r (inl refl) ∙ sym (all s (inr (inl refl))) in
    let never : Equal ≡ Less = sym (ap (λ k. value_cmp (rowid r) (rowid k)) (sym same) ∙ tied_itself value_cmp_total (rowid r)) ∙ up.0.0 in cc never)

number_itself : (id : ℤ) → is_eq (value_cmp (Int id) (Int id)) ≡ true
number_itself id = is_eq_of (value_cmp (Int id) (Int id)) (tied_itself value_cmp_total (Int id))

-- where the rows that pass were shown, each with its number, those that are left without these numbers are those that don't pass
module _ (rows : List Row) (up : IsTable rows) (ints : (r : Row) → Has rows r → rowid r ≡ Int (id_in (rowid r))) (params : Row) (terms more : List Term)
    (found : List Row)
    (same : IsPermutation (map (showing params (col 1 0 ∷ more)) (passing params terms rows)) found) where
  abbrev pub passes : Row → Bool
  passes r = list_all (holds (params ∷ r ∷ [])) terms

  abbrev hit : Row → Bool
  hit r = list_any (λ id. has_rowid id r) (ids_of found)

  hit_is : (r : Row) → hit r ≡ list_any (λ w. has_rowid (id_in (rowid w)) r) (filter passes rows)
  hit_is r =
      sym (list_any-IsPermutation (λ id. has_rowid id r) _ (ids_of found) (IsPermutation-map (λ w. id_in (rowid w)) _ found same))
      ∙ any_mapped (λ id. has_rowid id r) (λ w. id_in (rowid w)) (map (showing params (col 1 0 ∷ more)) (filter passes rows))
      ∙ any_mapped (λ w. has_rowid (id_in (rowid w)) r) (showing params (col 1 0 ∷ more)) (filter passes rows)

  rowid_itself : (r : Row) → Has rows r → has_rowid (id_in (rowid r)) r ≡ true
  rowid_itself r there = ap (λ v. is_eq (value_cmp v (Int (id_in (rowid r))))) (ints r there) ∙ number_itself (id_in (rowid r))

  hit_passes : (r : Row) → Has rows r → hit r ≡ passes r
  hit_passes r there = both_ways (hit r) (passes r)
      (λ met.
      let w = some_has (λ w. has_rowid (id_in (rowid w)) r) (filter passes rows) (sym (hit_is r) ∙ met) in
      let was = has_filtered passes rows w.0 w.1 in
      let one = one_number rows r w.0 up there was.0 (ap (value_cmp (rowid r)) (ints w.0 was.0) ∙ eq_is _ w.2) in
      ap passes one ∙ was.1)
      (λ pass. hit_is r ∙ some_from (λ w. has_rowid (id_in (rowid w)) r) (filter passes rows) r (has_kept passes rows r there pass) (rowid_itself r there))

  pub left_is : without_all rows (ids_of found) ≡ filter (λ r. not (passes r)) rows
  left_is =
      all_out (ids_of found) rows
      ∙ filter_like (λ r. not (hit r)) (λ r. not (passes r)) rows (all_from (λ r. not (hit r) ≡ not (passes r)) rows (λ r there. ap not (hit_passes r there)))

-- ---- rows of records

module _ {R : Type 0} (h : Heap R) where
  pub by_both_total : IsTotalOrder (by_both h)
  by_both_total = then_total (on_total h.first nat_cmp_total) (on_total h.second nat_cmp_total)

  -- it has the key of a record
  abbrev pub is_like : R → R → Bool
  is_like r x = (h.first x == h.first r) && (h.second x == h.second r)

  pub like_tied : (r x : R) → is_eq (by_both h r x) ≡ is_like r x
  like_tied r x = pair_tied (h.first r) (h.second r) (h.first x) (h.second x)

  pub ints_of : (rows : List Row) (records : List R) → AreHeaped (by_both h) (numbered_row h) rows records → (r : Row) → Has rows r
      → rowid r ≡ Int (id_in (rowid r))
  ints_of rows records are r there = let from = are.known r there in ap rowid from.2 ∙ ap (λ s. Int (id_in (rowid s))) (sym from.2)

  -- the rows of some records are removed
  pub heap_left : (gone : Row → Bool) (p : R → Bool) → ((id : ℤ) (x : R) → gone (numbered_row h id x) ≡ p x) → (rows : List Row) (records : List R)
      → AreHeaped (by_both h) (numbered_row h) rows records
      → AreHeaped (by_both h) (numbered_row h) (filter (λ r. not (gone r)) rows) (filter (λ x. not (p x)) records)
  heap_left gone p same rows records are = record {
    rising = rising-filter _ (λ r. not (gone r)) rows are.rising;
    known = λ r there.
        let was = has_filtered (λ r. not (gone r)) rows r there in
        let from = are.known r was.0 in
        (from.0, from.1, from.2, among-filter (λ x. not (p x)) records from.1 from.3 (ap not (sym (same from.0 from.1) ∙ ap gone (sym from.2)) ∙ was.1));
    stored = λ x a.
        let was = filter_among (λ x. not (p x)) records x a in
        let from = are.stored x was.0 in
        (from.0, has_kept (λ r. not (gone r)) rows (numbered_row h from.0 x) from.1 (ap not (same from.0 x) ∙ was.1));
    apart = λ a b p q. are.apart a b (has_filtered (λ r. not (gone r)) rows a p).0 (has_filtered (λ r. not (gone r)) rows b q).0;
    ascending = ascending-filter (by_both h) (λ x. not (p x)) records are.ascending;
  }

  module _ (starts : (x : R) → h.values x ≡ id_value (h.first x) ∷ id_value (h.second x) ∷ drop 2 (h.values x)) where
    pub first_is : (id : ℤ) (x : R) → column (numbered_row h id x) 1 ≡ id_value (h.first x)
    first_is id x = ap (λ (v : Row). column v 0) (starts x)

    pub second_is : (id : ℤ) (x : R) → column (numbered_row h id x) 2 ≡ id_value (h.second x)
    second_is id x = ap (λ (v : Row). column v 1) (starts x)

    -- rows of one key are those of records of one key, and the other way round
    pub key_met : (i j : ℤ) (r x : R) → column (numbered_row h i x) 1 ≡ column (numbered_row h j r) 1
        → column (numbered_row h i x) 2 ≡ column (numbered_row h j r) 2 → is_like r x ≡ true
    key_met i j r x e f =
        both_are (h.first r) (h.second r) (h.first x) (h.second x) (same_id (h.first x) (h.first r) (sym (first_is i x) ∙ e ∙ first_is j r))
        (same_id (h.second x) (h.second r) (sym (second_is i x) ∙ f ∙ second_is j r))

    pub met_key : (i j : ℤ) (r x : R) → is_like r x ≡ true
        → (column (numbered_row h i x) 1 ≡ column (numbered_row h j r) 1) × (column (numbered_row h i x) 2 ≡ column (numbered_row h j r) 2)
    met_key i j r x met =
        let same = both_same (h.first r) (h.second r) (h.first x) (h.second x) met in
        (first_is i x ∙ ap id_value same.0 ∙ sym (first_is j r), second_is i x ∙ ap id_value same.1 ∙ sym (second_is j r))

    -- a row is put beside others, of which none has its key
    module _ (rows : List Row) (records : List R) (are : AreHeaped (by_both h) (numbered_row h) rows records) (id : ℤ) (r : R)
        (unused : are_fresh rows (numbered_row h id r ∷ []) ≡ true)
        (other : (x : R) → Among x records → is_like r x ≡ false) where
      abbrev new_row : Row
      new_row = numbered_row h id r

      never : {X : Type 0} (x : R) → Among x records → is_like r x ≡ true → X
      never x a met = absurd (let none = other x a in cc (met, none))

      known : (row : Row) → Has (new_row ∷ []) row ⊎ Has rows row → (i : ℤ) × (x : R) × (row ≡ numbered_row h i x) × Among x (put_by (by_both h r) records r)
      known row (inl (inl e)) = (id, r, e, among-put (by_both h r) r records)
      known row (inl (inr none)) = absurd none
      known row (inr there) =
          let from = are.known row there in (
            from.0,
            from.1,
            from.2,
            among-put_other (by_both h r) r records from.1 from.3 (λ tied. never from.1 from.3 (sym (like_tied r from.1) ∙ ap is_eq tied)),
          )

      stored : (x : R) → (x ≡ r) ⊎ Among x records → (i : ℤ) × Has (put_all rows (new_row ∷ [])) (numbered_row h i x)
      stored x (inl e) = (id, put_all_adds (new_row ∷ []) rows (numbered_row h id x) unused (inl (ap (numbered_row h id) e)))
      stored x (inr a) = let from = are.stored x a in (from.0, put_all_keeps (new_row ∷ []) rows (numbered_row h from.0 x) unused from.1)

      -- no row beside it has the key
      free : (it : Row) → Has rows it → column it 1 ≡ column new_row 1 → column it 2 ≡ column new_row 2 → ⊥
      free row there e f =
          let from = are.known row there in
          never from.1 from.3 (key_met from.0 id r from.1 (ap (λ k. column k 1) (sym from.2) ∙ e) (ap (λ k. column k 2) (sym from.2) ∙ f))

      apart : (a b : Row) → Has (new_row ∷ []) a ⊎ Has rows a → Has (new_row ∷ []) b ⊎ Has rows b → column a 1 ≡ column b 1 → column a 2 ≡ column b 2 → a ≡ b
      apart a b (inl (inr none)) k e f = absurd none
      apart a b k (inl (inr none)) e f = absurd none
      apart a b (inl (inl p)) (inl (inl q)) e f = p ∙ sym q
      apart a b (inl (inl p)) (inr there) e f = absurd (free b there (sym e ∙ ap (λ k. column k 1) p) (sym f ∙ ap (λ k. column k 2) p))
      apart a b (inr there) (inl (inl q)) e f = absurd (free a there (e ∙ ap (λ k. column k 1) q) (f ∙ ap (λ k. column k 2) q))
      apart a b (inr p) (inr q) e f = are.apart a b p q e f

      pub heap_beside : AreHeaped (by_both h) (numbered_row h) (put_all rows (new_row ∷ [])) (put_by (by_both h r) records r)
      heap_beside = record {
        rising = IsTable-put_row new_row rows are.rising;
        known = λ row there. known row (put_all_has (new_row ∷ []) rows row there);
        stored = λ x a. stored x (among_put (by_both h r) r records x a);
        apart = λ a b p q. apart a b (put_all_has (new_row ∷ []) rows a p) (put_all_has (new_row ∷ []) rows b q);
        ascending = ascending-put (by_both h) by_both_total r records are.ascending;
      }
