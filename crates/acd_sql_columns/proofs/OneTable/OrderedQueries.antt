-- A query over one table whose answer is in the order of its records.
use Rattle.std.proofs.Common.{◌≡◌, ℕ, ◌+◌, List, [], ◌∷◌, map, refl, sym, ap, subst, ◌∙◌, arith}
use Rattle.std.proofs.Math.ListN.{set, get_or, length-map, get_or-map}
use Rattle.std.proofs.lemmas.List.{map-set}
use Rattle.std.proofs.lemmas.List as lists
use Rattle.std.specs.Cmp.{IsTotalOrder}
use Rattle.std.specs.declared.cmp.Ordering.{Ordering}
use Rattle.std.specs.declared.cmp.Ordering.TheVariants.{Less}
use Rattle.std.specs.Ordering.{is_lt}
use Rattle.std.specs.List.{AllByRecursion, swap}
use Rattle.std.specs.List.Sorted.{IsPermutation, IsSorted, apply_swaps, SwapsInRange}
use Rattle.std.proofs.lemmas.List.Sorted.{IsPermutation-trans}
use Rattle.sqlite_value.specs.declared.value.Value.TheVariants.{Null}
use Rattle.sqlite_value.specs.declared.keys.Key.{Key}
use Rattle.sqlite_value.specs.Order.{Row}
use Rattle.sqlite_trees.specs.Tree.{Trees}
use Rattle.sqlite_trees.specs.Tree as tree
use Rattle.sqlite_sql.specs.Term.{Term, eval}
use Rattle.sqlite_sql.specs.Query.{Query, output, output_cmp, Output, IsAnswer, limited, as_count}
use Rattle.sqlite_sql.specs.Program.{overlay, IsProgramAnswer}
use Rattle.sqlite_keyed.proofs.SortLemmas.{sorted_unique}
use Rattle.sqlite_keyed.proofs.ListLemmas.{map-map}
use Rattle.acd_terms.specs.Lists.{AllAfter, IsAscending}
use Rattle.acd_sql_columns.proofs.OneTable.Scans.{scan, passing, staged_is, nothing_over}

-- ---- a permutation of records that is in order

module _ {X Y : Type 0} (f : X → Y) where
  map-swap : (xs : List X) (i j : ℕ) → map f (swap xs i j) ≡ swap (map f xs) i j
  map-swap [] i j = refl
  map-swap (d ∷ ys) i j = map-set f (set (d ∷ ys) i (get_or (d ∷ ys) j d)) j (get_or (d ∷ ys) i d)
      ∙ (λ k. set ((map-set f (d ∷ ys) i (get_or (d ∷ ys) j d) ∙ ap (set (map f (d ∷ ys)) i) (sym (get_or-map f (d ∷ ys) j d))) k) j
      (sym (get_or-map f (d ∷ ys) i d) k))

  map_swaps : (xs : List X) (ps : List (ℕ × ℕ)) → map f (apply_swaps xs ps) ≡ apply_swaps (map f xs) ps
  map_swaps xs [] = refl
  map_swaps xs (p ∷ ps) = map-swap (apply_swaps xs ps) p.0 p.1 ∙ ap (λ l. swap l p.0 p.1) (map_swaps xs ps)

  -- a list in another order than the images is a list of images in another order
  unmapped : (xs : List X) (ys : List Y) → IsPermutation (map f xs) ys → (zs : List X) × IsPermutation xs zs × (ys ≡ map f zs)
  unmapped xs ys p = (
    apply_swaps xs p.moves,
    record { moves = p.moves; below = subst (λ n. SwapsInRange n p.moves) (length-map xs f) p.below; is = refl },
    p.is ∙ sym (map_swaps xs p.moves),
  )

module _ {R : Type 0} (cmp : R → R → Ordering) (total : IsTotalOrder cmp) where
  rises : (z : R) (xs : List R) → AllAfter cmp z xs → AllByRecursion (λ x. cmp z x ≡ Less) xs
  rises z [] h = tt
  rises z (x ∷ xs) h = (h.0, rises z xs h.1)

  pub strict : (xs : List R) → IsAscending cmp xs → tree.IsAscending (λ a b. cmp a b ≡ Less) xs
  strict [] h = tt
  strict (x ∷ xs) h = (rises x xs h.0, strict xs h.1)

  module _ {Y : Type 0} (by : Y → Y → Ordering) (f : R → Y) (same : (a b : R) → by (f a) (f b) ≡ cmp a b) where
    unmapped_order : (zs : List R) → IsSorted by (map f zs) → IsSorted cmp zs
    unmapped_order zs sorted k d low high =
        ap is_lt (sym (same (get_or zs (k + 1) d) (get_or zs k d)))
        ∙ (rw (lists.get_or-map f zs (k + 1) d (f d) high, lists.get_or-map f zs k d (f d) (omega arith)) at (sorted k (f d) low (rw length-map high)))

    -- of ascending records the images in order are the images of the records in order
    pub only_order : (xs : List R) (ys : List Y) → IsAscending cmp xs → IsPermutation (map f xs) ys → IsSorted by ys → ys ≡ map f xs
    only_order xs ys up moved sorted =
        let found = unmapped f xs ys moved in
        found.2 ∙ ap (map f) (sorted_unique cmp total xs found.0 (strict xs up) found.1 (unmapped_order found.0 (subst (IsSorted by) found.2 sorted)))

-- ---- the answer

abbrev pub asking : ℕ → List Term → List Term → List (Term × Key) → Term → Query
asking t terms project order limit = record (scan t terms project order) { limit = limit }

-- the sort key of a row, and the values that it shows
abbrev pub given : Query → Row → Row → Output
given q params r = output q (params ∷ r ∷ [])

given_is : (q : Query) (params : Row) (rows : List Row) → map (output q) (map (λ r. params ∷ r ∷ []) rows) ≡ map (given q params) rows
given_is q params rows = map-map (output q) (λ r. params ∷ r ∷ []) rows

-- the first rows of these outputs, in the order of the query
pub record AnswersInOrder (q : Query) (params : Row) (outputs : List Output) (rows : List Row) : Type 0 where
  pub ordered : List Output
  pub same : IsPermutation outputs ordered
  pub sorted : IsSorted (output_cmp q) ordered
  pub shown : rows ≡ limited (as_count (eval q.limit (params ∷ []))) (map (λ (o : Output). o.1) ordered)

-- they are those of the rows that pass
pub in_its_order : (t : ℕ) (terms project : List Term) (order : List (Term × Key)) (limit : Term) (db : Trees) (params : Row) (rows : List Row)
    → IsProgramAnswer [] (asking t terms project order limit) db params rows
    → AnswersInOrder (asking t terms project order limit) params (map (given (asking t terms project order limit) params) (passing params terms (db t))) rows
in_its_order t terms project order limit db params rows h =
    let q = asking t terms project order limit in
    let a : IsAnswer q (overlay db []) params rows = h Null in
    let staged =
    a.grouped ∙ staged_is params terms (overlay db [] t) ∙ ap (λ (l : List Row). map (λ r. params ∷ r ∷ []) (passing params terms l)) (nothing_over db t) in
    let kept = a.distinct ∙ ap (map (output q)) staged ∙ given_is q params (passing params terms (db t)) in
    record { ordered = a.ordered; same = subst (λ k. IsPermutation k a.ordered) kept a.same; sorted = a.sorted; shown = a.shown }

-- ascending records have these outputs, which the query compares as the records are compared
pub record Ascends {R : Type 0} (cmp : R → R → Ordering) (q : Query) (out : R → Output) (records : List R) (outputs : List Output) : Type 0 where
  pub alike : (a b : R) → output_cmp q (out a) (out b) ≡ cmp a b
  pub ascending : IsAscending cmp records
  pub all : IsPermutation (map out records) outputs

-- so the rows are the first of those that the records show
pub answered : {R : Type 0} (cmp : R → R → Ordering) (total : IsTotalOrder cmp) (q : Query) (params : Row) (out : R → Output) (records : List R)
    (outputs : List Output) (rows : List Row)
    → Ascends cmp q out records outputs → AnswersInOrder q params outputs rows
    → rows ≡ limited (as_count (eval q.limit (params ∷ []))) (map (λ r. (out r).1) records)
answered cmp total q params out records outputs rows up h =
    let moved : IsPermutation (map out records) h.ordered = IsPermutation-trans _ _ _ up.all h.same in
    let is = only_order cmp total (output_cmp q) out up.alike records h.ordered up.ascending moved h.sorted in
    h.shown ∙ ap (λ (l : List Output). limited (as_count (eval q.limit (params ∷ []))) (map (λ o. o.1) l)) is
    ∙ ap (limited (as_count (eval q.limit (params ∷ [])))) (map-map (λ (o : Output). o.1) out records)
