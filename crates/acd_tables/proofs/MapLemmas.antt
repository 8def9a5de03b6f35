-- Maps whose records hold their keys, against lists.
use Rattle.std.proofs.Common.{◌≡◌, ◌∙◌, List, [], ◌∷◌, refl, ap}
use Rattle.std.specs.Map.{values_of}
use Rattle.std.specs.BTreeMap.{insert_entry}
use Rattle.std.specs.Ordering.{match_ordering}
use Rattle.std.specs.declared.cmp.Ordering.{Ordering}
use Rattle.std.specs.declared.cmp.Ordering.TheVariants.{Less, Equal, Greater}
use Rattle.std.proofs.lemmas.Map.Lookups.{CmpEqualImpliesEq}
use Rattle.acd_terms.specs.Lists.{put_by}
use Rattle.acd_tables.specs.KeyedMaps.{keyed_entries}

module _ {K R : Type 0} (cmp : K → K → Ordering) (key : R → K) where
  pub insert-keyed : CmpEqualImpliesEq cmp → (r : R) (rs : List R)
      → insert_entry cmp (keyed_entries key rs) (key r) r ≡ keyed_entries key (put_by (λ x. cmp (key r) (key x)) rs r)
  insert-keyed exact r [] = refl
  insert-keyed exact r (x ∷ xs) = step (cmp (key r) (key x)) refl (insert-keyed exact r xs)
    where
      step : (o : Ordering) → cmp (key r) (key x) ≡ o → insert_entry cmp (keyed_entries key xs) (key r) r ≡ keyed_entries key (put_by (λ x. cmp (key r) (key x)) xs r)
          → match_ordering o ((key r, r) ∷ (key x, x) ∷ keyed_entries key xs) ((key x, r) ∷ keyed_entries key xs) ((key x, x) ∷ insert_entry cmp (keyed_entries key xs) (key r) r)
          ≡ keyed_entries key (match_ordering o (r ∷ x ∷ xs) (r ∷ xs) (x ∷ put_by (λ x. cmp (key r) (key x)) xs r))
      step Less h more = refl
      step Equal h more = rw (← exact (key r) (key x) h) refl
      step Greater h more = ap (λ es. (key x, x) ∷ es) more

  pub values-keyed : (rs : List R) → values_of (keyed_entries key rs) ≡ rs
  values-keyed [] = refl
  values-keyed (r ∷ rs) = ap (λ more. r ∷ more) (values-keyed rs)

  pub values-from_keyed : (es : List (K × R)) (rs : List R) → es ≡ keyed_entries key rs → values_of es ≡ rs
  values-from_keyed es rs h = rw h (values-keyed rs)

  pub keyed-from_keyed : (es : List (K × R)) (rs : List R) → es ≡ keyed_entries key rs → es ≡ keyed_entries key (values_of es)
  keyed-from_keyed es rs h = rw (values-from_keyed es rs h) h

  -- the entries after an insertion
  pub keyed-after_insert : CmpEqualImpliesEq cmp → (es es' : List (K × R)) (rs : List R) (k : K) (r : R) → es ≡ keyed_entries key rs → k ≡ key r
      → es' ≡ insert_entry cmp es k r → es' ≡ keyed_entries key (put_by (λ x. cmp (key r) (key x)) rs r)
  keyed-after_insert exact es es' rs k r was at put = put ∙ rw (was, at) (insert-keyed exact r rs)
