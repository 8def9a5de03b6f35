-- The keys of the calls at a device.
use Rattle.std.proofs.Common.{◌≡◌, ℕ, ◌+◌, ◌-◌, ◌^◌, arith, Bool, true, false, cond, refl, ap, sym, ◌∙◌, subst}
use Rattle.std.specs.Prelude.{◌==◌, find}
use Rattle.std.specs.Ordering.{nat_cmp, is_le}
use Rattle.std.specs.BTreeMap.{is_at}
use Rattle.std.specs.BTreeMap.Range.{IsLeBy, IsLtBy, range_contains}
use Rattle.std.specs.BTreeSet.{BTreeSet, keys_between}
use Rattle.std.specs.Range.Bound.{IsForward}
use Rattle.std.specs.declared.ops.Bound.{Bound}
use Rattle.std.specs.declared.ops.Bound.TheVariants.{Included, Excluded, Unbounded}
use Rattle.std.proofs.lemmas.Bool.{and_parts, eqb-true}
use Rattle.acd_terms.specs.Lists.{Among}
use Rattle.acd_lemmas.proofs.Lists.{any_found, find_passes, find_among, among-filter, some_from}
use Rattle.acd_lemmas.proofs.KeyedLists.{cmp_self}
use Rattle.acd_tables.specs.IndexedRows.{pair_cmp, joins}
use Rattle.acd_tables.specs.Uses.{first_line, past_lines}
use Rattle.acd_tables.proofs.NearLemmas.{less, greater}
use Rattle.acd_tables.proofs.SwapLemmas.{pair_key}

-- the bounds of a device are in their order
pub lines-forward : (d : ℕ) (lo hi : Bound (ℕ × ℕ)) → lo ≡ first_line d → hi ≡ past_lines d → IsForward (IsLeBy pair_cmp) (IsLtBy pair_cmp) lo hi
unfolding first_line past_lines
lines-forward d lo hi l h = rw (l, h) (by (d == 2 ^ 64 - 1))
  where
    by : (b : Bool) → IsForward (IsLeBy pair_cmp) (IsLtBy pair_cmp) (Included (d, 0)) (cond b Unbounded (Excluded (d + 1, 0)))
    by true = tt
    by false = rw (less d (d + 1) (omega arith)) refl

least_zero : (c : ℕ) → is_le (nat_cmp 0 c) ≡ true
least_zero c = by (c == 0) refl
  where
    by : (b : Bool) → (c == 0) ≡ b → is_le (nat_cmp 0 c) ≡ true
    by true h = rw (cmp_self 0 c (sym (eqb-true c 0 h))) refl
    by false h = rw (less 0 c (grind (arith, h))) refl

-- its calls are between them
lines-between : (d c : ℕ) → range_contains pair_cmp (first_line d) (past_lines d) (d, c) ≡ true
unfolding first_line past_lines
lines-between d c = by (d == 2 ^ 64 - 1)
  where
    by : (b : Bool) → range_contains pair_cmp (Included (d, 0)) (cond b Unbounded (Excluded (d + 1, 0))) (d, c) ≡ true
    by true = rw (cmp_self d d refl, least_zero c) refl
    by false = rw (cmp_self d d refl, least_zero c, greater (d + 1) d (omega arith)) refl

-- a call that is listed at a device is among the keys between them
pub lines-among : (lines : BTreeSet (ℕ × ℕ)) (d c : ℕ) (lo hi : Bound (ℕ × ℕ)) → lo ≡ first_line d → hi ≡ past_lines d → joins lines d c ≡ true
    → Among (d, c) (keys_between pair_cmp lo hi lines)
lines-among lines d c lo hi l h e =
    let q : ℕ × ℕ → Bool = is_at (pair_cmp (d, c)) in
    let k = some_from (find q lines.keys) (any_found q lines.keys e) in
    let parts = and_parts (d == k.0.0) (c == k.0.1) (sym (pair_key d c k.0) ∙ find_passes q lines.keys k.0 k.1) in
    let same : k.0 ≡ (d, c) = sym (ap (λ n. (n, c)) (eqb-true d k.0.0 parts.0) ∙ ap (λ n. (k.0.0, n)) (eqb-true c k.0.1 parts.1)) in
    let between : range_contains pair_cmp lo hi (d, c) ≡ true = rw (l, h) (lines-between d c) in
    among-filter (range_contains pair_cmp lo hi) lines.keys (d, c) (subst (λ p. Among p lines.keys) same (find_among q lines.keys k.0 k.1)) between
