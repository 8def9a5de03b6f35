-- The bounds near a call.
use Rattle.std.proofs.Common.{◌≡◌, ℕ, ◌+◌, ◌-◌, ◌^◌, ◌<◌, Bool, true, false, cond, refl, ap, arith}
use Rattle.std.specs.Prelude.{◌==◌}
use Rattle.std.specs.Ordering.{nat_cmp, ordering_then}
use Rattle.std.specs.declared.cmp.Ordering.TheVariants.{Less, Greater}
use Rattle.std.specs.Range.Bound.{IsForward}
use Rattle.std.specs.BTreeMap.Range.{IsLeBy, IsLtBy, range_contains}
use Rattle.std.specs.declared.ops.Bound.TheVariants.{Excluded, Unbounded}
use Rattle.acd_tables.specs.IndexedRows.{pair_cmp}
use Rattle.acd_tables.specs.Near.{start, end}

pub less : (a b : ℕ) → a < b → nat_cmp a b ≡ Less
less a b lt = grind (arith, lt)

pub greater : (a b : ℕ) → b < a → nat_cmp a b ≡ Greater
greater a b lt = grind (arith, lt)

-- the bounds are in their order
pub near-forward : (call device : ℕ) → IsForward (IsLeBy pair_cmp) (IsLtBy pair_cmp) (start call device) (end call device)
unfolding start end
near-forward call device = by (call == 0) (call == 2 ^ 64 - 1)
  where
    by : (a b : Bool)
        → IsForward (IsLeBy pair_cmp) (IsLtBy pair_cmp) (cond a Unbounded (Excluded (call - 1, device))) (cond b Unbounded (Excluded (call + 1, device)))
    by true b = tt
    by false true = tt
    by false false = ap (λ o. ordering_then o (nat_cmp device device)) (less (call - 1) (call + 1) (omega arith))

-- the connections of the call are between the bounds
pub near-itself : (call device d : ℕ) → range_contains pair_cmp (start call device) (end call device) (call, d) ≡ true
unfolding start end
near-itself call device d = by (call == 0) refl (call == 2 ^ 64 - 1)
  where
    by : (a : Bool) → (call == 0) ≡ a → (b : Bool)
        → range_contains pair_cmp (cond a Unbounded (Excluded (call - 1, device))) (cond b Unbounded (Excluded (call + 1, device))) (call, d) ≡ true
    by true h true = refl
    by true h false = rw (greater (call + 1) call (omega arith)) refl
    by false h true = rw (less (call - 1) call (grind (arith, h))) refl
    by false h false = rw (less (call - 1) call (grind (arith, h)), greater (call + 1) call (omega arith)) refl
