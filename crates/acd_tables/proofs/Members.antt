-- A set that isn't empty has a member.
use Rattle.std.proofs.Common.{◌≡◌, true, length, List, [], ◌∷◌, refl, ap, ◌∙◌}
use Rattle.std.specs.List.{list_any}
use Rattle.std.specs.Cmp.{IsTotalOrder}
use Rattle.std.specs.Ordering.{is_eq}
use Rattle.std.specs.declared.cmp.Ordering.{Ordering}
use Rattle.std.specs.BTreeSet.{BTreeSet, btree_set_len, contains}
use Rattle.std.proofs.lemmas.Bool.{or_left}
use Rattle.std.proofs.lemmas.Cmp.{tied_itself}

pub some_member : (E : Type 0) (cmp : E → E → Ordering) → IsTotalOrder cmp → (s : BTreeSet E) → ¬ (btree_set_len s ≡ 0) → (x : E) × (contains cmp s x ≡ true)
some_member E cmp total s some = by s.keys refl
  where
    by : (keys : List E) → s.keys ≡ keys → (x : E) × (contains cmp s x ≡ true)
    by [] e = absurd (some (ap length e))
    by (k ∷ ks) e = (
      k,
      ap (list_any (λ (x : E). is_eq (cmp k x))) e
          ∙ or_left (is_eq (cmp k k)) (list_any (λ (x : E). is_eq (cmp k x)) ks) (ap is_eq (tied_itself total k)),
    )
