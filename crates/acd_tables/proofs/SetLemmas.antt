-- Sets by key.
use Rattle.std.proofs.Common.{◌≡◌, Bool, true, false, ◌&&◌, cond, Option, Some, None, is_some, refl, ap, sym, subst, ◌∙◌}
use Rattle.std.specs.declared.cmp.Ordering.{Ordering}
use Rattle.std.specs.Ordering.{is_eq}
use Rattle.std.specs.Cmp.{IsTotalOrder}
use Rattle.std.specs.Option.{IsSome}
use Rattle.std.specs.BTreeMap.{BTreeMap, get, get_by}
use Rattle.std.specs.BTreeSet.{BTreeSet, contains, contains_by}
use Rattle.std.proofs.lemmas.Bool.{and_parts}
use Rattle.acd_lemmas.proofs.Lists.{eq_is}
use Rattle.acd_tables.specs.Sets.{holds_in, holds, has_set, is_at_key, Sets}

module _ {K E : Type 0} (by : K → K → Ordering) (cmp : E → E → Ordering) (o : IsTotalOrder by) (p : IsTotalOrder cmp) where
  -- keys and members that are equal find the same
  pub holds-same : (m : BTreeMap K (BTreeSet E)) (k : K) (e : E) (q : K) (x : E) → is_at_key by cmp k e q x ≡ true → holds by cmp m k e ≡ holds by cmp m q x
  unfolding holds
  holds-same m k e q x h =
      let keys = and_parts (is_eq (by k q)) (is_eq (cmp e x)) h in
      ap (λ u. holds_in by cmp u e) (ap (λ (f : K → Ordering). get_by f m) (λ i z. o.congr k q z (eq_is (by k q) keys.0) i))
      ∙ inside (get by m q) (λ i z. p.congr e x z (eq_is (cmp e x) keys.1) i)
    where
      inside : (u : Option (BTreeSet E)) → ◌≡◌ {A = E → Ordering} (cmp e) (cmp x) → holds_in by cmp u e ≡ holds_in by cmp u x
      inside None f = refl
      inside (Some s) f = ap (λ (g : E → Ordering). contains_by g s) f

module _ {K E : Type 0} (by : K → K → Ordering) (cmp : E → E → Ordering) (o : IsTotalOrder by) (old : BTreeMap K (BTreeSet E)) (k : K) where
  at_key : (q : K) → is_eq (by k q) ≡ true → get by old k ≡ get by old q
  at_key q h = ap (λ (f : K → Ordering). get_by f old) (λ i z. o.congr k q z (eq_is (by k q) h) i)

  -- the set at the key has one member more or less
  pub set-written : (new : BTreeMap K (BTreeSet E)) (e : E) (there : Bool) (s t : BTreeSet E) → get by old k ≡ Some s
      → (IsSome (get by old k) → (q : K) → get by new q ≡ cond (is_eq (by k q)) (Some t) (get by old q))
      → ((x : E) → contains cmp t x ≡ cond (is_eq (cmp e x)) there (contains cmp s x)) → Sets by cmp old new k e there
  unfolding holds has_set
  set-written new e there s t was written member = record {
    sets = λ q. ap is_some (changed q) ∙ sets_at q (is_eq (by k q)) refl;
    members = λ q x. ap (λ u. holds_in by cmp u x) (changed q) ∙ members_at q x (is_eq (by k q)) refl;
  }
    where
      changed : (q : K) → get by new q ≡ cond (is_eq (by k q)) (Some t) (get by old q)
      changed = written (subst IsSome (sym was) refl)

      sets_at : (q : K) (b : Bool) → is_eq (by k q) ≡ b → is_some (cond b (Some t) (get by old q)) ≡ is_some (get by old q)
      sets_at q true h = ap is_some (sym was ∙ at_key q h)
      sets_at q false h = refl

      members_at : (q : K) (x : E) (b : Bool) → is_eq (by k q) ≡ b
          → holds_in by cmp (cond b (Some t) (get by old q)) x ≡ cond (b && is_eq (cmp e x)) there (holds_in by cmp (get by old q) x)
      members_at q x true h = member x ∙ ap (λ u. cond (is_eq (cmp e x)) there (holds_in by cmp u x)) (sym was ∙ at_key q h)
      members_at q x false h = refl
