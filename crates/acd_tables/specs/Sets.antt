-- Sets by key.
use Rattle.std.specs.Prelude.{◌≡◌, ◌↔◌, Bool, true, false, List, not, ◌&&◌, ◌||◌, Option, Some, None, is_some, if◌then◌else◌}
use Rattle.std.specs.declared.cmp.Ordering.{Ordering}
use Rattle.std.specs.Ordering.{is_eq}
use Rattle.std.specs.BTreeMap.{BTreeMap, get}
use Rattle.std.specs.BTreeSet.{BTreeSet, contains}
use Rattle.acd_terms.specs.Lists.{Among}

module _ {K E : Type 0} (by : K → K → Ordering) (cmp : E → E → Ordering) where
  abbrev pub holds_in : Option (BTreeSet E) → E → Bool
  holds_in None e = false
  holds_in (Some s) e = contains cmp s e

  -- the set at the key has the member
  unfoldable pub holds : BTreeMap K (BTreeSet E) → K → E → Bool
  holds m k e = holds_in (get by m k) e

  -- there is a set at the key
  unfoldable pub has_set : BTreeMap K (BTreeSet E) → K → Bool
  has_set m k = is_some (get by m k)

  abbrev pub is_at_key : K → E → K → E → Bool
  is_at_key k e q x = is_eq (by k q) && is_eq (cmp e x)

  -- one member of one set is there or not, and all else is as before
  pub record Sets (old new : BTreeMap K (BTreeSet E)) (k : K) (e : E) (there : Bool) : Type 0 where
    pub sets : (q : K) → has_set new q ≡ has_set old q
    pub members : (q : K) (x : E) → holds new q x ≡ (if is_at_key k e q x then there else holds old q x)

  -- the member is in the set at the key, and all else is as before
  abbrev pub InsertedAt : BTreeMap K (BTreeSet E) → BTreeMap K (BTreeSet E) → K × E → Type 0
  InsertedAt old new place = Sets old new place.0 place.1 true

  -- the member is not in the set at the key, and all else is as before
  abbrev pub RemovedAt : BTreeMap K (BTreeSet E) → BTreeMap K (BTreeSet E) → K × E → Type 0
  RemovedAt old new place = Sets old new place.0 place.1 false

  -- the same members; sets that are empty may have been removed or added
  abbrev pub SameMembers : BTreeMap K (BTreeSet E) → BTreeMap K (BTreeSet E) → Type 0
  SameMembers old new = (q : K) (x : E) → holds new q x ≡ holds old q x

  pub record Stays (old new : BTreeMap K (BTreeSet E)) : Type 0 where
    pub sets : (q : K) → has_set new q ≡ has_set old q
    pub members : SameMembers old new

  -- a set at the key, and all members as before
  pub record HasSet (old new : BTreeMap K (BTreeSet E)) (k : K) : Type 0 where
    pub sets : (q : K) → has_set new q ≡ (is_eq (by k q) || has_set old q)
    pub members : SameMembers old new

-- the members of the set are those of the list
abbrev pub IsSetOf : {E : Type 0} → (E → E → Ordering) → List E → BTreeSet E → Type 0
IsSetOf {E} cmp members set = (e : E) → (contains cmp set e ≡ true) ↔ Among e members

module _ {K : Type 0} (cmp : K → K → Ordering) where
  -- the set has exactly the keys that pass
  abbrev pub HasExactly : (K → Bool) → BTreeSet K → Type 0
  HasExactly p index = (k : K) → contains cmp index k ≡ p k

  -- the same keys
  abbrev pub SameKeys : BTreeSet K → BTreeSet K → Type 0
  SameKeys old new = (k : K) → contains cmp new k ≡ contains cmp old k

  -- the same keys, but for those that pass
  abbrev pub SameKeysBut : (K → Bool) → BTreeSet K → BTreeSet K → Type 0
  SameKeysBut p old new = (k : K) → p k ≡ false → contains cmp new k ≡ contains cmp old k

  -- no key went
  abbrev pub KeepsKeys : BTreeSet K → BTreeSet K → Type 0
  KeepsKeys old new = (k : K) → contains cmp old k ≡ true → contains cmp new k ≡ true

  -- the key came, if it belongs there
  abbrev pub Inserted : BTreeSet K → BTreeSet K → K → Bool → Type 0
  Inserted old new key belongs = (k : K) → contains cmp new k ≡ ((belongs && is_eq (cmp key k)) || contains cmp old k)

  -- the key was removed, if it is no longer needed
  abbrev pub Removed : BTreeSet K → BTreeSet K → K → Bool → Type 0
  Removed old new key gone = (k : K) → contains cmp new k ≡ (not (gone && is_eq (cmp key k)) && contains cmp old k)
