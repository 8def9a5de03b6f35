-- The steps from one list of records to another, both in ascending key.
use Rattle.std.specs.Prelude.{◌≡◌, ◌↔◌, Bool, true, false, List, [], ◌∷◌, ◌++◌, ◌+◌, ◌<◌, length, map, option_to_list, Option, None, Some, Vec, if◌then◌else◌}
use Rattle.std.specs.Borrow.{Bor}
use Rattle.std.specs.declared.alloc.Global.{Global}
use Rattle.std.specs.declared.cmp.Ordering.{Ordering}
use Rattle.std.specs.declared.cmp.Ordering.TheVariants.{Equal}
use Rattle.std.specs.Ordering.{match_ordering}
use Rattle.acd_terms.specs.Lists.{Among, Every, IsAscending, put_by, remove_by}
use Rattle.acd_model.specs.declared.moves.Change.{Change}

-- a record is removed, or is put
pub data Step (T : Type 0) : Type 0 where
  gone : T → Step T
  put : T → Step T

abbrev pub record_of_step : {T : Type 0} → Step T → T
record_of_step (gone x) = x
record_of_step (put y) = y

abbrev pub change_by : {T : Type 0} → (T → Change) → (T → Change) → Step T → Change
change_by off on (gone x) = off x
change_by off on (put y) = on y

-- the list with the steps made, one after the other
abbrev pub stepped_list : {T : Type 0} → (T → T → Ordering) → List T → List (Step T) → List T
stepped_list cmp xs [] = xs
stepped_list cmp xs (gone x ∷ steps) = stepped_list cmp (remove_by (cmp x) xs) steps
stepped_list cmp xs (put y ∷ steps) = stepped_list cmp (put_by (cmp y) xs y) steps

-- no record has its key
abbrev pub IsNoKey : {T : Type 0} → (T → T → Ordering) → T → List T → Type 0
IsNoKey cmp x = Every (λ y. cmp x y ≡ Equal → ⊥)

-- no record of its key is equal to it
abbrev pub IsOtherRecord : {T : Type 0} → (T → T → Ordering) → (T → T → Bool) → T → List T → Type 0
IsOtherRecord cmp same y = Every (λ x. cmp x y ≡ Equal → same y x ≡ false)

-- each record that is removed and each record that isn't equally held is named, in ascending key, and nothing else
pub record AreSteps {T : Type 0} (cmp : T → T → Ordering) (same : T → T → Bool) (held new : List T) (steps : List (Step T)) : Type 0 where
  pub ascending : IsAscending (λ a b. cmp (record_of_step a) (record_of_step b)) steps
  pub gone_are : (x : T) → Among (gone x) steps ↔ (Among x held × IsNoKey cmp x new)
  pub put_are : (y : T) → Among (put y) steps ↔ (Among y new × IsOtherRecord cmp same y held)
  -- made one after the other, they lead to the new list, where records that compare equal are equal
  pub made : ((x y : T) → same x y ≡ true → x ≡ y) → stepped_list cmp held steps ≡ new

-- the changes of such steps, over lists in ascending key
abbrev pub LeadTo : {T : Type 0} → (T → T → Ordering) → (T → T → Bool) → (T → Change) → (T → Change) → List T → List T → List Change → Type 0
LeadTo {T} cmp same off on held new changes =
    IsAscending cmp held → IsAscending cmp new → (steps : List (Step T)) × AreSteps cmp same held new steps × (changes ≡ map (change_by off on) steps)

-- ---- the same in one pass over both lists

abbrev pub replaced : {T : Type 0} → (T → T → Bool) → T → T → List (Step T) → List (Step T)
replaced same x y rest = if same y x then rest else put y ∷ rest

abbrev pub merged_from : {T : Type 0} → (T → T → Ordering) → (T → T → Bool) → T → (List T → List (Step T)) → List T → List (Step T)
merged_from cmp same x rest [] = gone x ∷ rest []
merged_from cmp same x rest (y ∷ ys) = match_ordering (cmp x y) (gone x ∷ rest (y ∷ ys)) (replaced same x y (rest ys)) (put y ∷ merged_from cmp same x rest ys)

abbrev pub merged : {T : Type 0} → (T → T → Ordering) → (T → T → Bool) → List T → List T → List (Step T)
merged cmp same [] new = map put new
merged cmp same (x ∷ held) new = merged_from cmp same x (merged cmp same held) new

abbrev pub differences : {T : Type 0} → (T → T → Ordering) → (T → T → Bool) → (T → Change) → (T → Change) → List T → List T → List Change
differences cmp same off on held new = map (change_by off on) (merged cmp same held new)

-- ---- of a table

-- the change that removes a record of a table, and the one that puts it
pub record Changes (T : Type 0) : Type 0 where
  pub gone : T → Change
  pub put : T → Change

-- how the records of a table are ordered, when two are the same, and their changes
pub record Comparing (T : Type 0) : Type 0 where
  pub order : T → T → Ordering
  pub same : T → T → Bool
  pub changes : Changes T

-- ordered by the key
abbrev pub keyed : {T K : Type 0} → (T → K) → (K → K → Ordering) → (T → T → Bool) → Changes T → Comparing T
keyed key_of cmp same changes = record { order = λ x y. cmp (key_of x) (key_of y); same = same; changes = changes }

-- the changes of one list to the other
abbrev pub differences_of : {T : Type 0} → Comparing T → List T → List T → List Change
differences_of c held new = differences c.order c.same c.changes.gone c.changes.put held new

-- these are the changes, and they lead from the one list to the other
abbrev pub AreDifferences : {T : Type 0} → Comparing T → List T → List T → Vec Change Global → Type 0
AreDifferences c held new changes =
    (changes.items ≡ differences_of c held new) × LeadTo c.order c.same c.changes.gone c.changes.put held new changes.items

-- the first change, if there is one, and what is left of both lists
abbrev pub FirstChange : Type 0 → Type 0
FirstChange T = Option Change × Bor (List T) × Bor (List T)

-- the changes are that one and those of what is left; without a turn there are none
abbrev pub IsTurn : {T : Type 0} → Comparing T → List T → List T → Option (FirstChange T) → Type 0
IsTurn c held new None = differences_of c held new ≡ []
IsTurn c held new (Some t) = differences_of c held new ≡ option_to_list t.0 ++ differences_of c t.1.now t.2.now

-- less is left of both lists
abbrev pub IsShorter : {T : Type 0} → List T → List T → FirstChange T → Type 0
IsShorter held new t = length t.1.now + length t.2.now < length held + length new
