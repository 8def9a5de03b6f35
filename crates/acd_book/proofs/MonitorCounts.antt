-- The number of monitors that the devices' lists count, and the monitors that are indexed.
use Rattle.std.proofs.Common.{◌≡◌, ℕ, ◌+◌, ◌-◌, ◌≤◌, ◌==◌, Bool, true, false, cond, List, [], ◌∷◌, ◌++◌, map, Option, None, Some, ◌⊎◌, inl, inr, refl, ap, sym, subst, ◌∙◌, eqb-true, add-zero, arith}
use Rattle.std.specs.Prelude.{IfSome, IfOk, OnOk, Result, Ok, Err, is_ok, option_map, unwrap_or}
use Rattle.std.specs.HashMap.{HashMap, get_by, values, PutsEntry}
use Rattle.std.specs.declared.hash.FoldHasher.{FoldHasher}
use Rattle.std.specs.declared.hash.BuildHasherDefault.{BuildHasherDefault}
use Rattle.std.specs.List.{sum_by}
use Rattle.std.specs.List.Sorted.{IsPermutation}
use Rattle.std.specs.Map.{remove_entry, values_of}
use Rattle.std.proofs.lemmas.Bool.Decides.{nat_tests}
use Rattle.std.proofs.lemmas.Map.Entries.{sum_by-remove_entry, sum_by_puts_entry, sum_by_values_permutation}
use Rattle.acd_terms.specs.declared.record.MonitorRecord.{MonitorRecord}
use Rattle.acd_model.specs.declared.moves.Change.{Change}
use Rattle.acd_model.specs.declared.moves.Change.TheVariants.{PutMonitor, RemoveMonitor}
use Rattle.acd_lemmas.proofs.KeyedLists.{eqb_self, eqb_swap}
use Rattle.acd_book.specs.declared.monitor_index.MonitorIndex.{MonitorIndex}
use Rattle.acd_book.specs.MonitorIndexes.{recorded_at, is_one, watching, monitor_count, fewer, is_none_left, IsMore, CountsAt, IsUpTo, KeepsWatched, said_of, or_before, IsRecordedAs, said_last, RecordsChanges}

-- which device each monitor watches
abbrev pub Monitors : Type 0
Monitors = HashMap ℕ ℕ (BuildHasherDefault FoldHasher)

one_here : (d e : ℕ) → (e == d) ≡ true → is_one d e ≡ 1
one_here d e same = ap (λ (b : Bool). cond b 1 0) (eqb_swap d e ∙ same)

none_here : (d e : ℕ) → (e == d) ≡ false → is_one d e ≡ 0
none_here d e other = ap (λ (b : Bool). cond b 1 0) (eqb_swap d e ∙ other)

-- ---- how many watch a device

-- a monitor was removed
pub one_less : (m gone d : ℕ) (old new : Monitors) → Some gone ≡ get_by (λ (k : ℕ). m == k) old
    → IsPermutation (remove_entry (λ (k : ℕ). m == k) old.entries) new.entries
    → sum_by (is_one d) (values new) + is_one d gone ≡ sum_by (is_one d) (values old)
one_less m gone d old new is same =
    let rest = sum_by-remove_entry (is_one d) (λ (k : ℕ). m == k) old.entries in
    let moved = sum_by_values_permutation (is_one d) (remove_entry (λ (k : ℕ). m == k) old.entries) new.entries same in
    let there : unwrap_or (option_map (is_one d) (get_by (λ (k : ℕ). m == k) old)) 0 ≡ is_one d gone =
    ap (λ (o : Option ℕ). unwrap_or (option_map (is_one d) o) 0) (sym is) in
    omega (arith, rest, moved, there)

-- one was put in that wasn't there
pub one_more : (m come d : ℕ) (old new : Monitors) → get_by (λ (k : ℕ). m == k) old ≡ None
    → PutsEntry (λ (a b : ℕ). a == b) old new m come (get_by (λ (k : ℕ). m == k) old)
    → sum_by (is_one d) (values new) ≡ sum_by (is_one d) (values old) + is_one d come
one_more m come d old new none puts =
    let all = sum_by_puts_entry (is_one d) (λ (a b : ℕ). a == b) old new m come (get_by (λ (k : ℕ). m == k) old) refl puts in
    let no : unwrap_or (option_map (is_one d) (get_by (λ (k : ℕ). m == k) old)) 0 ≡ 0 = ap (λ (o : Option ℕ). unwrap_or (option_map (is_one d) o) 0) none in
    omega (arith, all, no)

-- it was put in
pub put_in : {E : Type 0} (r : Result (Option ℕ) E) (m come d : ℕ) (old new : Monitors) → true ≡ is_ok r → get_by (λ (k : ℕ). m == k) old ≡ None
    → IfOk r (λ o. o ≡ get_by (λ (k : ℕ). m == k) old)
    → IfOk r (PutsEntry (λ (a b : ℕ). a == b) old new m come) → sum_by (is_one d) (values new) ≡ sum_by (is_one d) (values old) + is_one d come
put_in (Ok o) m come d old new there none was puts = one_more m come d old new none (subst (PutsEntry (λ (a b : ℕ). a == b) old new m come) was puts)
put_in (Err e) m come d old new there none was puts = absurd (cc (there))

pub ok_so : {T E P : Type 0} (r : Result T E) → true ≡ is_ok r → OnOk r P → P
ok_so (Ok x) e h = h
ok_so (Err x) e h = absurd (cc (e))

-- ---- what the lists count

-- the device's list is removed with its last monitor
pub last_goes : (o m : Option ℕ) → m ≡ option_map (λ (n : ℕ). n - 1) o → is_none_left m ≡ true → fewer o ≡ None
last_goes None m e z = refl
last_goes (Some n) m e z = ap (λ (b : Bool). cond b None (Some (n - 1))) (sym (ap is_none_left e) ∙ z)

-- and any other stays
pub other_stays : (o m : Option ℕ) → m ≡ option_map (λ (n : ℕ). n - 1) o → is_none_left m ≡ false → m ≡ fewer o
other_stays None m e z = e
other_stays (Some n) m e z = e ∙ sym (ap (λ (b : Bool). cond b None (Some (n - 1))) (sym (ap is_none_left e) ∙ z))

pub more_is : (old new : Option ℕ) (n m : ℕ) → old ≡ Some n → new ≡ Some m → 1 ≤ m → m ≤ n + 1 → IsMore old new
more_is old new n m is there least most = subst (λ (o : Option ℕ). IsMore o new) (sym is) (m, there, least, most)

pub first_is : (old new : Option ℕ) → old ≡ None → (new ≡ None) ⊎ (new ≡ Some 1) → IsMore old new
first_is old new is h = subst (λ (o : Option ℕ). IsMore o new) (sym is) h

fewer_counted : (o : Option ℕ) (n m : ℕ) → m + 1 ≡ n → IfSome o (IsUpTo n) → IfSome (fewer o) (IsUpTo m)
fewer_counted None n m e h = tt
fewer_counted (Some k) n m e h =
    (elim (k - 1 == 0) as (λ (b : Bool). (k - 1 == 0) ≡ b → IfSome (cond b None (Some (k - 1))) (IsUpTo m)) [
      | true ↦ λ z. tt
      | false ↦ λ z. (left k z, omega (arith, e, h.1))
    ]) refl
  where
    left : (k : ℕ) → (k - 1 == 0) ≡ false → 1 ≤ k - 1
    left k z = grind (arith, nat_tests)

more_counted : (o p : Option ℕ) (n m : ℕ) → m ≡ n + 1 → IsMore o p → IfSome o (IsUpTo n) → IfSome p (IsUpTo m)
more_counted None p n m e (inl none) h = subst (λ (z : Option ℕ). IfSome z (IsUpTo m)) (sym none) tt
more_counted None p n m e (inr one) h = subst (λ (z : Option ℕ). IfSome z (IsUpTo m)) (sym one) (omega arith, omega (arith, e))
more_counted (Some k) p n m e more h = subst (λ (z : Option ℕ). IfSome z (IsUpTo m)) (sym more.1) (more.2, omega (arith, e, more.3, h.1))

same_counted : (o p : Option ℕ) (n m : ℕ) → p ≡ o → n ≡ m → IfSome o (IsUpTo n) → IfSome p (IsUpTo m)
same_counted o p n m same e h = subst (λ (z : Option ℕ). IfSome z (IsUpTo m)) (sym same) (subst (λ (k : ℕ). IfSome o (IsUpTo k)) e h)

module _ (old mid new : MonitorIndex) (lists : mid.lists ≡ old.lists) (kept : KeepsWatched old) where
  before : (d : ℕ) → monitor_count mid d ≡ monitor_count old d
  before d = ap (λ ls. option_map (λ l. l.monitors) (get_by (λ (k : ℕ). d == k) ls)) lists

  same_watching : (d : ℕ) → new.devices ≡ mid.devices → watching d new ≡ watching d mid
  same_watching d same = ap (λ (m : Monitors). sum_by (is_one d) (values m)) same

  -- a monitor of the device was removed, and then its list counts one less
  pub less_kept : (gone : ℕ) → ((d : ℕ) → watching d mid + is_one d gone ≡ watching d old) → CountsAt gone (λ (o n : Option ℕ). n ≡ fewer o) mid new
      → KeepsWatched new
  less_kept gone less counts d =
      (elim (gone == d) as (λ (b : Bool). (gone == d) ≡ b → IfSome (monitor_count new d) (IsUpTo (watching d new))) [
        | true ↦ λ same.
            let here : gone ≡ d = eqb-true gone d same in
            let one : monitor_count new d ≡ fewer (monitor_count old d) = subst (λ (k : ℕ). monitor_count new k ≡ fewer (monitor_count mid k)) here counts.one ∙ ap fewer (before d) in
            same_counted (fewer (monitor_count old d)) (monitor_count new d) (watching d mid) (watching d new) one (sym (same_watching d counts.devices))
            (fewer_counted (monitor_count old d) (watching d old) (watching d mid) (ap (λ (n : ℕ). watching d mid + n) (sym (one_here d gone same)) ∙ less d)
            (kept d))
        | false ↦ λ other.
            same_counted (monitor_count old d) (monitor_count new d) (watching d old) (watching d new) (counts.others d other ∙ before d)
            (sym (less d) ∙ ap (λ (n : ℕ). watching d mid + n) (none_here d gone other) ∙ add-zero (watching d mid) ∙ sym (same_watching d counts.devices))
            (kept d)
      ]) refl

  -- one was put in, and then its list counts one more
  pub more_kept : (come : ℕ) → ((d : ℕ) → watching d mid ≡ watching d old + is_one d come) → CountsAt come IsMore mid new → KeepsWatched new
  more_kept come more counts d =
      (elim (come == d) as (λ (b : Bool). (come == d) ≡ b → IfSome (monitor_count new d) (IsUpTo (watching d new))) [
        | true ↦ λ same.
            let here : come ≡ d = eqb-true come d same in
            let one : IsMore (monitor_count old d) (monitor_count new d) =
            subst (λ (o : Option ℕ). IsMore o (monitor_count new d)) (before d) (subst (λ (k : ℕ). IsMore (monitor_count mid k) (monitor_count new k)) here counts.one) in
            more_counted (monitor_count old d) (monitor_count new d) (watching d old) (watching d new)
            (same_watching d counts.devices ∙ more d ∙ ap (λ (n : ℕ). watching d old + n) (one_here d come same)) one (kept d)
        | false ↦ λ other.
            same_counted (monitor_count old d) (monitor_count new d) (watching d old) (watching d new) (counts.others d other ∙ before d)
            (sym (same_watching d counts.devices ∙ more d ∙ ap (λ (n : ℕ). watching d old + n) (none_here d come other) ∙ add-zero (watching d old))) (kept d)
      ]) refl

-- a list may go, and else counts what it counted
pub rest_kept : (old new : MonitorIndex) → new.devices.entries ≡ old.devices.entries → ((d : ℕ) → (monitor_count new d ≡ monitor_count old d) ⊎ (monitor_count new d ≡ None))
    → KeepsWatched old → KeepsWatched new
rest_kept old new same counts kept d = by (counts d)
  where
    by : (monitor_count new d ≡ monitor_count old d) ⊎ (monitor_count new d ≡ None) → IfSome (monitor_count new d) (IsUpTo (watching d new))
    by (inl is) =
        same_counted (monitor_count old d) (monitor_count new d) (watching d old) (watching d new) is
        (sym (ap (λ (es : List (ℕ × ℕ)). sum_by (is_one d) (values_of es)) same)) (kept d)
    by (inr none) = subst (λ (o : Option ℕ). IfSome o (IsUpTo (watching d new))) (sym none) tt

-- that of one device, where the others count what they counted
pub rest_counted : (device : ℕ) (old new : MonitorIndex) → (monitor_count new device ≡ monitor_count old device) ⊎ (monitor_count new device ≡ None)
    → ((d : ℕ) → (device == d) ≡ false → monitor_count new d ≡ monitor_count old d)
    → (d : ℕ) → (monitor_count new d ≡ monitor_count old d) ⊎ (monitor_count new d ≡ None)
rest_counted device old new one others d =
    (elim (device == d) as (λ (b : Bool). (device == d) ≡ b → (monitor_count new d ≡ monitor_count old d) ⊎ (monitor_count new d ≡ None)) [
      | true ↦ λ same. subst (λ (k : ℕ). (monitor_count new k ≡ monitor_count old k) ⊎ (monitor_count new k ≡ None)) (eqb-true device d same) one
      | false ↦ λ other. inl (others d other)
    ]) refl

-- ---- the monitors that are indexed

-- something was said of one monitor
pub said_one : (n : ℕ) (said : Option ℕ) (old new : MonitorIndex) → (recorded_at new n ≡ said) ⊎ (recorded_at new n ≡ None)
    → ((q : ℕ) → (n == q) ≡ false → recorded_at new q ≡ recorded_at old q)
    → (q : ℕ) → IsRecordedAs (or_before (cond (q == n) (Some said) None) None) (recorded_at old q) (recorded_at new q)
said_one n said old new one others q =
    (elim (q == n) as (λ (b : Bool). (q == n) ≡ b → IsRecordedAs (or_before (cond b (Some said) None) None) (recorded_at old q) (recorded_at new q)) [
      | true ↦ λ same. subst (λ (k : ℕ). (recorded_at new k ≡ said) ⊎ (recorded_at new k ≡ None)) (sym (eqb-true q n same)) one
      | false ↦ λ other. others q (eqb_swap n q ∙ other)
    ]) refl

-- after a stop the monitor isn't indexed
pub unrecorded : (n : ℕ) (old new : MonitorIndex) → RecordsChanges (RemoveMonitor n ∷ []) old new → recorded_at new n ≡ None
unrecorded n old new records =
    by (subst (λ (b : Bool). IsRecordedAs (or_before (cond b (Some None) None) None) (recorded_at old n) (recorded_at new n)) (eqb_self n) (records n))
  where
    by : (recorded_at new n ≡ None) ⊎ (recorded_at new n ≡ None) → recorded_at new n ≡ None
    by (inl h) = h
    by (inr h) = h

-- and each other one is as before
pub recorded_still : (n q : ℕ) (old new : MonitorIndex) → RecordsChanges (RemoveMonitor n ∷ []) old new → (n == q) ≡ false → recorded_at new q ≡ recorded_at old q
recorded_still n q old new records other =
    subst (λ (b : Bool). IsRecordedAs (or_before (cond b (Some None) None) None) (recorded_at old q) (recorded_at new q)) (eqb_swap q n ∙ other) (records q)

said_push : (before : Option (Option ℕ)) (xs : List Change) (c : Change) (m : ℕ)
    → said_last before (xs ++ c ∷ []) m ≡ or_before (said_of m c) (said_last before xs m)
said_push before [] c m = refl
said_push before (x ∷ xs) c m = said_push (or_before (said_of m x) before) xs c m

recorded_twice : (s t : Option (Option ℕ)) (a b d : Option ℕ) → IsRecordedAs t a b → IsRecordedAs (or_before s None) b d → IsRecordedAs (or_before s t) a d
recorded_twice None t a b d first next = subst (λ (o : Option ℕ). IsRecordedAs t a o) (sym next) first
recorded_twice (Some said) t a b d first next = next

-- one more change
pub recorded_on : (xs : List Change) (c : Change) (old mid new : MonitorIndex) → RecordsChanges xs old mid → RecordsChanges (c ∷ []) mid new
    → RecordsChanges (xs ++ c ∷ []) old new
recorded_on xs c old mid new first next m =
    subst (λ (s : Option (Option ℕ)). IsRecordedAs s (recorded_at old m) (recorded_at new m)) (sym (said_push None xs c m))
    (recorded_twice (said_of m c) (said_last None xs m) (recorded_at old m) (recorded_at mid m) (recorded_at new m) (first m) (next m))

-- the same for monitors that were started one after the other, none of which was indexed before
pub started_on : (xs : List MonitorRecord) (r : MonitorRecord) (mid new : MonitorIndex)
    → ((m : ℕ) → IsRecordedAs (said_last None (map PutMonitor xs) m) None (recorded_at mid m)) → RecordsChanges (PutMonitor r ∷ []) mid new
    → (m : ℕ) → IsRecordedAs (said_last None (map PutMonitor (xs ++ r ∷ [])) m) None (recorded_at new m)
started_on xs r mid new first next m =
    subst (λ (s : Option (Option ℕ)). IsRecordedAs s None (recorded_at new m))
    (sym (ap (λ (l : List Change). said_last None l m) (mapped xs r) ∙ said_push None (map PutMonitor xs) (PutMonitor r) m))
    (recorded_twice (said_of m (PutMonitor r)) (said_last None (map PutMonitor xs) m) None (recorded_at mid m) (recorded_at new m) (first m) (next m))
  where
    mapped : (xs : List MonitorRecord) (r : MonitorRecord) → map PutMonitor (xs ++ r ∷ []) ≡ map PutMonitor xs ++ PutMonitor r ∷ []
    mapped [] r = refl
    mapped (x ∷ xs) r = ap (λ (l : List Change). PutMonitor x ∷ l) (mapped xs r)
