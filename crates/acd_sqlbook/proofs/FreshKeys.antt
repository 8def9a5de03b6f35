-- A new record has no row when it is inserted.
use Rattle.std.proofs.Common.{◌≡◌, ◌⊎◌, inl, inr, ℕ, suc, ◌<◌, ◌≤◌, ◌==◌, ◌&&◌, List, [], ◌∷◌, ◌++◌, length, filter, Bool, true, false, cond, Option, None, Some, IsTrue, refl, sym, ap, subst, ◌∙◌, eq-eqb, arith}
use Rattle.std.specs.Prelude.{⊤, if◌then◌else◌, nat_lt}
use Rattle.std.specs.Ordering.{match_ordering, is_eq}
use Rattle.std.specs.declared.cmp.Ordering.{Ordering}
use Rattle.std.specs.declared.cmp.Ordering.TheVariants.{Less, Equal, Greater}
use Rattle.std.proofs.lemmas.Bool.{and_parts, and_from, eqb-true, false_from_ne_true}
use Rattle.std.proofs.lemmas.Bool.Decides.{nat_tests}
use Rattle.acd_terms.specs.Lists.{Among, put_by, remove_by}
use Rattle.acd_terms.specs.declared.record.CallRecord.{CallRecord}
use Rattle.acd_terms.specs.declared.record.ConnectionRecord.{ConnectionRecord}
use Rattle.acd_model.specs.Scans.{at_call, at_connection}
use Rattle.acd_model.specs.Writes.{with_group, with_station, with_agent, with_call, with_connection, with_monitor, without_call, without_connection, without_monitor}
use Rattle.acd_model.specs.declared.moves.Change.{Change}
use Rattle.acd_model.specs.declared.moves.Change.TheVariants.{Nothing, PutGroup, PutStation, PutAgent, PutCall, PutConnection, PutMonitor, RemoveCall, RemoveConnection, RemoveMonitor}
use Rattle.acd_lemmas.proofs.Lists.{every_among, filter_among}
use Rattle.acd_book.specs.Content.{Content}
use Rattle.acd_sql_columns.specs.Relations.{relations_of}
use Rattle.acd_sql_columns.specs.Tables.{calls}
use Rattle.acd_sql_statements.specs.WriteRefusals.{HasNoRecord, HasNoConnection}
use Rattle.acd_sqlbook.specs.WriteChoice.{IsWrittenNext, puts_the_same, is_put_once, is_above, is_new}
use Rattle.acd_sqlbook.specs.Commit.{applied}
use Rattle.acd_sqlbook.specs.CommitStops.{AreUpTo, HasAbove, RefusesChange, StopsAtChange}

-- ---- lists

module _ {T : Type 0} (p : T → Bool) where
  more : (x : T) (xs : List T) → length (filter p xs) ≤ length (filter p (x ∷ xs))
  more x xs = elim (p x) as (λ b. length (filter p xs) ≤ length (cond b (x ∷ filter p xs) (filter p xs))) [
    | true ↦ omega arith
    | false ↦ omega arith
  ]

  ends : (xs ys : List T) → length (filter p ys) ≤ length (filter p (xs ++ ys))
  ends [] ys = omega arith
  ends (x ∷ xs) ys = let rest = ends xs ys in let one = more x (xs ++ ys) in omega (arith, rest, one)

  counts : (x : T) (xs : List T) → p x ≡ true → length (filter p (x ∷ xs)) ≡ suc (length (filter p xs))
  counts x xs is = ap (λ b. length (cond b (x ∷ filter p xs) (filter p xs))) is

  uncounted : (x : T) (xs : List T) → length (filter p xs) ≡ length (filter p (x ∷ xs)) → p x ≡ false
  uncounted x xs same = false_from_ne_true (p x) (λ is. let one = counts x xs is in omega (arith, same, one))

  none_of : (x : T) (xs : List T) → filter p (x ∷ xs) ≡ [] → (p x ≡ false) × (filter p xs ≡ [])
  none_of x xs none = (elim (p x) as (λ b. p x ≡ b → cond b (x ∷ filter p xs) (filter p xs) ≡ [] → (p x ≡ false) × (filter p xs ≡ [])) [
    | true ↦ λ is some. absurd (cc some)
    | false ↦ λ is left. (is, left)
  ]) refl none

  none_put : (order : T → Ordering) (xs : List T) (x : T) → filter p xs ≡ [] → p x ≡ false → filter p (put_by order xs x) ≡ []
  none_put order [] x none out = ap (λ b. cond b (x ∷ []) []) out
  none_put order (y ∷ ys) x none out =
      let parts = none_of y ys none in
      elim (order y) as (λ o. filter p (match_ordering o (x ∷ y ∷ ys) (x ∷ ys) (y ∷ put_by order ys x)) ≡ []) [
        | Less ↦ ap (λ b. cond b (x ∷ filter p (y ∷ ys)) (filter p (y ∷ ys))) out ∙ none
        | Equal ↦ ap (λ b. cond b (x ∷ filter p ys) (filter p ys)) out ∙ parts.1
        | Greater ↦ ap (λ b. cond b (y ∷ filter p (put_by order ys x)) (filter p (put_by order ys x))) parts.0 ∙ none_put order ys x parts.1 out
      ]

  none_removed : (order : T → Ordering) (xs : List T) → filter p xs ≡ [] → filter p (remove_by order xs) ≡ []
  none_removed order [] none = none
  none_removed order (x ∷ xs) none =
      let parts = none_of x xs none in
      elim (is_eq (order x)) as (λ b. filter p (if b then xs else x ∷ remove_by order xs) ≡ []) [
        | true ↦ parts.1
        | false ↦ ap (λ b. cond b (x ∷ filter p (remove_by order xs)) (filter p (remove_by order xs))) parts.0 ∙ none_removed order xs parts.1
      ]

turned : (m n : ℕ) → (m == n) ≡ false → (n == m) ≡ false
turned m n out = false_from_ne_true (n == m) (λ met. let back = eq-eqb m n (sym (eqb-true n m met)) in cc (out, back))

both_turned : (m n p q : ℕ) → ((m == p) && (n == q)) ≡ false → ((p == m) && (q == n)) ≡ false
both_turned m n p q out =
    false_from_ne_true ((p == m) && (q == n)) (λ met.
    let parts = and_parts (p == m) (q == n) met in
    let back = and_from (m == p) (n == q) (eq-eqb m p (sym (eqb-true p m parts.0))) (eq-eqb n q (sym (eqb-true q n parts.1))) in
    cc (out, back))

-- ---- a change that puts something else

-- a record that is inserted without a look has no row
abbrev pub HasNoRow : Change → Content → Type 0
HasNoRow (PutCall k) c = HasNoRecord calls k (relations_of c)
HasNoRow (PutConnection x) c = HasNoConnection x (relations_of c)
HasNoRow _ c = ⊤

call_unmet : (k : CallRecord) (u : Change) (x : Content) → puts_the_same (PutCall k) u ≡ false → HasNoRow (PutCall k) x → HasNoRow (PutCall k) (applied x u)
unfolding with_group with_station with_agent with_call with_connection with_monitor without_call without_connection without_monitor
call_unmet k (PutCall l) x out no_row = none_put (λ (y : CallRecord). y.call == k.call) (at_call l.call) x.rows.calls l no_row (turned k.call l.call out)
call_unmet k (RemoveCall call) x out no_row = none_removed (λ (y : CallRecord). y.call == k.call) (at_call call) x.rows.calls no_row
call_unmet k Nothing x out no_row = no_row
call_unmet k (PutGroup g) x out no_row = no_row
call_unmet k (PutStation s) x out no_row = no_row
call_unmet k (PutAgent a) x out no_row = no_row
call_unmet k (PutConnection y) x out no_row = no_row
call_unmet k (PutMonitor w) x out no_row = no_row
call_unmet k (RemoveConnection call device) x out no_row = no_row
call_unmet k (RemoveMonitor monitor) x out no_row = no_row

connection_unmet : (z : ConnectionRecord) (u : Change) (x : Content) → puts_the_same (PutConnection z) u ≡ false → HasNoRow (PutConnection z) x
    → HasNoRow (PutConnection z) (applied x u)
unfolding with_group with_station with_agent with_call with_connection with_monitor without_call without_connection without_monitor
connection_unmet z (PutConnection y) x out no_row =
    none_put (λ (o : ConnectionRecord). (o.call == z.call) && (o.device == z.device)) (at_connection y.call y.device) x.rows.connections y no_row
    (both_turned z.call z.device y.call y.device out)
connection_unmet z (RemoveConnection call device) x out no_row =
    none_removed (λ (o : ConnectionRecord). (o.call == z.call) && (o.device == z.device)) (at_connection call device) x.rows.connections no_row
connection_unmet z Nothing x out no_row = no_row
connection_unmet z (PutGroup g) x out no_row = no_row
connection_unmet z (PutStation s) x out no_row = no_row
connection_unmet z (PutAgent a) x out no_row = no_row
connection_unmet z (PutCall k) x out no_row = no_row
connection_unmet z (PutMonitor w) x out no_row = no_row
connection_unmet z (RemoveCall call) x out no_row = no_row
connection_unmet z (RemoveMonitor monitor) x out no_row = no_row

still_none : (v u : Change) (x : Content) → puts_the_same v u ≡ false → HasNoRow v x → HasNoRow v (applied x u)
still_none (PutCall k) u x out no_row = call_unmet k u x out no_row
still_none (PutConnection z) u x out no_row = connection_unmet z u x out no_row
still_none Nothing u x out no_row = tt
still_none (PutGroup g) u x out no_row = tt
still_none (PutStation s) u x out no_row = tt
still_none (PutAgent a) u x out no_row = tt
still_none (PutMonitor w) u x out no_row = tt
still_none (RemoveCall call) u x out no_row = tt
still_none (RemoveConnection call device) u x out no_row = tt
still_none (RemoveMonitor monitor) u x out no_row = tt

-- ---- one change after the other

-- how many of them put what this one puts
abbrev puts : Change → List Change → ℕ
puts v changes = length (filter (puts_the_same v) changes)

-- where these, the rest of all changes, put a row as often as all do, it doesn't exist now if it didn't before the
-- first change
pub record Unmet (rest changes : List Change) (c x : Content) : Type 0 where
  pub fewer : (v : Change) → puts v rest ≤ puts v changes
  pub free : (v : Change) → puts v rest ≡ puts v changes → HasNoRow v c → HasNoRow v x

pub unmet_first : (changes : List Change) (c : Content) → Unmet changes changes c c
unmet_first changes c = record { fewer = λ v. omega arith; free = λ v same no_row. no_row }

module _ (rest remaining changes : List Change) (change : Change) (c x : Content) (w : IsWrittenNext rest change remaining) (h : Unmet rest changes c x) where
  left : (v : Change) → puts v (change ∷ remaining) ≤ puts v rest
  left v = subst (λ (l : List Change). puts v (change ∷ remaining) ≤ puts v l) (sym w.all) (ends (puts_the_same v) w.skipped (change ∷ remaining))

  pub unmet_next : Unmet remaining changes c (applied x change)
  unmet_next = record {
    fewer = λ v. let all = h.fewer v in let some = left v in let one = more (puts_the_same v) change remaining in omega (arith, all, some, one);
    free = λ v same no_row.
        let all = h.fewer v in
        let some = left v in
        let one = more (puts_the_same v) change remaining in
        let rests : puts v rest ≡ puts v changes = omega (arith, all, some, one, same) in
        let none : puts v remaining ≡ puts v (change ∷ remaining) = omega (arith, all, some, one, same) in
        still_none v change x (uncounted (puts_the_same v) change remaining none) (h.free v rests no_row);
  }

  -- it is put by none before
  once : puts_the_same change change ≡ true → is_put_once changes change ≡ true → puts change rest ≡ puts change changes
  once itself is =
      let all = h.fewer change in
      let some = left change in
      let one : puts change changes ≡ 1 = eqb-true (puts change changes) 1 is in
      let counted = counts (puts_the_same change) change remaining itself in
      omega (arith, all, some, one, counted)

lower : (m n : ℕ) → nat_lt m n ≡ true → m < n
lower m n h = grind (arith, nat_tests)

call_above : (last : Option ℕ) (k y : CallRecord) (c : Content) → is_above last k.call ≡ true → Among y c.rows.calls → (y.call == k.call) ≡ true
    → HasAbove last c
call_above None k y c is among met = absurd (cc is)
call_above (Some last) k y c is among met = λ (all : AreUpTo last c).
    let low = every_among (λ (o : CallRecord). o.call ≤ last) c.rows.calls y all.calls among in
    let same = eqb-true y.call k.call met in
    let high = lower last k.call is in
    omega (arith, low, same, high)

connection_above : (last : Option ℕ) (z y : ConnectionRecord) (c : Content) → is_above last z.call ≡ true → Among y c.rows.connections
    → ((y.call == z.call) && (y.device == z.device)) ≡ true → HasAbove last c
connection_above None z y c is among met = absurd (cc is)
connection_above (Some last) z y c is among met = λ (all : AreUpTo last c).
    let low = every_among (λ (o : ConnectionRecord). o.call ≤ last) c.rows.connections y all.connections among in
    let same = eqb-true y.call z.call (and_parts (y.call == z.call) (y.device == z.device) met).0 in
    let high = lower last z.call is in
    omega (arith, low, same, high)

equals_itself : (n : ℕ) → (n == n) ≡ true
equals_itself n = eq-eqb n n refl

calls_unseen : (last : Option ℕ) (k : CallRecord) (c : Content) (Free : Type 0) (found : List CallRecord) → is_above last k.call ≡ true
    → filter (λ (y : CallRecord). y.call == k.call) c.rows.calls ≡ found
    → (HasNoRow (PutCall k) c → Free) → HasAbove last c ⊎ Free
calls_unseen last k c Free [] high is free = inr (free is)
calls_unseen last k c Free (y ∷ found) high is free =
    let met = filter_among (λ (o : CallRecord). o.call == k.call) c.rows.calls y (subst (Among y) (sym is) (inl refl)) in
    inl (call_above last k y c high met.0 met.1)

connections_unseen : (last : Option ℕ) (z : ConnectionRecord) (c : Content) (Free : Type 0) (found : List ConnectionRecord) → is_above last z.call ≡ true
    → filter (λ (y : ConnectionRecord). (y.call == z.call) && (y.device == z.device)) c.rows.connections ≡ found → (HasNoRow (PutConnection z) c → Free)
    → HasAbove last c ⊎ Free
connections_unseen last z c Free [] high is free = inr (free is)
connections_unseen last z c Free (y ∷ found) high is free =
    let met =
    filter_among (λ (o : ConnectionRecord). (o.call == z.call) && (o.device == z.device)) c.rows.connections y (subst (Among y) (sym is) (inl refl)) in
    inl (connection_above last z y c high met.0 met.1)

-- a new record has no row, or some call was above the last one
unseen : (last : Option ℕ) (rest remaining changes : List Change) (change : Change) (c x : Content) → IsWrittenNext rest change remaining
    → Unmet rest changes c x → is_new last changes change ≡ true → HasAbove last c ⊎ HasNoRow change x
unseen last rest remaining changes (PutCall k) c x w h new =
    let parts = and_parts (is_above last k.call) (is_put_once changes (PutCall k)) new in
    calls_unseen last k c (HasNoRow (PutCall k) x) _ parts.0 refl
    (h.free (PutCall k) (once rest remaining changes (PutCall k) c x w h (equals_itself k.call) parts.1))
unseen last rest remaining changes (PutConnection z) c x w h new =
    let parts = and_parts (is_above last z.call) (is_put_once changes (PutConnection z)) new in
    connections_unseen last z c (HasNoRow (PutConnection z) x) _ parts.0 refl
    (h.free (PutConnection z) (once rest remaining changes (PutConnection z) c x w h
    (and_from (z.call == z.call) (z.device == z.device) (equals_itself z.call) (equals_itself z.device)) parts.1))
unseen last rest remaining changes Nothing c x w h new = inr tt
unseen last rest remaining changes (PutGroup g) c x w h new = inr tt
unseen last rest remaining changes (PutStation s) c x w h new = inr tt
unseen last rest remaining changes (PutAgent a) c x w h new = inr tt
unseen last rest remaining changes (PutMonitor m) c x w h new = inr tt
unseen last rest remaining changes (RemoveCall call) c x w h new = inr tt
unseen last rest remaining changes (RemoveConnection call device) c x w h new = inr tt
unseen last rest remaining changes (RemoveMonitor monitor) c x w h new = inr tt

-- ---- what is refused

refuses_so : (New Meets : Type 0) (change : Change) (x : Content) → (New → Meets ⊎ HasNoRow change x) → RefusesChange New change (relations_of x)
    → RefusesChange Meets change (relations_of x)
refuses_so New Meets (PutCall k) x so (inl put) = inl put
refuses_so New Meets (PutCall k) x so (inr refused) = elim (so refused.0) [ inl meets ↦ inr (meets, refused.1) | inr none ↦ inl (inr (none, refused.1)) ]
refuses_so New Meets (PutConnection z) x so (inl put) = inl put
refuses_so New Meets (PutConnection z) x so (inr refused) = elim (so refused.0) [ inl meets ↦ inr (meets, refused.1) | inr none ↦ inl (inr (none, refused.1)) ]
refuses_so New Meets Nothing x so h = h
refuses_so New Meets (PutGroup g) x so h = h
refuses_so New Meets (PutStation s) x so h = h
refuses_so New Meets (PutAgent a) x so h = h
refuses_so New Meets (PutMonitor w) x so h = h
refuses_so New Meets (RemoveCall call) x so h = h
refuses_so New Meets (RemoveConnection call device) x so h = h
refuses_so New Meets (RemoveMonitor monitor) x so h = h

pub stops_unseen : (last : Option ℕ) (rest remaining changes : List Change) (change : Change) (c x : Content) (new : Bool) → new ≡ is_new last changes change
    → IsWrittenNext rest change remaining → Unmet rest changes c x
    → StopsAtChange (IsTrue new) change x → StopsAtChange (HasAbove last c) change x
stops_unseen last rest remaining changes change c x new is w h (inl large) = inl large
stops_unseen last rest remaining changes change c x new is w h (inr refused) =
    inr (refuses_so (IsTrue new) (HasAbove last c) change x (λ so. unseen last rest remaining changes change c x w h (sym is ∙ so)) refused)
