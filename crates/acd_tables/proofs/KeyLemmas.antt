-- The keys of connections, and the connections of a call.
use Rattle.std.proofs.Common.{◌≡◌, ◌<◌, ℕ, length, arith, inl, Bool, true, false, cond, not, ◌&&◌, ◌||◌, List, [], ◌∷◌, Option, Some, None, refl, sym, ap, subst, ◌∙◌}
use Rattle.std.specs.Prelude.{◌==◌, find, filter, is_some}
use Rattle.std.specs.List.{filter_map}
use Rattle.std.specs.List.Sorted.{IsStrictlySortedBy}
use Rattle.std.specs.Ordering.{is_eq}
use Rattle.std.specs.BTreeSet.{BTreeSet, contains}
use Rattle.std.specs.Cmp.{both_ways}
use Rattle.std.specs.List.{list_any}
use Rattle.std.proofs.lemmas.Bool.{and_parts, eqb-true, eq-eqb}
use Rattle.acd_terms.specs.Lists.{find_by, put_by, remove_by, Among, IsAscending}
use Rattle.acd_terms.specs.declared.record.ConnectionRecord.{ConnectionRecord}
use Rattle.acd_model.specs.Rules.Plan.{connection_order}
use Rattle.acd_model.specs.Scans.{at_connection}
use Rattle.acd_lemmas.proofs.Lists.{any_found, any_some, find_passes, find_among, some_from, filter_among, among-filter, ascending-filter, ascending-put, ascending-remove}
use Rattle.acd_lemmas.proofs.KeyedLists.{found_among, found_has, found_itself, some_put}
use Rattle.acd_lemmas.proofs.State.{by_connection, connections_total, is_of, is_of_true, left_at}
use Rattle.acd_tables.specs.IndexedRows.{pair_cmp}
use Rattle.acd_tables.specs.Sets.{Inserted, Removed}
use Rattle.acd_tables.specs.Near.{of_key, HasKeys}
use Rattle.acd_tables.proofs.IndexingLemmas.{HasExactly-come, HasExactly-gone, HasExactly-left}
use Rattle.acd_tables.proofs.ScansByIndex.{picked, contained, exact_pair}
use Rattle.acd_tables.proofs.SwapLemmas.{pair_key}

pub flipped : (b c : Bool) → b ≡ not c → c ≡ not b
flipped true true e = absurd (cc (e))
flipped true false e = refl
flipped false true e = refl
flipped false false e = absurd (cc (e))

module _ (cs : List ConnectionRecord) (call device : ℕ) where
  -- a look-up finds at a key what it finds at an equal one
  key-at : (p : ℕ × ℕ) → is_eq (pair_cmp (call, device) p) ≡ true
      → is_some (find_by (at_connection p.0 p.1) cs) ≡ is_some (find_by (at_connection call device) cs)
  key-at p e =
      let parts = and_parts (call == p.0) (device == p.1) (sym (pair_key call device p) ∙ e) in
      sym (ap (λ c. is_some (find_by (at_connection c device) cs)) (eqb-true call p.0 parts.0)
      ∙ ap (λ d. is_some (find_by (at_connection p.0 d) cs)) (eqb-true device p.1 parts.1))

module _ (cs : List ConnectionRecord) (old new : BTreeSet (ℕ × ℕ)) (h : HasKeys cs old) where
  -- a connection that is put, whose key came if it is new
  pub keys-put : (x : ConnectionRecord) (b : Bool) → is_some (find_by (at_connection x.call x.device) cs) ≡ not b
      → Inserted pair_cmp old new (x.call, x.device) b → HasKeys (put_by (connection_order x) cs x) new
  keys-put x b is w = record {
    ascending = ascending-put connection_order connections_total x cs h.ascending;
    index =
        HasExactly-come pair_cmp (λ p. is_some (find_by (at_connection p.0 p.1) cs)) old new (x.call, x.device)
        (λ p. is_some (find_by (at_connection p.0 p.1) (put_by (connection_order x) cs x)))
        (is_some (find_by (at_connection x.call x.device) cs)) b (flipped (is_some (find_by (at_connection x.call x.device) cs)) b is)
        (key-at cs x.call x.device) changed h.index w;
  }
    where
      or_cond : (b v : Bool) → (b || v) ≡ cond b true v
      or_cond true v = refl
      or_cond false v = refl

      changed : (p : ℕ × ℕ)
          → is_some (find_by (at_connection p.0 p.1) (put_by (connection_order x) cs x))
          ≡ cond (is_eq (pair_cmp (x.call, x.device) p)) true (is_some (find_by (at_connection p.0 p.1) cs))
      changed p =
          some_put by_connection cs x p ∙ or_cond (is_of p.0 p.1 x) (is_some (find_by (at_connection p.0 p.1) cs))
          ∙ ap (λ v. cond v true (is_some (find_by (at_connection p.0 p.1) cs))) (sym (pair_key x.call x.device p))

  -- a connection that isn't put, whose key was added and removed
  pub keys-back : (mid : BTreeSet (ℕ × ℕ)) (call device : ℕ) (b : Bool) → is_some (find_by (at_connection call device) cs) ≡ not b
      → Inserted pair_cmp old mid (call, device) b → Removed pair_cmp mid new (call, device) b → HasKeys cs new
  keys-back mid call device b is w f = record {
    ascending = h.ascending;
    index = HasExactly-gone pair_cmp (λ p. is_some (find_by (at_connection p.0 p.1) cs)) old new (call, device) mid
        (is_some (find_by (at_connection call device) cs)) b (flipped (is_some (find_by (at_connection call device) cs)) b is) (key-at cs call device) h.index w
        f;
  }

  pub keys-same : ((k : ℕ × ℕ) → contains pair_cmp new k ≡ contains pair_cmp old k) → HasKeys cs new
  keys-same w = record { ascending = h.ascending; index = λ p. w p ∙ h.index p }

  -- a connection that is removed, whose key was removed
  pub keys-remove : (call device : ℕ) → Removed pair_cmp old new (call, device) true → HasKeys (remove_by (at_connection call device) cs) new
  keys-remove call device w = record {
    ascending = ascending-remove connection_order (at_connection call device) cs h.ascending;
    index =
        HasExactly-left pair_cmp (λ p. is_some (find_by (at_connection p.0 p.1) cs)) old new (call, device)
        (λ p. is_some (find_by (at_connection p.0 p.1) (remove_by (at_connection call device) cs)))
        (λ p. ap is_some (left_at cs h.ascending call device p.0 p.1) ∙ gone (call == p.0 && device == p.1) (find_by (at_connection p.0 p.1) cs)
        ∙ ap (λ b. cond b false (is_some (find_by (at_connection p.0 p.1) cs))) (sym (pair_key call device p)))
        h.index w;
  }
    where
      gone : (b : Bool) (o : Option ConnectionRecord) → is_some (cond b None o) ≡ cond b false (is_some o)
      gone true o = refl
      gone false o = refl

module _ (cs : List ConnectionRecord) (call : ℕ) where
  key-found : (p : ℕ × ℕ) (r : ConnectionRecord) → of_key cs call p ≡ Some r → (p.0 ≡ call) × (find_by (at_connection call p.1) cs ≡ Some r)
  key-found p r e = by (p.0 == call) refl e
    where
      by : (b : Bool) → (p.0 == call) ≡ b → cond b (find_by (at_connection call p.1) cs) None ≡ Some r
          → (p.0 ≡ call) × (find_by (at_connection call p.1) cs ≡ Some r)
      by true at f = (eqb-true p.0 call at, f)
      by false at f = absurd (cc (f))

  -- among the keys are those of all connections of the call
  pub picks-of : IsAscending connection_order cs → (keys : List (ℕ × ℕ)) → ((d : ℕ) → is_some (find_by (at_connection call d) cs) ≡ true → Among (call, d) keys)
      → IsStrictlySortedBy pair_cmp keys
      → filter_map (of_key cs call) keys ≡ filter (λ c. c.call == call) cs
  picks-of ascending keys listed sorted =
      picked pair_cmp connection_order (λ c. (c.call, c.device)) (λ x y. refl) (of_key cs call) has_key connections_total keys (filter (λ c. c.call == call) cs)
      sorted
      (ascending-filter connection_order (λ c. c.call == call) cs ascending) forth back
    where
      has_key : (p : ℕ × ℕ) (r : ConnectionRecord) → of_key cs call p ≡ Some r → (r.call, r.device) ≡ p
      has_key p r e =
          let there = key-found p r e in
          let k = is_of_true call p.1 r (found_has by_connection cs (call, p.1) r there.1) in
          ap (λ a. (a, r.device)) (k.0 ∙ sym there.0) ∙ ap (λ b. (p.0, b)) k.1

      forth : (p : ℕ × ℕ) (r : ConnectionRecord) → of_key cs call p ≡ Some r → Among r (filter (λ c. c.call == call) cs)
      forth p r e =
          let there = key-found p r e in
          let k = is_of_true call p.1 r (found_has by_connection cs (call, p.1) r there.1) in
          among-filter (λ c. c.call == call) cs r (found_among by_connection cs (call, p.1) r there.1) (eq-eqb r.call call k.0)

      back : (r : ConnectionRecord) → Among r (filter (λ c. c.call == call) cs) → Among (r.call, r.device) keys × (of_key cs call (r.call, r.device) ≡ Some r)
      back r a =
          let there = filter_among (λ c. c.call == call) cs r a in
          let same = eqb-true r.call call there.1 in
          let found = found_itself by_connection cs ascending r there.0 in
          let at = subst (λ n. find_by (at_connection n r.device) cs ≡ Some r) same found in (
            subst (λ n. Among (n, r.device) keys) (sym same) (listed r.device (ap is_some at)),
            ap (λ b. cond b (find_by (at_connection call r.device) cs) None) there.1 ∙ at,
          )

pub no_keys : {X : Type 0} (ks : List X) → (0 < length ks → false ≡ true) → ks ≡ []
no_keys [] h = refl
no_keys (k ∷ ks) h = absurd (let some = h (omega arith) in cc (some))

-- no key, no connection
pub none-there : (cs : List ConnectionRecord) (keys : BTreeSet (ℕ × ℕ)) → HasKeys cs keys → keys.keys ≡ [] → cs ≡ []
none-there [] keys h e = refl
none-there (x ∷ xs) keys h e =
    let found = ap is_some (found_itself by_connection (x ∷ xs) h.ascending x (inl refl)) in
    absurd (subst (Among (x.call, x.device)) e (contained pair_cmp exact_pair keys (x.call, x.device) (h.index (x.call, x.device) ∙ found)))

-- the first of those that pass one test that passes another
pub find-both : {X : Type 0} (q p : X → Bool) (xs : List X) → find p (filter q xs) ≡ find (λ y. q y && p y) xs
find-both q p [] = refl
find-both q p (x ∷ xs) =
    (elim (q x) as (λ b. find p (cond b (x ∷ filter q xs) (filter q xs)) ≡ cond (b && p x) (Some x) (find (λ y. q y && p y) xs)) [
      | true ↦ ap (λ o. cond (p x) (Some x) o) (find-both q p xs)
      | false ↦ find-both q p xs
    ])

-- lists with the same members
pub any-members : {X : Type 0} (p : X → Bool) (xs ys : List X) → ((x : X) → Among x xs → Among x ys) → ((x : X) → Among x ys → Among x xs)
    → list_any p xs ≡ list_any p ys
any-members {X = X} p xs ys forth back = both_ways (list_any p xs) (list_any p ys) (moved xs ys forth) (moved ys xs back)
  where
    moved : (l m : List X) → ((x : X) → Among x l → Among x m) → list_any p l ≡ true → list_any p m ≡ true
    moved l m into e =
        let x = some_from (find p l) (any_found p l e) in
        any_some p m x.0 (into x.0 (find_among p l x.0 x.1)) (find_passes p l x.0 x.1)
