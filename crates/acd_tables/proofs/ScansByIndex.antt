-- The records at keys that are indexed are those that a scan picks.
use Rattle.std.proofs.Common.{◌≡◌, ℕ, inl, inr, Bool, true, false, cond, List, [], ◌∷◌, ◌++◌, Option, Some, None, refl, ap, sym, ◌∙◌, subst}
use Rattle.std.specs.Prelude.{◌==◌, filter, find, is_some}
use Rattle.std.specs.List.{AllByRecursion, filter_map, cons_option}
use Rattle.std.specs.List.Sorted.{IsStrictlySortedBy}
use Rattle.std.specs.declared.cmp.Ordering.{Ordering}
use Rattle.std.specs.declared.cmp.Ordering.TheVariants.{Less, Equal, Greater}
use Rattle.std.specs.Ordering.{is_eq, nat_cmp, ordering_reverse, ordering_then}
use Rattle.std.specs.Cmp.{IsTotalOrder}
use Rattle.std.specs.BTreeSet.{BTreeSet, contains}
use Rattle.std.proofs.lemmas.Bool.{and_parts, eqb-true, eq-eqb}
use Rattle.std.proofs.lemmas.Cmp.{nat_cmp_total, on_total, then_total}
use Rattle.std.proofs.lemmas.Map.Lookups.{exact_unsigned}
use Rattle.acd_terms.specs.Lists.{Among, AllAfter, IsAscending}
use Rattle.acd_terms.specs.declared.rows.Rows.{Rows}
use Rattle.acd_terms.specs.declared.record.AgentRecord.{AgentRecord}
use Rattle.acd_terms.specs.declared.record.ConnectionRecord.{ConnectionRecord}
use Rattle.acd_model.specs.Rules.Plan.{agent_order, connection_order}
use Rattle.acd_model.specs.Scans.{agent_of, connection_of}
use Rattle.acd_lemmas.proofs.Lists.{eq_is, after_among, any_found, find_passes, find_among, some_from, filter_among, among-filter, ascending-filter}
use Rattle.acd_lemmas.proofs.KeyedLists.{cmp_self}
use Rattle.acd_lemmas.proofs.State.{connections_total, agents_total, connection_among, connection_found, found_key, agent_among, agent_found, agent_key}
use Rattle.acd_tables.specs.AtDevice.{is_at_device, connections_at, line_at}
use Rattle.acd_tables.specs.IndexedRows.{pair_cmp, is_ringing, is_working, rings, works, Ringing, Working}
use Rattle.acd_tables.specs.Uses.{if_passes}
use Rattle.acd_tables.proofs.SwapLemmas.{pair_key}

module _ {X : Type 0} (cmp : X → X → Ordering) (o : IsTotalOrder cmp) where
  not_both : (x y : X) → cmp x y ≡ Less → cmp y x ≡ Less → ⊥
  not_both x y e f = let turned = o.antisymm x y ∙ ap ordering_reverse f in absurd (cc (e, turned))

  -- ascending lists of the same members are equal
  pub ascending-same : (xs ys : List X) → IsAscending cmp xs → IsAscending cmp ys → ((z : X) → Among z xs → Among z ys) → ((z : X) → Among z ys → Among z xs)
      → xs ≡ ys
  ascending-same [] [] h k forth back = refl
  ascending-same [] (y ∷ ys) h k forth back = absurd (back y (inl refl))
  ascending-same (x ∷ xs) [] h k forth back = absurd (forth x (inl refl))
  ascending-same (x ∷ xs) (y ∷ ys) h k forth back = ap (λ l. x ∷ l) (ascending-same xs ys h.1 k.1 forth_rest back_rest) ∙ ap (λ z. z ∷ ys) same
    where
      same : x ≡ y
      same = elim (forth x (inl refl)) [
        | inl e ↦ e
        | inr a ↦ elim (back y (inl refl)) [ inl e ↦ sym e | inr b ↦ absurd (not_both x y (after_among cmp x xs y h.0 b) (after_among cmp y ys x k.0 a)) ]
      ]

      forth_rest : (z : X) → Among z xs → Among z ys
      forth_rest z a = elim (forth z (inr a)) [
        | inl e ↦ (let self = sym (ap (cmp x) (e ∙ sym same)) ∙ after_among cmp x xs z h.0 a in absurd (not_both x x self self))
        | inr b ↦ b
      ]

      back_rest : (z : X) → Among z ys → Among z xs
      back_rest z a = elim (back z (inr a)) [
        | inl e ↦ (let self = sym (ap (cmp y) (e ∙ same)) ∙ after_among cmp y ys z k.0 a in absurd (not_both y y self self))
        | inr b ↦ b
      ]

-- what f gives at ascending keys, each under its key
module _ {K R : Type 0} (cmp : K → K → Ordering) (order : R → R → Ordering) (key : R → K) (keyed : (x y : R) → order x y ≡ cmp (key x) (key y))
    (f : K → Option R) (has_key : (k : K) (r : R) → f k ≡ Some r → key r ≡ k) where
  after-picked : (k : K) (r : R) → key r ≡ k → (ks : List K) → AllByRecursion (λ y. cmp k y ≡ Less) ks → AllAfter order r (filter_map f ks)
  after-picked k r e [] h = tt
  after-picked k r e (y ∷ ks) h = by (f y) refl (after-picked k r e ks h.1)
    where
      by : (o : Option R) → f y ≡ o → AllAfter order r (filter_map f ks) → AllAfter order r (cons_option o (filter_map f ks))
      by None g more = more
      by (Some z) g more = (keyed r z ∙ ap (λ a. cmp a (key z)) e ∙ ap (cmp k) (has_key y z g) ∙ h.0, more)

  pub ascending-picked : (ks : List K) → IsStrictlySortedBy cmp ks → IsAscending order (filter_map f ks)
  unfolding IsStrictlySortedBy
  ascending-picked [] h = tt
  ascending-picked (y ∷ ks) h = by (f y) refl (ascending-picked ks h.1)
    where
      by : (o : Option R) → f y ≡ o → IsAscending order (filter_map f ks) → IsAscending order (cons_option o (filter_map f ks))
      by None g more = more
      by (Some z) g more = (after-picked y z (has_key y z g) ks h.0, more)

  pub picked-among : (ks : List K) (r : R) → Among r (filter_map f ks) → (k : K) × (f k ≡ Some r)
  picked-among [] r a = absurd a
  picked-among (y ∷ ks) r a = by (f y) refl (picked-among ks r) a
    where
      by : (o : Option R) → f y ≡ o → (Among r (filter_map f ks) → (k : K) × (f k ≡ Some r)) → Among r (cons_option o (filter_map f ks))
          → (k : K) × (f k ≡ Some r)
      by None g more a = more a
      by (Some z) g more (inl e) = (y, g ∙ ap Some (sym e))
      by (Some z) g more (inr a) = more a

  pub among-picked : (ks : List K) (k : K) (r : R) → Among k ks → f k ≡ Some r → Among r (filter_map f ks)
  among-picked [] k r a e = absurd a
  among-picked (y ∷ ks) k r (inl same) e = subst (λ o. Among r (cons_option o (filter_map f ks))) (sym e ∙ ap f same) (inl refl)
  among-picked (y ∷ ks) k r (inr a) e = by (f y) (among-picked ks k r a e)
    where
      by : (o : Option R) → Among r (filter_map f ks) → Among r (cons_option o (filter_map f ks))
      by None more = more
      by (Some z) more = inr more

  pub picked : IsTotalOrder order → (ks : List K) (rs : List R) → IsStrictlySortedBy cmp ks → IsAscending order rs
      → ((k : K) (r : R) → f k ≡ Some r → Among r rs)
      → ((r : R) → Among r rs → Among (key r) ks × (f (key r) ≡ Some r)) → filter_map f ks ≡ rs
  picked total ks rs sorted ascending forth back = ascending-same order total (filter_map f ks) rs (ascending-picked ks sorted) ascending
      (λ r a. let k = picked-among ks r a in forth k.0 r k.1)
      (λ r a. let there = back r a in among-picked ks (key r) r there.0 there.1)

-- after nothing
pub after_none : {X : Type 0} (start xs ys : List X) → start ≡ [] → xs ≡ ys → start ++ xs ≡ ys
after_none start xs ys e f = ap (λ l. l ++ xs) e ∙ f

kept-some : {T : Type 0} (p : T → Bool) (o : Option T) (r : T) → if_passes p o ≡ Some r → (o ≡ Some r) × (p r ≡ true)
kept-some p None r e = absurd (cc (e))
kept-some p (Some x) r e = by (p x) refl e
  where
    by : (b : Bool) → p x ≡ b → cond b (Some x) None ≡ Some r → (Some x ≡ Some r) × (p r ≡ true)
    by true g h = (h, (let same : x ≡ r = cc (h) in ap p (sym same) ∙ g))
    by false g h = absurd (cc (h))

kept-passes : {T : Type 0} (p : T → Bool) (r : T) → p r ≡ true → if_passes p (Some r) ≡ Some r
kept-passes p r e = rw e refl

-- a key that a set contains is among its keys
pub contained : {K : Type 0} (cmp : K → K → Ordering) → ((j k : K) → is_eq (cmp j k) ≡ true → j ≡ k) → (set : BTreeSet K) (j : K) → contains cmp set j ≡ true
    → Among j set.keys
contained {K} cmp exact set j e =
    let p : K → Bool = λ k. is_eq (cmp j k) in
    let k = some_from (find p set.keys) (any_found p set.keys e) in
    subst (λ z. Among z set.keys) (sym (exact j k.0 (find_passes p set.keys k.0 k.1))) (find_among p set.keys k.0 k.1)

pub exact_number : (j k : ℕ) → is_eq (nat_cmp j k) ≡ true → j ≡ k
exact_number j k e = exact_unsigned j k (eq_is _ e)

pub exact_pair : (p q : ℕ × ℕ) → is_eq (pair_cmp p q) ≡ true → p ≡ q
exact_pair p q e =
    let parts = and_parts (p.0 == q.0) (p.1 == q.1) (sym (pair_key p.0 p.1 q) ∙ e) in
    ap (λ a. (a, p.1)) (eqb-true p.0 q.0 parts.0) ∙ ap (λ b. (q.0, b)) (eqb-true p.1 q.1 parts.1)

module _ (s : Rows) where
  pub picks-ringing : (index : BTreeSet (ℕ × ℕ)) → IsAscending connection_order s.connections → Ringing s index → IsStrictlySortedBy pair_cmp index.keys
      → filter_map (λ p. if_passes is_ringing (connection_of s p.0 p.1)) index.keys ≡ filter is_ringing s.connections
  picks-ringing index ascending h sorted =
      picked pair_cmp connection_order (λ c. (c.call, c.device)) (λ x y. refl) (λ p. if_passes is_ringing (connection_of s p.0 p.1)) has_key connections_total
      index.keys (filter is_ringing s.connections) sorted
      (ascending-filter connection_order is_ringing s.connections ascending) forth back
    where
      has_key : (p : ℕ × ℕ) (r : ConnectionRecord) → if_passes is_ringing (connection_of s p.0 p.1) ≡ Some r → (r.call, r.device) ≡ p
      has_key p r e = let k = found_key s p.0 p.1 r (kept-some is_ringing (connection_of s p.0 p.1) r e).0 in
          ap (λ a. (a, r.device)) k.0 ∙ ap (λ b. (p.0, b)) k.1

      forth : (p : ℕ × ℕ) (r : ConnectionRecord) → if_passes is_ringing (connection_of s p.0 p.1) ≡ Some r → Among r (filter is_ringing s.connections)
      forth p r e = let there = kept-some is_ringing (connection_of s p.0 p.1) r e in
          among-filter is_ringing s.connections r (connection_among s p.0 p.1 r there.0) there.1

      back : (r : ConnectionRecord) → Among r (filter is_ringing s.connections)
          → Among (r.call, r.device) index.keys × (if_passes is_ringing (connection_of s r.call r.device) ≡ Some r)
      back r a =
          let there = filter_among is_ringing s.connections r a in
          let found = connection_found s ascending r there.0 in (
            contained pair_cmp exact_pair index (r.call, r.device) (h (r.call, r.device) ∙ ap rings found ∙ there.1),
            ap (if_passes is_ringing) found
                ∙ kept-passes is_ringing r there.1,
          )

  pub picks-working : (index : BTreeSet ℕ) → IsAscending agent_order s.agents → Working s index → IsStrictlySortedBy nat_cmp index.keys
      → filter_map (λ n. if_passes is_working (agent_of s n)) index.keys ≡ filter is_working s.agents
  picks-working index ascending h sorted =
      picked nat_cmp agent_order (λ a. a.agent) (λ x y. refl) (λ n. if_passes is_working (agent_of s n)) has_key agents_total index.keys (filter is_working s.agents)
      sorted
      (ascending-filter agent_order is_working s.agents ascending) forth back
    where
      has_key : (n : ℕ) (r : AgentRecord) → if_passes is_working (agent_of s n) ≡ Some r → r.agent ≡ n
      has_key n r e = agent_key s n r (kept-some is_working (agent_of s n) r e).0

      forth : (n : ℕ) (r : AgentRecord) → if_passes is_working (agent_of s n) ≡ Some r → Among r (filter is_working s.agents)
      forth n r e = let there = kept-some is_working (agent_of s n) r e in among-filter is_working s.agents r (agent_among s n r there.0) there.1

      back : (r : AgentRecord) → Among r (filter is_working s.agents) → Among r.agent index.keys × (if_passes is_working (agent_of s r.agent) ≡ Some r)
      back r a =
          let there = filter_among is_working s.agents r a in
          let found = agent_found s ascending r there.0 in
          (contained nat_cmp exact_number index r.agent (h r.agent ∙ ap works found ∙ there.1), ap (if_passes is_working) found ∙ kept-passes is_working r there.1)

-- connections by their devices and calls
abbrev by_line : ConnectionRecord → ConnectionRecord → Ordering
by_line x y = pair_cmp (x.device, x.call) (y.device, y.call)

by_line_total : IsTotalOrder by_line
by_line_total = then_total (on_total (λ (c : ConnectionRecord). c.device) nat_cmp_total) (on_total (λ (c : ConnectionRecord). c.call) nat_cmp_total)

less_line : (x y : ConnectionRecord) → x.device ≡ y.device → connection_order x y ≡ Less → by_line x y ≡ Less
less_line x y same less = rw (cmp_self x.device y.device same) (by (nat_cmp x.call y.call) refl)
  where
    by : (o : Ordering) → nat_cmp x.call y.call ≡ o → o ≡ Less
    by Less e = refl
    by Equal e =
        absurd (let both : ordering_then (nat_cmp x.call y.call) (nat_cmp x.device y.device) ≡ Less = less in let at = cmp_self x.device y.device same in
        cc (both, e, at))
    by Greater e = absurd (let both : ordering_then (nat_cmp x.call y.call) (nat_cmp x.device y.device) ≡ Less = less in cc (both, e))

after_line : (d : ℕ) (x : ConnectionRecord) → x.device ≡ d → (xs : List ConnectionRecord) → AllAfter connection_order x xs
    → ((z : ConnectionRecord) → Among z xs → z.device ≡ d) → AllAfter by_line x xs
after_line d x at [] h there = tt
after_line d x at (y ∷ ys) h there = (less_line x y (at ∙ sym (there y (inl refl))) h.0, after_line d x at ys h.1 (λ z a. there z (inr a)))

ascending_lines : (d : ℕ) (xs : List ConnectionRecord) → IsAscending connection_order xs → ((z : ConnectionRecord) → Among z xs → z.device ≡ d)
    → IsAscending by_line xs
ascending_lines d [] h there = tt
ascending_lines d (x ∷ xs) h there = (after_line d x (there x (inl refl)) xs h.0 (λ z a. there z (inr a)), ascending_lines d xs h.1 (λ z a. there z (inr a)))

module _ (s : Rows) (d : ℕ) (ascending : IsAscending connection_order s.connections) where
  line-found : (p : ℕ × ℕ) (r : ConnectionRecord) → line_at s d p ≡ Some r → (p.0 ≡ d) × (connection_of s p.1 d ≡ Some r)
  line-found p r e = by (p.0 == d) refl e
    where
      by : (b : Bool) → (p.0 == d) ≡ b → cond b (connection_of s p.1 d) None ≡ Some r → (p.0 ≡ d) × (connection_of s p.1 d ≡ Some r)
      by true at h = (eqb-true p.0 d at, h)
      by false at h = absurd (cc (h))

  -- among the calls that are listed are all that have a connection there
  pub picks-at : (keys : List (ℕ × ℕ)) → ((c : ℕ) → is_some (connection_of s c d) ≡ true → Among (d, c) keys) → IsStrictlySortedBy pair_cmp keys
      → filter_map (line_at s d) keys ≡ connections_at s d
  unfolding connections_at
  picks-at keys listed sorted =
      picked pair_cmp by_line (λ c. (c.device, c.call)) (λ x y. refl) (line_at s d) has_key by_line_total keys (filter (is_at_device d) s.connections) sorted
      (ascending_lines d (filter (is_at_device d) s.connections) (ascending-filter connection_order (is_at_device d) s.connections ascending)
      (λ z a. eqb-true z.device d (filter_among (is_at_device d) s.connections z a).1)) forth back
    where
      has_key : (p : ℕ × ℕ) (r : ConnectionRecord) → line_at s d p ≡ Some r → (r.device, r.call) ≡ p
      has_key p r e =
          let there = line-found p r e in
          let k = found_key s p.1 d r there.1 in ap (λ a. (a, r.call)) (k.1 ∙ sym there.0) ∙ ap (λ b. (p.0, b)) k.0

      forth : (p : ℕ × ℕ) (r : ConnectionRecord) → line_at s d p ≡ Some r → Among r (filter (is_at_device d) s.connections)
      forth p r e =
          let there = line-found p r e in
          among-filter (is_at_device d) s.connections r (connection_among s p.1 d r there.1) (eq-eqb r.device d (found_key s p.1 d r there.1).1)

      back : (r : ConnectionRecord) → Among r (filter (is_at_device d) s.connections)
          → Among (r.device, r.call) keys × (line_at s d (r.device, r.call) ≡ Some r)
      back r a =
          let there = filter_among (is_at_device d) s.connections r a in
          let at = eqb-true r.device d there.1 in
          let found : connection_of s r.call d ≡ Some r = subst (λ z. connection_of s r.call z ≡ Some r) at (connection_found s ascending r there.0) in
          (subst (λ z. Among (z, r.call) keys) (sym at) (listed r.call (ap is_some found)), rw there.1 found)
