-- The first of a set is the least of those who wait, or of those who are eligible.
use Rattle.std.proofs.Common.{◌≡◌, ℕ, inl, Bool, true, false, ◌&&◌, ◌||◌, not, List, [], ◌∷◌, Option, Some, None, is_some, refl, ap, sym, ◌∙◌, subst, map, arith}
use Rattle.std.specs.Prelude.{◌==◌, ◌↔◌, nat_lt, unwrap_or, filter}
use Rattle.std.specs.List.{list_any}
use Rattle.std.specs.Cmp.{both_ways}
use Rattle.std.specs.Ordering.{nat_cmp, ordering_then, is_gt}
use Rattle.std.specs.Borrow.{Bor}
use Rattle.std.specs.Option.{option_copied, IfSome}
use Rattle.std.specs.BTreeMap.{get}
use Rattle.std.specs.BTreeSet.{BTreeSet, contains}
use Rattle.std.proofs.lemmas.Bool.{and_parts, and_from, eqb-true, eq-eqb}
use Rattle.std.proofs.lemmas.Bool.Decides.{nat_tests}
use Rattle.acd_terms.specs.Lists.{Among, IsAscending}
use Rattle.acd_terms.specs.Groups.{is_one_of}
use Rattle.acd_terms.specs.States.{is_distributed, is_queued, is_ready, is_occupying}
use Rattle.acd_terms.specs.declared.rows.Rows.{Rows}
use Rattle.acd_terms.specs.declared.record.AgentRecord.{AgentRecord}
use Rattle.acd_terms.specs.declared.record.ConnectionRecord.{ConnectionRecord}
use Rattle.acd_model.specs.Rules.Plan.{agent_order, connection_order}
use Rattle.acd_model.specs.Scans.{agent_of, connection_of, has, is_eligible, is_occupied, is_idle, is_idle_there, waiting_in, eligible_in}
use Rattle.acd_model.specs.Choice.{waiting_pair, ready_pair, least_from, first_waiting, first_eligible}
use Rattle.acd_lemmas.proofs.Lists.{among-filter, filter_among, mapped_among, among-map}
use Rattle.acd_lemmas.proofs.Least.{least_found}
use Rattle.acd_lemmas.proofs.State.{connection_among, connection_found, found_key, agent_among, agent_found, agent_key}
use Rattle.acd_tables.specs.Sets.{holds, holds_in, has_set}
use Rattle.acd_tables.specs.IndexedRows.{PairSets, pair_cmp, lists, waits_at, is_busying, is_busy_at, is_free, is_able, is_able_since, IsFirstIn}

pair_is : (a b : ℕ) (p : ℕ × ℕ) → a ≡ p.0 → b ≡ p.1 → ◌≡◌ {A = ℕ × ℕ} (a, b) p
pair_is a b p e f = λ i. (e i, f i)

-- who waits in the group
pub waiting-among : (s : Rows) (g : ℕ) (p : ℕ × ℕ) → IsAscending connection_order s.connections
    → (waits_at p.0 (connection_of s p.1 g) ≡ true) ↔ Among p (map waiting_pair (waiting_in s g))
unfolding waiting_in
waiting-among s g p ascending = (forth (connection_of s p.1 g) refl, back)
  where
    forth : (o : Option ConnectionRecord) → connection_of s p.1 g ≡ o → waits_at p.0 o ≡ true
        → Among p (map waiting_pair (filter (λ (c : ConnectionRecord). c.device == g && is_queued c.state) s.connections))
    forth None e h = absurd cc
    forth (Some c) e h =
        let parts = and_parts (is_queued c.state) (unwrap_or c.place 0 == p.0) h in
        let key = found_key s p.1 g c e in
        let there =
        among-filter (λ (c : ConnectionRecord). c.device == g && is_queued c.state) s.connections c (connection_among s p.1 g c e)
        (and_from (c.device == g) (is_queued c.state) (eq-eqb c.device g key.1) parts.0) in
        subst (λ z. Among z (map waiting_pair (filter (λ (c : ConnectionRecord). c.device == g && is_queued c.state) s.connections)))
        (pair_is (unwrap_or c.place 0) c.call p (eqb-true (unwrap_or c.place 0) p.0 parts.1) key.0)
        (among-map waiting_pair c (filter (λ (c : ConnectionRecord). c.device == g && is_queued c.state) s.connections) there)

    back : Among p (map waiting_pair (filter (λ (c : ConnectionRecord). c.device == g && is_queued c.state) s.connections))
        → waits_at p.0 (connection_of s p.1 g) ≡ true
    back a =
        let m = mapped_among waiting_pair (filter (λ (c : ConnectionRecord). c.device == g && is_queued c.state) s.connections) p a in
        let c = m.0 in
        let there = filter_among (λ (c : ConnectionRecord). c.device == g && is_queued c.state) s.connections c m.1.0 in
        let parts = and_parts (c.device == g) (is_queued c.state) there.1 in
        let found : connection_of s p.1 g ≡ Some c =
        ap (λ k. connection_of s k g) (sym (ap (λ (z : ℕ × ℕ). z.1) (sym m.1.1))) ∙ ap (connection_of s c.call) (sym (eqb-true c.device g parts.0))
        ∙ connection_found s ascending c there.0 in
        ap (waits_at p.0) found
        ∙ and_from (is_queued c.state) (unwrap_or c.place 0 == p.0) parts.1 (eq-eqb (unwrap_or c.place 0) p.0 (ap (λ (z : ℕ × ℕ). z.0) (sym m.1.1)))

-- a station is busy where it is in use or has a distributed connection
module _ (s : Rows) (d : ℕ) where
  eqb-swap : (m n : ℕ) → (m == n) ≡ (n == m)
  eqb-swap m n = both_ways (m == n) (n == m) (λ e. eq-eqb n m (sym (eqb-true m n e))) (λ e. eq-eqb m n (sym (eqb-true n m e)))

  head : (a a' b c x y z : Bool) → a ≡ a' → (not x && not y) ≡ not z → (not ((a' && c) || x) && not ((a && b) || y)) ≡ not ((a && (b || c)) || z)
  head true true true true x y z e f = refl
  head true true true false true y z e f = refl
  head true true true false false y z e f = refl
  head true true false true x y z e f = refl
  head true true false false x y z e f = f
  head false false b c x y z e f = f
  head true false b c x y z e f = absurd cc
  head false true b c x y z e f = absurd cc

  neither : (xs : List ConnectionRecord)
      → (not (list_any (λ (c : ConnectionRecord). d == c.device && is_distributed c) xs)
      && not (list_any (λ (c : ConnectionRecord). c.device == d && is_occupying c.state) xs))
      ≡ not (list_any (λ (c : ConnectionRecord). c.device == d && is_busying c) xs)
  neither [] = refl
  neither (c ∷ cs) = head (c.device == d) (d == c.device) (is_occupying c.state) (is_distributed c) _ _ _ (eqb-swap c.device d) (neither cs)

regroup : (a b c d : Bool) → (((a && b) && c) && d) ≡ (a && (b && (c && d)))
regroup true true c d = refl
regroup true false c d = refl
regroup false b c d = refl

none_at : (xs : List ConnectionRecord) → list_any (λ (c : ConnectionRecord). has None c.device && is_distributed c) xs ≡ false
none_at [] = refl
none_at (x ∷ xs) = none_at xs

pub able-eligible : (s : Rows) (g : ℕ) (a : AgentRecord) → is_able s g a ≡ is_eligible s g a
unfolding is_eligible is_occupied is_idle is_busy_at
able-eligible s g a = by a.station refl
  where
    ends : (x y : Bool) → (x && (y && false)) ≡ ((((x && y) && true)) && false)
    ends true true = refl
    ends true false = refl
    ends false y = refl

    by : (o : Option ℕ) → a.station ≡ o → (is_one_of a.groups g && (is_ready a.state && is_free s a.station))
        ≡ (((is_one_of a.groups g && is_ready a.state) && not (list_any (λ (c : ConnectionRecord). has a.station c.device && is_distributed c) s.connections))
        && is_idle_there s a.station)
    by None e =
        ap (λ o. is_one_of a.groups g && (is_ready a.state && is_free s o)) e
        ∙ ends (is_one_of a.groups g) (is_ready a.state)
        ∙ ap (λ b. ((is_one_of a.groups g && is_ready a.state) && not b) && false) (sym (none_at s.connections))
        ∙ ap
        (λ o. ((is_one_of a.groups g && is_ready a.state) && not (list_any (λ (c : ConnectionRecord). has o c.device && is_distributed c) s.connections))
        && is_idle_there s o)
        (sym e)
    by (Some d) e =
        ap (λ o. is_one_of a.groups g && (is_ready a.state && is_free s o)) e
        ∙ ap (λ b. is_one_of a.groups g && (is_ready a.state && b)) (sym (neither s d s.connections))
        ∙ sym (regroup (is_one_of a.groups g) (is_ready a.state) (not (list_any (λ (c : ConnectionRecord). d == c.device && is_distributed c) s.connections))
        (not (list_any (λ (c : ConnectionRecord). c.device == d && is_occupying c.state) s.connections)))
        ∙ ap
        (λ o. ((is_one_of a.groups g && is_ready a.state) && not (list_any (λ (c : ConnectionRecord). has o c.device && is_distributed c) s.connections))
        && is_idle_there s o)
        (sym e)

-- who is eligible in the group
pub eligible-among : (s : Rows) (g : ℕ) (p : ℕ × ℕ) → IsAscending agent_order s.agents
    → (is_able_since s g p.0 (agent_of s p.1) ≡ true) ↔ Among p (map ready_pair (eligible_in s g))
unfolding eligible_in
eligible-among s g p ascending = (forth (agent_of s p.1) refl, back)
  where
    forth : (o : Option AgentRecord) → agent_of s p.1 ≡ o → is_able_since s g p.0 o ≡ true → Among p (map ready_pair (filter (is_eligible s g) s.agents))
    forth None e h = absurd cc
    forth (Some a) e h =
        let parts = and_parts (a.stamp == p.0) (is_able s g a) h in
        let there = among-filter (is_eligible s g) s.agents a (agent_among s p.1 a e) (sym (able-eligible s g a) ∙ parts.1) in
        subst (λ z. Among z (map ready_pair (filter (is_eligible s g) s.agents)))
        (pair_is a.stamp a.agent p (eqb-true a.stamp p.0 parts.0) (agent_key s p.1 a e))
        (among-map ready_pair a (filter (is_eligible s g) s.agents) there)

    back : Among p (map ready_pair (filter (is_eligible s g) s.agents)) → is_able_since s g p.0 (agent_of s p.1) ≡ true
    back x =
        let m = mapped_among ready_pair (filter (is_eligible s g) s.agents) p x in
        let a = m.0 in
        let there = filter_among (is_eligible s g) s.agents a m.1.0 in
        let found : agent_of s p.1 ≡ Some a = ap (agent_of s) (sym (ap (λ (z : ℕ × ℕ). z.1) (sym m.1.1))) ∙ agent_found s ascending a there.0 in
        ap (is_able_since s g p.0) found
        ∙ and_from (a.stamp == p.0) (is_able s g a) (eq-eqb a.stamp p.0 (ap (λ (z : ℕ × ℕ). z.0) (sym m.1.1))) (able-eligible s g a ∙ there.1)

not_less : (a b c d : ℕ) → is_gt (ordering_then (nat_cmp a c) (nat_cmp b d)) ≡ false → (nat_lt c a || ((c == a) && nat_lt d b)) ≡ false
not_less a b c d e = grind (arith, nat_tests)

empty_from : (ps : List (ℕ × ℕ)) → ((p : ℕ × ℕ) → Among p ps → ⊥) → ps ≡ []
empty_from [] h = refl
empty_from (p ∷ ps) h = absurd (h p (inl refl))

-- the first of a set with just these members is their least
pub first-least : (m : PairSets) (g : ℕ) (ps : List (ℕ × ℕ)) → ((p : ℕ × ℕ) → (lists m g p ≡ true) ↔ Among p ps) → (o : Option (ℕ × ℕ))
    → IsFirstIn pair_cmp m g o → least_from None ps ≡ o
first-least m g ps members None none = ap (least_from None) (empty_from ps (λ p a. let h = none p in let k = (members p).1 a in cc (h, k)))
first-least m g ps members (Some k) first = least_found ps k (record {
  there = (members k).0 first.0;
  least = λ q a. not_less k.0 k.1 q.0 q.1 (first.1 q ((members q).1 a));
})

pub waiting-first : (s : Rows) (m : PairSets) (g : ℕ) (o : Option (ℕ × ℕ)) → IsAscending connection_order s.connections
    → ((p : ℕ × ℕ) → lists m g p ≡ waits_at p.0 (connection_of s p.1 g)) → IsFirstIn pair_cmp m g o → o ≡ first_waiting s g
unfolding first_waiting
waiting-first s m g o ascending held first =
    sym (first-least m g (map waiting_pair (waiting_in s g))
    (λ p. (λ h. (waiting-among s g p ascending).0 (sym (held p) ∙ h), λ a. held p ∙ (waiting-among s g p ascending).1 a)) o first)

pub eligible-first : (s : Rows) (m : PairSets) (g : ℕ) (o : Option (ℕ × ℕ)) → IsAscending agent_order s.agents
    → ((p : ℕ × ℕ) → lists m g p ≡ is_able_since s g p.0 (agent_of s p.1)) → IsFirstIn pair_cmp m g o → o ≡ first_eligible s g
unfolding first_eligible
eligible-first s m g o ascending held first =
    sym (first-least m g (map ready_pair (eligible_in s g))
    (λ p. (λ h. (eligible-among s g p ascending).0 (sym (held p) ∙ h), λ a. held p ∙ (eligible-among s g p ascending).1 a)) o first)

-- the set that is lent has just these members
pub lent : (m : PairSets) (g : ℕ) (set : BTreeSet (ℕ × ℕ)) (P : ℕ × ℕ → Bool) → get nat_cmp m g ≡ Some set → ((p : ℕ × ℕ) → lists m g p ≡ P p) → (p : ℕ × ℕ)
    → contains pair_cmp set p ≡ P p
unfolding holds
lent m g set P there held p = ap (λ o. holds_in nat_cmp pair_cmp o p) (sym there) ∙ held p

pub lent-there : (o : Option (Bor (BTreeSet (ℕ × ℕ)))) (m : PairSets) (g : ℕ) → option_copied o ≡ get nat_cmp m g → has_set nat_cmp pair_cmp m g ≡ true
    → is_some o ≡ true
unfolding has_set
lent-there None m g e h = absurd (cc (h))
lent-there (Some q) m g e h = refl

pub lent-members : (o : Option (Bor (BTreeSet (ℕ × ℕ)))) (m : PairSets) (g : ℕ) (P : ℕ × ℕ → Type 0) → option_copied o ≡ get nat_cmp m g
    → ((p : ℕ × ℕ) → (lists m g p ≡ true) ↔ P p) → IfSome o (λ q. (p : ℕ × ℕ) → (contains pair_cmp q.now p ≡ true) ↔ P p)
lent-members None m g P e h = tt
lent-members (Some q) m g P e h = λ p. let same = lent m g q.now (λ z. lists m g z) (sym e) (λ z. refl) p in
    (λ t. (h p).0 (sym same ∙ t), λ a. same ∙ (h p).1 a)

pub none-occupied : (s : Rows) (a : AgentRecord) → a.station ≡ None → false ≡ is_occupied s a
unfolding is_occupied
none-occupied s a e = sym (ap (λ o. list_any (λ (c : ConnectionRecord). has o c.device && is_distributed c) s.connections) e ∙ none_at s.connections)
