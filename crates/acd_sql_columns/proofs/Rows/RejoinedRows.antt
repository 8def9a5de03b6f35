-- Agents and groups that are joined of rows have just these rows.
use Rattle.std.proofs.Common.{◌≡◌, inl, inr, ℕ, suc, Bool, true, false, cond, not, ◌==◌, ◌||◌, ◌++◌, List, [], ◌∷◌, length, map, filter, Option, None, Some, refl, sym, ap, ap₂, subst, ◌∙◌, nat_le, nat_lt, arith}
use Rattle.std.specs.List.{list_any, list_all}
use Rattle.std.specs.Ordering.{nat_cmp, ordering_then}
use Rattle.std.specs.declared.cmp.Ordering.{Ordering}
use Rattle.std.specs.declared.cmp.Ordering.TheVariants.{Less, Equal, Greater}
use Rattle.std.proofs.lemmas.Bool.{eqb-true, eq-eqb, and_parts, and_from}
use Rattle.std.proofs.lemmas.Bool.Decides.{nat_tests}
use Rattle.std.proofs.lemmas.Cmp.{nat_cmp_total, on_total}
use Rattle.acd_terms.specs.Groups.{are_groups, further_groups, least_group}
use Rattle.acd_terms.specs.Lists.{Among, AllAfter, IsAscending, Every, is_less, ascends}
use Rattle.acd_terms.specs.declared.record.AgentRecord.{AgentRecord}
use Rattle.acd_lemmas.proofs.KeyedLists.{cmp_equal, cmp_self}
use Rattle.acd_lemmas.proofs.Lists.{after_among, filter_among, all_true, ascending-filter, filter_all, filter_none}
use Rattle.acd_sql_columns.specs.declared.relations.GroupRow.{GroupRow}
use Rattle.acd_sql_columns.specs.declared.relations.AgentRow.{AgentRow}
use Rattle.acd_sql_columns.specs.declared.relations.GroupPriority.{GroupPriority}
use Rattle.acd_sql_columns.specs.Relations.{pair_order, group_part, agent_part, further_of, further_in, priorities_in, priority_of, joined_group, groups_beside, after_first, joined_agent, is_above, is_after, are_after, are_of_groups}
use Rattle.acd_sql_columns.proofs.Rows.RowsOfRecords.{one_of}
use Rattle.acd_sql_columns.proofs.Rows.JoinedRecords.{apart, apart_back, of_agent}

-- ---- lists

-- one that passes is there
any_among : {X : Type 0} (p : X → Bool) (xs : List X) → list_any p xs ≡ true → (x : X) × Among x xs × (p x ≡ true)
any_among p [] h = absurd (cc h)
any_among p (x ∷ xs) h =
    (elim (p x) as (λ b. p x ≡ b → (b || list_any p xs) ≡ true → (y : _) × Among y (x ∷ xs) × (p y ≡ true)) [
      | true ↦ λ e k. (x, inl refl, e)
      | false ↦ λ e k. let more = any_among p xs k in (more.0, inr more.1, more.2)
    ]) refl h

none_there : {X : Type 0} (xs : List X) → ((x : X) → Among x xs → ⊥) → xs ≡ []
none_there [] h = refl
none_there (x ∷ xs) h = absurd (h x (inl refl))

-- ---- numbers

less_lt : (m n : ℕ) → nat_cmp m n ≡ Less → nat_lt n m ≡ false
less_lt m n h = grind (arith, nat_tests)

not_below : (m n : ℕ) → m ≡ n → nat_lt m n ≡ false
not_below m n h = grind (arith, nat_tests)

abbrev agent_order : AgentRow → AgentRow → Ordering
agent_order a b = nat_cmp a.agent b.agent

abbrev regrouped : AgentRow → Option ℕ → AgentRow
regrouped a o = record a { group = o }

-- ---- pairs in order

first_le : (p q : ℕ × ℕ) → pair_order p q ≡ Less → nat_lt q.0 p.0 ≡ false
first_le p q h = by (nat_cmp p.0 q.0) refl h
  where
    by : (o : Ordering) → nat_cmp p.0 q.0 ≡ o → ordering_then o (nat_cmp p.1 q.1) ≡ Less → nat_lt q.0 p.0 ≡ false
    by Less e k = less_lt p.0 q.0 e
    by Equal e k = not_below q.0 p.0 (sym (cmp_equal p.0 q.0 e))
    by Greater e k = absurd (cc k)

-- of numbers that are none below, one after another that isn't it comes after
after_one : (n m k : ℕ) → nat_lt m n ≡ false → (m == n) ≡ false → nat_lt k m ≡ false → (k == n) ≡ false
after_one n m k h e l = grind (arith, nat_tests)

-- things with a key, in an order by which none comes before one of a lower key, and items with numbers
module _ {P A : Type 0} (key : P → ℕ) (order : P → P → Ordering) (le : (p q : P) → order p q ≡ Less → nat_lt (key q) (key p) ≡ false) (number : A → ℕ) where
  abbrev rising : A → A → Ordering
  rising a b = nat_cmp (number a) (number b)

  abbrev of_key : ℕ → P → Bool
  of_key n p = key p == n

  abbrev not_key : ℕ → P → Bool
  not_key n p = not (key p == n)

  split : (n : ℕ) (ps : List P) → IsAscending order ps → ((p : P) → Among p ps → nat_lt (key p) n ≡ false) → filter (of_key n) ps ++ filter (not_key n) ps ≡ ps
  split n [] up low = refl
  split n (p ∷ ps) up low = by (key p == n) refl (split n ps up.1 (λ q h. low q (inr h)))
    where
      after : (key p == n) ≡ false → (q : P) → Among q ps → (key q == n) ≡ false
      after e q h = after_one n (key p) (key q) (low p (inl refl)) e (le p q (after_among order p ps q up.0 h))

      by : (b : Bool) → (key p == n) ≡ b → filter (of_key n) ps ++ filter (not_key n) ps ≡ ps
          → cond b (p ∷ filter (of_key n) ps) (filter (of_key n) ps) ++ cond (not b) (p ∷ filter (not_key n) ps) (filter (not_key n) ps) ≡ p ∷ ps
      by true e more = ap (λ l. p ∷ l) more
      by false e more = ap₂ (λ xs ys. xs ++ p ∷ ys) (filter_none (of_key n) ps (after e)) (filter_all (not_key n) ps (λ q h. ap not (after e q h)))

  -- the ps of each of these items, one agent after the other
  abbrev in_turn : List A → List P → List P
  in_turn [] ps = []
  in_turn (a ∷ items) ps = filter (of_key (number a)) ps ++ in_turn items ps

  -- those of others are the same without one's
  others_same : (n m : ℕ) (ps : List P) → (n == m) ≡ false → filter (of_key m) (filter (not_key n) ps) ≡ filter (of_key m) ps
  others_same n m [] e = refl
  others_same n m (p ∷ ps) e = by (key p == n) refl (others_same n m ps e)
    where
      by : (b : Bool) → (key p == n) ≡ b → filter (of_key m) (filter (not_key n) ps) ≡ filter (of_key m) ps
          → filter (of_key m) (cond (not b) (p ∷ filter (not_key n) ps) (filter (not_key n) ps))
          ≡ cond (key p == m) (p ∷ filter (of_key m) ps) (filter (of_key m) ps)
      by true h more = more ∙ ap (λ b. cond b (p ∷ filter (of_key m) ps) (filter (of_key m) ps)) (sym (ap (λ k. k == m) (eqb-true (key p) n h) ∙ e))
      by false h more = ap (λ l. cond (key p == m) (p ∷ l) l) more

  without_one : (n : ℕ) (items : List A) (ps : List P) → ((a : A) → Among a items → (n == number a) ≡ false)
      → in_turn items (filter (not_key n) ps) ≡ in_turn items ps
  without_one n [] ps other = refl
  without_one n (a ∷ items) ps other =
      ap₂ (λ xs ys. xs ++ ys) (others_same n (number a) ps (other a (inl refl))) (without_one n items ps (λ b h. other b (inr h)))

  -- in turn they are all of them
  turned : (items : List A) (ps : List P) → IsAscending rising items → IsAscending order ps
      → ((p : P) → Among p ps → (a : A) × Among a items × (number a ≡ key p)) → in_turn items ps ≡ ps
  turned [] ps up rise there = sym (none_there ps (λ p h. (there p h).1))
  turned (a ∷ items) ps up rise there =
      ap (λ l. filter (of_key (number a)) ps ++ l)
      (sym (without_one (number a) items ps (λ b h. apart_back (number a) (number b) (after_among rising a items b up.0 h)))
      ∙ turned items (filter (not_key (number a)) ps) up.1 (ascending-filter order (not_key (number a)) ps rise) left)
      ∙ split (number a) ps rise low
    where
      left : (p : P) → Among p (filter (not_key (number a)) ps) → (b : A) × Among b items × (number b ≡ key p)
      left p h =
          let was = filter_among (not_key (number a)) ps p h in
          let from = there p was.0 in
          elim from.1 [
            | inl e ↦ absurd (let same : (key p == number a) ≡ true = eq-eqb (key p) (number a) (sym from.2 ∙ ap number e) in
                let never : (not true) ≡ true = sym (ap not same) ∙ was.1 in cc never)
            | inr k ↦ (from.0, k, from.2)
          ]

      low : (p : P) → Among p ps → nat_lt (key p) (number a) ≡ false
      low p h =
          let from = there p h in
          subst (λ n. nat_lt n (number a) ≡ false) from.2
          (elim from.1 [
            | inl e ↦ not_below (number from.0) (number a) (ap number e)
            | inr k ↦ less_lt (number a) (number from.0) (after_among rising a items from.0 up.0 k)
          ])

-- ---- groups of one agent

lt_less : (m n : ℕ) → nat_lt m n ≡ true → nat_cmp m n ≡ Less
lt_less m n h = grind (arith, nat_tests)

one_more_few : (n : ℕ) → nat_le n 7 ≡ true → nat_le (suc n) 8 ≡ true
one_more_few n h = grind (arith, nat_tests)

ascends_so : (gs : List ℕ) → IsAscending nat_cmp gs → ascends nat_cmp gs ≡ true
ascends_so [] up = refl
ascends_so (g ∷ []) up = refl
ascends_so (g ∷ h ∷ gs) up = and_from (is_less (nat_cmp g h)) (ascends nat_cmp (h ∷ gs)) (ap is_less up.0.0) (ascends_so (h ∷ gs) up.1)

in_front : (g : ℕ) (ps : List (ℕ × ℕ)) → ((p : ℕ × ℕ) → Among p ps → nat_cmp g p.1 ≡ Less) → AllAfter nat_cmp g (map (λ (p : ℕ × ℕ). p.1) ps)
in_front g [] all = tt
in_front g (p ∷ ps) all = (all p (inl refl), in_front g ps (λ q h. all q (inr h)))

-- pairs of one agent ascend by their groups
second_below : (p q : ℕ × ℕ) → p.0 ≡ q.0 → pair_order p q ≡ Less → nat_cmp p.1 q.1 ≡ Less
second_below p q e h = sym (ap (λ o. ordering_then o (nat_cmp p.1 q.1)) (cmp_self p.0 q.0 e)) ∙ h

seconds_rise : (n : ℕ) (ps : List (ℕ × ℕ)) → ((p : ℕ × ℕ) → Among p ps → p.0 ≡ n) → IsAscending pair_order ps
    → IsAscending nat_cmp (map (λ (p : ℕ × ℕ). p.1) ps)
seconds_rise n [] all up = tt
seconds_rise n (p ∷ ps) all up = (
  in_front p.1 ps (λ q h. second_below p q (all p (inl refl) ∙ sym (all q (inr h))) (after_among pair_order p ps q up.0 h)),
  seconds_rise n ps (λ q h. all q (inr h)) up.1,
)

-- ---- agents

module _ (agents : List AgentRow) (pairs : List (ℕ × ℕ)) (up : IsAscending agent_order agents) (after : are_after agents pairs ≡ true) where
  both : (list_all (λ (p : ℕ × ℕ). list_any (λ (a : AgentRow). is_after a p) agents) pairs ≡ true)
      × (list_all (λ (a : AgentRow). nat_le (length (groups_beside pairs a.agent)) 7) agents ≡ true)
  both = and_parts _ _ after

  seat : (p : ℕ × ℕ) → Among p pairs → (a : AgentRow) × Among a agents × (is_after a p ≡ true)
  seat p h = any_among (λ (a : AgentRow). is_after a p) agents (all_true (λ (q : ℕ × ℕ). list_any (λ (a : AgentRow). is_after a q) agents) pairs both.0 p h)

  there : (p : ℕ × ℕ) → Among p pairs → (a : AgentRow) × Among a agents × (a.agent ≡ p.0)
  there p h = let from = seat p h in (from.0, from.1, eqb-true from.0.agent p.0 (and_parts (from.0.agent == p.0) (is_above from.0.group p.1) from.2).0)

  -- a pair of an agent comes after its first group
  above : (a : AgentRow) → Among a agents → (p : ℕ × ℕ) → Among p (filter (of_agent a.agent) pairs) → is_above a.group p.1 ≡ true
  above a h p k =
      let was = filter_among (of_agent a.agent) pairs p k in
      let from = seat p was.0 in
      let parts = and_parts (from.0.agent == p.0) (is_above from.0.group p.1) from.2 in
      let same =
      one_of agent_order (on_total (λ (x : AgentRow). x.agent) nat_cmp_total) agents from.0 a up from.1 h
      (cmp_self from.0.agent a.agent (eqb-true from.0.agent p.0 parts.0 ∙ eqb-true p.0 a.agent was.1)) in
      subst (λ (x : AgentRow). is_above x.group p.1 ≡ true) same parts.1

  none_beside : (a : AgentRow) → Among a agents → a.group ≡ None → filter (of_agent a.agent) pairs ≡ []
  none_beside a h e = none_there _ (λ p k. let far = sym (ap (λ o. is_above o p.1) e) ∙ above a h p k in cc far)

  rejoin : (n : ℕ) (ps : List (ℕ × ℕ)) → map (λ (g : ℕ). (n, g)) (map (λ (p : ℕ × ℕ). p.1) (filter (of_agent n) ps)) ≡ filter (of_agent n) ps
  rejoin n [] = refl
  rejoin n (p ∷ ps) = by (p.0 == n) refl (rejoin n ps)
    where
      by : (b : Bool) → (p.0 == n) ≡ b → map (λ (g : ℕ). (n, g)) (map (λ (q : ℕ × ℕ). q.1) (filter (of_agent n) ps)) ≡ filter (of_agent n) ps
          → map (λ (g : ℕ). (n, g)) (map (λ (q : ℕ × ℕ). q.1) (cond b (p ∷ filter (of_agent n) ps) (filter (of_agent n) ps)))
          ≡ cond b (p ∷ filter (of_agent n) ps) (filter (of_agent n) ps)
      by true e more = ap₂ (λ x l. (x, p.1) ∷ l) (sym (eqb-true p.0 n e)) more
      by false e more = more

  further_one : (a : AgentRow) → Among a agents → further_of (joined_agent pairs a) ≡ filter (of_agent a.agent) pairs
  further_one a h = by a.group refl
    where
      by : (o : Option ℕ) → a.group ≡ o
          → map (λ (g : ℕ). (a.agent, g)) (further_groups (after_first o (groups_beside pairs a.agent))) ≡ filter (of_agent a.agent) pairs
      by None e =
          ap (λ (ps : List (ℕ × ℕ)). map (λ (g : ℕ). (a.agent, g)) (further_groups (map (λ (p : ℕ × ℕ). p.1) ps))) (none_beside a h e) ∙ sym (none_beside a h e)
      by (Some g) e = rejoin a.agent pairs

  part_one : (a : AgentRow) → Among a agents → agent_part (joined_agent pairs a) ≡ a
  part_one a h = ap (λ (o : Option ℕ). regrouped a o) (by a.group refl)
    where
      by : (o : Option ℕ) → a.group ≡ o → least_group (after_first o (groups_beside pairs a.agent)) ≡ o
      by None e = ap (λ (ps : List (ℕ × ℕ)). least_group (map (λ (p : ℕ × ℕ). p.1) ps)) (none_beside a h e)
      by (Some g) e = refl

  all_further : (bs : List AgentRow) → ((a : AgentRow) → Among a bs → Among a agents)
      → further_in (map (joined_agent pairs) bs) ≡ in_turn (λ (p : ℕ × ℕ). p.0) pair_order first_le (λ (a : AgentRow). a.agent) bs pairs
  all_further [] all = refl
  all_further (a ∷ bs) all = ap₂ (λ xs ys. xs ++ ys) (further_one a (all a (inl refl))) (all_further bs (λ b h. all b (inr h)))

  all_parts : (bs : List AgentRow) → ((a : AgentRow) → Among a bs → Among a agents) → map agent_part (map (joined_agent pairs) bs) ≡ bs
  all_parts [] all = refl
  all_parts (a ∷ bs) all = ap₂ (λ b l. b ∷ l) (part_one a (all a (inl refl))) (all_parts bs (λ b h. all b (inr h)))

  pub parts_rejoined : map agent_part (map (joined_agent pairs) agents) ≡ agents
  parts_rejoined = all_parts agents (λ a h. h)

  pub further_rejoined : IsAscending pair_order pairs → further_in (map (joined_agent pairs) agents) ≡ pairs
  further_rejoined rise = all_further agents (λ a h. h) ∙ turned (λ (p : ℕ × ℕ). p.0) pair_order first_le (λ (a : AgentRow). a.agent) agents pairs up rise there

  -- each has eight groups at most, which ascend
  one_right : IsAscending pair_order pairs → (a : AgentRow) → Among a agents → are_groups (after_first a.group (groups_beside pairs a.agent)) ≡ true
  one_right rise a h = by a.group refl
    where
      by : (o : Option ℕ) → a.group ≡ o → are_groups (after_first o (groups_beside pairs a.agent)) ≡ true
      by None e = ap (λ (ps : List (ℕ × ℕ)). are_groups (map (λ (p : ℕ × ℕ). p.1) ps)) (none_beside a h e)
      by (Some g) e =
          and_from (nat_le (length (g ∷ groups_beside pairs a.agent)) 8) (ascends nat_cmp (g ∷ groups_beside pairs a.agent))
          (one_more_few (length (groups_beside pairs a.agent)) (all_true (λ (x : AgentRow). nat_le (length (groups_beside pairs x.agent)) 7) agents both.1 a h))
          (ascends_so (g ∷ groups_beside pairs a.agent) (
            in_front g (filter (of_agent a.agent) pairs) (λ p k. lt_less g p.1 (sym (ap (λ o. is_above o p.1) e) ∙ above a h p k)),
            seconds_rise a.agent (filter (of_agent a.agent) pairs) (λ p k. eqb-true p.0 a.agent (filter_among (of_agent a.agent) pairs p k).1)
                (ascending-filter pair_order (of_agent a.agent) pairs rise),
          ))

  all_right : IsAscending pair_order pairs → (bs : List AgentRow) → ((a : AgentRow) → Among a bs → Among a agents)
      → Every (λ (a : AgentRecord). are_groups a.groups ≡ true) (map (joined_agent pairs) bs)
  all_right rise [] all = tt
  all_right rise (a ∷ bs) all = (one_right rise a (all a (inl refl)), all_right rise bs (λ b h. all b (inr h)))

  pub groups_right : IsAscending pair_order pairs → Every (λ (a : AgentRecord). are_groups a.groups ≡ true) (map (joined_agent pairs) agents)
  groups_right rise = all_right rise agents (λ a h. h)

-- ---- groups

abbrev by_device : GroupRow → GroupRow → Ordering
by_device g h = nat_cmp g.device h.device

abbrev pub by_rank : GroupPriority → GroupPriority → Ordering
by_rank p q = nat_cmp p.device q.device

pub group_parts_rejoined : (ps : List GroupPriority) (groups : List GroupRow) → map group_part (map (joined_group ps) groups) ≡ groups
group_parts_rejoined ps [] = refl
group_parts_rejoined ps (g ∷ groups) = ap (λ l. g ∷ l) (group_parts_rejoined ps groups)

rank_le : (p q : GroupPriority) → by_rank p q ≡ Less → nat_lt q.device p.device ≡ false
rank_le p q h = less_lt p.device q.device h

abbrev of_device : ℕ → GroupPriority → Bool
of_device n p = p.device == n

abbrev rank_or_none : ℕ → ℕ → List GroupPriority
rank_or_none n r = cond (r == 0) [] (record { device = n; priority = r } ∷ [])

-- the row of a group is its priority, and there is none where that is 0
one_rank : (n : ℕ) (ps : List GroupPriority) → IsAscending by_rank ps → ((p : GroupPriority) → Among p ps → (p.priority == 0) ≡ false)
    → rank_or_none n (priority_of ps n) ≡ filter (of_device n) ps
one_rank n [] up some = refl
one_rank n (p ∷ ps) up some = by (p.device == n) refl (one_rank n ps up.1 (λ q h. some q (inr h)))
  where
    by : (b : Bool) → (p.device == n) ≡ b → rank_or_none n (priority_of ps n) ≡ filter (of_device n) ps
        → rank_or_none n (cond b p.priority (priority_of ps n)) ≡ cond b (p ∷ filter (of_device n) ps) (filter (of_device n) ps)
    by true e more =
        ap (λ c. cond c [] (record { device = n; priority = p.priority } ∷ [])) (some p (inl refl))
        ∙ ap₂ (λ d l. (record { device = d; priority = p.priority }) ∷ l) (sym (eqb-true p.device n e))
        (sym (filter_none (of_device n) ps
        (λ q h. sym (ap (λ k. q.device == k) (eqb-true p.device n e)) ∙ apart p.device q.device (after_among by_rank p ps q up.0 h))))
    by false e more = more

module _ (groups : List GroupRow) (ps : List GroupPriority) (up : IsAscending by_device groups) (rise : IsAscending by_rank ps)
    (some : (p : GroupPriority) → Among p ps → (p.priority == 0) ≡ false) (known : are_of_groups groups ps ≡ true) where
  abbrev ranks_of : List GroupRow → List GroupPriority
  ranks_of gs = in_turn (λ (p : GroupPriority). p.device) by_rank rank_le (λ (g : GroupRow). g.device) gs ps

  with_more : (n r : ℕ) (more : List GroupPriority) → cond (r == 0) more (record { device = n; priority = r } ∷ more) ≡ rank_or_none n r ++ more
  with_more n r more = by (r == 0)
    where
      by : (b : Bool) → cond b more (record { device = n; priority = r } ∷ more) ≡ cond b [] (record { device = n; priority = r } ∷ []) ++ more
      by true = refl
      by false = refl

  all_ranks : (gs : List GroupRow) → priorities_in (map (joined_group ps) gs) ≡ ranks_of gs
  all_ranks [] = refl
  all_ranks (g ∷ gs) =
      with_more g.device (priority_of ps g.device) (priorities_in (map (joined_group ps) gs))
      ∙ ap₂ (λ xs ys. xs ++ ys) (one_rank g.device ps rise some) (all_ranks gs)

  pub priorities_rejoined : priorities_in (map (joined_group ps) groups) ≡ ps
  priorities_rejoined =
      all_ranks groups
      ∙ turned (λ (p : GroupPriority). p.device) by_rank rank_le (λ (g : GroupRow). g.device) groups ps up rise
      (λ p h.
      let from =
      any_among (λ (g : GroupRow). g.device == p.device) groups
      (all_true (λ (q : GroupPriority). list_any (λ (g : GroupRow). g.device == q.device) groups) ps known p h) in
      (from.0, from.1, eqb-true from.0.device p.device from.2))
