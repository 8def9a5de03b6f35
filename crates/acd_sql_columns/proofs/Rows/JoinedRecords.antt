-- Groups and agents, and what the tables have of them: separate tables hold a group's priority and an agent's further groups.
use Rattle.std.proofs.Common.{◌≡◌, ◌⊎◌, inl, inr, ℕ, Bool, true, false, cond, not, ◌==◌, ◌++◌, List, [], ◌∷◌, map, filter, refl, sym, ap, ap₂, subst, ◌∙◌, append-nil}
use Rattle.std.specs.Ordering.{nat_cmp, is_eq, ordering_then, ordering_reverse, match_ordering}
use Rattle.std.specs.declared.cmp.Ordering.{Ordering}
use Rattle.std.specs.declared.cmp.Ordering.TheVariants.{Less, Equal, Greater}
use Rattle.std.proofs.lemmas.Bool.{eqb-true, eq-eqb, false_from_ne_true}
use Rattle.std.proofs.lemmas.Cmp.{nat_cmp_total}
use Rattle.std.proofs.lemmas.List.Elements.{filter-append}
use Rattle.acd_terms.specs.Groups.{least_group, further_groups}
use Rattle.acd_terms.specs.Lists.{Among, AllAfter, IsAscending, put_by, remove_by}
use Rattle.acd_terms.specs.declared.record.GroupRecord.{GroupRecord}
use Rattle.acd_terms.specs.declared.record.AgentRecord.{AgentRecord}
use Rattle.acd_lemmas.proofs.KeyedLists.{key_is, cmp_equal, cmp_self, eqb_self}
use Rattle.acd_lemmas.proofs.Lists.{after_among}
use Rattle.acd_sql_columns.specs.declared.relations.GroupRow.{GroupRow}
use Rattle.acd_sql_columns.specs.declared.relations.AgentRow.{AgentRow}
use Rattle.acd_sql_columns.specs.declared.relations.GroupPriority.{GroupPriority}
use Rattle.acd_sql_columns.specs.Relations.{pair_order, group_part, agent_part, further_of, further_in, priority_part, priorities_in, priority_of, joined_group, groups_beside, after_first, joined_agent, all_put, with_further, with_priority_of}
use Rattle.acd_lemmas.proofs.Numbers.{greater_is}

-- ---- numbers

-- of two numbers in order, neither is the other
pub apart : (m n : ℕ) → nat_cmp m n ≡ Less → (n == m) ≡ false
apart m n e = sym (key_is m n) ∙ ap is_eq e

pub apart_back : (m n : ℕ) → nat_cmp m n ≡ Less → (m == n) ≡ false
apart_back m n e = false_from_ne_true (m == n) (λ h. let other = apart m n e in let is = eq-eqb n m (sym (eqb-true m n h)) in cc (other, is))

-- ---- the pairs of one agent

abbrev pub of_agent : ℕ → ℕ × ℕ → Bool
of_agent n p = p.0 == n

abbrev pub not_of : ℕ → ℕ × ℕ → Bool
not_of n p = not (p.0 == n)

abbrev pub pairs_of : ℕ → List ℕ → List (ℕ × ℕ)
pairs_of n gs = map (λ (g : ℕ). (n, g)) gs

all_of_agent : (n : ℕ) (gs : List ℕ) → filter (of_agent n) (pairs_of n gs) ≡ pairs_of n gs
all_of_agent n [] = refl
all_of_agent n (g ∷ gs) =
    ap (λ b. cond b ((n, g) ∷ filter (of_agent n) (pairs_of n gs)) (filter (of_agent n) (pairs_of n gs))) (eqb_self n)
    ∙ ap (λ l. (n, g) ∷ l) (all_of_agent n gs)

none_of_agent : (n m : ℕ) (gs : List ℕ) → (m == n) ≡ false → filter (of_agent n) (pairs_of m gs) ≡ []
none_of_agent n m [] e = refl
none_of_agent n m (g ∷ gs) e = ap (λ b. cond b ((m, g) ∷ filter (of_agent n) (pairs_of m gs)) (filter (of_agent n) (pairs_of m gs))) e ∙ none_of_agent n m gs e

all_other : (n m : ℕ) (gs : List ℕ) → (m == n) ≡ false → filter (not_of n) (pairs_of m gs) ≡ pairs_of m gs
all_other n m [] e = refl
all_other n m (g ∷ gs) e =
    ap (λ b. cond (not b) ((m, g) ∷ filter (not_of n) (pairs_of m gs)) (filter (not_of n) (pairs_of m gs))) e ∙ ap (λ l. (m, g) ∷ l) (all_other n m gs e)

none_other : (n : ℕ) (gs : List ℕ) → filter (not_of n) (pairs_of n gs) ≡ []
none_other n [] = refl
none_other n (g ∷ gs) = ap (λ b. cond (not b) ((n, g) ∷ filter (not_of n) (pairs_of n gs)) (filter (not_of n) (pairs_of n gs))) (eqb_self n) ∙ none_other n gs

seconds : (n : ℕ) (gs : List ℕ) → map (λ (p : ℕ × ℕ). p.1) (pairs_of n gs) ≡ gs
seconds n [] = refl
seconds n (g ∷ gs) = ap (λ l. g ∷ l) (seconds n gs)

-- ---- agents in ascending number

abbrev by_agent : AgentRecord → AgentRecord → Ordering
by_agent a b = nat_cmp a.agent b.agent

-- the pairs of an agent before these are none of theirs
none_after : (n : ℕ) (agents : List AgentRecord) → ((a : AgentRecord) → Among a agents → nat_cmp n a.agent ≡ Less)
    → filter (of_agent n) (further_in agents) ≡ []
none_after n [] before = refl
none_after n (a ∷ agents) before =
    filter-append (of_agent n) (further_of a) (further_in agents)
    ∙ ap₂ (λ xs ys. xs ++ ys) (none_of_agent n a.agent (further_groups a.groups) (apart n a.agent (before a (inl refl))))
    (none_after n agents (λ b h. before b (inr h)))

all_after : (n : ℕ) (agents : List AgentRecord) → ((a : AgentRecord) → Among a agents → nat_cmp n a.agent ≡ Less)
    → filter (not_of n) (further_in agents) ≡ further_in agents
all_after n [] before = refl
all_after n (a ∷ agents) before =
    filter-append (not_of n) (further_of a) (further_in agents)
    ∙ ap₂ (λ xs ys. xs ++ ys) (all_other n a.agent (further_groups a.groups) (apart n a.agent (before a (inl refl))))
    (all_after n agents (λ b h. before b (inr h)))

beside_first : (a : AgentRecord) (agents : List AgentRecord) → AllAfter by_agent a agents
    → groups_beside (further_of a ++ further_in agents) a.agent ≡ further_groups a.groups
beside_first a agents after =
    ap (map (λ (p : ℕ × ℕ). p.1))
    (filter-append (of_agent a.agent) (further_of a) (further_in agents)
    ∙ ap₂ (λ xs ys. xs ++ ys) (all_of_agent a.agent (further_groups a.groups)) (none_after a.agent agents (λ b h. after_among by_agent a agents b after h))
    ∙ append-nil (further_of a))
    ∙ seconds a.agent (further_groups a.groups)

beside_other : (a : AgentRecord) (pairs : List (ℕ × ℕ)) (n : ℕ) → (a.agent == n) ≡ false → groups_beside (further_of a ++ pairs) n ≡ groups_beside pairs n
beside_other a pairs n e =
    ap (map (λ (p : ℕ × ℕ). p.1))
    (filter-append (of_agent n) (further_of a) pairs ∙ ap (λ xs. xs ++ filter (of_agent n) pairs) (none_of_agent n a.agent (further_groups a.groups) e))

pub beside_each : (agents : List AgentRecord) → IsAscending by_agent agents → (a : AgentRecord) → Among a agents
    → groups_beside (further_in agents) a.agent ≡ further_groups a.groups
beside_each [] up a h = absurd h
beside_each (b ∷ agents) up a (inl e) =
    subst (λ (c : AgentRecord). groups_beside (further_of b ++ further_in agents) c.agent ≡ further_groups c.groups) (sym e) (beside_first b agents up.0)
beside_each (b ∷ agents) up a (inr h) =
    beside_other b (further_in agents) a.agent (apart_back b.agent a.agent (after_among by_agent b agents a up.0 h)) ∙ beside_each agents up.1 a h

all_groups : (gs : List ℕ) → after_first (least_group gs) (further_groups gs) ≡ gs
all_groups [] = refl
all_groups (g ∷ gs) = refl

abbrev regrouped : AgentRecord → List ℕ → AgentRecord
regrouped a gs = record a { groups = gs }

one_joined : (pairs : List (ℕ × ℕ)) (a : AgentRecord) → groups_beside pairs a.agent ≡ further_groups a.groups → joined_agent pairs (agent_part a) ≡ a
one_joined pairs a e = ap (λ gs. regrouped a (after_first (least_group a.groups) gs)) e ∙ ap (regrouped a) (all_groups a.groups)

each_joined : (pairs : List (ℕ × ℕ)) (agents : List AgentRecord) → ((a : AgentRecord) → Among a agents → groups_beside pairs a.agent ≡ further_groups a.groups)
    → map (joined_agent pairs) (map agent_part agents) ≡ agents
each_joined pairs [] all = refl
each_joined pairs (a ∷ agents) all = ap₂ (λ b bs. b ∷ bs) (one_joined pairs a (all a (inl refl))) (each_joined pairs agents (λ b h. all b (inr h)))

-- agents of their parts are the agents
pub agents_joined : (agents : List AgentRecord) → IsAscending by_agent agents → map (joined_agent (further_in agents)) (map agent_part agents) ≡ agents
agents_joined agents up = each_joined (further_in agents) agents (beside_each agents up)

-- ---- an agent is put

-- a pair that comes before all of them stays before
passed : (ps : List (ℕ × ℕ)) (q : ℕ × ℕ) (pairs : List (ℕ × ℕ)) → ((p : ℕ × ℕ) → Among p ps → pair_order p q ≡ Greater)
    → all_put ps (q ∷ pairs) ≡ q ∷ all_put ps pairs
passed [] q pairs all = refl
passed (p ∷ ps) q pairs all =
    ap (λ o. all_put ps (match_ordering o (p ∷ q ∷ pairs) (p ∷ pairs) (q ∷ put_by (pair_order p) pairs p))) (all p (inl refl))
    ∙ passed ps q (put_by (pair_order p) pairs p) (λ r h. all r (inr h))

all_passed : (ps qs pairs : List (ℕ × ℕ)) → ((p q : ℕ × ℕ) → Among p ps → Among q qs → pair_order p q ≡ Greater)
    → all_put ps (qs ++ pairs) ≡ qs ++ all_put ps pairs
all_passed ps [] pairs all = refl
all_passed ps (q ∷ qs) pairs all =
    passed ps q (qs ++ pairs) (λ p h. all p q h (inl refl)) ∙ ap (λ l. q ∷ l) (all_passed ps qs pairs (λ p r h k. all p r h (inr k)))

pair_below : (m n g k : ℕ) → nat_cmp m n ≡ Less → pair_order (m, g) (n, k) ≡ Less
pair_below m n g k e = ap (λ o. ordering_then o (nat_cmp g k)) e

pair_above : (m n g k : ℕ) → nat_cmp m n ≡ Greater → pair_order (m, g) (n, k) ≡ Greater
pair_above m n g k e = ap (λ o. ordering_then o (nat_cmp g k)) e

pair_same : (n g k : ℕ) → pair_order (n, g) (n, k) ≡ nat_cmp g k
pair_same n g k = ap (λ o. ordering_then o (nat_cmp g k)) (cmp_self n n refl)

-- they come from where they go before all that are there
in_front : (n g : ℕ) (pairs : List (ℕ × ℕ)) → ((q : ℕ × ℕ) → Among q pairs → nat_cmp n q.0 ≡ Less) → put_by (pair_order (n, g)) pairs (n, g) ≡ (n, g) ∷ pairs
in_front n g [] before = refl
in_front n g (q ∷ pairs) before =
    ap (λ o. match_ordering o ((n, g) ∷ q ∷ pairs) ((n, g) ∷ pairs) (q ∷ put_by (pair_order (n, g)) pairs (n, g)))
    (pair_below n q.0 g q.1 (before q (inl refl)))

pair_among : (n : ℕ) (gs : List ℕ) (p : ℕ × ℕ) → Among p (pairs_of n gs) → (g : ℕ) × Among g gs × (p ≡ (n, g))
pair_among n [] p h = absurd h
pair_among n (g ∷ gs) p (inl e) = (g, inl refl, e)
pair_among n (g ∷ gs) p (inr h) = let more = pair_among n gs p h in (more.0, inr more.1, more.2)

all_in_front : (n : ℕ) (gs : List ℕ) (pairs : List (ℕ × ℕ)) → IsAscending nat_cmp gs → ((q : ℕ × ℕ) → Among q pairs → nat_cmp n q.0 ≡ Less)
    → all_put (pairs_of n gs) pairs ≡ pairs_of n gs ++ pairs
all_in_front n [] pairs up before = refl
all_in_front n (g ∷ gs) pairs up before =
    ap (all_put (pairs_of n gs)) (in_front n g pairs before)
    ∙ passed (pairs_of n gs) (n, g) pairs
    (λ p h.
    let from = pair_among n gs p h in
    ap (λ (r : ℕ × ℕ). pair_order r (n, g)) from.2 ∙ pair_same n from.0 g ∙ greater_is g from.0 (after_among nat_cmp g gs from.0 up.0 from.1))
    ∙ ap (λ l. (n, g) ∷ l) (all_in_front n gs pairs up.1 before)

among_append : {X : Type 0} (xs ys : List X) (z : X) → Among z (xs ++ ys) → Among z xs ⊎ Among z ys
among_append [] ys z h = inr h
among_append (x ∷ xs) ys z (inl e) = inl (inl e)
among_append (x ∷ xs) ys z (inr h) = elim (among_append xs ys z h) [ inl k ↦ inl (inr k) | inr k ↦ inr k ]

-- each pair is of one of the agents
pair_agent : (agents : List AgentRecord) (p : ℕ × ℕ) → Among p (further_in agents) → (a : AgentRecord) × Among a agents × (p.0 ≡ a.agent)
pair_agent [] p h = absurd h
pair_agent (a ∷ agents) p h = elim (among_append (further_of a) (further_in agents) p h) [
  | inl k ↦ let from = pair_among a.agent (further_groups a.groups) p k in (a, inl refl, ap (λ (r : ℕ × ℕ). r.0) from.2)
  | inr k ↦ let from = pair_agent agents p k in (from.0, inr from.1, from.2)
]

pairs_after : (n : ℕ) (agents : List AgentRecord) → ((a : AgentRecord) → Among a agents → nat_cmp n a.agent ≡ Less) → (q : ℕ × ℕ) → Among q (further_in agents)
    → nat_cmp n q.0 ≡ Less
pairs_after n agents before q h = let from = pair_agent agents q h in ap (nat_cmp n) from.2 ∙ before from.0 from.1

abbrev left_pairs : ℕ → List AgentRecord → List (ℕ × ℕ)
left_pairs n agents = filter (not_of n) (further_in agents)

-- the further groups of an agent that is put are put, in place of its old ones
pub further_put : (a : AgentRecord) (agents : List AgentRecord) → IsAscending nat_cmp (further_groups a.groups) → IsAscending by_agent agents
    → with_further a (further_in agents) ≡ further_in (put_by (by_agent a) agents a)
further_put a [] groups_rise up = all_in_front a.agent (further_groups a.groups) [] groups_rise (λ q h. absurd h)
further_put a (x ∷ agents) groups_rise up = by (by_agent a x) refl (further_put a agents groups_rise up.1)
  where
    after : by_agent a x ≡ Less → (b : AgentRecord) → Among b (x ∷ agents) → nat_cmp a.agent b.agent ≡ Less
    after e b (inl same) = subst (λ (c : AgentRecord). nat_cmp a.agent c.agent ≡ Less) (sym same) e
    after e b (inr h) = nat_cmp_total.trans a.agent x.agent b.agent e (after_among by_agent x agents b up.0 h)

    same : by_agent a x ≡ Equal → (b : AgentRecord) → Among b agents → nat_cmp a.agent b.agent ≡ Less
    same e b h = ap (λ n. nat_cmp n b.agent) (cmp_equal a.agent x.agent e) ∙ after_among by_agent x agents b up.0 h

    by : (o : Ordering) → by_agent a x ≡ o → with_further a (further_in agents) ≡ further_in (put_by (by_agent a) agents a)
        → all_put (further_of a) (left_pairs a.agent (x ∷ agents))
        ≡ further_in (match_ordering o (a ∷ x ∷ agents) (a ∷ agents) (x ∷ put_by (by_agent a) agents a))
    by Less e more =
        ap (all_put (further_of a)) (all_after a.agent (x ∷ agents) (after e))
        ∙ all_in_front a.agent (further_groups a.groups) (further_in (x ∷ agents)) groups_rise (pairs_after a.agent (x ∷ agents) (after e))
    by Equal e more =
        ap (all_put (further_of a))
        (filter-append (not_of a.agent) (further_of x) (further_in agents)
        ∙ ap₂ (λ xs ys. xs ++ ys) (ap (λ n. filter (not_of n) (further_of x)) (cmp_equal a.agent x.agent e) ∙ none_other x.agent (further_groups x.groups))
        (all_after a.agent agents (same e)))
        ∙ all_in_front a.agent (further_groups a.groups) (further_in agents) groups_rise (pairs_after a.agent agents (same e))
    by Greater e more =
        let low : nat_cmp x.agent a.agent ≡ Less = nat_cmp_total.antisymm x.agent a.agent ∙ ap ordering_reverse e in
        ap (all_put (further_of a))
        (filter-append (not_of a.agent) (further_of x) (further_in agents)
        ∙ ap (λ l. l ++ left_pairs a.agent agents) (all_other a.agent x.agent (further_groups x.groups) (apart_back x.agent a.agent low)))
        ∙ all_passed (further_of a) (further_of x) (left_pairs a.agent agents)
        (λ p q h k.
        let mine = pair_among a.agent (further_groups a.groups) p h in
        let theirs = pair_among x.agent (further_groups x.groups) q k in
        ap₂ pair_order mine.2 theirs.2 ∙ pair_above a.agent x.agent mine.0 theirs.0 e)
        ∙ ap (λ l. further_of x ++ l) more

pub agents_put : (a : AgentRecord) (agents : List AgentRecord)
    → put_by (λ (x : AgentRow). nat_cmp a.agent x.agent) (map agent_part agents) (agent_part a) ≡ map agent_part (put_by (by_agent a) agents a)
agents_put a [] = refl
agents_put a (x ∷ agents) = by (by_agent a x) (agents_put a agents)
  where
    by : (o : Ordering)
        → put_by (λ (y : AgentRow). nat_cmp a.agent y.agent) (map agent_part agents) (agent_part a) ≡ map agent_part (put_by (by_agent a) agents a)
        → match_ordering o (agent_part a ∷ agent_part x ∷ map agent_part agents) (agent_part a ∷ map agent_part agents)
        (agent_part x ∷ put_by (λ (y : AgentRow). nat_cmp a.agent y.agent) (map agent_part agents) (agent_part a))
        ≡ map agent_part (match_ordering o (a ∷ x ∷ agents) (a ∷ agents) (x ∷ put_by (by_agent a) agents a))
    by Less more = refl
    by Equal more = refl
    by Greater more = ap (λ l. agent_part x ∷ l) more

-- ---- groups

abbrev by_group : GroupRecord → GroupRecord → Ordering
by_group g h = nat_cmp g.device h.device

pub groups_put : (g : GroupRecord) (groups : List GroupRecord)
    → put_by (λ (x : GroupRow). nat_cmp g.device x.device) (map group_part groups) (group_part g) ≡ map group_part (put_by (by_group g) groups g)
groups_put g [] = refl
groups_put g (x ∷ groups) = by (by_group g x) (groups_put g groups)
  where
    by : (o : Ordering)
        → put_by (λ (y : GroupRow). nat_cmp g.device y.device) (map group_part groups) (group_part g) ≡ map group_part (put_by (by_group g) groups g)
        → match_ordering o (group_part g ∷ group_part x ∷ map group_part groups) (group_part g ∷ map group_part groups)
        (group_part x ∷ put_by (λ (y : GroupRow). nat_cmp g.device y.device) (map group_part groups) (group_part g))
        ≡ map group_part (match_ordering o (g ∷ x ∷ groups) (g ∷ groups) (x ∷ put_by (by_group g) groups g))
    by Less more = refl
    by Equal more = refl
    by Greater more = ap (λ l. group_part x ∷ l) more

-- a group before these has none of their priorities
no_priority : (n : ℕ) (groups : List GroupRecord) → ((g : GroupRecord) → Among g groups → nat_cmp n g.device ≡ Less) → priority_of (priorities_in groups) n ≡ 0
no_priority n [] before = refl
no_priority n (g ∷ groups) before = by (g.priority == 0) (no_priority n groups (λ h k. before h (inr k)))
  where
    by : (b : Bool) → priority_of (priorities_in groups) n ≡ 0 → priority_of (cond b (priorities_in groups) (priority_part g ∷ priorities_in groups)) n ≡ 0
    by true more = more
    by false more = ap (λ c. cond c g.priority (priority_of (priorities_in groups) n)) (apart n g.device (before g (inl refl))) ∙ more

priority_first : (g : GroupRecord) (groups : List GroupRecord) → AllAfter by_group g groups → priority_of (priorities_in (g ∷ groups)) g.device ≡ g.priority
priority_first g groups after = by (g.priority == 0) refl
  where
    by : (b : Bool) → (g.priority == 0) ≡ b → priority_of (cond b (priorities_in groups) (priority_part g ∷ priorities_in groups)) g.device ≡ g.priority
    by true e = no_priority g.device groups (λ h k. after_among by_group g groups h after k) ∙ sym (eqb-true g.priority 0 e)
    by false e = ap (λ c. cond c g.priority (priority_of (priorities_in groups) g.device)) (eqb_self g.device)

priority_other : (g : GroupRecord) (groups : List GroupRecord) (n : ℕ) → (g.device == n) ≡ false
    → priority_of (priorities_in (g ∷ groups)) n ≡ priority_of (priorities_in groups) n
priority_other g groups n e = by (g.priority == 0)
  where
    by : (b : Bool) → priority_of (cond b (priorities_in groups) (priority_part g ∷ priorities_in groups)) n ≡ priority_of (priorities_in groups) n
    by true = refl
    by false = ap (λ c. cond c g.priority (priority_of (priorities_in groups) n)) e

pub priority_each : (groups : List GroupRecord) → IsAscending by_group groups → (g : GroupRecord) → Among g groups
    → priority_of (priorities_in groups) g.device ≡ g.priority
priority_each [] up g h = absurd h
priority_each (x ∷ groups) up g (inl e) =
    subst (λ (c : GroupRecord). priority_of (priorities_in (x ∷ groups)) c.device ≡ c.priority) (sym e) (priority_first x groups up.0)
priority_each (x ∷ groups) up g (inr h) =
    priority_other x groups g.device (apart_back x.device g.device (after_among by_group x groups g up.0 h)) ∙ priority_each groups up.1 g h

abbrev ranked : GroupRecord → ℕ → GroupRecord
ranked g n = record g { priority = n }

each_ranked : (ps : List GroupPriority) (groups : List GroupRecord) → ((g : GroupRecord) → Among g groups → priority_of ps g.device ≡ g.priority)
    → map (joined_group ps) (map group_part groups) ≡ groups
each_ranked ps [] all = refl
each_ranked ps (g ∷ groups) all = ap₂ (λ h hs. h ∷ hs) (ap (ranked g) (all g (inl refl))) (each_ranked ps groups (λ h k. all h (inr k)))

-- groups of their parts are the groups
pub groups_joined : (groups : List GroupRecord) → IsAscending by_group groups → map (joined_group (priorities_in groups)) (map group_part groups) ≡ groups
groups_joined groups up = each_ranked (priorities_in groups) groups (priority_each groups up)

abbrev at_device : ℕ → GroupPriority → Ordering
at_device n p = nat_cmp n p.device

-- of groups after a number, none has a priority there
removed_none : (n : ℕ) (groups : List GroupRecord) → ((g : GroupRecord) → Among g groups → nat_cmp n g.device ≡ Less)
    → remove_by (at_device n) (priorities_in groups) ≡ priorities_in groups
removed_none n [] before = refl
removed_none n (g ∷ groups) before = by (g.priority == 0) (removed_none n groups (λ h k. before h (inr k)))
  where
    by : (b : Bool) → remove_by (at_device n) (priorities_in groups) ≡ priorities_in groups
        → remove_by (at_device n) (cond b (priorities_in groups) (priority_part g ∷ priorities_in groups))
        ≡ cond b (priorities_in groups) (priority_part g ∷ priorities_in groups)
    by true more = more
    by false more =
        ap (λ o. cond (is_eq o) (priorities_in groups) (priority_part g ∷ remove_by (at_device n) (priorities_in groups))) (before g (inl refl))
        ∙ ap (λ l. priority_part g ∷ l) more

put_in_front : (p : GroupPriority) (groups : List GroupRecord) → ((g : GroupRecord) → Among g groups → nat_cmp p.device g.device ≡ Less)
    → put_by (at_device p.device) (priorities_in groups) p ≡ p ∷ priorities_in groups
put_in_front p [] before = refl
put_in_front p (g ∷ groups) before = by (g.priority == 0) (put_in_front p groups (λ h k. before h (inr k)))
  where
    by : (b : Bool) → put_by (at_device p.device) (priorities_in groups) p ≡ p ∷ priorities_in groups
        → put_by (at_device p.device) (cond b (priorities_in groups) (priority_part g ∷ priorities_in groups)) p
        ≡ p ∷ cond b (priorities_in groups) (priority_part g ∷ priorities_in groups)
    by true more = more
    by false more =
        ap
        (λ o. match_ordering o (p ∷ priority_part g ∷ priorities_in groups) (p ∷ priorities_in groups)
        (priority_part g ∷ put_by (at_device p.device) (priorities_in groups) p))
        (before g (inl refl))

abbrev put_or_gone : GroupRecord → Bool → List GroupPriority → List GroupPriority
put_or_gone g b ps = cond b (remove_by (at_device g.device) ps) (put_by (at_device g.device) ps (priority_part g))

abbrev first_or_none : GroupRecord → Bool → List GroupPriority → List GroupPriority
first_or_none g b ps = cond b ps (priority_part g ∷ ps)

-- where it comes before all of them
put_first : (g : GroupRecord) (groups : List GroupRecord) (b : Bool) → ((h : GroupRecord) → Among h groups → nat_cmp g.device h.device ≡ Less)
    → put_or_gone g b (priorities_in groups) ≡ first_or_none g b (priorities_in groups)
put_first g groups true before = removed_none g.device groups before
put_first g groups false before = put_in_front (priority_part g) groups before

-- in place of the first of them
put_over : (g x : GroupRecord) (groups : List GroupRecord) (b c : Bool) → nat_cmp g.device x.device ≡ Equal
    → ((h : GroupRecord) → Among h groups → nat_cmp g.device h.device ≡ Less)
    → put_or_gone g b (first_or_none x c (priorities_in groups)) ≡ first_or_none g b (priorities_in groups)
put_over g x groups b true same before = put_first g groups b before
put_over g x groups true false same before =
    ap (λ o. cond (is_eq o) (priorities_in groups) (priority_part x ∷ remove_by (at_device g.device) (priorities_in groups))) same
put_over g x groups false false same before =
    ap
    (λ o. match_ordering o (priority_part g ∷ priority_part x ∷ priorities_in groups) (priority_part g ∷ priorities_in groups)
    (priority_part x ∷ put_by (at_device g.device) (priorities_in groups) (priority_part g)))
    same

-- after the first of them
put_after : (g x : GroupRecord) (ps : List GroupPriority) (b c : Bool) → nat_cmp g.device x.device ≡ Greater
    → put_or_gone g b (first_or_none x c ps) ≡ first_or_none x c (put_or_gone g b ps)
put_after g x ps b true above = refl
put_after g x ps true false above = ap (λ o. cond (is_eq o) ps (priority_part x ∷ remove_by (at_device g.device) ps)) above
put_after g x ps false false above =
    ap
    (λ o. match_ordering o (priority_part g ∷ priority_part x ∷ ps) (priority_part g ∷ ps)
    (priority_part x ∷ put_by (at_device g.device) ps (priority_part g)))
    above

-- the priority of a group that is put is put, in place of its old one
pub priority_put : (g : GroupRecord) (groups : List GroupRecord) → IsAscending by_group groups
    → with_priority_of g (priorities_in groups) ≡ priorities_in (put_by (by_group g) groups g)
priority_put g [] up = put_first g [] (g.priority == 0) (λ h k. absurd k)
priority_put g (x ∷ groups) up = by (by_group g x) refl (priority_put g groups up.1)
  where
    after : by_group g x ≡ Less → (h : GroupRecord) → Among h (x ∷ groups) → nat_cmp g.device h.device ≡ Less
    after e h (inl same) = subst (λ (c : GroupRecord). nat_cmp g.device c.device ≡ Less) (sym same) e
    after e h (inr k) = nat_cmp_total.trans g.device x.device h.device e (after_among by_group x groups h up.0 k)

    same : by_group g x ≡ Equal → (h : GroupRecord) → Among h groups → nat_cmp g.device h.device ≡ Less
    same e h k = ap (λ n. nat_cmp n h.device) (cmp_equal g.device x.device e) ∙ after_among by_group x groups h up.0 k

    by : (o : Ordering) → by_group g x ≡ o → with_priority_of g (priorities_in groups) ≡ priorities_in (put_by (by_group g) groups g)
        → put_or_gone g (g.priority == 0) (priorities_in (x ∷ groups))
        ≡ priorities_in (match_ordering o (g ∷ x ∷ groups) (g ∷ groups) (x ∷ put_by (by_group g) groups g))
    by Less e more = put_first g (x ∷ groups) (g.priority == 0) (after e)
    by Equal e more = put_over g x groups (g.priority == 0) (x.priority == 0) e (same e)
    by Greater e more = put_after g x (priorities_in groups) (g.priority == 0) (x.priority == 0) e ∙ ap (first_or_none x (x.priority == 0)) more
