-- The lists of a queue, by the sets that the tables lend.
use Rattle.std.proofs.Common.{◌≡◌, ◌↔◌, ℕ, ◌≤◌, inl, inr, Bool, true, cond, List, [], ◌∷◌, ◌++◌, Option, Some, None, refl, ap, sym, ◌∙◌, subst, map, arith, length}
use Rattle.std.specs.Prelude.{◌==◌, ◌&&◌, filter, slice_get, is_some}
use Rattle.std.specs.List.{AllByRecursion, filter_map, cons_option}
use Rattle.std.specs.List.Sorted.{IsStrictlySortedBy}
use Rattle.std.specs.declared.cmp.Ordering.{Ordering}
use Rattle.std.specs.declared.cmp.Ordering.TheVariants.{Less, Equal}
use Rattle.std.specs.Ordering.{is_eq}
use Rattle.std.specs.Cmp.{IsTotalOrder}
use Rattle.std.specs.BTreeSet.{BTreeSet, contains}
use Rattle.std.proofs.lemmas.Bool.{and_parts, eqb-true}
use Rattle.std.proofs.lemmas.Cmp.{nat_cmp_total, on_total, then_total}
use Rattle.acd_terms.specs.Lists.{Among, AllAfter, IsAscending}
use Rattle.acd_terms.specs.States.{is_queued}
use Rattle.acd_terms.specs.declared.rows.Rows.{Rows}
use Rattle.acd_terms.specs.declared.record.AgentRecord.{AgentRecord}
use Rattle.acd_terms.specs.declared.record.ConnectionRecord.{ConnectionRecord}
use Rattle.acd_model.specs.Rules.Plan.{agent_order, connection_order}
use Rattle.acd_model.specs.Rules.First.{BreaksNoRule}
use Rattle.acd_model.specs.Scans.{is_group, call_of, connection_of, connections_of, waiting_in, eligible_in, is_eligible}
use Rattle.acd_model.specs.Choice.{waiting_pair, ready_pair}
use Rattle.acd_model.specs.Rules.Calls.{parties_of}
use Rattle.acd_lemmas.proofs.Lists.{is_eq_of, count_length, after_among, filter_among, any_some, ascending-put, ascending-filter, among-put, among-put_other, mapped_among, among_put, among-map}
use Rattle.acd_lemmas.proofs.KeyedLists.{cmp_self}
use Rattle.acd_lemmas.proofs.State.{order_same, connection_found}
use Rattle.acd_laws.proofs.Rules.AllRuleTests.{rules_are_kept}
use Rattle.acd_laws.proofs.Rules.RulesOfEnds.{two_le}
use Rattle.acd_tables.specs.IndexedRows.{pair_cmp}
use Rattle.acd_tables.proofs.ScansByIndex.{ascending-same, contained, exact_pair}
use Rattle.acd_codec.specs.ReadTexts.{queue_text}
use Rattle.acd_desk.specs.Reads.ReadAnswers.{in_order, by_place, by_ready_pair, queue_in, ready_in, queue_read}

pub pair_total : IsTotalOrder pair_cmp
pair_total = then_total (on_total (λ (p : ℕ × ℕ). p.0) nat_cmp_total) (on_total (λ (p : ℕ × ℕ). p.1) nat_cmp_total)

pair_self : (p : ℕ × ℕ) → is_eq (pair_cmp p p) ≡ true
pair_self p = is_eq_of (pair_cmp p p) (rw (cmp_self p.0 p.0 refl, cmp_self p.1 p.1 refl) refl)

module _ {T : Type 0} (key : T → ℕ × ℕ) where
  abbrev pub by_key : T → T → Ordering
  by_key x y = pair_cmp (key x) (key y)

  -- no two have the same key
  abbrev pub Apart : List T → Type 0
  Apart [] = Unit {0}
  Apart (x ∷ xs) = ((y : T) → Among y xs → key x ≡ key y → ⊥) × Apart xs

  ascending-ordered : (xs : List T) → IsAscending by_key (in_order by_key xs)
  ascending-ordered [] = tt
  ascending-ordered (x ∷ xs) = ascending-put by_key (on_total key pair_total) x (in_order by_key xs) (ascending-ordered xs)

  pub ordered_among : (xs : List T) (z : T) → Among z (in_order by_key xs) → Among z xs
  ordered_among [] z a = a
  ordered_among (x ∷ xs) z a = elim (among_put (by_key x) x (in_order by_key xs) z a) [ inl e ↦ inl e | inr b ↦ inr (ordered_among xs z b) ]

  among-ordered : (xs : List T) (z : T) → Apart xs → Among z xs → Among z (in_order by_key xs)
  among-ordered [] z h a = a
  among-ordered (x ∷ xs) z h (inl e) = subst (λ v. Among v (in_order by_key (x ∷ xs))) (sym e) (among-put (by_key x) x (in_order by_key xs))
  among-ordered (x ∷ xs) z h (inr a) = among-put_other (by_key x) x (in_order by_key xs) z (among-ordered xs z h.1 a) (λ same. h.0 z a (exact_pair (key x) (key z) (is_eq_of (pair_cmp (key x) (key z)) same)))

  after_mapped : (x : T) (xs : List T) → AllAfter by_key x xs → AllAfter pair_cmp (key x) (map key xs)
  after_mapped x [] h = tt
  after_mapped x (y ∷ ys) h = (h.0, after_mapped x ys h.1)

  ascending_mapped : (xs : List T) → IsAscending by_key xs → IsAscending pair_cmp (map key xs)
  ascending_mapped [] h = tt
  ascending_mapped (x ∷ xs) h = (after_mapped x xs h.0, ascending_mapped xs h.1)

  -- ascending pairs, the keys of a list, are those of the list in order
  pub keys-ordered : (ks : List (ℕ × ℕ)) (xs : List T) → IsAscending pair_cmp ks → Apart xs → ((p : ℕ × ℕ) → Among p ks → Among p (map key xs)) → ((p : ℕ × ℕ) → Among p (map key xs) → Among p ks)
      → ks ≡ map key (in_order by_key xs)
  keys-ordered ks xs sorted apart there back = ascending-same pair_cmp pair_total ks (map key (in_order by_key xs)) sorted (ascending_mapped (in_order by_key xs) (ascending-ordered xs))
      (λ p a. let m = mapped_among key xs p (there p a) in subst (λ q. Among q (map key (in_order by_key xs))) (sym m.1.1) (among-map key m.0 (in_order by_key xs) (among-ordered xs m.0 apart m.1.0)))
      (λ p a. let m = mapped_among key (in_order by_key xs) p a in subst (λ q. Among q ks) (sym m.1.1) (back (key m.0) (among-map key m.0 xs (ordered_among xs m.0 m.1.0))))

  -- a look-up that finds each at its key gives the list
  pub each-found : (f : ℕ × ℕ → Option T) (xs : List T) → ((x : T) → Among x xs → f (key x) ≡ Some x) → filter_map f (map key xs) ≡ xs
  each-found f [] h = refl
  each-found f (x ∷ xs) h = ap (λ o. cons_option o (filter_map f (map key xs))) (h x (inl refl)) ∙ ap (λ l. x ∷ l) (each-found f xs (λ z a. h z (inr a)))

sorted-after : (p : ℕ × ℕ) (ks : List (ℕ × ℕ)) → AllByRecursion (λ y. pair_cmp p y ≡ Less) ks → AllAfter pair_cmp p ks
sorted-after p [] h = tt
sorted-after p (q ∷ ks) h = (h.0, sorted-after p ks h.1)

sorted_ascends : (ks : List (ℕ × ℕ)) → IsStrictlySortedBy pair_cmp ks → IsAscending pair_cmp ks
unfolding IsStrictlySortedBy
sorted_ascends [] h = tt
sorted_ascends (p ∷ ks) h = (sorted-after p ks h.0, sorted_ascends ks h.1)

contains_key : (set : BTreeSet (ℕ × ℕ)) (p : ℕ × ℕ) → Among p set.keys → contains pair_cmp set p ≡ true
contains_key set p a = any_some (λ k. is_eq (pair_cmp p k)) set.keys p a (pair_self p)

-- a set that lends the keys of a list
module _ {T : Type 0} (key : T → ℕ × ℕ) (set : BTreeSet (ℕ × ℕ)) (xs : List T) where
  pub lent_keys : IsStrictlySortedBy pair_cmp set.keys → Apart key xs → ((p : ℕ × ℕ) → (contains pair_cmp set p ≡ true) ↔ Among p (map key xs)) → set.keys ≡ map key (in_order (by_key key) xs)
  lent_keys sorted apart members = keys-ordered key set.keys xs (sorted_ascends set.keys sorted) apart
      (λ p a. (members p).0 (contains_key set p a)) (λ p a. contained pair_cmp exact_pair set p ((members p).1 a))

waiting-apart : (g : ℕ) (xs : List ConnectionRecord) → IsAscending connection_order xs → ((z : ConnectionRecord) → Among z xs → z.device ≡ g) → Apart waiting_pair xs
waiting-apart g [] h there = tt
waiting-apart g (x ∷ xs) h there = (
  (λ y a same. let less = after_among connection_order x xs y h.0 a in
      let equal = order_same x y (ap (λ (p : ℕ × ℕ). p.1) same) (there x (inl refl) ∙ sym (there y (inr a))) in
      absurd (cc (less, equal))),
  waiting-apart g xs h.1 (λ z a. there z (inr a)),
)

ready-apart : (xs : List AgentRecord) → IsAscending agent_order xs → Apart ready_pair xs
ready-apart [] h = tt
ready-apart (x ∷ xs) h = (
  (λ y a same. let less = after_among agent_order x xs y h.0 a in
      let equal : agent_order x y ≡ Equal = cmp_self x.agent y.agent (ap (λ (p : ℕ × ℕ). p.1) same) in
      absurd (cc (less, equal))),
  ready-apart xs h.1,
)

-- who waits in a group, and that no two of them have one place and call
module _ (s : Rows) (rules : BreaksNoRule s) (g : ℕ) where
  abbrev waits : ConnectionRecord → Bool
  waits c = c.device == g && is_queued c.state

  waiting_there : (z : ConnectionRecord) → Among z (filter waits s.connections) → z.device ≡ g
  waiting_there z a = eqb-true z.device g (and_parts (z.device == g) (is_queued z.state) (filter_among waits s.connections z a).1).0

  pub waiting_apart : Apart waiting_pair (waiting_in s g)
  unfolding waiting_in
  waiting_apart = waiting-apart g (filter waits s.connections) (ascending-filter connection_order waits s.connections (rules_are_kept s rules).orders.connections) waiting_there

module _ (s : Rows) (rules : BreaksNoRule s) (g : ℕ) (set : BTreeSet (ℕ × ℕ)) (sorted : IsStrictlySortedBy pair_cmp set.keys) where
  pub waiting_keys : ((p : ℕ × ℕ) → (contains pair_cmp set p ≡ true) ↔ Among p (map waiting_pair (waiting_in s g))) → set.keys ≡ map waiting_pair (queue_in s g)
  unfolding queue_in
  waiting_keys members = lent_keys waiting_pair set (waiting_in s g) sorted (waiting_apart s rules g) members

  pub waiting_lent : ((p : ℕ × ℕ) → (contains pair_cmp set p ≡ true) ↔ Among p (map waiting_pair (waiting_in s g))) → filter_map (λ p. connection_of s p.1 g) set.keys ≡ queue_in s g
  unfolding queue_in waiting_in
  waiting_lent members =
      let order = (rules_are_kept s rules).orders.connections in
      ap (filter_map (λ p. connection_of s p.1 g)) (waiting_keys members)
      ∙ each-found waiting_pair (λ p. connection_of s p.1 g) (in_order by_place (filter (waits s rules g) s.connections)) (λ x a.
      let mine = ordered_among waiting_pair (filter (waits s rules g) s.connections) x a in
      subst (λ d. connection_of s x.call d ≡ Some x) (waiting_there s rules g x mine) (connection_found s order x (filter_among (waits s rules g) s.connections x mine).0))

  pub ready_lent : ((p : ℕ × ℕ) → (contains pair_cmp set p ≡ true) ↔ Among p (map ready_pair (eligible_in s g))) → map (λ (p : ℕ × ℕ). p.1) set.keys ≡ ready_in s g
  unfolding ready_in eligible_in
  ready_lent members =
      let order = (rules_are_kept s rules).orders.agents in
      let apart = ready-apart (filter (is_eligible s g) s.agents) (ascending-filter agent_order (is_eligible s g) s.agents order) in
      ap (map (λ (p : ℕ × ℕ). p.1)) (lent_keys ready_pair set (filter (is_eligible s g) s.agents) sorted apart members)
      ∙ seconds (in_order by_ready_pair (filter (is_eligible s g) s.agents))
    where
      seconds : (xs : List AgentRecord) → map (λ (p : ℕ × ℕ). p.1) (map ready_pair xs) ≡ map (λ (a : AgentRecord). a.agent) xs
      seconds [] = refl
      seconds (x ∷ xs) = ap (λ l. x.agent ∷ l) (seconds xs)

-- a call has two connections at most
pub two_parties : (s : Rows) → BreaksNoRule s → (call : ℕ) → length (connections_of s call) ≤ 2
unfolding connections_of
two_parties s rules call =
    let parties = (rules_are_kept s rules).parties call in
    let size = count_length (parties_of call) s.connections in
    let most = two_le (is_some (call_of s call)) in
    omega (arith, parties, size, most)

-- its first and its second, if there are such, are all
pub both_parties : {T : Type 0} (xs : List T) (first second : Option T) → length xs ≤ 2 → first ≡ slice_get xs 0 → second ≡ slice_get xs 1 → cons_option first [] ++ cons_option second [] ≡ xs
both_parties [] first second h e f = rw (e, f) refl
both_parties (x ∷ []) first second h e f = rw (e, f) refl
both_parties (x ∷ y ∷ []) first second h e f = rw (e, f) refl
both_parties (x ∷ y ∷ z ∷ xs) first second h e f = absurd (omega (arith, h))

-- the text of a planned group's queue
pub read_queue : (s : Rows) (g : ℕ) (waiting : List ConnectionRecord) (ready text : List ℕ) → true ≡ is_group s g → text ≡ queue_text g waiting ready → waiting ≡ queue_in s g → ready ≡ ready_in s g → Some text ≡ queue_read s g
read_queue s g waiting ready text planned is queue agents =
    ap Some (is ∙ ap (λ l. queue_text g l ready) queue ∙ ap (queue_text g (queue_in s g)) agents)
    ∙ ap (λ b. cond b (Some (queue_text g (queue_in s g) (ready_in s g))) None) planned
