-- A change of the exact sets: what it adds, and what it removes.
use Rattle.std.proofs.Common.{◌≡◌, ℕ, inl, inr, Bool, true, false, cond, ◌&&◌, ◌||◌, not, List, [], ◌∷◌, Option, Some, None, is_some, refl, ap, sym, ◌∙◌, subst}
use Rattle.std.specs.Prelude.{◌==◌, unwrap_or, filter}
use Rattle.std.specs.List.{list_any}
use Rattle.std.specs.Cmp.{both_ways, IsTotalOrder}
use Rattle.std.specs.declared.cmp.Ordering.{Ordering}
use Rattle.std.specs.Ordering.{is_eq, nat_cmp, ordering_then, ordering_reverse}
use Rattle.std.proofs.lemmas.Bool.{and_parts, and_from, and_left, and_right, or_cases, or_left, or_right, eqb-true, eq-eqb, false_from_ne_true, not-true}
use Rattle.acd_terms.specs.Lists.{IsAscending}
use Rattle.acd_terms.specs.Groups.{is_one_of}
use Rattle.acd_terms.specs.States.{is_queued, is_ready}
use Rattle.acd_terms.specs.declared.rows.Rows.{Rows}
use Rattle.acd_terms.specs.declared.record.AgentRecord.{AgentRecord}
use Rattle.acd_terms.specs.declared.record.ConnectionRecord.{ConnectionRecord}
use Rattle.acd_model.specs.Rules.Plan.{agent_order, connection_order}
use Rattle.acd_model.specs.Scans.{agent_of, agent_at, connection_of}
use Rattle.acd_model.specs.Writes.{with_agent, with_connection, without_connection}
use Rattle.acd_lemmas.proofs.Lists.{eq_is, is_eq_of, some_is, ascending-put, ascending-remove}
use Rattle.acd_lemmas.proofs.KeyedLists.{eq_key}
use Rattle.acd_lemmas.proofs.State.{connections_total, at_put, at_remove, agent_put, agent_key, found_key, agent_seat, agent_there}
use Rattle.acd_tables.specs.IndexedRows.{pair_cmp, waits_at, is_busying, is_busy_at, is_free, is_able_since, Seats, SeatMap}
use Rattle.acd_tables.specs.Uses.{is_there_and, is_in_use}
use Rattle.acd_tables.specs.declared.uses.Use.TheVariants.{Busying}
use Rattle.acd_tables.specs.Swaps.{SwapsTo, differ, is_swap_entry, IsAt, queue_entry, ready_entry, swapped_seat, with_or_without, LeavesBut, left_of}
use Rattle.acd_tables.specs.declared.indexes.Swap.{Swap}
use Rattle.acd_tables.proofs.ScanLookUps.{there-any, any-there, used_some, seated}
use Rattle.acd_lemmas.proofs.Numbers.{eq_then}
use Rattle.acd_lemmas.proofs.Bools.{or_no}

pub pair_key : (call device : ℕ) (p : ℕ × ℕ) → is_eq (pair_cmp (call, device) p) ≡ (call == p.0 && device == p.1)
pair_key call device p = rw (eq_then (nat_cmp call p.0) (nat_cmp device p.1), eq_key call p.0, eq_key device p.1) refl

-- an entry's test, on numbers
entry_test : (a b c : ℕ) (gs : List ℕ) (p : ℕ × ℕ) → is_swap_entry pair_cmp (Some (gs, (a, b))) c p ≡ (is_one_of gs c && ((a == p.0) && (b == p.1)))
entry_test a b c gs p = rw (eq_then (nat_cmp a p.0) (nat_cmp b p.1), eq_key a p.0, eq_key b p.1) refl

turned : (a b c : Bool) → (a && (b && c)) ≡ (b && (c && a))
turned true true true = refl
turned true true false = refl
turned true false c = refl
turned false true true = refl
turned false true false = refl
turned false false c = refl

pub found_at_key : (s : Rows) (call device : ℕ) (o : Option ConnectionRecord) → connection_of s call device ≡ o → IsAt call device o
found_at_key s call device None e = tt
found_at_key s call device (Some c) e = found_key s call device c e

-- one connection is replaced, or added, or removed
pub record Replaces (s t : Rows) (call device : ℕ) (new : Option ConnectionRecord) : Type 0 where
  pub found : (k d : ℕ) → connection_of t k d ≡ cond (call == k && device == d) new (connection_of s k d)
  pub agents : (n : ℕ) → agent_of t n ≡ agent_of s n
  pub ascending : IsAscending connection_order t.connections

pub Replaces-put : (s : Rows) (c : ConnectionRecord) → IsAscending connection_order s.connections → Replaces s (with_connection s c) c.call c.device (Some c)
unfolding with_connection agent_of
Replaces-put s c h = record {
  found = λ k d. at_put s c k d;
  agents = λ n. refl;
  ascending = ascending-put connection_order connections_total c s.connections h;
}

pub Replaces-removed : (s : Rows) (call device : ℕ) → IsAscending connection_order s.connections
    → Replaces s (without_connection s call device) call device None
unfolding without_connection agent_of
Replaces-removed s call device h = record {
  found = λ k d. at_remove s call device k d h;
  agents = λ n. refl;
  ascending = ascending-remove connection_order (λ x. ordering_then (nat_cmp call x.call) (nat_cmp device x.device)) s.connections h;
}

pub Replaces-either : (s : Rows) (call device : ℕ) (new : Option ConnectionRecord) → IsAscending connection_order s.connections → IsAt call device new
    → Replaces s (with_or_without s call device new) call device new
Replaces-either s call device None h at = Replaces-removed s call device h
Replaces-either s call device (Some c) h at =
    subst (λ k. Replaces s (with_connection s c) k device (Some c)) at.0
    (subst (λ d. Replaces s (with_connection s c) c.call d (Some c)) at.1 (Replaces-put s c h))

module _ (s t : Rows) (call device : ℕ) (new : Option ConnectionRecord) (ascending : IsAscending connection_order s.connections) (at : IsAt call device new)
    (r : Replaces s t call device new) where
  found_here : connection_of t call device ≡ new
  found_here =
      r.found call device
      ∙ ap (λ b. cond b new (connection_of s call device)) (and_from (call == call) (device == device) (eq-eqb call call refl) (eq-eqb device device refl))

  found_besides : (k d : ℕ) → (call == k) ≡ false → connection_of t k d ≡ connection_of s k d
  found_besides k d e = r.found k d ∙ ap (λ b. cond b new (connection_of s k d)) (and_left (call == k) (device == d) e)

  found_apart : (k d : ℕ) → (device == d) ≡ false → connection_of t k d ≡ connection_of s k d
  found_apart k d e = r.found k d ∙ ap (λ b. cond b new (connection_of s k d)) (and_right (call == k) (device == d) e)

  -- the station is busy by the new connection or by another one
  pub busy-here : (is_there_and is_busying new || is_in_use s device (Some call) Busying) ≡ is_busy_at t device
  unfolding is_busy_at
  busy-here = both_ways _ _ forth back
    where
      forth : (is_there_and is_busying new || is_in_use s device (Some call) Busying) ≡ true
          → list_any (λ (c : ConnectionRecord). c.device == device && is_busying c) t.connections ≡ true
      forth e = elim (or_cases (is_there_and is_busying new) (is_in_use s device (Some call) Busying) e) [
        | inl h ↦ (let c = used_some is_busying new h in there-any t is_busying call device c.0 (found_here ∙ c.1) c.2)
        | inr h ↦ (let c = any-there s (λ z. not (call == z.call) && is_busying z) device ascending h in
            let parts = and_parts (not (call == c.0.call)) (is_busying c.0) c.2 in
            there-any t is_busying c.0.call device c.0 (found_besides c.0.call device (not-true (call == c.0.call) parts.0) ∙ c.1) parts.1)
      ]

      back : list_any (λ (c : ConnectionRecord). c.device == device && is_busying c) t.connections ≡ true
          → (is_there_and is_busying new || is_in_use s device (Some call) Busying) ≡ true
      back e = let c = any-there t is_busying device r.ascending e in by c.0 c.1 c.2 (call == c.0.call) refl
        where
          by : (c : ConnectionRecord) → connection_of t c.call device ≡ Some c → is_busying c ≡ true → (b : Bool) → (call == c.call) ≡ b
              → (is_there_and is_busying new || is_in_use s device (Some call) Busying) ≡ true
          by c e u true h =
              let same : new ≡ Some c = sym found_here ∙ ap (λ k. connection_of t k device) (eqb-true call c.call h) ∙ e in
              or_left (is_there_and is_busying new) (is_in_use s device (Some call) Busying) (ap (is_there_and is_busying) same ∙ u)
          by c e u false h =
              or_right (is_there_and is_busying new) (is_in_use s device (Some call) Busying)
              (there-any s (λ z. not (call == z.call) && is_busying z) c.call device c (sym (found_besides c.call device h) ∙ e)
              (and_from (not (call == c.call)) (is_busying c) (ap not h) u))

  -- no other station changes
  pub busy-there : (d : ℕ) → (device == d) ≡ false → is_busy_at t d ≡ is_busy_at s d
  unfolding is_busy_at
  busy-there d h = both_ways _ _
      (λ e. let c = any-there t is_busying d r.ascending e in there-any s is_busying c.0.call d c.0 (sym (found_apart c.0.call d h) ∙ c.1) c.2)
      (λ e. let c = any-there s is_busying d ascending e in there-any t is_busying c.0.call d c.0 (found_apart c.0.call d h ∙ c.1) c.2)

pub Replaces-self : (s : Rows) (call device : ℕ) → IsAscending connection_order s.connections → Replaces s s call device (connection_of s call device)
Replaces-self s call device h = record { found = λ k d. by k d (call == k && device == d) refl; agents = λ n. refl; ascending = h }
  where
    by : (k d : ℕ) (b : Bool) → (call == k && device == d) ≡ b → connection_of s k d ≡ cond b (connection_of s call device) (connection_of s k d)
    by k d true e =
        let parts = and_parts (call == k) (device == d) e in
        sym (ap (λ c. connection_of s c device) (eqb-true call k parts.0) ∙ ap (connection_of s k) (eqb-true device d parts.1))
    by k d false e = refl

alike : (a b : Bool) → differ a b ≡ false → a ≡ b
alike true true e = refl
alike true false e = absurd (cc (e))
alike false true e = absurd (cc (e))
alike false false e = refl

-- a connection that keeps the station as busy as it was changes nobody's readiness
module _ (s t : Rows) (call device : ℕ) (new : Option ConnectionRecord) (ascending : IsAscending connection_order s.connections) (at : IsAt call device new)
    (r : Replaces s t call device new)
    (same : differ (is_there_and is_busying (connection_of s call device)) (is_there_and is_busying new) ≡ false) where
  busy-still : is_busy_at t device ≡ is_busy_at s device
  busy-still =
      sym (busy-here s t call device new ascending at r)
      ∙ ap (λ b. b || is_in_use s device (Some call) Busying)
      (sym (alike (is_there_and is_busying (connection_of s call device)) (is_there_and is_busying new) same))
      ∙ busy-here s s call device (connection_of s call device) ascending (found_at_key s call device (connection_of s call device) refl)
      (Replaces-self s call device ascending)

  free-still : (o : Option ℕ) → is_free t o ≡ is_free s o
  free-still None = refl
  free-still (Some d) = ap not (by (device == d) refl)
    where
      by : (b : Bool) → (device == d) ≡ b → is_busy_at t d ≡ is_busy_at s d
      by true e = ap (is_busy_at t) (sym (eqb-true device d e)) ∙ busy-still ∙ ap (is_busy_at s) (eqb-true device d e)
      by false e = busy-there s t call device new ascending at r d e

  able-still : (g : ℕ) (p : ℕ × ℕ) → is_able_since t g p.0 (agent_of t p.1) ≡ is_able_since s g p.0 (agent_of s p.1)
  able-still g p = ap (is_able_since t g p.0) (r.agents p.1) ∙ by (agent_of s p.1)
    where
      by : (o : Option AgentRecord) → is_able_since t g p.0 o ≡ is_able_since s g p.0 o
      by None = refl
      by (Some a) = ap (λ b. (a.stamp == p.0) && (is_one_of a.groups g && (is_ready a.state && b))) (free-still a.station)

entry_waits : (call device : ℕ) (o : Option ConnectionRecord) → IsAt call device o → (g : ℕ) (p : ℕ × ℕ)
    → is_swap_entry pair_cmp (queue_entry o) g p ≡ (waits_at p.0 o && (call == p.1 && device == g))
entry_waits call device None at g p = refl
entry_waits call device (Some c) at g p = by (is_queued c.state)
  where
    by : (b : Bool)
        → is_swap_entry pair_cmp (cond b (Some (c.device ∷ [], (unwrap_or c.place 0, c.call))) None) g p
        ≡ ((b && unwrap_or c.place 0 == p.0) && (call == p.1 && device == g))
    by false = refl
    by true =
        entry_test (unwrap_or c.place 0) c.call g (c.device ∷ []) p
        ∙ ap (λ b. b && ((unwrap_or c.place 0 == p.0) && (c.call == p.1))) (or_no (c.device == g))
        ∙ turned (c.device == g) (unwrap_or c.place 0 == p.0) (c.call == p.1)
        ∙ ap (λ k. (unwrap_or c.place 0 == p.0) && ((k == p.1) && (c.device == g))) at.0
        ∙ ap (λ d. (unwrap_or c.place 0 == p.0) && ((call == p.1) && (d == g))) at.1

-- v was there and w is
swapped : (v w : Bool) → w ≡ (not ((v && true) && not (w && true)) && ((w && true) || v))
swapped true true = refl
swapped true false = refl
swapped false true = refl
swapped false false = refl

unswapped : (v w x : Bool) → x ≡ (not ((v && false) && not (w && false)) && ((w && false) || x))
unswapped true true x = refl
unswapped true false x = refl
unswapped false true x = refl
unswapped false false x = refl

pub waiting-swapped : (s t : Rows) (call device : ℕ) (new : Option ConnectionRecord) → IsAt call device new → Replaces s t call device new
    → (leaving : Option (List ℕ × (ℕ × ℕ))) → LeavesBut pair_cmp (queue_entry (connection_of s call device)) (queue_entry new) leaving
    → (g : ℕ) (p : ℕ × ℕ)
    → waits_at p.0 (connection_of t p.1 g)
    ≡ (not (is_swap_entry pair_cmp leaving g p) && (is_swap_entry pair_cmp (queue_entry new) g p || waits_at p.0 (connection_of s p.1 g)))
waiting-swapped s t call device new at r leaving out g p =
    ap (waits_at p.0) (r.found p.1 g)
    ∙ by (call == p.1 && device == g) refl
    ∙ ap (λ b. not b && (is_swap_entry pair_cmp (queue_entry new) g p || waits_at p.0 (connection_of s p.1 g))) (sym (out g p))
  where
    old : is_swap_entry pair_cmp (queue_entry (connection_of s call device)) g p ≡ (waits_at p.0 (connection_of s call device) && (call == p.1 && device == g))
    old = entry_waits call device (connection_of s call device) (found_at_key s call device (connection_of s call device) refl) g p

    table : (k : Bool) → (call == p.1 && device == g) ≡ k → (v : Bool) → waits_at p.0 (connection_of s call device) ≡ v → (w : Bool) → waits_at p.0 new ≡ w
        → (x y : Bool) → x ≡ (not ((v && k) && not (w && k)) && ((w && k) || y))
        → x
        ≡ (not (is_swap_entry pair_cmp (queue_entry (connection_of s call device)) g p && not (is_swap_entry pair_cmp (queue_entry new) g p))
        && (is_swap_entry pair_cmp (queue_entry new) g p || y))
    table k hk v hv w hw x y h = rw (old, entry_waits call device new at g p, hk, hv, hw) h

    by : (k : Bool) → (call == p.1 && device == g) ≡ k
        → waits_at p.0 (cond k new (connection_of s p.1 g))
        ≡ (not (is_swap_entry pair_cmp (queue_entry (connection_of s call device)) g p && not (is_swap_entry pair_cmp (queue_entry new) g p))
        && (is_swap_entry pair_cmp (queue_entry new) g p || waits_at p.0 (connection_of s p.1 g)))
    by true h =
        let parts = and_parts (call == p.1) (device == g) h in
        let same : connection_of s call device ≡ connection_of s p.1 g =
        ap (λ k. connection_of s k device) (eqb-true call p.1 parts.0) ∙ ap (connection_of s p.1) (eqb-true device g parts.1) in
        table true h (waits_at p.0 (connection_of s p.1 g)) (ap (waits_at p.0) same) (waits_at p.0 new) refl (waits_at p.0 new)
        (waits_at p.0 (connection_of s p.1 g)) (swapped (waits_at p.0 (connection_of s p.1 g)) (waits_at p.0 new))
    by false h =
        table false h (waits_at p.0 (connection_of s call device)) refl (waits_at p.0 new) refl (waits_at p.0 (connection_of s p.1 g))
        (waits_at p.0 (connection_of s p.1 g))
        (unswapped (waits_at p.0 (connection_of s call device)) (waits_at p.0 new) (waits_at p.0 (connection_of s p.1 g)))

-- an agent's entry, by its parts
pub entry_able : (a : AgentRecord) (g : ℕ) (p : ℕ × ℕ)
    → is_swap_entry pair_cmp (ready_entry (Some a)) g p ≡ ((a.agent == p.1) && ((a.stamp == p.0) && (is_one_of a.groups g && is_ready a.state)))
entry_able a g p = by (is_ready a.state)
  where
    none : (x y z : Bool) → false ≡ (x && (y && (z && false)))
    none true true true = refl
    none true true false = refl
    none true false z = refl
    none false y z = refl

    all : (x y z : Bool) → (z && (y && x)) ≡ (x && (y && (z && true)))
    all true true true = refl
    all true true false = refl
    all true false true = refl
    all true false false = refl
    all false true true = refl
    all false true false = refl
    all false false true = refl
    all false false false = refl

    by : (b : Bool)
        → is_swap_entry pair_cmp (cond b (Some (a.groups, (a.stamp, a.agent))) None) g p ≡ ((a.agent == p.1) && ((a.stamp == p.0) && (is_one_of a.groups g && b)))
    by false = none (a.agent == p.1) (a.stamp == p.0) (is_one_of a.groups g)
    by true = entry_test a.stamp a.agent g a.groups p ∙ all (a.agent == p.1) (a.stamp == p.0) (is_one_of a.groups g)

-- the entry is of an agent who isn't the one with the number
pub entry_other : (a : AgentRecord) (g : ℕ) (p : ℕ × ℕ) → (a.agent == p.1) ≡ false → is_swap_entry pair_cmp (ready_entry (Some a)) g p ≡ false
entry_other a g p h = entry_able a g p ∙ and_left (a.agent == p.1) ((a.stamp == p.0) && (is_one_of a.groups g && is_ready a.state)) h

still : (e l : Bool) (x : Bool) → e ≡ false → l ≡ false → x ≡ (not l && (e || x))
still e l x h k = rw (h, k) refl

becomes_busy : (a b c d : Bool) → (a && (b && (c && false))) ≡ (not (a && (b && c)) && (false || (a && (b && (c && d)))))
becomes_busy true true true d = refl
becomes_busy true true false d = refl
becomes_busy true false c d = refl
becomes_busy false b c d = refl

becomes_free : (a b c d : Bool) → (a && (b && (c && true))) ≡ (true && ((a && (b && c)) || (a && (b && (c && d)))))
becomes_free true true true d = refl
becomes_free true true false d = refl
becomes_free true false c d = refl
becomes_free false b c d = refl

pub able-swapped : (s t : Rows) (call device : ℕ) (new : Option ConnectionRecord) (seats : SeatMap) → IsAscending connection_order s.connections
    → IsAscending agent_order s.agents → Seats s seats → IsAt call device new → Replaces s t call device new
    → (busy : Bool) → busy ≡ is_busy_at t device
    → (g : ℕ) (p : ℕ × ℕ) → is_able_since t g p.0 (agent_of t p.1)
    ≡ (not (is_swap_entry pair_cmp (cond busy (ready_entry (agent_at s device)) None) g p)
    && (is_swap_entry pair_cmp (cond busy None (ready_entry (agent_at s device))) g p || is_able_since s g p.0 (agent_of s p.1)))
able-swapped s t call device new seats ascending agents listed at r busy is g p =
    ap (is_able_since t g p.0) (r.agents p.1) ∙ by (agent_of s p.1) refl
  where
    -- who isn't at the station stays
    apart : (o : Option AgentRecord) → agent_of s p.1 ≡ o → ((b : AgentRecord) → o ≡ Some b → b.station ≡ Some device → ⊥)
        → is_swap_entry pair_cmp (ready_entry (agent_at s device)) g p ≡ false
    apart o e none = seat (agent_at s device) refl
      where
        seat : (q : Option AgentRecord) → agent_at s device ≡ q → is_swap_entry pair_cmp (ready_entry q) g p ≡ false
        seat None f = refl
        seat (Some b) f = entry_other b g p (false_from_ne_true (b.agent == p.1) (λ h.
            none b (sym e ∙ ap (agent_of s) (sym (eqb-true b.agent p.1 h)) ∙ agent_there s agents device b f) (agent_seat s device b f).1))

    kept : (x : Bool) → is_swap_entry pair_cmp (ready_entry (agent_at s device)) g p ≡ false
        → x
        ≡ (not (is_swap_entry pair_cmp (cond busy (ready_entry (agent_at s device)) None) g p)
        && (is_swap_entry pair_cmp (cond busy None (ready_entry (agent_at s device))) g p || x))
    kept x h = still _ _ x (side busy) (other busy)
      where
        side : (b : Bool) → is_swap_entry pair_cmp (cond b None (ready_entry (agent_at s device))) g p ≡ false
        side true = refl
        side false = h

        other : (b : Bool) → is_swap_entry pair_cmp (cond b (ready_entry (agent_at s device)) None) g p ≡ false
        other true = h
        other false = refl

    here : (a : AgentRecord) → a.agent ≡ p.1 → agent_at s device ≡ Some a → (x : Bool) → (b : Bool)
        → ((a.stamp == p.0) && (is_one_of a.groups g && (is_ready a.state && not b)))
        ≡ (not (is_swap_entry pair_cmp (cond b (ready_entry (agent_at s device)) None) g p)
        && (is_swap_entry pair_cmp (cond b None (ready_entry (agent_at s device))) g p || ((a.stamp == p.0) && (is_one_of a.groups g && (is_ready a.state && x)))))
    here a n f x true =
        let seat : is_swap_entry pair_cmp (ready_entry (agent_at s device)) g p ≡ ((a.stamp == p.0) && (is_one_of a.groups g && is_ready a.state)) =
        ap (λ o. is_swap_entry pair_cmp (ready_entry o) g p) f ∙ entry_able a g p
        ∙ ap (λ b. b && ((a.stamp == p.0) && (is_one_of a.groups g && is_ready a.state))) (eq-eqb a.agent p.1 n) in
        becomes_busy (a.stamp == p.0) (is_one_of a.groups g) (is_ready a.state) x
        ∙ ap (λ b. not b && (false || ((a.stamp == p.0) && (is_one_of a.groups g && (is_ready a.state && x))))) (sym seat)
    here a n f x false =
        let seat : is_swap_entry pair_cmp (ready_entry (agent_at s device)) g p ≡ ((a.stamp == p.0) && (is_one_of a.groups g && is_ready a.state)) =
        ap (λ o. is_swap_entry pair_cmp (ready_entry o) g p) f ∙ entry_able a g p
        ∙ ap (λ b. b && ((a.stamp == p.0) && (is_one_of a.groups g && is_ready a.state))) (eq-eqb a.agent p.1 n) in
        becomes_free (a.stamp == p.0) (is_one_of a.groups g) (is_ready a.state) x
        ∙ ap (λ b. true && (b || ((a.stamp == p.0) && (is_one_of a.groups g && (is_ready a.state && x))))) (sym seat)

    by : (o : Option AgentRecord) → agent_of s p.1 ≡ o → is_able_since t g p.0 o
        ≡ (not (is_swap_entry pair_cmp (cond busy (ready_entry (agent_at s device)) None) g p)
        && (is_swap_entry pair_cmp (cond busy None (ready_entry (agent_at s device))) g p || is_able_since s g p.0 o))
    by None e = kept false (apart None e (λ b f h. cc (f)))
    by (Some a) e = station a.station refl
      where
        station : (o : Option ℕ) → a.station ≡ o → ((a.stamp == p.0) && (is_one_of a.groups g && (is_ready a.state && is_free t a.station)))
            ≡ (not (is_swap_entry pair_cmp (cond busy (ready_entry (agent_at s device)) None) g p)
            && (is_swap_entry pair_cmp (cond busy None (ready_entry (agent_at s device))) g p
            || ((a.stamp == p.0) && (is_one_of a.groups g && (is_ready a.state && is_free s a.station)))))
        station None f =
            ap (λ b. (a.stamp == p.0) && (is_one_of a.groups g && (is_ready a.state && b))) (ap (is_free t) f ∙ sym (ap (is_free s) f))
            ∙ kept _ (apart (Some a) e
            (λ b h k. let same : a ≡ b = some_is a b h in let l : b.station ≡ None = ap (λ (z : AgentRecord). z.station) (sym same) ∙ f in cc (k, l)))
        station (Some d) f = at_device (device == d) refl
          where
            at_device : (v : Bool) → (device == d) ≡ v → ((a.stamp == p.0) && (is_one_of a.groups g && (is_ready a.state && is_free t a.station)))
                ≡ (not (is_swap_entry pair_cmp (cond busy (ready_entry (agent_at s device)) None) g p)
                && (is_swap_entry pair_cmp (cond busy None (ready_entry (agent_at s device))) g p
                || ((a.stamp == p.0) && (is_one_of a.groups g && (is_ready a.state && is_free s a.station)))))
            at_device false h =
                ap (λ b. (a.stamp == p.0) && (is_one_of a.groups g && (is_ready a.state && b)))
                (ap (is_free t) f ∙ ap not (busy-there s t call device new ascending at r d h) ∙ sym (ap (is_free s) f))
                ∙ kept _ (apart (Some a) e (λ b w k.
                let same : a ≡ b = some_is a b w in
                let l : d ≡ device = some_is d device (sym f ∙ ap (λ (z : AgentRecord). z.station) same ∙ k) in
                let m = eq-eqb device d (sym l) in cc (h, m)))
            at_device true h =
                let same : device ≡ d = eqb-true device d h in
                ap (λ b. (a.stamp == p.0) && (is_one_of a.groups g && (is_ready a.state && b)))
                (ap (is_free t) f ∙ ap not (ap (is_busy_at t) (sym same) ∙ sym is))
                ∙ here a (agent_key s p.1 a e) (seated s seats agents listed p.1 device a e (f ∙ ap Some (sym same))) (is_free s a.station) busy

-- an agent's record is put
module _ (s : Rows) (item : AgentRecord) (after leaving : Option (List ℕ × (ℕ × ℕ)))
    (entered : after ≡ cond (is_free s item.station) (ready_entry (Some item)) None)
    (out : LeavesBut pair_cmp (ready_entry (agent_of s item.agent)) after leaving) where
  same_free : (o : Option ℕ) → is_free (with_agent s item) o ≡ is_free s o
  unfolding with_agent is_busy_at
  same_free None = refl
  same_free (Some d) = refl

  same_able : (g n : ℕ) (o : Option AgentRecord) → is_able_since (with_agent s item) g n o ≡ is_able_since s g n o
  same_able g n None = refl
  same_able g n (Some a) = ap (λ b. (a.stamp == n) && (is_one_of a.groups g && (is_ready a.state && b))) (same_free a.station)

  -- the item enters where it is able
  enters : (g : ℕ) (p : ℕ × ℕ) → is_swap_entry pair_cmp after g p ≡ ((item.agent == p.1) && is_able_since s g p.0 (Some item))
  enters g p = ap (λ o. is_swap_entry pair_cmp o g p) entered ∙ by (is_free s item.station)
    where
      none : (x y z w : Bool) → false ≡ (x && (y && (z && (w && false))))
      none true true true true = refl
      none true true true false = refl
      none true true false w = refl
      none true false z w = refl
      none false y z w = refl

      all : (x y z w : Bool) → (x && (y && (z && w))) ≡ (x && (y && (z && (w && true))))
      all true true true true = refl
      all true true true false = refl
      all true true false w = refl
      all true false z w = refl
      all false y z w = refl

      by : (b : Bool)
          → is_swap_entry pair_cmp (cond b (ready_entry (Some item)) None) g p
          ≡ ((item.agent == p.1) && ((item.stamp == p.0) && (is_one_of item.groups g && (is_ready item.state && b))))
      by true = entry_able item g p ∙ all (item.agent == p.1) (item.stamp == p.0) (is_one_of item.groups g) (is_ready item.state)
      by false = none (item.agent == p.1) (item.stamp == p.0) (is_one_of item.groups g) (is_ready item.state)

  -- who was able had an entry before
  entry_of_able : (g : ℕ) (p : ℕ × ℕ) → (o : Option AgentRecord) → agent_of s p.1 ≡ o → is_able_since s g p.0 o ≡ true
      → is_swap_entry pair_cmp (ready_entry o) g p ≡ true
  entry_of_able g p None e h = h
  entry_of_able g p (Some a) e h =
      let one = and_parts (a.stamp == p.0) (is_one_of a.groups g && (is_ready a.state && is_free s a.station)) h in
      let two = and_parts (is_one_of a.groups g) (is_ready a.state && is_free s a.station) one.1 in
      let three = and_parts (is_ready a.state) (is_free s a.station) two.1 in
      entry_able a g p ∙ and_from (a.agent == p.1) ((a.stamp == p.0) && (is_one_of a.groups g && is_ready a.state)) (eq-eqb a.agent p.1 (agent_key s p.1 a e))
      (and_from (a.stamp == p.0) (is_one_of a.groups g && is_ready a.state) one.0 (and_from (is_one_of a.groups g) (is_ready a.state) two.0 three.0))

  other_entry : (g : ℕ) (p : ℕ × ℕ) → (item.agent == p.1) ≡ false → (o : Option AgentRecord) → agent_of s item.agent ≡ o
      → is_swap_entry pair_cmp (ready_entry o) g p ≡ false
  other_entry g p h None e = refl
  other_entry g p h (Some a) e = entry_other a g p (ap (λ n. n == p.1) (agent_key s item.agent a e) ∙ h)

  put_here : (w v b : Bool) → (v ≡ true → b ≡ true) → w ≡ (not (b && not w) && (w || v))
  put_here true v true f = refl
  put_here true v false f = refl
  put_here false true true f = refl
  put_here false true false f = absurd (cc (f refl))
  put_here false false true f = refl
  put_here false false false f = refl

  put_there : (x e b : Bool) → e ≡ false → b ≡ false → x ≡ (not (b && not e) && (e || x))
  put_there x e b h k = rw (h, k) refl

  pub agent-swapped : (g : ℕ) (p : ℕ × ℕ)
      → is_able_since (with_agent s item) g p.0 (agent_of (with_agent s item) p.1)
      ≡ (not (is_swap_entry pair_cmp leaving g p) && (is_swap_entry pair_cmp after g p || is_able_since s g p.0 (agent_of s p.1)))
  agent-swapped g p =
      same_able g p.0 (agent_of (with_agent s item) p.1)
      ∙ ap (is_able_since s g p.0) (agent_put s item p.1)
      ∙ by (item.agent == p.1) refl
      ∙ ap (λ b. not b && (is_swap_entry pair_cmp after g p || is_able_since s g p.0 (agent_of s p.1))) (sym (out g p))
    where
      by : (k : Bool) → (item.agent == p.1) ≡ k → is_able_since s g p.0 (cond k (Some item) (agent_of s p.1))
          ≡ (not (is_swap_entry pair_cmp (ready_entry (agent_of s item.agent)) g p && not (is_swap_entry pair_cmp after g p))
          && (is_swap_entry pair_cmp after g p || is_able_since s g p.0 (agent_of s p.1)))
      by true h =
          let same : agent_of s item.agent ≡ agent_of s p.1 = ap (agent_of s) (eqb-true item.agent p.1 h) in
          let enter : is_swap_entry pair_cmp after g p ≡ is_able_since s g p.0 (Some item) = enters g p ∙ ap (λ b. b && is_able_since s g p.0 (Some item)) h in
          sym enter
          ∙ put_here (is_swap_entry pair_cmp after g p) (is_able_since s g p.0 (agent_of s p.1)) (is_swap_entry pair_cmp (ready_entry (agent_of s item.agent)) g p)
          (λ v. ap (λ o. is_swap_entry pair_cmp (ready_entry o) g p) same ∙ entry_of_able g p (agent_of s p.1) refl v)
      by false h =
          put_there (is_able_since s g p.0 (agent_of s p.1)) (is_swap_entry pair_cmp after g p) (is_swap_entry pair_cmp (ready_entry (agent_of s item.agent)) g p)
          (enters g p ∙ ap (λ b. b && is_able_since s g p.0 (Some item)) h) (other_entry g p h (agent_of s item.agent) refl)

-- where there is no entry, nothing is asked
none_enters : (seat : Option (List ℕ × (ℕ × ℕ))) (b : Bool) → cond (is_some seat && b) None seat ≡ cond b None seat
none_enters None true = refl
none_enters None false = refl
none_enters (Some k) b = refl

none_leaves : (seat : Option (List ℕ × (ℕ × ℕ))) (b : Bool) → cond (is_some seat && b) seat None ≡ cond b seat None
none_leaves None true = refl
none_leaves None false = refl
none_leaves (Some k) b = refl

-- the swap of a connection is made of these parts
pub record IsMadeOf (s : Rows) (call device : ℕ) (old new : Option ConnectionRecord) (swap : Swap) : Type 0 where
  pub before : Option (List ℕ × (ℕ × ℕ))
  pub seat : Option (List ℕ × (ℕ × ℕ))
  pub busy : Bool
  pub before_is : before ≡ queue_entry old
  pub after_is : swap.entering.queue ≡ queue_entry new
  pub goes : LeavesBut pair_cmp before swap.entering.queue swap.leaving.queue
  pub seat_is : seat ≡ swapped_seat s device old new
  pub busy_is : busy ≡ (is_some seat && (is_there_and is_busying new || is_in_use s device (Some call) Busying))
  pub enters : swap.entering.ready ≡ cond busy None seat
  pub leaves : swap.leaving.ready ≡ cond busy seat None

pub connection-swap : (s : Rows) (seats : SeatMap) (call device : ℕ) (old new : Option ConnectionRecord) (swap : Swap)
    → IsAscending connection_order s.connections → IsAscending agent_order s.agents → Seats s seats → IsAt call device new → old ≡ connection_of s call device
    → IsMadeOf s call device old new swap → SwapsTo s (with_or_without s call device new) swap
connection-swap s seats call device old new swap ascending agents listed at found m =
    let seat = m.seat in
    let t : Rows = with_or_without s call device new in
    let r = Replaces-either s call device new ascending at in
    let leaves : LeavesBut pair_cmp (queue_entry (connection_of s call device)) (queue_entry new) swap.leaving.queue =
    λ g p. m.goes g p
    ∙ ap (λ o. is_swap_entry pair_cmp o g p && not (is_swap_entry pair_cmp swap.entering.queue g p)) (m.before_is ∙ ap queue_entry found)
    ∙ ap (λ o. is_swap_entry pair_cmp (queue_entry (connection_of s call device)) g p && not (is_swap_entry pair_cmp o g p)) m.after_is in
    let now : Bool = is_there_and is_busying new || is_in_use s device (Some call) Busying in
    let enters : swap.entering.ready ≡ cond now None seat = m.enters ∙ ap (λ b. cond b None seat) m.busy_is ∙ none_enters seat now in
    let exits : swap.leaving.ready ≡ cond now seat None = m.leaves ∙ ap (λ b. cond b seat None) m.busy_is ∙ none_leaves seat now in
    record {
      waiting = λ g p. waiting-swapped s t call device new at r swap.leaving.queue leaves g p
          ∙ ap (λ o. not (is_swap_entry pair_cmp swap.leaving.queue g p) && (is_swap_entry pair_cmp o g p || waits_at p.0 (connection_of s p.1 g))) (sym m.after_is);
      able = λ g p. by (differ (is_there_and is_busying old) (is_there_and is_busying new)) refl m.seat_is g p
          ∙ ap (λ o. not (is_swap_entry pair_cmp o g p) && (is_swap_entry pair_cmp (cond now None seat) g p || is_able_since s g p.0 (agent_of s p.1))) (sym exits)
          ∙ ap (λ o. not (is_swap_entry pair_cmp swap.leaving.ready g p) && (is_swap_entry pair_cmp o g p || is_able_since s g p.0 (agent_of s p.1))) (sym enters);
    }
  where
    t : Rows
    t = with_or_without s call device new

    now : Bool
    now = is_there_and is_busying new || is_in_use s device (Some call) Busying

    -- nobody enters or leaves
    nobody : (b : Bool) (g : ℕ) (p : ℕ × ℕ) (x : Bool) → x ≡ (not (is_swap_entry pair_cmp (cond b None None) g p) && (is_swap_entry pair_cmp (cond b None None) g p || x))
    nobody true g p x = refl
    nobody false g p x = refl

    by : (d : Bool) → differ (is_there_and is_busying old) (is_there_and is_busying new) ≡ d → m.seat ≡ cond d (ready_entry (agent_at s device)) None
        → (g : ℕ) (p : ℕ × ℕ) → is_able_since t g p.0 (agent_of t p.1)
        ≡ (not (is_swap_entry pair_cmp (cond now m.seat None) g p) && (is_swap_entry pair_cmp (cond now None m.seat) g p || is_able_since s g p.0 (agent_of s p.1)))
    by true d k g p =
        let r = Replaces-either s call device new ascending at in
        able-swapped s t call device new seats ascending agents listed at r now (busy-here s t call device new ascending at r) g p
        ∙ ap (λ o. not (is_swap_entry pair_cmp (cond now o None) g p) && (is_swap_entry pair_cmp (cond now None o) g p || is_able_since s g p.0 (agent_of s p.1))) (sym k)
    by false d k g p =
        able-still s t call device new ascending at (Replaces-either s call device new ascending at)
        (ap (λ o. differ (is_there_and is_busying o) (is_there_and is_busying new)) (sym found) ∙ d) g p
        ∙ nobody now g p (is_able_since s g p.0 (agent_of s p.1))
        ∙ ap (λ o. not (is_swap_entry pair_cmp (cond now o None) g p) && (is_swap_entry pair_cmp (cond now None o) g p || is_able_since s g p.0 (agent_of s p.1))) (sym k)

-- the swap of an agent, by its parts
pub agent-swap : (s : Rows) (item : AgentRecord) (swap : Swap) (before entry : Option (List ℕ × (ℕ × ℕ))) (free : Bool) → swap.entering.queue ≡ None
    → swap.leaving.queue ≡ None
    → before ≡ ready_entry (agent_of s item.agent) → entry ≡ ready_entry (Some item) → free ≡ (is_some entry && is_free s item.station)
    → swap.entering.ready ≡ cond free entry None → LeavesBut pair_cmp before swap.entering.ready swap.leaving.ready
    → SwapsTo s (with_agent s item) swap
unfolding with_agent connection_of
agent-swap s item swap before entry free a b o e f h out = record {
  waiting = λ g p. ap (λ v. not v && waits_at p.0 (connection_of s p.1 g)) (sym (ap (λ u. is_swap_entry pair_cmp u g p) b))
      ∙ ap (λ v. not (is_swap_entry pair_cmp swap.leaving.queue g p) && (v || waits_at p.0 (connection_of s p.1 g))) (sym (ap (λ u. is_swap_entry pair_cmp u g p) a));
  able =
      agent-swapped s item swap.entering.ready swap.leaving.ready
      (h ∙ ap (λ v. cond v entry None) f ∙ none_leaves entry (is_free s item.station) ∙ ap (λ u. cond (is_free s item.station) u None) e)
      (λ g p. out g p ∙ ap (λ u. is_swap_entry pair_cmp u g p && not (is_swap_entry pair_cmp swap.entering.ready g p)) o);
}

-- the rest of the groups of an entry
any_filtered : (p : ℕ → Bool) (gs : List ℕ) (g : ℕ) → is_one_of (filter p gs) g ≡ (is_one_of gs g && p g)
any_filtered p [] g = refl
any_filtered p (x ∷ gs) g = by (p x) refl (x == g) refl (any_filtered p gs g)
  where
    by : (b : Bool) → p x ≡ b → (c : Bool) → (x == g) ≡ c → is_one_of (filter p gs) g ≡ (is_one_of gs g && p g)
        → is_one_of (cond b (x ∷ filter p gs) (filter p gs)) g ≡ ((c || is_one_of gs g) && p g)
    by true e true f more = rw f (sym (ap p (sym (eqb-true x g f)) ∙ e))
    by true e false f more = rw f more
    by false e true f more =
        let gone : p g ≡ false = ap p (sym (eqb-true x g f)) ∙ e in
        more ∙ ap (λ b. is_one_of gs g && b) gone ∙ and_right (is_one_of gs g) false refl ∙ sym gone
    by false e false f more = more

module _ {E : Type 0} (cmp : E → E → Ordering) (total : IsTotalOrder cmp) where
  same_as : (k l e : E) → is_eq (cmp k l) ≡ true → is_eq (cmp k e) ≡ is_eq (cmp l e)
  same_as k l e h = ap (λ (f : E → Ordering). is_eq (f e)) (λ i z. total.congr k l z (eq_is (cmp k l) h) i)

  other_than : (k l e : E) → is_eq (cmp k l) ≡ false → is_eq (cmp k e) ≡ true → is_eq (cmp l e) ≡ false
  other_than k l e h f = false_from_ne_true (is_eq (cmp l e)) (λ q.
      let to_l : is_eq (cmp e l) ≡ true = is_eq_of (cmp e l) (total.antisymm e l ∙ ap ordering_reverse (eq_is (cmp l e) q)) in
      let there : is_eq (cmp k l) ≡ is_eq (cmp e l) = same_as k e l f in cc (h, there, to_l))

  pub left_but : (gs : List ℕ) (k : E) (after : Option (List ℕ × E)) → LeavesBut cmp (Some (gs, k)) after (Some (left_of cmp gs k after, k))
  left_but gs k None g e = sym (and_right' (is_one_of gs g && is_eq (cmp k e)))
    where
      and_right' : (b : Bool) → (b && true) ≡ b
      and_right' true = refl
      and_right' false = refl
  left_but gs k (Some other) g e = by (is_eq (cmp k other.1)) refl
    where
      kept : (a q b w : Bool) → (q ≡ true → w ≡ false) → (a && q) ≡ ((a && q) && not (b && w))
      kept true true b w h = rw (h refl) (sym (ap not (and_right b false refl)))
      kept true false b w h = refl
      kept false q b w h = refl

      less : (a b q : Bool) → ((a && not b) && q) ≡ ((a && q) && not (b && q))
      less true true true = refl
      less true true false = refl
      less true false true = refl
      less true false false = refl
      less false b q = refl

      by : (v : Bool) → is_eq (cmp k other.1) ≡ v → (is_one_of (cond v (filter (λ (x : ℕ). not (is_one_of other.0 x)) gs) gs) g && is_eq (cmp k e))
          ≡ ((is_one_of gs g && is_eq (cmp k e)) && not (is_one_of other.0 g && is_eq (cmp other.1 e)))
      by true h =
          ap (λ b. b && is_eq (cmp k e)) (any_filtered (λ (x : ℕ). not (is_one_of other.0 x)) gs g)
          ∙ less (is_one_of gs g) (is_one_of other.0 g) (is_eq (cmp k e))
          ∙ ap (λ q. (is_one_of gs g && is_eq (cmp k e)) && not (is_one_of other.0 g && q)) (same_as k other.1 e h)
      by false h = kept (is_one_of gs g) (is_eq (cmp k e)) (is_one_of other.0 g) (is_eq (cmp other.1 e)) (λ f. other_than k other.1 e h f)
