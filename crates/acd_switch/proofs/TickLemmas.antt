-- A tick ends only offers that ring and the work of agents in after-call work.
use Rattle.std.proofs.Common.{◌≡◌, ℕ, ◌≤◌, Bool, true, false, ◌&&◌, cond, List, [], ◌∷◌, ◌++◌, drop, length, get_or, ◌<◌, ◌+◌, Option, Some, None, is_some, refl, ap, sym, ◌∙◌}
use Rattle.std.proofs.lemmas.List.{drop_all, append-nil, append_assoc, at_drop_more}
use Rattle.std.specs.Prelude.{◌||◌, filter}
use Rattle.std.specs.List.{list_any, filter_map, cons_option}
use Rattle.std.proofs.lemmas.Bool.{and_parts, and_from, false_from_ne_true}
use Rattle.acd_terms.specs.Groups.{least_group}
use Rattle.acd_terms.specs.States.{is_alerting, is_working_after_call}
use Rattle.acd_terms.specs.declared.rows.Rows.{Rows}
use Rattle.acd_terms.specs.declared.record.ConnectionRecord.{ConnectionRecord}
use Rattle.acd_terms.specs.declared.record.AgentRecord.{AgentRecord}
use Rattle.acd_model.specs.Tick.{is_overdue, is_overdue_offer, overdue_in, is_wrapped_up, is_over_in, wrapped_up_in}
use Rattle.acd_model.specs.Scans.{agent_of, connection_of}
use Rattle.acd_tables.specs.IndexedRows.{is_ringing, is_working}
use Rattle.acd_tables.specs.Uses.{if_passes}
use Rattle.acd_lemmas.proofs.Lists.{filter-filter}

offered : (s : Rows) (m : ℕ) (g o : Option ℕ) → is_overdue_offer s m g o ≡ true → (is_some g && is_some o) ≡ true
offered s m None o e = absurd (cc (e))
offered s m (Some g) None e = absurd (cc (e))
offered s m (Some g) (Some o) e = refl

overdue_rings : (s : Rows) (m : ℕ) (x : ConnectionRecord) → is_overdue s m x ≡ true → is_ringing x ≡ true
unfolding is_overdue
overdue_rings s m x e =
    let parts = and_parts (is_alerting x.state) (is_overdue_offer s m x.group x.offered) e in
    and_from (is_alerting x.state) (is_some x.group && is_some x.offered) parts.0 (offered s m x.group x.offered parts.1)

rested_works : (s : Rows) (m : ℕ) (a : AgentRecord) → is_wrapped_up s m a ≡ true → is_working a ≡ true
unfolding is_wrapped_up
rested_works s m a e = (and_parts (is_working_after_call a.state) (is_over_in s m a (least_group a.groups)) e).0

pub overdue-ringing : (s : Rows) (m : ℕ) → filter (is_overdue s m) (filter is_ringing s.connections) ≡ overdue_in s m
unfolding overdue_in
overdue-ringing s m = filter-filter (is_overdue s m) is_ringing (overdue_rings s m) s.connections

pub rested-working : (s : Rows) (m : ℕ) → filter (is_wrapped_up s m) (filter is_working s.agents) ≡ wrapped_up_in s m
unfolding wrapped_up_in
rested-working s m = filter-filter (is_wrapped_up s m) is_working (rested_works s m) s.agents

-- where nothing rings nothing is overdue, and where nobody works nobody has rested
pub nothing_overdue : (s : Rows) (m : ℕ) (ringing : List ConnectionRecord) → length ringing ≡ 0 → ringing ≡ filter is_ringing s.connections
    → ringing ≡ overdue_in s m
nothing_overdue s m [] _ e = ap (filter (is_overdue s m)) e ∙ overdue-ringing s m
nothing_overdue s m (_ ∷ _) z e = absurd (cc (z))

pub nobody_rested : (s : Rows) (m : ℕ) (working : List AgentRecord) → length working ≡ 0 → working ≡ filter is_working s.agents → working ≡ wrapped_up_in s m
nobody_rested s m [] _ e = ap (filter (is_wrapped_up s m)) e ∙ rested-working s m
nobody_rested s m (_ ∷ _) z e = absurd (cc (z))

-- a filter that has tested all
pub gone_through : {X : Type 0} (p : X → Bool) (done items : List X) (i : ℕ) → length items ≤ i → done ++ filter p (drop i items) ≡ filter p items
    → done ≡ filter p items
gone_through p done items i h e = sym (append-nil done) ∙ ap (λ l. done ++ filter p l) (sym (drop_all i items h)) ∙ e

-- a filter that has tested one more
module _ {X : Type 0} (p : X → Bool) (done items new : List X) (i : ℕ) (there : i < length items) (before : done ++ filter p (drop i items) ≡ filter p items)
    (x d : X) (is : x ≡ get_or items i d) where
  tested : (b : Bool) → b ≡ p x → done ++ cond b (x ∷ filter p (drop (i + 1) items)) (filter p (drop (i + 1) items)) ≡ filter p items
  tested b h =
      ap (λ b. done ++ cond b (x ∷ filter p (drop (i + 1) items)) (filter p (drop (i + 1) items))) h ∙ ap (λ y. done ++ filter p (y ∷ drop (i + 1) items)) is
      ∙ sym (at_drop_more (λ l. done ++ filter p l) items i d there) ∙ before

  pub keeps_one : true ≡ p x → new ≡ done ++ x ∷ [] → new ++ filter p (drop (i + 1) items) ≡ filter p items
  keeps_one h e = ap (λ l. l ++ filter p (drop (i + 1) items)) e ∙ append_assoc done (x ∷ []) (filter p (drop (i + 1) items)) ∙ tested true h

  pub leaves_one : false ≡ p x → new ≡ done → new ++ filter p (drop (i + 1) items) ≡ filter p items
  leaves_one h e = ap (λ l. l ++ filter p (drop (i + 1) items)) e ∙ tested false h

-- a test of what may be there
abbrev pub passes : {T : Type 0} → (T → Bool) → Option T → Bool
passes p None = false
passes p (Some x) = p x

-- a test of the records at keys is one of all records, where it passes none but those that the keys give
module _ {R : Type 0} (p keep : R → Bool) (so : (x : R) → p x ≡ true → keep x ≡ true) where
  fails : (x : R) → keep x ≡ false → p x ≡ false
  fails x e = false_from_ne_true (p x) (λ q. (let there = so x q in cc (e, there)))

  passes_kept : (o : Option R) → passes p (if_passes keep o) ≡ passes p o
  passes_kept None = refl
  passes_kept (Some x) = by (keep x) refl
    where
      by : (b : Bool) → keep x ≡ b → passes p (cond b (Some x) None) ≡ p x
      by true e = refl
      by false e = sym (fails x e)

  any_filtered : (xs : List R) → list_any p (filter keep xs) ≡ list_any p xs
  any_filtered [] = refl
  any_filtered (x ∷ xs) = by (keep x) refl (any_filtered xs)
    where
      by : (b : Bool) → keep x ≡ b → list_any p (filter keep xs) ≡ list_any p xs
          → list_any p (cond b (x ∷ filter keep xs) (filter keep xs)) ≡ (p x || list_any p xs)
      by true e more = ap (λ b. p x || b) more
      by false e more = more ∙ sym (ap (λ b. b || list_any p xs) (fails x e))

  module _ {K : Type 0} (f : K → Option R) where
    any_picked : (ks : List K) → list_any p (filter_map (λ k. if_passes keep (f k)) ks) ≡ list_any (λ k. passes p (f k)) ks
    any_picked [] = refl
    any_picked (k ∷ ks) = by (if_passes keep (f k)) (any_picked ks) ∙ ap (λ b. b || list_any (λ k. passes p (f k)) ks) (passes_kept (f k))
      where
        by : (o : Option R) → list_any p (filter_map (λ k. if_passes keep (f k)) ks) ≡ list_any (λ k. passes p (f k)) ks
            → list_any p (cons_option o (filter_map (λ k. if_passes keep (f k)) ks)) ≡ (passes p o || list_any (λ k. passes p (f k)) ks)
        by None more = more
        by (Some x) more = ap (λ b. p x || b) more

    any_given : (ks : List K) (xs : List R) → filter_map (λ k. if_passes keep (f k)) ks ≡ filter keep xs → list_any (λ k. passes p (f k)) ks ≡ list_any p xs
    any_given ks xs e = sym (any_picked ks) ∙ ap (list_any p) e ∙ any_filtered xs

pub overdue_given : (s : Rows) (m : ℕ) (keys : List (ℕ × ℕ))
    → filter_map (λ p. if_passes is_ringing (connection_of s p.0 p.1)) keys ≡ filter is_ringing s.connections
    → list_any (λ p. passes (is_overdue s m) (connection_of s p.0 p.1)) keys ≡ list_any (is_overdue s m) s.connections
overdue_given s m keys e = any_given (is_overdue s m) is_ringing (overdue_rings s m) (λ p. connection_of s p.0 p.1) keys s.connections e

pub rested_given : (s : Rows) (m : ℕ) (keys : List ℕ) → filter_map (λ n. if_passes is_working (agent_of s n)) keys ≡ filter is_working s.agents
    → list_any (λ n. passes (is_wrapped_up s m) (agent_of s n)) keys ≡ list_any (is_wrapped_up s m) s.agents
rested_given s m keys e = any_given (is_wrapped_up s m) is_working (rested_works s m) (λ n. agent_of s n) keys s.agents e
