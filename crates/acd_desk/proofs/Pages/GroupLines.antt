-- The lines of a queue report, by the queues and the offers that ring.
use Rattle.std.proofs.Common.{arith, ◌≡◌, ℕ, suc, Bool, true, false, true≢false, cond, ◌&&◌, List, [], ◌∷◌, length, map, filter, min, Option, Some, None, inl, inr, refl, ap, sym, ◌∙◌}
use Rattle.std.specs.Prelude.{is_some}
use Rattle.std.specs.List.{cons_option, filter_map, fold, reduce}
use Rattle.std.specs.declared.cmp.Ordering.{Ordering}
use Rattle.std.specs.declared.cmp.Ordering.TheVariants.{Less, Equal, Greater}
use Rattle.std.specs.Ordering.{match_ordering}
use Rattle.std.proofs.lemmas.Bool.{and_parts}
use Rattle.acd_terms.specs.Lists.{Among, Every, put_by}
use Rattle.acd_terms.specs.States.{is_alerting}
use Rattle.acd_terms.specs.declared.rows.Rows.{Rows}
use Rattle.acd_terms.specs.declared.record.ConnectionRecord.{ConnectionRecord}
use Rattle.acd_terms.specs.declared.state.ConnectionState.{ConnectionState}
use Rattle.acd_terms.specs.declared.state.ConnectionState.TheVariants.{Alerting}
use Rattle.acd_model.specs.Scans.{connection_of, has, waiting_in}
use Rattle.acd_model.specs.Choice.{waiting_pair}
use Rattle.acd_model.specs.Rules.First.{BreaksNoRule}
use Rattle.acd_model.specs.Rules.Occupied.{rings_from}
use Rattle.acd_lemmas.proofs.Lists.{is_eq_of}
use Rattle.acd_lemmas.proofs.RuleFacts.{AlertingColumns, ConnectionRule, HasColumns}
use Rattle.acd_laws.proofs.Rules.AllRuleTests.{rules_are_kept}
use Rattle.acd_tables.specs.IndexedRows.{is_ringing, pair_cmp}
use Rattle.acd_tables.proofs.ScansByIndex.{exact_pair}
use Rattle.acd_terms.specs.declared.record.GroupRecord.{GroupRecord}
use Rattle.acd_reports.specs.declared.queues.GroupState.{GroupState}
use Rattle.acd_reports.specs.QueueReport.{first_queued, ringing_from}
use Rattle.acd_desk.specs.Reads.GroupStates.{first_of, lesser_number, queued_of}
use Rattle.acd_desk.specs.Reads.ReadAnswers.{in_order, by_place, queue_in}
use Rattle.acd_desk.proofs.Pages.OrderLemmas.{Apart, by_key, ordered_among, waiting_apart}
use Rattle.std.proofs.lemmas.List.{length-map}

-- ---- the least of some numbers

min_swap : (a b : ℕ) → min a b ≡ min b a
min_swap a b = omega arith

min_join : (a b c : ℕ) → min (min a b) c ≡ min a (min b c)
min_join a b c = omega arith

fold_min : (a b : ℕ) (xs : List ℕ) → fold min (min a b) xs ≡ min a (fold min b xs)
fold_min a b [] = refl
fold_min a b (x ∷ xs) = ap (λ (n : ℕ). fold min n xs) (min_join a b x) ∙ fold_min a (min b x) xs

pub least_more : (x : ℕ) (xs : List ℕ) → reduce min (x ∷ xs) ≡ lesser_number (Some x) (reduce min xs)
least_more x [] = refl
least_more x (y ∷ xs) = ap Some (fold_min x y xs)

lesser_none : (o : Option ℕ) → lesser_number o None ≡ o
lesser_none None = refl
lesser_none (Some n) = refl

pub lesser_join : (a b c : Option ℕ) → lesser_number (lesser_number a b) c ≡ lesser_number a (lesser_number b c)
lesser_join None b c = refl
lesser_join (Some n) None c = refl
lesser_join (Some n) (Some m) None = refl
lesser_join (Some n) (Some m) (Some k) = ap Some (min_join n m k)

lesser_swap : (a b : Option ℕ) → lesser_number a b ≡ lesser_number b a
lesser_swap None b = sym (lesser_none b)
lesser_swap (Some n) None = refl
lesser_swap (Some n) (Some m) = ap Some (min_swap n m)

pub least_with : (o : Option ℕ) (xs : List ℕ) → reduce min (cons_option o xs) ≡ lesser_number o (reduce min xs)
least_with None xs = refl
least_with (Some n) xs = least_more n xs

-- ---- a list in order has the same least and as many

module _ {T : Type 0} (of : T → Option ℕ) where
  abbrev least : List T → Option ℕ
  least xs = reduce min (filter_map of xs)

  least_put : (at : T → Ordering) (x : T) (xs : List T) → ((z : T) → Among z xs → at z ≡ Equal → ⊥) → (least (put_by at xs x) ≡ lesser_number (of x) (least xs)) × (length (put_by at xs x) ≡ suc (length xs))
  least_put at x [] other = (least_with (of x) [], refl)
  least_put at x (y ∷ xs) other =
      by (at y) (other y (inl refl)) (least_put at x xs (λ z a. other z (inr a)))
    where
      by : (o : Ordering) → (o ≡ Equal → ⊥) → (least (put_by at xs x) ≡ lesser_number (of x) (least xs)) × (length (put_by at xs x) ≡ suc (length xs))
          → (least (match_ordering o (x ∷ y ∷ xs) (x ∷ xs) (y ∷ put_by at xs x)) ≡ lesser_number (of x) (least (y ∷ xs)))
          × (length (match_ordering o (x ∷ y ∷ xs) (x ∷ xs) (y ∷ put_by at xs x)) ≡ suc (suc (length xs)))
      by Less not rest = (least_with (of x) (filter_map of (y ∷ xs)), refl)
      by Equal not rest = absurd (not refl)
      by Greater not rest = (
        least_with (of y) (filter_map of (put_by at xs x))
            ∙ ap (lesser_number (of y)) rest.0
            ∙ sym (lesser_join (of y) (of x) (least xs))
            ∙ ap (λ (o : Option ℕ). lesser_number o (least xs)) (lesser_swap (of y) (of x))
            ∙ lesser_join (of x) (of y) (least xs)
            ∙ ap (lesser_number (of x)) (sym (least_with (of y) (filter_map of xs))),
        ap suc rest.1,
      )

  pub least_ordered : (key : T → ℕ × ℕ) (xs : List T) → Apart key xs → (least (in_order (by_key key) xs) ≡ least xs) × (length (in_order (by_key key) xs) ≡ length xs)
  least_ordered key [] apart = (refl, refl)
  least_ordered key (x ∷ xs) apart =
      let rest = least_ordered key xs apart.1 in
      let put = least_put (by_key key x) x (in_order (by_key key) xs)
      (λ z a same. apart.0 z (ordered_among key xs z a) (exact_pair (key x) (key z) (is_eq_of (pair_cmp (key x) (key z)) same))) in
      (put.0 ∙ ap (lesser_number (of x)) rest.0 ∙ sym (least_with (of x) (filter_map of xs)), put.1 ∙ ap suc rest.1)

-- the connections found at some pairs, and when they entered
entered_found : (f : ℕ × ℕ → Option ConnectionRecord) (ps : List (ℕ × ℕ)) → filter_map (λ (p : ℕ × ℕ). queued_of (f p)) ps ≡ filter_map (λ (x : ConnectionRecord). x.queued) (filter_map f ps)
entered_found f [] = refl
entered_found f (p ∷ ps) = by (f p) (entered_found f ps)
  where
    by : (o : Option ConnectionRecord) → filter_map (λ (p : ℕ × ℕ). queued_of (f p)) ps ≡ filter_map (λ (x : ConnectionRecord). x.queued) (filter_map f ps)
        → cons_option (queued_of o) (filter_map (λ (p : ℕ × ℕ). queued_of (f p)) ps) ≡ filter_map (λ (x : ConnectionRecord). x.queued) (cons_option o (filter_map f ps))
    by None rest = rest
    by (Some x) rest = ap (cons_option x.queued) rest

-- a queue says how many calls wait, and when the first of them entered
pub first_is : (s : Rows) (rules : BreaksNoRule s) (g : ℕ) (keys : List (ℕ × ℕ)) → filter_map (λ (p : ℕ × ℕ). connection_of s p.1 g) keys ≡ queue_in s g → first_of s g keys ≡ first_queued s g
unfolding queue_in first_queued
first_is s rules g keys lent =
    ap (reduce min) (entered_found (λ (p : ℕ × ℕ). connection_of s p.1 g) keys ∙ ap (filter_map (λ (x : ConnectionRecord). x.queued)) lent)
    ∙ (least_ordered (λ (x : ConnectionRecord). x.queued) waiting_pair (waiting_in s g) (waiting_apart s rules g)).0

pub waiting_is : (s : Rows) (rules : BreaksNoRule s) (g : ℕ) (keys : List (ℕ × ℕ)) → keys ≡ map waiting_pair (queue_in s g) → length keys ≡ length (waiting_in s g)
unfolding queue_in
waiting_is s rules g keys are =
    ap length are ∙ length-map (in_order by_place (waiting_in s g)) waiting_pair
    ∙ (least_ordered (λ (x : ConnectionRecord). x.queued) waiting_pair (waiting_in s g) (waiting_apart s rules g)).1

-- ---- the offers that ring

-- an alerting connection of a group was offered
offered_at : (x : ConnectionRecord) (group : Option ℕ) (g : ℕ) → AlertingColumns x group → has group g ≡ true → (is_some group && is_some x.offered) ≡ true
offered_at x None g columns e = absurd (true≢false (sym e))
offered_at x (Some n) g columns e = columns.offered

ringing_offered : (x : ConnectionRecord) (state : ConnectionState) (g : ℕ) → HasColumns x state → (has x.group g && is_alerting state) ≡ true → (is_alerting state && (is_some x.group && is_some x.offered)) ≡ true
ringing_offered x Alerting g columns e = offered_at x x.group g columns (and_parts (has x.group g) true e).0
ringing_offered x _ g columns e = absurd (true≢false (sym (and_parts (has x.group g) false e).1))

-- whatever passes one test passes the other too
module _ {T : Type 0} (p q : T → Bool) where
  filter_both : (xs : List T) → Every (λ (x : T). p x ≡ true → q x ≡ true) xs → filter p (filter q xs) ≡ filter p xs
  filter_both [] all = refl
  filter_both (x ∷ xs) all = by (p x) (q x) refl refl all.0 (filter_both xs all.1)
    where
      by : (a b : Bool) → p x ≡ a → q x ≡ b → (p x ≡ true → q x ≡ true) → filter p (filter q xs) ≡ filter p xs → filter p (cond b (x ∷ filter q xs) (filter q xs)) ≡ cond a (x ∷ filter p xs) (filter p xs)
      by true true is was h rest = ap (λ (c : Bool). cond c (x ∷ filter p (filter q xs)) (filter p (filter q xs))) is ∙ ap (λ (l : List T). x ∷ l) rest
      by true false is was h rest = absurd (true≢false (sym (h is) ∙ was))
      by false true is was h rest = ap (λ (c : Bool). cond c (x ∷ filter p (filter q xs)) (filter p (filter q xs))) is ∙ rest
      by false false is was h rest = rest

ringing_rules : (s : Rows) (g : ℕ) (xs : List ConnectionRecord) → Every (ConnectionRule s) xs → Every (λ (x : ConnectionRecord). rings_from g x ≡ true → is_ringing x ≡ true) xs
ringing_rules s g [] all = tt
ringing_rules s g (x ∷ xs) all = (ringing_offered x x.state g all.0.0, ringing_rules s g xs all.1)

pub ringing_is : (s : Rows) (rules : BreaksNoRule s) (g : ℕ) → length (filter (rings_from g) (filter is_ringing s.connections)) ≡ ringing_from s g
unfolding ringing_from
ringing_is s rules g = ap length (filter_both (rings_from g) is_ringing s.connections (ringing_rules s g s.connections (rules_are_kept s rules).connections))

pub same_state : (g : GroupRecord) (waiting waiting' ringing ringing' : ℕ) (first first' : Option ℕ) → waiting ≡ waiting' → ringing ≡ ringing' → first ≡ first'
    → ◌≡◌ {A = GroupState} (record { group = g; waiting = waiting; ringing = ringing; first_queued = first }) (record { group = g; waiting = waiting'; ringing = ringing'; first_queued = first' })
same_state g waiting waiting' ringing ringing' first first' e f h = rw (e, f, h) refl
