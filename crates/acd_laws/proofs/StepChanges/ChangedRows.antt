-- The changes of a step: they make its rows, and a refused request changes nothing.
use Rattle.std.proofs.Common.{◌≡◌, ℕ, suc, ◌+◌, true, false, not, cond, List, [], ◌∷◌, Some, None, refl, sym, ◌∙◌, ap, subst, inl, inr, length, map, add-zero, append-nil, Ok, Err}
use Rattle.std.specs.Prelude.{◌==◌}
use Rattle.std.specs.Cmp.{IsTotalOrder}
use Rattle.std.specs.Ordering.{ordering_reverse, is_eq, nat_cmp}
use Rattle.std.specs.declared.cmp.Ordering.{Ordering}
use Rattle.std.specs.declared.cmp.Ordering.TheVariants.{Equal, Greater}
use Rattle.std.proofs.lemmas.Bool.{and_left, and_right, eqb-true, false_from_ne_true}
use Rattle.acd_lemmas.proofs.Words.{Rows, GroupRecord, Change, Command, Event, Move, Refusal, Report, Served, put_by, Among, IsAscending, at_group, group_of, has, queued_in_all, with_group, with_station, with_agent, with_call, with_connection, with_monitor, without_call, without_connection, without_monitor, with_last, changed, moved, events_of, group_order}
use Rattle.acd_terms.specs.declared.event.Report.TheVariants.{Queued, Established, CallCleared, Diverted}
use Rattle.acd_model.specs.Changes.{changes_of, changed_by, counted_group, grown, growth_in, growth_by, growth, step_changes_by, step_changes}
use Rattle.acd_model.specs.Figures.{is_no_answer, is_deflected, figures_of, sum_of_figures, counting, with_figures}
use Rattle.acd_model.specs.Services.{no_figures}
use Rattle.acd_model.specs.Services.Serve.{serve}
use Rattle.acd_model.specs.Step.{numbered, executed_moment, next_stamp, step_moves, step, counted, turn_at, next_turn}
use Rattle.acd_model.specs.declared.moves.Change.TheVariants.{PutGroup}
use Rattle.acd_model.proofs.ChangeLemmas.{changed_by_append, moved_by_changes}
use Rattle.acd_laws.specs.ChangeLaws.{StepMakesItsChanges}
use Rattle.acd_lemmas.proofs.Lists.{is_eq_of, less_ne, greater_ne, after_among, after_same, ascending-put, find_none, found_among}
use Rattle.acd_lemmas.proofs.KeyedLists.{cmp_self, found_has, find_is, eqb_swap}
use Rattle.acd_lemmas.proofs.State.{groups_total, by_group}
use Rattle.acd_laws.proofs.Figures.EventCounts.{Quiet, quiet, no_events, sum_nothing, figures_joined, figures_skipped, sum_joined}
use Rattle.acd_laws.proofs.Rules.StepEnds.{ascending_counting}
use Rattle.acd_laws.proofs.Rules.AllRuleTests.{keeps_read}
use Rattle.acd_terms.specs.declared.answer.Outcome.TheVariants as outcome
use Rattle.acd_model.specs.Choice.{offer_of}
use Rattle.acd_model.specs.Distribution.{distribution}
use Rattle.acd_model.specs.ServiceAnswers.{outcome_of, moves_of}
use Rattle.acd_laws.specs.RefusalLaws.{ChangesNothing}
use Rattle.acd_laws.proofs.Offers.FoundOffer.{no_offers}

-- lists in ascending key

map_same : {X : Type 0} (f : X → X) (xs : List X) → ((x : X) → Among x xs → f x ≡ x) → map f xs ≡ xs
map_same f [] h = refl
map_same f (x ∷ xs) h = ap (λ l. f x ∷ l) (map_same f xs (λ y a. h y (inr a))) ∙ ap (λ y. y ∷ xs) (h x (inl refl))

-- where f leaves all but one, the image of that one is put in its place
put_mapped : {X : Type 0} (cmp : X → X → Ordering) (o : IsTotalOrder cmp) (f : X → X) (g : X) → ((x : X) → is_eq (cmp g x) ≡ false → f x ≡ x) → cmp g g ≡ Equal
    → (xs : List X) → IsAscending cmp xs → Among g xs → put_by (cmp g) xs (f g) ≡ map f xs
put_mapped cmp o f g h self [] s a = absurd a
put_mapped cmp o f g h self (y ∷ ys) s (inl e) =
    let same : cmp g y ≡ Equal = subst (λ z. cmp g z ≡ Equal) e self in
    let rest : map f ys ≡ ys = map_same f ys (λ x a. h x (less_ne (cmp g x) (after_among cmp g ys x (after_same cmp o g y same ys s.0) a))) in
    rw same (ap (λ z. f z ∷ ys) e ∙ ap (λ l. f y ∷ l) (sym rest))
put_mapped cmp o f g h self (y ∷ ys) s (inr a) =
    let greater : cmp g y ≡ Greater = o.antisymm g y ∙ ap ordering_reverse (after_among cmp y ys g s.0 a) in
    rw greater (ap (λ l. y ∷ l) (put_mapped cmp o f g h self ys s.1 a) ∙ ap (λ z. z ∷ map f ys) (sym (h y (greater_ne (cmp g y) greater))))

other_number : (a b : ℕ) → is_eq (nat_cmp a b) ≡ false → (a == b) ≡ false
other_number a b e = false_from_ne_true (a == b) (λ q. cc (e, is_eq_of (nat_cmp a b) (cmp_self a b (eqb-true a b q))))

-- the counts of an event for a group

still : (g : ℕ) (r : Report) → has (counted_group r) g ≡ false → Quiet g r
still g (Queued call group cause) e =
    (elim (is_no_answer cause) as (λ b. is_no_answer cause ≡ b → has (cond b None (Some group)) g ≡ false → Quiet g (Queued call group cause)) [
      | true ↦ λ q _. record {
        entry = and_right (group == g) (not (is_no_answer cause)) (ap not q);
        answer = refl;
        abandonment = refl;
        moving_away = refl;
        waited = refl;
      }
      | false ↦ λ _ h. quiet g (Queued call group cause) h
    ]) refl e
still g (Diverted call device to cause group) e =
    (elim (is_deflected cause) as (λ b. is_deflected cause ≡ b → has (cond b group None) g ≡ false → Quiet g (Diverted call device to cause group)) [
      | true ↦ λ _ h. quiet g (Diverted call device to cause group) h
      | false ↦ λ q _. record { entry = refl; answer = refl; abandonment = refl; moving_away = and_left (is_deflected cause) (has group g) q; waited = refl }
    ]) refl e
still g (Established call station (Some w)) e = quiet g (Established call station (Some w)) e
still g (CallCleared call group) e = quiet g (CallCleared call group) e
still g _ e = record { entry = refl; answer = refl; abandonment = refl; moving_away = refl; waited = refl }

with_nothing : (es : List Event) (g : GroupRecord) → figures_of g.device es ≡ no_figures → counting es g ≡ g
with_nothing es g e = ap (λ f. let h : GroupRecord = record g { figures = f } in h) (sum_nothing g.figures (figures_of g.device es) e)

counts_nothing : (e : Event) (g : GroupRecord) → has (counted_group e.report) g.device ≡ false → counting (e ∷ []) g ≡ g
counts_nothing e g h = with_nothing (e ∷ []) g (figures_skipped g.device e [] (still g.device e.report h) ∙ no_events g.device)

pub counting_more : (e : Event) (es : List Event) (g : GroupRecord) → counting es (counting (e ∷ []) g) ≡ counting (e ∷ es) g
counting_more e es g =
    ap (λ f. let h : GroupRecord = record g { figures = f } in h)
    (sum_joined g.figures (figures_of g.device (e ∷ [])) (figures_of g.device es) ∙ ap (sum_of_figures g.figures) (sym (figures_joined g.device (e ∷ []) es)))

pub counting_both : (e : Event) (es : List Event) (gs : List GroupRecord) → map (counting es) (map (counting (e ∷ [])) gs) ≡ map (counting (e ∷ es)) gs
counting_both e es [] = refl
counting_both e es (g ∷ gs) =
    ap (λ h. h ∷ map (counting es) (map (counting (e ∷ [])) gs)) (counting_more e es g) ∙ ap (λ l. counting (e ∷ es) g ∷ l) (counting_both e es gs)

-- an event's growth, and that of all events

none_grown : (s : Rows) (es : List Event) → ((g : GroupRecord) → Among g s.groups → counting es g ≡ g) → s ≡ with_figures s es
unfolding with_figures
none_grown s es h = ap (λ gs. let t : Rows = record s { groups = gs } in t) (sym (map_same (counting es) s.groups h))

found_grown : (s : Rows) (e : Event) (d : ℕ) (g : GroupRecord) → IsAscending group_order s.groups → counted_group e.report ≡ Some d → group_of s d ≡ Some g
    → with_group s (counting (e ∷ []) g) ≡ with_figures s (e ∷ [])
unfolding with_figures with_group group_of
found_grown s e d g a c f =
    let same : d ≡ g.device = sym (eqb-true g.device d (found_has by_group s.groups d g f)) in
    ap (λ gs. let t : Rows = record s { groups = gs } in t)
    (put_mapped group_order groups_total (counting (e ∷ [])) g
    (λ x n. counts_nothing e x (rw (c, same) (other_number g.device x.device n)))
    (cmp_self g.device g.device refl) s.groups a (found_among (at_group d) s.groups g f))

missed_grown : (s : Rows) (e : Event) (d : ℕ) → counted_group e.report ≡ Some d → group_of s d ≡ None → s ≡ with_figures s (e ∷ [])
unfolding group_of
missed_grown s e d c f =
    none_grown s (e ∷ [])
    (λ g i. counts_nothing e g (rw c (eqb_swap d g.device ∙ find_none (by_group.has d) s.groups (sym (find_is by_group s.groups d) ∙ f) g i)))

pub one_grown : (s : Rows) (e : Event) → IsAscending group_order s.groups → changed_by s (growth_by s e) ≡ with_figures s (e ∷ [])
one_grown s e a =
    (elim (counted_group e.report) as (λ o. counted_group e.report ≡ o → changed_by s (growth_in s o e) ≡ with_figures s (e ∷ [])) [
      | None ↦ λ c. none_grown s (e ∷ []) (λ g i. counts_nothing e g (rw c refl))
      | Some d ↦ λ c.
          (elim (group_of s d) as (λ r. group_of s d ≡ r → changed_by s (grown r e) ≡ with_figures s (e ∷ [])) [
            | None ↦ λ f. missed_grown s e d c f
            | Some g ↦ λ f. found_grown s e d g a c f
          ]) refl
    ]) refl

pub ascending_grown : (s : Rows) (e : Event) → IsAscending group_order s.groups → IsAscending group_order (changed_by s (growth_by s e)).groups
unfolding with_figures
ascending_grown s e a = subst (λ (t : Rows). IsAscending group_order t.groups) (sym (one_grown s e a)) (ascending_counting (e ∷ []) s.groups a)

pub figures_more : (s : Rows) (e : Event) (es : List Event) → with_figures (with_figures s (e ∷ [])) es ≡ with_figures s (e ∷ es)
unfolding with_figures
figures_more s e es = ap (λ gs. let t : Rows = record s { groups = gs } in t) (counting_both e es s.groups)

pub figures_none : (s : Rows) → with_figures s [] ≡ s
figures_none s = sym (none_grown s [] (λ g i. with_nothing [] g (no_events g.device)))

pub all_grown : (es : List Event) (s : Rows) → IsAscending group_order s.groups → changed_by s (growth s es) ≡ with_figures s es
all_grown [] s a = sym (figures_none s)
all_grown (e ∷ es) s a =
    let t : Rows = changed_by s (growth_by s e) in
    changed_by_append s (growth_by s e) (growth t es) ∙ all_grown es t (ascending_grown s e a) ∙ ap (λ r. with_figures r es) (one_grown s e a)
    ∙ figures_more s e es

-- moves keep the order of the groups

ascending_changed : (s : Rows) (c : Change) → IsAscending group_order s.groups → IsAscending group_order (changed s c).groups
unfolding with_group with_station with_agent with_call with_connection with_monitor without_call without_connection without_monitor
ascending_changed s (PutGroup g) a = ascending-put group_order groups_total g s.groups a
ascending_changed s _ a = a

pub ascending_moved : (s : Rows) (ms : List Move) → IsAscending group_order s.groups → IsAscending group_order (moved s ms).groups
ascending_moved s [] a = a
ascending_moved s (m ∷ ms) a = ascending_moved (changed s m.change) ms (ascending_changed s m.change a)

-- the step

pub length-numbered : (n : ℕ) (es : List Event) → length (numbered n es) ≡ length es
length-numbered n [] = refl
length-numbered n (e ∷ es) = ap suc (length-numbered (n + 1) es)

changes_made : (s : Rows) (m : ℕ) (ms : List Move) → IsAscending group_order s.groups
    → changed_by s (step_changes_by s m ms) ≡ with_figures (moved s ms) (events_of m ms)
changes_made s m ms a =
    changed_by_append s (changes_of ms) (growth (moved s ms) (events_of m ms))
    ∙ ap (λ t. changed_by t (growth (moved s ms) (events_of m ms))) (moved_by_changes s ms)
    ∙ all_grown (events_of m ms) (moved s ms) (ascending_moved s ms a)

pub step_makes_its_changes : StepMakesItsChanges
unfolding step step_changes
step_makes_its_changes s moment command h =
    let m : ℕ = executed_moment s moment in
    let ms : List Move = step_moves s m (serve s (next_turn s moment) command) in
    ap (λ t. with_last t (next_stamp s) m (s.last_event + length (numbered s.last_event (events_of m ms))))
    (changes_made s m ms (keeps_read s h).rules.orders.groups)
    ∙ ap (λ n. with_last (with_figures (moved s ms) (events_of m ms)) (next_stamp s) m (s.last_event + n)) (length-numbered s.last_event (events_of m ms))

-- a step that reports nothing, where no offer is left

-- it makes its service's moves alone
alone : (s : Rows) (m : ℕ) (v : Served) (ms : List Move) → moves_of v ≡ ms → offer_of (moved s ms) ≡ None → step_moves s m v ≡ ms
unfolding distribution
alone s m v ms e h = rw (e, no_offers (length (queued_in_all (moved s ms))) (moved s ms) m h) (append-nil ms)

unreported : (s : Rows) (k m : ℕ) (ms : List Move) → events_of m ms ≡ [] → counted s (turn_at m k) ms ≡ with_last (moved s ms) k m s.last_event
unfolding with_last
unreported s k m ms e = rw e (rw (figures_none (moved s ms), add-zero) refl)

pub quiet_step : (s : Rows) (moment : ℕ) (command : Command) (ms : List Move) → moves_of (serve s (next_turn s moment) command) ≡ ms
    → events_of (executed_moment s moment) ms ≡ [] → offer_of (moved s ms) ≡ None
    → ((step s moment command).events ≡ []) × ((step s moment command).rows ≡ with_last (moved s ms) (next_stamp s) (executed_moment s moment) s.last_event)
unfolding step
quiet_step s moment command ms e none h =
    let m : ℕ = executed_moment s moment in
    let all : step_moves s m (serve s (next_turn s moment) command) ≡ ms = alone s m (serve s (next_turn s moment) command) ms e h in (
      ap (λ (ns : List Move). numbered s.last_event (events_of m ns)) all ∙ ap (numbered s.last_event) none,
      ap (counted s (next_turn s moment)) all ∙ unreported s (next_stamp s) m ms none,
    )

-- a refused request

refused_moves : (v : Served) (r : Refusal) → outcome_of v ≡ outcome.Refused r → moves_of v ≡ []
refused_moves (Err x) r e = refl
refused_moves (Ok done) r e = absurd cc

-- for a state with no offer left
pub refused : (s : Rows) (moment : ℕ) (command : Command) (r : Refusal) → offer_of s ≡ None → (step s moment command).outcome ≡ outcome.Refused r
    → ChangesNothing s moment command
unfolding step
refused s moment command r h e =
    let q = quiet_step s moment command [] (refused_moves (serve s (next_turn s moment) command) r e) refl h in record { events = q.0; rows = q.1 }
