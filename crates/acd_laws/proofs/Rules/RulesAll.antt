-- Rows that break no rule break none after a step; all laws together.
use Rattle.std.proofs.Common.{◌≡◌, ℕ, ◌+◌, ◌*◌, ◌^◌, ◌<◌, ◌≤◌, inl, inr, true, false, cond, List, [], ◌∷◌, Option, Some, None, refl, ◌∙◌, ap, subst, arith, length, map, sym}
use Rattle.std.specs.Prelude.{◌==◌}
use Rattle.std.proofs.lemmas.Bool.{and_parts, eqb-true, false_from_ne_true}
use Rattle.acd_lemmas.proofs.Words.{Rows, Limits, GroupRecord, Figures, Command, Event, Report, count, total, Among, Every, is_alerting, is_queued, is_group, has, empty_rows, with_last}
use Rattle.acd_lemmas.proofs.RuleFacts.{Rules, GroupColumn, StandsAt, ConnectionRule, IsPlace, ConnectionTimed, at_place, Timed, OnePlace, MonitorRule, IsCountedUpTo, AddsUp, KeepsRules}
use Rattle.acd_lemmas.proofs.Lists.{one, every_among, every_from, count_zero}
use Rattle.std.proofs.lemmas.Nat.{mul-le}
use Rattle.std.proofs.Math.Nat.{add-mul}
use Rattle.acd_terms.specs.declared.event.Report.TheVariants as report
use Rattle.acd_terms.specs.Limits.{limits_fit}
use Rattle.acd_model.specs.Offers.{HasNoOffer}
use Rattle.acd_model.specs.Figures.{is_answer, waited_there, figures_of, counting, with_figures}
use Rattle.acd_model.specs.Services.{no_figures}
use Rattle.acd_model.specs.Rules.Occupied.{waits_in, rings_from}
use Rattle.acd_model.specs.Rules.First.{BreaksNoRule}
use Rattle.acd_model.specs.Step.{step, next_turn}
use Rattle.acd_model.specs.Run.{TimedCommand, run}
use Rattle.acd_laws.specs.RuleLaws.{StepKeepsRules, RunKeepsRules, RulesBound, RulesLeaveRoom}
use Rattle.acd_laws.proofs.Watched.Order.{holding}
use Rattle.acd_laws.proofs.Watched.WatchedRuns.{follows_step, step_leaves_no_offer, step_keeps_watched, step_balances, run_is_watched, run_reports_no_more, run_is_balanced, run_leaves_no_offer}
use Rattle.acd_laws.proofs.Rules.StepEnds.{rules_first, ended, planned_ended, rules_step}
use Rattle.acd_laws.proofs.Rules.MoveOrder.{IsGroupAfter, WaitsUpTo, timed_more}
use Rattle.acd_terms.specs.Limits.{greatest_priority}
use Rattle.acd_laws.proofs.Rules.Rounds.{AllWait}
use Rattle.acd_laws.proofs.Rules.Numbers.{greatest}
use Rattle.acd_laws.proofs.Rules.BoundsStep.{After, Before, after_moves}
use Rattle.acd_laws.proofs.Rules.AllRuleTests.{keeps_read, requests_read, keeps_written, rules_are_kept}
use Rattle.acd_lemmas.proofs.States.{queued_is}
use Rattle.acd_laws.specs.AllLaws.{StepKeepsLaws, RunKeepsLaws}
use Rattle.acd_laws.proofs.Figures.FigureCounts.{step_keeps_figures, figures_kept}
use Rattle.acd_laws.proofs.Offers.OneOffer.{step_keeps_one_offer, run_has_one_offer}
use Rattle.acd_laws.proofs.Places.PlacedRuns.{step_names_no_later_call, run_names_no_later_call, run_is_placed, step_keeps_places}
use Rattle.std.proofs.lemmas.List.{length-map}
use Rattle.acd_terms.specs.declared.command.Turn.{Turn}

-- places

place_known : (k p : ℕ) (o : Option ℕ) → has o p ≡ true → IsPlace k o → p ≤ k
place_known k p None e h = absurd (cc (e))
place_known k p (Some q) e h = let a = eqb-true q p e in let b = h.1 in omega (arith, a, b)

-- the next stamp is nobody's place
no_place : (s : Rows) (m p : ℕ) → Timed s.last_stamp m s → s.last_stamp < p → count (at_place p) s.connections ≡ 0
no_place s m p t l = count_zero (at_place p) s.connections (λ x i. false_from_ne_true (at_place p x) (λ e.
    let h = every_among (ConnectionTimed s.last_stamp m) s.connections x t.connections i in
    let b = place_known s.last_stamp p x.place e h.place in absurd (omega (arith, b, l))))

places_after : (s t : Rows) (m k : ℕ) → k ≡ s.last_stamp + 1 → OnePlace s → Timed s.last_stamp m s
    → ((p : ℕ) → count (at_place p) t.connections ≤ one (k == p) + count (at_place p) s.connections) → OnePlace t
places_after s t m k e single t0 h p =
    let a = h p in
    (elim (k == p) as (λ b. (k == p) ≡ b → count (at_place p) t.connections ≤ one b + count (at_place p) s.connections → count (at_place p) t.connections ≤ 1) [
      | true ↦ λ q l. let same : k ≡ p = eqb-true k p q in let z = no_place s m p t0 (omega (arith, same, e)) in omega (arith, l, z)
      | false ↦ λ q l. let o = single p in omega (arith, l, o)
    ]) refl a

-- figures

waited_one : (g m : ℕ) (r : Report) → WaitsUpTo m (Some r) → waited_there g r ≤ one (is_answer g r) * m
waited_one g m (report.Established call station (Some w)) h =
    elim (w.group == g) as (λ b. cond b w.seconds 0 ≤ one b * m) [ true ↦ omega (arith, h) | false ↦ omega arith ]
waited_one g m (report.Established call station None) h = omega arith
waited_one g m _ h = omega arith

waited_fits : (g m : ℕ) (es : List Event) → AllWait m es
    → total (λ (e : Event). waited_there g e.report) es ≤ count (λ (e : Event). is_answer g e.report) es * m
waited_fits g m [] h = omega arith
waited_fits g m (e ∷ es) h =
    let a = waited_one g m e.report h.0 in
    let b = waited_fits g m es h.1 in
    let c = add-mul (one (is_answer g e.report)) (count (λ (x : Event). is_answer g x.report) es) m in
    omega (arith, a, b, c)

counted_up : (k m j n : ℕ) (g : GroupRecord) (es : List Event) → IsCountedUpTo j n g → k ≡ j + 1 → n ≤ m → (figures_of g.device es).entered ≤ 1
    → (figures_of g.device es).waited ≤ (figures_of g.device es).answered * m
    → IsCountedUpTo k m (counting es g)
counted_up k m j n g es h e l a b =
    let c = h.0 in let d = h.1 in
    let f = mul-le g.figures.answered n g.figures.answered m (omega arith) l in
    let q = add-mul g.figures.answered (figures_of g.device es).answered m in
    (omega (arith, c, a, e), omega (arith, d, b, f, q))

new_counted : (j n : ℕ) (f : Figures) → f ≡ no_figures → (f.entered ≤ j) × (f.waited ≤ f.answered * n)
new_counted j n f e = rw e (omega arith, omega arith)

-- a group that isn't planned holds none
none_held : (s : Rows) (d : ℕ) → Rules s → is_group s d ≡ false → holding s d ≡ 0
none_held s d r e =
    let a = count_zero (waits_in d) s.connections (λ x i. false_from_ne_true (waits_in d x) (λ q.
    let h = and_parts (x.device == d) (is_queued x.state) q in
    cc (
      e,
      subst (λ v. is_group s v ≡ true) (eqb-true x.device d h.0)
          (subst (StandsAt s x) (queued_is x.state h.1) (every_among (ConnectionRule s) s.connections x r.connections i).2),
    ))) in
    let b = count_zero (rings_from d) s.connections (λ x i. false_from_ne_true (rings_from d x) (λ q.
    let h = and_parts (has x.group d) (is_alerting x.state) q in
    cc (e, column x.group h.0 (every_among (ConnectionRule s) s.connections x r.connections i).1))) in
    omega (arith, a, b)
  where
    column : (o : Option ℕ) → has o d ≡ true → GroupColumn s o → is_group s d ≡ true
    column None q h = absurd (cc (q))
    column (Some g) q h = subst (λ v. is_group s v ≡ true) (eqb-true g d q) h

new_balanced : (n : ℕ) (f : Figures) → f ≡ no_figures → n ≡ 0 → f.entered ≡ n + f.answered + f.abandoned + f.moved
new_balanced n f e z = rw e (omega (arith, z))

-- what a group of the state after the moves held before the step
record WasKept (s : Rows) (g : GroupRecord) : Type 0 where
  counted : IsCountedUpTo s.last_stamp s.last_moment g
  balanced : g.figures.entered ≡ holding s g.device + g.figures.answered + g.figures.abandoned + g.figures.moved
  in_range : g.priority ≤ greatest_priority

kept_among : (s : Rows) (g : GroupRecord) → KeepsRules s → Among g s.groups → WasKept s g
kept_among s g h i = record {
  counted = every_among (IsCountedUpTo s.last_stamp s.last_moment) s.groups g h.figures i;
  balanced = every_among (AddsUp s) s.groups g h.balance i;
  in_range = every_among (λ (x : GroupRecord). x.priority ≤ greatest_priority) s.groups g h.priorities i;
}

was_kept : (s : Rows) (g : GroupRecord) → KeepsRules s → IsGroupAfter s g → WasKept s g
was_kept s g h (inl i) = kept_among s g h i
was_kept s g h (inr (inl n)) = record {
  counted = new_counted s.last_stamp s.last_moment g.figures n.0;
  balanced = new_balanced (holding s g.device) g.figures n.0 (none_held s g.device h.rules n.1);
  in_range = rw n.2 (omega arith);
}
was_kept s g h (inr (inr k)) =
    let w = kept_among s k.was h k.there in
    record {
      counted = subst (λ (f : Figures). (f.entered ≤ s.last_stamp) × (f.waited ≤ f.answered * s.last_moment)) (sym k.figures) w.counted;
      balanced = subst (λ (f : Figures). f.entered ≡ holding s g.device + f.answered + f.abandoned + f.moved) (sym k.figures)
          (subst (λ d. k.was.figures.entered ≡ holding s d + k.was.figures.answered + k.was.figures.abandoned + k.was.figures.moved) (sym k.device) w.balanced);
      in_range = k.in_range w.in_range;
    }

-- the end of a step sets figures and counters

every-map : {X : Type 0} (P : X → Type 0) (f : X → X) (xs : List X) → ((x : X) → Among x xs → P (f x)) → Every P (map f xs)
every-map P f [] h = tt
every-map P f (x ∷ xs) h = (h x (inl refl), every-map P f xs (λ z i. h z (inr i)))

keeps_ended : (s t : Rows) (es : List Event) (k m : ℕ) → KeepsRules s → k ≡ s.last_stamp + 1 → s.last_moment ≤ m → After s k m 21000 t es
    → ((g : ℕ) → holding t g + ((figures_of g es).answered + (figures_of g es).abandoned + (figures_of g es).moved) ≡ holding s g + (figures_of g es).entered)
    → Rules (ended t es k m (s.last_event + length es))
    → ((g : GroupRecord) → Among g (ended t es k m (s.last_event + length es)).groups → HasNoOffer (ended t es k m (s.last_event + length es)) g.device)
    → KeepsRules (ended t es k m (s.last_event + length es))
unfolding with_last with_figures figures_of
keeps_ended s t es k m h e l a b rules offers =
    let n : ℕ = s.last_event + length es in
    let kept : (g : GroupRecord) → Among g t.groups → WasKept s g = λ g i. was_kept s g h (a.groups g i) in
    let few = a.few in let le = h.last_event in let same = a.last_event in
    let calls = a.last_call in let lc = h.last_call in let monitors = a.last_monitor in let lm = h.last_monitor in
    let size = length-map t.groups (counting es) in let groups = a.sizes.groups in
    record {
      rules = rules;
      sizes = record {
        limits = a.sizes.limits;
        groups = omega (arith, size, groups);
        stations = a.sizes.stations;
        agents = a.sizes.agents;
        calls = a.sizes.calls;
        monitors = a.sizes.monitors;
      };
      last_call = omega (arith, calls, lc, e);
      last_monitor = omega (arith, monitors, lm, e);
      last_event = omega (arith, few, le, e);
      timed = record { agents = a.timed.agents; calls = a.timed.calls; connections = a.timed.connections };
      places = places_after s t s.last_moment k e h.places h.timed a.places;
      figures = every-map (IsCountedUpTo k m) (counting es) t.groups (λ g i.
          counted_up k m s.last_stamp s.last_moment g es (kept g i).counted e l (a.entries g.device) (waited_fits g.device m es a.waits));
      offers = offers;
      monitors = every_from (MonitorRule (ended t es k m n)) t.monitors (λ x i.
          let q = every_among (MonitorRule t) t.monitors x a.monitors i in let u = q.2 in
          (planned_ended t es k m n x.device ∙ q.0, q.1, omega (arith, u, same)));
      balance = every-map (AddsUp (ended t es k m n)) (counting es) t.groups (λ g i. let p = (kept g i).balanced in let c = b g.device in omega (arith, p, c));
      priorities = every-map (λ (g : GroupRecord). g.priority ≤ greatest_priority) (counting es) t.groups (λ g i. (kept g i).in_range);
    }

-- the rows after a step: its stamp is the next, and the limits stay
step_on : (s : Rows) (moment : ℕ) (c : Command) → KeepsRules s
    → KeepsRules (step s moment c).rows × ((step s moment c).rows.last_stamp ≡ s.last_stamp + 1) × ((step s moment c).rows.limits ≡ s.limits)
unfolding step with_last with_figures
step_on s moment c h =
    let turn : Turn = next_turn s moment in
    let before : Before s turn.stamp turn.moment = record {
      rules = h.rules;
      timed = timed_more s.last_stamp turn.stamp s.last_moment turn.moment s (omega arith) (omega arith) h.timed;
      stamp = omega arith;
      sizes = h.sizes;
      monitors = h.monitors;
    } in
    let a = after_moves s turn.stamp turn.moment c before in (
      keeps_ended s _ _ turn.stamp turn.moment h refl (omega arith) a (follows_step s turn s.last_stamp c h.rules (omega arith)).balances
          (rules_step s moment c h.rules) (step_leaves_no_offer s moment c h.rules),
      refl,
      a.limits,
    )

pub step_keeps_rules : StepKeepsRules
step_keeps_rules s moment c e l =
    let q = step_on s moment c (keeps_read s e) in
    let a = q.1 in let b = ap (λ (w : Limits). w.requests) q.2 in
    keeps_written (step s moment c).rows q.0 (omega (arith, a, b, l))

-- runs

keeps_first : (limits : Limits) → limits_fit limits ≡ true → KeepsRules (empty_rows limits)
keeps_first limits e = record {
  rules = rules_first limits;
  sizes = record { limits = e; groups = omega arith; stations = omega arith; agents = omega arith; calls = omega arith; monitors = omega arith };
  last_call = omega arith;
  last_monitor = omega arith;
  timed = record { agents = tt; calls = tt; connections = tt };
  places = λ p. omega arith;
  figures = tt;
  last_event = omega arith;
  offers = λ g i. absurd i;
  monitors = tt;
  balance = tt;
  priorities = tt;
}

run_on : (commands : List TimedCommand) (s : Rows) → BreaksNoRule s → s.last_stamp + length commands ≤ s.limits.requests → BreaksNoRule (run s commands).rows
unfolding run
run_on [] s e l = e
run_on (q ∷ more) s e l =
    let h = step_on s q.moment q.command (keeps_read s e) in
    let a = h.1 in let b = ap (λ (w : Limits). w.requests) h.2 in
    run_on more (step s q.moment q.command).rows (step_keeps_rules s q.moment q.command e (omega (arith, l))) (omega (arith, a, b, l))

pub run_keeps_rules : RunKeepsRules
run_keeps_rules limits commands e l =
    run_on commands (empty_rows limits) (keeps_written (empty_rows limits) (keeps_first limits e) (omega arith)) (omega (arith, l))

-- bounds

pub rules_bound : RulesBound
rules_bound s e =
    let h = keeps_read s e in
    let g = greatest s h.sizes.limits in
    record {
      requests = g.requests;
      last_stamp = requests_read s e;
      last_call = h.last_call;
      last_monitor = h.last_monitor;
      last_event = h.last_event;
      figures = λ x i. let a = every_among (IsCountedUpTo s.last_stamp s.last_moment) s.groups x h.figures i in
          let b = every_among (AddsUp s) s.groups x h.balance i in
          record { entered = a.0; answered = omega (arith, b); abandoned = omega (arith, b); moved = omega (arith, b); waited = a.1 };
    }

pub rules_leave_room : RulesLeaveRoom
rules_leave_room s g e l i =
    let b = rules_bound s e in
    let f = b.figures g i in
    let r = b.requests in let t = b.last_stamp in
    let n = f.entered in let a = f.answered in let c = f.abandoned in let d = f.moved in let w = f.waited in
    let q = mul-le g.figures.answered s.last_moment 1000000000 (2 ^ 32) (omega (arith, n, a, r, t)) (omega (arith, l)) in
    record {
      entered = omega (arith, n, r, t);
      answered = omega (arith, n, a, r, t);
      abandoned = omega (arith, n, c, r, t);
      moved = omega (arith, n, d, r, t);
      waited = omega (arith, w, q);
    }

-- all laws together

pub step_keeps_laws : StepKeepsLaws
step_keeps_laws s events moment command left h =
    let r : Rules s = rules_are_kept s h.rules in
    let w = step_keeps_watched s events moment command r h.watched h.no_more in
    record {
      rules = step_keeps_rules s moment command h.rules left;
      placed = step_keeps_places s events moment command r h.names h.placed;
      names = step_names_no_later_call s events moment command r h.names;
      one_offer = step_keeps_one_offer s moment command r;
      no_offer = step_leaves_no_offer s moment command r;
      balanced = step_balances s events moment command r h.balanced;
      figures = step_keeps_figures s events moment command r h.figures;
      watched = w.0;
      no_more = w.1;
    }

pub run_keeps_laws : RunKeepsLaws
run_keeps_laws limits commands fit few = record {
  rules = run_keeps_rules limits commands fit few;
  placed = run_is_placed limits commands;
  names = run_names_no_later_call limits commands;
  one_offer = run_has_one_offer limits commands;
  no_offer = run_leaves_no_offer limits commands;
  balanced = run_is_balanced limits commands;
  figures = figures_kept limits commands;
  watched = run_is_watched limits commands;
  no_more = run_reports_no_more limits commands;
}
