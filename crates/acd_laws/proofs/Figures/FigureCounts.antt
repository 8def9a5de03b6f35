-- The figures that a group keeps are those counted from all events: by each effect, step and run.
use Rattle.std.proofs.Common.{◌≡◌, ℕ, ◌⊎◌, inl, inr, true, false, true≢false, ◌||◌, cond, List, [], ◌∷◌, Option, Some, None, refl, subst, ◌+◌, ◌++◌, sym, ◌∙◌, ap, length, append-nil, eq-eqb}
use Rattle.std.specs.Prelude.{is_some, option_map, ◌==◌}
use Rattle.std.proofs.lemmas.Bool.{or_parts, eqb-true, false_from_ne_true}
use Rattle.acd_lemmas.proofs.Words.{Rows, Limits, GroupRecord, AgentRecord, ConnectionRecord, AgentState, Cause, Command, Event, Move, Report, find_by, put_by, Among, Every, state_wanted, is_alerting, is_queued, at_group, group_of, is_group, is_station, is_planned, has, other_of, is_calling, empty_rows, with_group, with_last, silent, reported, changed, moved, event_at, with_event, events_of, is_group_or_none}
use Rattle.acd_terms.specs.declared.state.AgentState.TheVariants.{Null, Ready}
use Rattle.acd_terms.specs.declared.event.Report.TheVariants.{Established}
use Rattle.acd_model.specs.CallMoves.{arrive, waited_by}
use Rattle.acd_model.specs.AgentMoves.{state_report}
use Rattle.acd_model.specs.Release.{ending_of}
use Rattle.acd_model.specs.Services.{no_figures, new_group, waiting_group, first_group, clearing}
use Rattle.acd_model.specs.declared.moves.Ending.TheVariants.{NoAnswer}
use Rattle.acd_model.specs.declared.moves.Change.TheVariants.{PutGroup, PutAgent}
use Rattle.acd_lemmas.proofs.RuleFacts.{Rules, GroupColumn, ConnectionRule}
use Rattle.acd_laws.proofs.MoveKinds.{LeavesGroups, left_groups, AgentMove, stays, remains, reports, Anyone, goes_from, released_by, occupied_by, Arrival, queues, alerts, fails, arrival_of}
use Rattle.acd_lemmas.proofs.Lists.{every_among, among_put, mapped_among, some_is}
use Rattle.acd_lemmas.proofs.State.{connection_among, other_among, group_found_put, group_counted_found, is_some_mapped, group_among, group_key, group_put_found}
use Rattle.acd_laws.proofs.Figures.EventCounts.{group_counted, quiet, figures_joined, figures_numbered, figures_skipped, no_events, nothing_sum}
use Rattle.acd_laws.proofs.Effects.{Party, Round, offers, returns, rests, Effect, nothing, adds_group, adds_station, adds_agent, watches, unwatches, arrives, makes, goes_out, answers, holds, retrieves, clears, deflects, transfers, logs_on, rejects, renames, waits, goes, ChangesGroup, refuses, puts, given_device, given_figures}
use Rattle.acd_model.specs.Figures.{figures_of, sum_of_figures, counting, with_figures}
use Rattle.acd_model.specs.Services.Serve.{serve}
use Rattle.acd_model.specs.Run.{TimedCommand, run}
use Rattle.acd_model.specs.Step.{numbered, step_moves, step, next_turn}
use Rattle.acd_laws.specs.FigureLaws.{KeepsFigures, RunKeepsFigures, regroups, group_given, regrouped}
use Rattle.acd_laws.proofs.Rules.StepEnds.{rules_step, rules_first, kept_by_run, KeptByRules}
use Rattle.acd_laws.proofs.Offers.DistributionSteps.{Kept}
use Rattle.acd_laws.proofs.Rules.RulesOfSteps.{by_effects, by_parts}
use Rattle.acd_terms.specs.declared.command.Turn.{Turn}

-- there is no group, or it is one of these
abbrev pub IsAmongGroups : List GroupRecord → Option ℕ → Type 0
IsAmongGroups groups None = Unit {0}
IsAmongGroups groups (Some g) = is_some (find_by (at_group g) groups) ≡ true

abbrev pub ReportsKnown : List GroupRecord → Option Report → Type 0
ReportsKnown groups None = Unit {0}
ReportsKnown groups (Some r) = IsAmongGroups groups (group_counted r)

-- the move puts no group, and reports of these alone
abbrev pub Fits : List GroupRecord → Move → Type 0
Fits groups move = LeavesGroups move.change × ReportsKnown groups move.report

abbrev pub AllFit : List GroupRecord → List Move → Type 0
AllFit groups moves = Every (Fits groups) moves

known_group : (s : Rows) (d : ℕ) → is_group s d ≡ true → IsAmongGroups s.groups (Some d)
unfolding group_of
known_group s d e = e

-- the group of each connection is planned
known_column : (s : Rows) (o : Option ℕ) → GroupColumn s o → IsAmongGroups s.groups o
known_column s None h = tt
known_column s (Some g) h = known_group s g h

known : (s : Rows) (x : ConnectionRecord) → Rules s → Among x s.connections → IsAmongGroups s.groups x.group
known s x r a = known_column s x.group (every_among (ConnectionRule s) s.connections x r.connections a).1

party_known : (s : Rows) (p : Party s) → Rules s → IsAmongGroups s.groups p.x.group
party_known s p r = known s p.x r (connection_among s p.x.call p.x.device p.x p.found)

fits_state : (gs : List GroupRecord) (a : AgentRecord) (state : AgentState) (agent station : ℕ)
    → Fits gs (reported (PutAgent a) (state_report state agent station))
fits_state gs a Null agent station = (tt, tt)
fits_state gs a _ agent station = (tt, tt)

fits_agent : {K : AgentRecord → Type 0} {turn : Turn} {x : Move} (gs : List GroupRecord) → AgentMove K turn x → Fits gs x
fits_agent gs stays = (tt, tt)
fits_agent gs (remains _ _ _ _) = (tt, tt)
fits_agent gs (reports a b d _ _) = fits_state gs b b.state b.agent d

fits_arrival : (s : Rows) {turn : Turn} {call to : ℕ} {why : Cause} {x : Move} → Arrival s turn call to why x → Fits s.groups x
fits_arrival s (queues e) = (tt, known_group s _ e)
fits_arrival s alerts = (tt, tt)
fits_arrival s fails = (tt, tt)

fits_arrive : (s : Rows) (turn : Turn) (call to : ℕ) (why : Cause) → Fits s.groups (arrive s turn call to why)
fits_arrive s turn call to why = fits_arrival s (arrival_of s turn call to why)

fits_answered : (gs : List GroupRecord) (m : ℕ) (x : ConnectionRecord) (o : Option ℕ) → IsAmongGroups gs o
    → IsAmongGroups gs (group_counted (Established x.call x.device (waited_by m x.queued o)))
fits_answered gs m x None w = tt
fits_answered gs m x (Some g) w = w

-- the group of a call that is cleared is that of one of its connections

among_waiting : (gs : List GroupRecord) (x : ConnectionRecord) → IsAmongGroups gs x.group → IsAmongGroups gs (waiting_group x)
among_waiting gs x h = elim (is_queued x.state || is_alerting x.state) as (λ b. IsAmongGroups gs (cond b x.group None)) [ true ↦ h | false ↦ tt ]

among_first : (gs : List GroupRecord) (o p : Option ℕ) → IsAmongGroups gs o → IsAmongGroups gs p → IsAmongGroups gs (first_group o p)
among_first gs None p h g = g
among_first gs (Some a) p h g = h

fits_clearing : (s : Rows) (turn : Turn) (x : ConnectionRecord) (o : Option ConnectionRecord) → IsAmongGroups s.groups x.group
    → ((y : ConnectionRecord) → o ≡ Some y → IsAmongGroups s.groups y.group) → AllFit s.groups (clearing s turn x o)
fits_clearing s turn x None h g =
    ((tt, tt), ((tt, tt), ((tt, among_waiting s.groups x h), (fits_agent s.groups (released_by s turn x (ending_of x)), ((tt, tt), tt)))))
fits_clearing s turn x (Some y) h g =
    let first = among_first s.groups (waiting_group x) (waiting_group y) (among_waiting s.groups x h) (among_waiting s.groups y (g y refl)) in (
      (tt, tt),
      ((tt, tt), ((tt, first), (fits_agent s.groups (released_by s turn x (ending_of x)), (fits_agent s.groups (released_by s turn y (ending_of y)), tt)))),
    )

-- each round

pub fits_round : (s : Rows) (turn : Turn) (ms : List Move) → Round s turn ms → Rules s → AllFit s.groups ms
fits_round s turn _ (offers o x a d h) r = ((tt, known s x r h.there), ((tt, tt), tt))
fits_round s turn _ (returns x g there _ e) r =
    let in_group = known s x r (connection_among s x.call x.device x there) in
    ((tt, in_group), ((tt, subst (IsAmongGroups s.groups) e in_group), (fits_agent s.groups (released_by s turn x NoAnswer), tt)))
fits_round s turn _ (rests a _ _) r = (fits_agent s.groups (goes_from Anyone turn a a.station Ready tt), tt)

-- each effect: it fits, or adds a group

pub record Adds (s : Rows) (ms : List Move) : Type 0 where
  pub group : GroupRecord
  pub alone : ms ≡ silent (PutGroup group) ∷ []
  pub unused : is_group s group.device ≡ false
  pub new : group.figures ≡ no_figures

pub fits_effect : (s : Rows) (turn : Turn) (ms : List Move) → Effect s turn ms → Rules s → AllFit s.groups ms ⊎ Adds s ms
fits_effect s turn _ nothing r = inl tt
fits_effect s turn _ (adds_group device name ring wrap free _) r =
    inr (record {
      group = new_group device name ring wrap;
      alone = refl;
      unused = (or_parts (is_group s device) (is_station s device) (or_parts (is_planned s device) (is_calling s device) free).0).0;
      new = refl;
    })
fits_effect s turn _ (adds_station _ _ _) r = inl ((tt, tt), tt)
fits_effect s turn _ (adds_agent _ _ _ _) r = inl ((tt, tt), tt)
fits_effect s turn _ (watches _ _ _) r = inl ((tt, tt), tt)
fits_effect s turn _ (unwatches _) r = inl ((tt, tt), tt)
fits_effect s turn _ (arrives caller called _ _ _) r = inl ((tt, tt), ((tt, tt), (fits_arrive s turn _ called _, tt)))
fits_effect s turn _ (makes _ _ _ _ _ _ _ _) r = inl ((tt, tt), ((tt, tt), tt))
fits_effect s turn _ (goes_out p _) r = inl ((tt, tt), (fits_arrive s turn _ p.about.called _, tt))
fits_effect s turn _ (answers p _) r =
    inl ((tt, fits_answered s.groups turn.moment p.x p.x.group (party_known s p r)), (fits_agent s.groups (occupied_by s turn p.x), tt))
fits_effect s turn _ (holds _ _ _) r = inl ((tt, tt), tt)
fits_effect s turn _ (retrieves _ _ _) r = inl ((tt, tt), tt)
fits_effect s turn _ (clears p) r = inl (fits_clearing s turn p.x (other_of s p.x) (party_known s p r) (λ y e. known s y r (other_among s p.x y e)))
fits_effect s turn _ (deflects p to _ _) r =
    inl ((tt, party_known s p r), (fits_arrive s turn _ to _, (fits_agent s.groups (released_by s turn p.x (ending_of p.x)), tt)))
fits_effect s turn _ (transfers p to _ _ _) r = inl ((tt, tt), (fits_arrive s turn _ to _, (fits_agent s.groups (released_by s turn p.x (ending_of p.x)), tt)))
fits_effect s turn _ (logs_on _ _ _ _ _ _ _ _) r = inl ((tt, tt), tt)
fits_effect s turn _ (rejects p g alerting group) r = inl (fits_round s turn _ (returns p.x g p.found alerting group) r)
fits_effect s turn _ (renames _ _ _) r = inl ((tt, tt), tt)
fits_effect s turn _ (waits _ _ _ _ _) r = inl ((tt, tt), tt)
fits_effect s turn _ (goes a wanted _ _ _) r = inl (fits_agent s.groups (goes_from Anyone turn a a.station (state_wanted wanted) tt), tt)

-- moves that fit leave the groups, and what they report counts for these alone

groups_moved : (gs : List GroupRecord) (s : Rows) (ms : List Move) → AllFit gs ms → (moved s ms).groups ≡ s.groups
groups_moved gs s [] h = refl
groups_moved gs s (m ∷ ms) h = groups_moved gs (changed s m.change) ms h.1 ∙ left_groups s m.change h.0.0

not_that : (gs : List GroupRecord) (o : Option ℕ) (d : ℕ) → IsAmongGroups gs o → is_some (find_by (at_group d) gs) ≡ false → has o d ≡ false
not_that gs None d h e = refl
not_that gs (Some g) d h e = false_from_ne_true (g == d) (λ q. cc (e, h, ap (λ v. is_some (find_by (at_group v) gs)) (eqb-true g d q)))

quiet_event : (gs : List GroupRecord) (m d : ℕ) (o : Option Report) (es : List Event) → ReportsKnown gs o → is_some (find_by (at_group d) gs) ≡ false
    → figures_of d (with_event m o es) ≡ figures_of d es
quiet_event gs m d None es h e = refl
quiet_event gs m d (Some r) es h e = figures_skipped d (event_at m r) es (quiet d r (not_that gs (group_counted r) d h e))

quiet_moves : (gs : List GroupRecord) (m d : ℕ) (ms : List Move) → AllFit gs ms → is_some (find_by (at_group d) gs) ≡ false
    → figures_of d (events_of m ms) ≡ no_figures
quiet_moves gs m d [] h e = no_events d
quiet_moves gs m d (x ∷ ms) h e = quiet_event gs m d x.report (events_of m ms) h.0.1 e ∙ quiet_moves gs m d ms h.1 e

-- within a step: the groups have the figures of the events before it, and the counts of the step for planned groups
-- alone

record Uncounted (old : List Event) (gs : List GroupRecord) (es : List Event) : Type 0 where
  groups : (g : GroupRecord) → Among g gs → g.figures ≡ figures_of g.device old
  others : (d : ℕ) → is_some (find_by (at_group d) gs) ≡ false → figures_of d old ≡ no_figures
  quiet : (d : ℕ) → is_some (find_by (at_group d) gs) ≡ false → figures_of d es ≡ no_figures

some_stays : (d : ℕ) (g : GroupRecord) (gs : List GroupRecord) → is_some (find_by (at_group d) gs) ≡ true
    → is_some (find_by (at_group d) (put_by (at_group g.device) gs g)) ≡ true
some_stays d g gs e =
    ap is_some (group_found_put d g gs)
    ∙ (elim (g.device == d) as (λ b. is_some (cond b (Some g) (find_by (at_group d) gs)) ≡ true) [ true ↦ refl | false ↦ e ])

not_before : (d : ℕ) (g : GroupRecord) (gs : List GroupRecord) → is_some (find_by (at_group d) (put_by (at_group g.device) gs g)) ≡ false
    → is_some (find_by (at_group d) gs) ≡ false
not_before d g gs e = false_from_ne_true (is_some (find_by (at_group d) gs)) (λ q. cc (e, some_stays d g gs q))

uncounted_added : (old : List Event) (gs : List GroupRecord) (es : List Event) (g : GroupRecord) → is_some (find_by (at_group g.device) gs) ≡ false
    → g.figures ≡ no_figures → Uncounted old gs es → Uncounted old (put_by (at_group g.device) gs g) es
uncounted_added old gs es g unused new k = record {
  groups = λ z a. elim (among_put (at_group g.device) g gs z a) [
    | inl e ↦ subst (λ (y : GroupRecord). y.figures ≡ figures_of y.device old) (sym e) (new ∙ sym (k.others g.device unused))
    | inr b ↦ k.groups z b
  ];
  others = λ d e. k.others d (not_before d g gs e);
  quiet = λ d e. k.quiet d (not_before d g gs e);
}

-- and where one is put in place of another with the same figures
uncounted_regrouped : (old : List Event) (gs : List GroupRecord) (es : List Event) (was g : GroupRecord) → Among was gs → g.device ≡ was.device
    → g.figures ≡ was.figures → Uncounted old gs es → Uncounted old (put_by (at_group g.device) gs g) es
uncounted_regrouped old gs es was g there device figures k = record {
  groups = λ z a. elim (among_put (at_group g.device) g gs z a) [
    | inl e ↦ subst (λ (y : GroupRecord). y.figures ≡ figures_of y.device old) (sym e) (figures ∙ k.groups was there ∙ ap (λ d. figures_of d old) (sym device))
    | inr b ↦ k.groups z b
  ];
  others = λ d e. k.others d (not_before d g gs e);
  quiet = λ d e. k.quiet d (not_before d g gs e);
}

abbrev UncountedIn : List Event → Rows → List Event → Type 0
UncountedIn old t es = Uncounted old t.groups es

uncounted_moved : (old : List Event) (m : ℕ) (s : Rows) (es : List Event) (ms : List Move) → AllFit s.groups ms → UncountedIn old s es
    → Kept (UncountedIn old) m s es ms
uncounted_moved old m s es ms fit k =
    subst (λ gs. Uncounted old gs (es ++ events_of m ms)) (sym (groups_moved s.groups s ms fit)) (record {
      groups = k.groups;
      others = k.others;
      quiet = λ d e. figures_joined d es (events_of m ms) ∙ nothing_sum _ _ (k.quiet d e) ∙ quiet_moves s.groups m d ms fit e;
    })

uncounted_with : (old : List Event) (m : ℕ) (s : Rows) (es : List Event) (g : GroupRecord) → is_group s g.device ≡ false → g.figures ≡ no_figures
    → UncountedIn old s es → Kept (UncountedIn old) m s es (silent (PutGroup g) ∷ [])
unfolding with_group group_of
uncounted_with old m s es g unused new k =
    subst (Uncounted old (put_by (at_group g.device) s.groups g)) (sym (append-nil es)) (uncounted_added old s.groups es g unused new k)

uncounted_effect : (old : List Event) (turn : Turn) (s : Rows) (es : List Event) (ms : List Move) → Effect s turn ms → Rules s → UncountedIn old s es
    → Kept (UncountedIn old) turn.moment s es ms
uncounted_effect old turn s es ms d r h =
    elim (fits_effect s turn ms d r) [
      | inl f ↦ uncounted_moved old turn.moment s es ms f h
      | inr a ↦ subst (Kept (UncountedIn old) turn.moment s es) (sym a.alone) (uncounted_with old turn.moment s es a.group a.unused a.new h)
    ]

uncounted_regroups : (old : List Event) (m : ℕ) (s : Rows) (es : List Event) (c : Command) (ms : List Move) → ChangesGroup s c ms → UncountedIn old s es
    → Kept (UncountedIn old) m s es ms
unfolding with_group
uncounted_regroups old m s es c _ (refuses device it none) k = subst (UncountedIn old s) (sym (append-nil es)) k
uncounted_regroups old m s es c _ (puts device g it found) k =
    let h : GroupRecord = group_given c g in
    subst (Uncounted old (put_by (at_group h.device) s.groups h)) (sym (append-nil es))
    (uncounted_regrouped old s.groups es g h (group_among s device g found) (given_device c g) (given_figures c g) k)

-- the end of a step

over_lists : (s : Rows) (events : List Event) → KeepsFigures s events → UncountedIn events s []
unfolding group_of
over_lists s events k = record { groups = k.groups; others = k.others; quiet = λ d e. no_events d }

planned_or_none : (s : Rows) (o : Option ℕ) → GroupColumn s o → is_group_or_none s o ≡ true
planned_or_none s None h = refl
planned_or_none s (Some g) h = h

keeps_ended : (t : Rows) (old es : List Event) (n a b c : ℕ) → Rules (with_last (with_figures t es) a b c) → UncountedIn old t es
    → KeepsFigures (with_last (with_figures t es) a b c) (old ++ numbered n es)
unfolding with_last with_figures group_of
keeps_ended t old es n a b c r k = record {
  groups = λ z i. let f = mapped_among (counting es) t.groups z i in
      subst (λ (y : GroupRecord). y.figures ≡ figures_of y.device (old ++ numbered n es)) (sym f.1.1) (both f.0 (k.groups f.0 f.1.0));
  others =
      λ d e. let gone : is_some (find_by (at_group d) t.groups) ≡ false =
      sym (ap is_some (group_counted_found d es t.groups) ∙ is_some_mapped (counting es) (find_by (at_group d) t.groups)) ∙ e in
      figures_joined d old (numbered n es) ∙ nothing_sum _ _ (k.others d gone) ∙ figures_numbered d n es ∙ k.quiet d gone;
  offered_by = λ x i. planned_or_none v x.group (every_among (ConnectionRule v) t.connections x r.connections i).1;
}
  where
    v : Rows
    v = with_last (with_figures t es) a b c

    both : (g : GroupRecord) → g.figures ≡ figures_of g.device old
        → sum_of_figures g.figures (figures_of g.device es) ≡ figures_of g.device (old ++ numbered n es)
    both g e =
        ap (λ f. sum_of_figures f (figures_of g.device es)) e ∙ ap (λ f. sum_of_figures (figures_of g.device old) f) (sym (figures_numbered g.device n es))
        ∙ sym (figures_joined g.device old (numbered n es))

pub step_keeps_figures : KeptByRules KeepsFigures
unfolding step
step_keeps_figures s events moment command r k =
    let turn : Turn = next_turn s moment in
    let m : ℕ = turn.moment in
    let ms : List Move = step_moves s m (serve s turn command) in
    keeps_ended (moved s ms) events (events_of m ms) s.last_event turn.stamp m (s.last_event + length (events_of m ms)) (rules_step s moment command r)
    (by_effects (UncountedIn events) turn command (λ _ t es ns d rt h. uncounted_effect events turn t es ns d rt h)
    (λ t es ns d rt h. uncounted_regroups events m t es command ns d h)
    (λ t es ns d rt h. uncounted_moved events m t es ns (fits_round t turn ns d rt) h) s [] r (over_lists s events k))

-- runs

record Counted (s : Rows) (events : List Event) : Type 0 where
  rules : Rules s
  figures : KeepsFigures s events

keeps_at_first : (limits : Limits) → KeepsFigures (empty_rows limits) []
keeps_at_first limits = record { groups = λ g a. absurd a; others = λ d e. no_events d; offered_by = λ x a. absurd a }

pub figures_kept : (limits : Limits) (commands : List TimedCommand)
    → KeepsFigures (run (empty_rows limits) commands).rows (run (empty_rows limits) commands).events
figures_kept limits commands =
    (kept_by_run Counted
    (λ s events moment command h. record {
      rules = rules_step s moment command h.rules;
      figures = step_keeps_figures s events moment command h.rules h.figures;
    })
    limits (record { rules = rules_first limits; figures = keeps_at_first limits }) commands).figures

pub run_keeps_figures : RunKeepsFigures
run_keeps_figures limits commands g a = (figures_kept limits commands).groups g a

-- of a planned group a step changes the figures, setGroupPriority the priority, and changeGroup name, ring and wrap

found_ended : (t : Rows) (es : List Event) (n a b c d : ℕ) (g : GroupRecord) → group_of t d ≡ Some g
    → group_of (with_last (with_figures t es) a b c) d ≡ Some (counting (numbered n es) g)
unfolding with_last with_figures group_of
found_ended t es n a b c d g e =
    group_counted_found d es t.groups
    ∙ ap (option_map (counting es)) e
    ∙ ap (λ f. let h : GroupRecord = record g { figures = sum_of_figures g.figures f } in Some h) (sym (figures_numbered g.device n es))

found_added : (s : Rows) (h g : GroupRecord) (d : ℕ) → is_group s h.device ≡ false → group_of s d ≡ Some g → group_of (with_group s h) d ≡ Some g
unfolding with_group group_of
found_added s h g d unused e =
    group_found_put d h s.groups ∙
    (elim (h.device == d) as (λ b. (h.device == d) ≡ b → cond b (Some h) (find_by (at_group d) s.groups) ≡ Some g) [
      | true ↦ λ q. absurd (cc (unused, ap (λ v. is_some (find_by (at_group v) s.groups)) (eqb-true h.device d q)))
      | false ↦ λ q. e
    ]) refl

found_moved : (s : Rows) (ms : List Move) (d : ℕ) (g : GroupRecord) → AllFit s.groups ms → group_of s d ≡ Some g → group_of (moved s ms) d ≡ Some g
unfolding group_of
found_moved s ms d g fit e = ap (find_by (at_group d)) (groups_moved s.groups s ms fit) ∙ e

-- a command that changes no group's record, or another's, leaves this one
not_regrouped : (c : Command) (g : GroupRecord) → has (regroups c) g.device ≡ false → regrouped c g ≡ g
not_regrouped c g e = rw e refl

-- and else it is put, as the one that was there
found_regroups : (s : Rows) (c : Command) (ms : List Move) (d : ℕ) (g : GroupRecord) → ChangesGroup s c ms → group_of s d ≡ Some g
    → group_of (moved s ms) d ≡ Some (regrouped c g)
found_regroups s c _ d g (refuses device it none) e =
    e
    ∙ ap Some (sym (not_regrouped c g
    (rw it (false_from_ne_true (device == g.device) (λ q. cc (none, e, ap (group_of s) (eqb-true device g.device q ∙ group_key s d g e)))))))
found_regroups s c _ d g (puts device was it found) e =
    let h : GroupRecord = group_given c was in
    let at : h.device ≡ device = given_device c was ∙ group_key s device was found in
    let key : g.device ≡ d = group_key s d g e in
    group_put_found s h d ∙
    (elim (h.device == d) as (λ b. (h.device == d) ≡ b → cond b (Some h) (group_of s d) ≡ Some (regrouped c g)) [
      | true ↦ λ q.
          let here : d ≡ device = sym (eqb-true h.device d q) ∙ at in
          let same : was ≡ g = some_is was g (sym found ∙ ap (group_of s) (sym here) ∙ e) in
          let same_number : (device == g.device) ≡ true = eq-eqb device g.device (sym here ∙ sym key) in
          rw (it, same_number) (ap (λ v. Some (group_given c v)) same)
      | false ↦ λ q. e
          ∙ ap Some (sym (not_regrouped c g
          (rw it (false_from_ne_true (device == g.device) (λ p. true≢false (sym (eq-eqb h.device d (at ∙ eqb-true device g.device p ∙ key)) ∙ q))))))
    ]) refl

pub step_adds_figures : (s : Rows) (moment : ℕ) (command : Command) (d : ℕ) (g : GroupRecord) → Rules s → group_of s d ≡ Some g
    → group_of (step s moment command).rows d ≡ Some (counting (step s moment command).events (regrouped command g))
unfolding step
step_adds_figures s moment command d g r e =
    let turn : Turn = next_turn s moment in
    let ms : List Move = step_moves s turn.moment (serve s turn command) in
    let left : regroups command ≡ None → (t : Rows) → group_of t d ≡ Some g → group_of t d ≡ Some (regrouped command g) =
    λ other t h. h ∙ ap Some (sym (not_regrouped command g (ap (λ o. has o g.device) other))) in
    found_ended (moved s ms) (events_of turn.moment ms) s.last_event turn.stamp turn.moment (s.last_event + length (events_of turn.moment ms)) d
    (regrouped command g)
    (by_parts (λ t es. group_of t d ≡ Some g) (λ t es. group_of t d ≡ Some (regrouped command g)) turn command
    (λ other t es ns effect rt h. left other (moved t ns) (elim (fits_effect t turn ns effect rt) [
      | inl f ↦ found_moved t ns d g f h
      | inr a ↦ subst (λ w. group_of (moved t w) d ≡ Some g) (sym a.alone) (found_added t a.group g d a.unused h)
    ])) (λ t es ns regroup rt h. found_regroups t command ns d g regroup h) (λ other t es h. left other t h)
    (λ t es ns round rt h. found_moved t ns d (regrouped command g) (fits_round t turn ns round rt) h) s [] r e)
