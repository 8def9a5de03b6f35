-- After a tick nothing is overdue by the rings and wraps of that tick: a tick ends what is, and what begins later begins later.
use Rattle.std.proofs.Common.{◌≡◌, ℕ, ◌+◌, ◌<◌, ◌≤◌, ◌⊎◌, inl, inr, Bool, true, false, not, ◌&&◌, cond, map, List, [], ◌∷◌, ◌++◌, Option, Some, None, refl, sym, ◌∙◌, ap, subst, arith}
use Rattle.std.specs.Prelude.{◌==◌, ◌||◌, option_map}
use Rattle.std.specs.List.{list_any}
use Rattle.std.proofs.lemmas.Bool.{and_right, cases_Bool, not-true, and_parts, eqb-true, false_from_ne_true}
use Rattle.std.proofs.lemmas.Bool.Decides.{nat_tests}
use Rattle.acd_terms.specs.Groups.{least_group, is_choice}
use Rattle.acd_terms.specs.declared.command.Turn.{Turn}
use Rattle.acd_terms.specs.declared.state.AgentState.TheVariants as A
use Rattle.acd_terms.specs.declared.command.Command.TheVariants.{Tick}
use Rattle.acd_lemmas.proofs.Words.{Rows, GroupRecord, AgentRecord, ConnectionRecord, AgentState, Cause, Change, Command, Ending, Event, Move, Among, Every, IsAscending, find_by, remove_by, at_group, at_agent, at_connection, is_working_after_call, is_alerting, state_wanted, agent_of, group_of, connection_of, other_of, empty_rows, with_group, with_station, with_agent, with_call, with_connection, with_monitor, without_call, without_connection, without_monitor, with_last, agent_order, connection_order, changed, moved, events_of}
use Rattle.acd_model.specs.declared.moves.Change.TheVariants.{Nothing, PutGroup, PutStation, PutAgent, PutCall, PutConnection, PutMonitor, RemoveCall, RemoveConnection, RemoveMonitor}
use Rattle.acd_model.specs.declared.moves.Ending.TheVariants.{NoAnswer}
use Rattle.acd_terms.specs.declared.event.Cause.TheVariants.{NewCall, Deflected, Transferred}
use Rattle.acd_model.specs.CallMoves.{arrive, ringing, queueing}
use Rattle.acd_model.specs.AgentMoves.{in_state, go_from}
use Rattle.acd_model.specs.Release.{release, ending_of}
use Rattle.acd_model.specs.Services.{next_call, clear_other, release_other}
use Rattle.acd_model.specs.Figures.{counting, with_figures}
use Rattle.acd_model.specs.Distribution.{distribution}
use Rattle.acd_model.specs.Tick.{is_over, ring_of, wrap_of, is_overdue_offer, is_overdue, overdue_in, return_to, return_moves, is_over_in, is_wrapped_up, wrapped_up_in, wrap_up_moves, each, returns as all_returns, wraps as all_rests, tick}
use Rattle.acd_model.specs.Step.{step, next_turn, executed_moment}
use Rattle.acd_model.specs.Run.{TimedCommand, run}
use Rattle.acd_model.proofs.MoveLemmas.{moved_append}
use Rattle.acd_lemmas.proofs.RuleFacts.{Rules, AgentRule, IsPlannedStation, ArePlannedGroups, SeatedAs, ConnectionRule, HasColumns, AlertingColumns}
use Rattle.acd_lemmas.proofs.Lists.{every_among, every_from, every-put, every-remove, among_put, after_among, among-filter, some_from, some_is, filter_among, ascending-filter}
use Rattle.acd_lemmas.proofs.State.{agent_put, agent_among, agent_found, agent_seat, connection_there, left_among, is_of, is_of_self, group_counted_found}
use Rattle.acd_lemmas.proofs.States.{alerting_is}
use Rattle.acd_lemmas.proofs.KeyedLists.{eqb_self, cmp_self}
use Rattle.acd_laws.proofs.MoveKinds.{AgentMove, stays, remains, reports, Arrival, queues, alerts, fails, arrival_of, releases, occupies, goes_from, released_by, agent_connections, agent_others}
use Rattle.acd_laws.proofs.Effects.{Effect, nothing, adds_group, adds_station, adds_agent, watches, unwatches, arrives, makes, goes_out, answers, holds, retrieves, clears, deflects, transfers, logs_on, rejects, renames, waits, goes, ChangesGroup, refuses, puts, Round, offers, returns, rests}
use Rattle.acd_laws.proofs.Offers.DistributionSteps.{Back, return_stays, other_call, overdue_back, returned}
use Rattle.acd_laws.proofs.Rules.RulesOfSteps.{RoundKeeps, rules_serve, by_rounds, by_tick, by_effects}
use Rattle.acd_laws.proofs.Rules.RulesOfEnds.{kept_return_to}
use Rattle.acd_laws.proofs.Rules.RulesOfPlanning.{kept_rest_moves}
use Rattle.acd_laws.proofs.Rules.StepEnds.{rules_step, rules_first}
use Rattle.acd_laws.proofs.Rules.AllRuleTests.{rules_are_kept}
use Rattle.acd_laws.specs.Due.{is_due}
use Rattle.acd_laws.specs.TimeLaws.{IsYoung, IsInTime, tick_at, TickBoundsAnswers, RunBoundsAnswers, TickLeavesNone}

-- work that begins at the moment or later isn't over then
begun_later : (n since moment : ℕ) → moment ≤ since → is_over n since moment ≡ false
begun_later n since moment l = grind (arith, nat_tests)

-- work that isn't over is younger than its time
young : (n since moment : ℕ) → is_over n since moment ≡ false → 0 < n → moment < since + n
young n since moment e l = grind (arith, nat_tests)

-- the state at the tick, and the moment of the tick
module _ (u : Rows) (t : ℕ) where
  abbrev pub Rings : ConnectionRecord → Type 0
  Rings x = is_overdue u t x ≡ false

  abbrev pub Works : AgentRecord → Type 0
  Works a = is_wrapped_up u t a ≡ false

  offered_later : (x : ConnectionRecord) (m : ℕ) → t ≤ m → x.offered ≡ Some m → Rings x
  unfolding is_overdue
  offered_later x m l e = ap (λ o. is_alerting x.state && is_overdue_offer u t x.group o) e ∙ by x.group
    where
      by : (o : Option ℕ) → (is_alerting x.state && is_overdue_offer u t o (Some m)) ≡ false
      by None = and_right (is_alerting x.state) false refl
      by (Some g) = and_right (is_alerting x.state) _ (begun_later (ring_of (group_of u g)) m t l)

  working_later : (a : AgentRecord) → t ≤ a.since → Works a
  unfolding is_wrapped_up
  working_later a l = by (least_group a.groups)
    where
      by : (o : Option ℕ) → (is_working_after_call a.state && is_over_in u t a o) ≡ false
      by None = and_right (is_working_after_call a.state) false refl
      by (Some g) = and_right (is_working_after_call a.state) _ (begun_later (wrap_of (group_of u g)) a.since t l)

  -- a record that is put isn't overdue
  abbrev pub Fits : Change → Type 0
  Fits (PutConnection x) = Rings x
  Fits (PutAgent a) = Works a
  Fits _ = Unit {0}

  abbrev pub AllFit : List Move → Type 0
  AllFit ms = Every (λ (x : Move). Fits x.change) ms

  abbrev pub Holds : Rows → Type 0
  Holds s = Every Rings s.connections × Every Works s.agents

  holds_change : (s : Rows) (c : Change) → Fits c → Holds s → Holds (changed s c)
  unfolding with_group with_station with_agent with_call with_connection with_monitor without_call without_connection without_monitor
  holds_change s Nothing f h = h
  holds_change s (PutGroup g) f h = h
  holds_change s (PutStation x) f h = h
  holds_change s (PutAgent a) f h = (h.0, every-put (at_agent a.agent) Works a f s.agents h.1)
  holds_change s (PutCall c) f h = h
  holds_change s (PutConnection x) f h = (every-put (at_connection x.call x.device) Rings x f s.connections h.0, h.1)
  holds_change s (PutMonitor w) f h = h
  holds_change s (RemoveCall c) f h = h
  holds_change s (RemoveConnection c d) f h = (every-remove (at_connection c d) Rings s.connections h.0, h.1)
  holds_change s (RemoveMonitor n) f h = h

  pub holds_moves : (s : Rows) (ms : List Move) → AllFit ms → Holds s → Holds (moved s ms)
  holds_moves s [] f h = h
  holds_moves s (x ∷ ms) f h = holds_moves (changed s x.change) ms f.1 (holds_change s x.change f.0 h)

  -- the moves of agents and arrivals

  fits_agent : (turn : Turn) (x : Move) → t ≤ turn.moment → AgentMove Works turn x → Fits x.change
  unfolding is_wrapped_up
  fits_agent turn _ l stays = tt
  fits_agent turn _ l (remains a name pending h) = h
  fits_agent turn _ l (reports a b d h r) = let e = r.since in working_later b (omega (arith, l, e))

  fits_arrival : (s : Rows) (turn : Turn) (call to : ℕ) (why : Cause) (x : Move) → Arrival s turn call to why x → Fits x.change
  unfolding is_overdue
  fits_arrival s turn call to why _ (queues _) = refl
  fits_arrival s turn call to why _ alerts = refl
  fits_arrival s turn call to why _ fails = refl

  fits_arrive : (s : Rows) (turn : Turn) (call to : ℕ) (why : Cause) → Fits (arrive s turn call to why).change
  fits_arrive s turn call to why = fits_arrival s turn call to why _ (arrival_of s turn call to why)

  fits_release : (s : Rows) (turn : Turn) (x : ConnectionRecord) (how : Ending) → t ≤ turn.moment → Every Works s.agents → Fits (release s turn x how).change
  fits_release s turn x how l h = fits_agent turn _ l (releases Works s turn x how (λ a e. every_among Works s.agents a h (agent_seat s x.device a e).0))

  fits_clear_other : (o : Option ConnectionRecord) → Fits (clear_other o).change
  fits_clear_other None = tt
  fits_clear_other (Some y) = tt

  fits_release_other : (s : Rows) (turn : Turn) (o : Option ConnectionRecord) → t ≤ turn.moment → Every Works s.agents → Fits (release_other s turn o).change
  fits_release_other s turn None l h = tt
  fits_release_other s turn (Some y) l h = fits_release s turn y (ending_of y) l h

  fits_return : (s : Rows) (turn : Turn) (x : ConnectionRecord) (g : ℕ) → t ≤ turn.moment → Every Works s.agents → AllFit (return_to s turn x (Some g))
  unfolding is_overdue
  fits_return s turn x g l h = (tt, (refl, (fits_release s turn x NoAnswer l h, tt)))

  -- the moves of a service

  fits_effect : (s : Rows) (turn : Turn) (ms : List Move) → t ≤ turn.moment → Effect s turn ms → Every Works s.agents → AllFit ms
  unfolding is_overdue is_wrapped_up
  fits_effect s turn _ l nothing h = tt
  fits_effect s turn _ l (adds_group _ _ _ _ _ _) h = (tt, tt)
  fits_effect s turn _ l (adds_station _ _ _) h = (tt, tt)
  fits_effect s turn _ l (adds_agent _ _ _ _) h = (refl, tt)
  fits_effect s turn _ l (watches _ _ _) h = (tt, tt)
  fits_effect s turn _ l (unwatches _) h = (tt, tt)
  fits_effect s turn _ l (arrives caller called _ _ _) h = (tt, (refl, (fits_arrive s turn (next_call s) called NewCall, tt)))
  fits_effect s turn _ l (makes _ _ _ _ _ _ _ _) h = (tt, (refl, tt))
  fits_effect s turn _ l (goes_out p _) h = (refl, (fits_arrive s turn p.x.call p.about.called NewCall, tt))
  fits_effect s turn _ l (answers p _) h =
      (refl, (fits_agent turn _ l (occupies Works s turn p.x (λ a e. every_among Works s.agents a h (agent_seat s p.x.device a e).0)), tt))
  fits_effect s turn _ l (holds _ _ _) h = (refl, tt)
  fits_effect s turn _ l (retrieves _ _ _) h = (refl, tt)
  fits_effect s turn _ l (clears p) h =
      (tt, (fits_clear_other (other_of s p.x), (tt, (fits_release s turn p.x (ending_of p.x) l h, (fits_release_other s turn (other_of s p.x) l h, tt)))))
  fits_effect s turn _ l (deflects p to _ _) h = (tt, (fits_arrive s turn p.x.call to Deflected, (fits_release s turn p.x (ending_of p.x) l h, tt)))
  fits_effect s turn _ l (transfers p to _ _ _) h = (tt, (fits_arrive s turn p.x.call to Transferred, (fits_release s turn p.x (ending_of p.x) l h, tt)))
  fits_effect s turn _ l (logs_on _ _ _ _ _ _ _ _) h = (refl, tt)
  fits_effect s turn _ l (rejects p g _ _) h = fits_return s turn p.x g l h
  fits_effect s turn _ l (renames a _ found) h = (every_among Works s.agents a h (agent_among s a.agent a found), tt)
  fits_effect s turn _ l (waits a _ found _ _) h = (every_among Works s.agents a h (agent_among s a.agent a found), tt)
  fits_effect s turn _ l (goes a wanted found _ _) h =
      (fits_agent turn _ l (goes_from Works turn a a.station (state_wanted wanted) (every_among Works s.agents a h (agent_among s a.agent a found))), tt)

  fits_regroups : (s : Rows) (c : Command) (ms : List Move) → ChangesGroup s c ms → AllFit ms
  fits_regroups s c _ (refuses _ _ _) = tt
  fits_regroups s c _ (puts _ _ _ _) = (tt, tt)

  fits_round : (s : Rows) (turn : Turn) (ms : List Move) → t ≤ turn.moment → Round s turn ms → Every Works s.agents → AllFit ms
  fits_round s turn _ l (offers o x a d _) h = (tt, (offered_later (ringing turn.moment x d) turn.moment l refl, tt))
  fits_round s turn _ l (returns x g _ _ _) h = fits_return s turn x g l h
  fits_round s turn _ l (rests a found _) h =
      (fits_agent turn _ l (goes_from Works turn a a.station A.Ready (every_among Works s.agents a h (agent_among s a.agent a found))), tt)

  abbrev HoldsAlong : Rows → List Event → Type 0
  HoldsAlong s es = Holds s

  holds_round : (turn : Turn) → t ≤ turn.moment → RoundKeeps HoldsAlong turn
  holds_round turn l s es ms d r h = holds_moves s ms (fits_round s turn ms l d h.1) h

  pub holds_distribution : (s : Rows) (turn : Turn) → t ≤ turn.moment → Rules s → Holds s → Holds (moved s (distribution s turn.moment))
  holds_distribution s turn l r h = by_rounds HoldsAlong turn (holds_round turn l) s [] r h

  -- and so each step from there on
  holds_step : (s : Rows) (moment : ℕ) (c : Command) → Rules s → t ≤ s.last_moment → Holds s → Holds (step s moment c).rows
  unfolding step with_last with_figures
  holds_step s moment c r l h =
      let turn : Turn = next_turn s moment in
      let later : t ≤ turn.moment = omega (arith, l) in
      by_effects HoldsAlong turn c
      (λ _ v es ms d _ w. holds_moves v ms (fits_effect v turn ms later d w.1) w)
      (λ v es ms d _ w. holds_moves v ms (fits_regroups v c ms d) w)
      (holds_round turn later) s [] r h

  -- this holds from the tick on
  pub record Since (s : Rows) : Type 0 where
    pub rules : Rules s
    pub passed : t ≤ s.last_moment
    pub holds : Holds s

  moment_grows : (s : Rows) (moment : ℕ) (c : Command) → s.last_moment ≤ (step s moment c).rows.last_moment
  unfolding step with_last with_figures
  moment_grows s moment c = omega arith

  pub since_run : (commands : List TimedCommand) (s : Rows) → Since s → Since (run s commands).rows
  unfolding run
  since_run [] s h = h
  since_run (q ∷ more) s h =
      let grows = moment_grows s q.moment q.command in
      let l = h.passed in
      since_run more (step s q.moment q.command).rows (record {
        rules = rules_step s q.moment q.command h.rules;
        passed = omega (arith, l, grows);
        holds = holds_step s q.moment q.command h.rules h.passed h.holds;
      })

-- a tick leaves the groups as they are

agent_groups : {K : AgentRecord → Type 0} (turn : Turn) (s : Rows) (x : Move) → AgentMove K turn x → (changed s x.change).groups ≡ s.groups
unfolding with_agent
agent_groups turn s x stays = refl
agent_groups turn s x (remains _ _ _ _) = refl
agent_groups turn s x (reports a b d _ _) = refl

return_groups : (s : Rows) (turn : Turn) (x : ConnectionRecord) (g : ℕ) → (moved s (return_to s turn x (Some g))).groups ≡ s.groups
unfolding with_connection without_connection
return_groups s turn x g = agent_groups turn _ _ (released_by s turn x NoAnswer)

rest_groups : (s : Rows) (turn : Turn) (a : AgentRecord) → (moved s (wrap_up_moves turn a)).groups ≡ s.groups
rest_groups s turn a = agent_groups turn s _ (goes_from (λ _. Unit {0}) turn a a.station A.Ready tt)

abbrev GroupsAre : List GroupRecord → Rows → List Event → Type 0
GroupsAre gs s es = s.groups ≡ gs

round_groups : (gs : List GroupRecord) (turn : Turn) → RoundKeeps (GroupsAre gs) turn
unfolding with_connection without_connection
round_groups gs turn s es _ (offers o x a d _) r h = h
round_groups gs turn s es _ (returns x g _ _ _) r h = return_groups s turn x g ∙ h
round_groups gs turn s es _ (rests a _ _) r h = rest_groups s turn a ∙ h

-- a tick ends what is overdue

-- an offer that returns isn't there any more
module _ (u : Rows) (turn : Turn) where
  abbrev StillOut : List ConnectionRecord → ConnectionRecord → Type 0
  StillOut xs y = Rings u turn.moment y ⊎ Among y xs

  left_by : (s : Rows) (x : ConnectionRecord) (g : ℕ) (xs : List ConnectionRecord) → IsAscending connection_order s.connections
      → ((y : ConnectionRecord) → Among y s.connections → StillOut (x ∷ xs) y)
      → (y : ConnectionRecord) → Among y (moved s (return_to s turn x (Some g))).connections → StillOut xs y
  unfolding with_connection without_connection is_overdue
  left_by s x g xs asc h y a =
      elim (among_put (at_connection x.call g) (queueing x.call g x.place x.queued) (remove_by (at_connection x.call x.device) s.connections) y
      (subst (Among y) (agent_connections turn _ _ (released_by s turn x NoAnswer)) a)) [
        | inl e ↦ inl (subst (Rings u turn.moment) (sym e) refl)
        | inr w ↦
            let left = left_among s x.call x.device asc y w in
            elim (h y left.0) [
              | inl rings ↦ inl rings
              | inr m ↦ elim m [
                | inl same ↦ absurd (cc (
                  not-true (is_of x.call x.device y) left.1,
                  subst (λ (z : ConnectionRecord). is_of x.call x.device z ≡ true) (sym same) (is_of_self x.call x.device x refl refl),
                ))
                | inr more ↦ inr more
              ]
            ]
      ]

  all_left : (s : Rows) (xs : List ConnectionRecord) → IsAscending connection_order xs → ((z : ConnectionRecord) → Among z xs → Back s z) → Rules s
      → ((y : ConnectionRecord) → Among y s.connections → StillOut xs y)
      → (y : ConnectionRecord) → Among y (moved s (each (λ t x. return_moves t turn x) s xs)).connections → Rings u turn.moment y
  all_left s [] so b r h y a = elim (h y a) [ inl rings ↦ rings | inr none ↦ absurd none ]
  all_left s (x ∷ xs) so b r h y a =
      let bx = b x (inl refl) in
      let g = some_from x.group bx.grouped in
      let found : connection_of s x.call x.device ≡ Some x = connection_there s r x bx.there in
      let one : List Move = return_moves s turn x in
      let same : return_to s turn x (Some g.0) ≡ one = ap (return_to s turn x) (sym g.1) in
      let rest : List Move = each (λ t x. return_moves t turn x) (moved s one) xs in
      let r1 : Rules (moved s one) = subst (λ ms. Rules (moved s ms)) same (kept_return_to s turn g.0 x r found bx.alerting g.1) in
      all_left (moved s one) xs so.1
      (λ z i. let bz = b z (inr i) in record {
        there =
            subst (λ ms. Among z (moved s ms).connections) same
            (return_stays s turn g.0 x z bz.there
            (other_call s x z r bx.there bz.there bx.alerting bz.alerting (after_among connection_order x xs z so.0 i)));
        alerting = bz.alerting;
        grouped = bz.grouped;
      })
      r1
      (subst (λ ms. (y : ConnectionRecord) → Among y (moved s ms).connections → StillOut xs y) same (left_by s x g.0 xs r.orders.connections h))
      y (subst (λ (v : Rows). Among y v.connections) (moved_append s one rest) a)

  -- an agent whose after-call work ends is ready
  abbrev StillAtWork : List AgentRecord → AgentRecord → Type 0
  StillAtWork xs b = Works u turn.moment b ⊎ Among b xs

  seated : (s : Rows) (a : AgentRecord) (st : AgentState) → is_working_after_call st ≡ true → SeatedAs s a st
      → IsPlannedStation s a.station × ArePlannedGroups s a.groups
  seated s a A.WorkingAfterCall e h = h
  seated s a _ e h = absurd (cc (e))

  on_station : (s : Rows) (o : Option ℕ) → IsPlannedStation s o → (d : ℕ) × (o ≡ Some d)
  on_station s None h = absurd h
  on_station s (Some d) h = (d, refl)

  rested_by : (s : Rows) (a : AgentRecord) (xs : List AgentRecord) → Rules s → agent_of s a.agent ≡ Some a → is_working_after_call a.state ≡ true
      → ((b : AgentRecord) → Among b s.agents → StillAtWork (a ∷ xs) b)
      → Rules (moved s (wrap_up_moves turn a)) → (b : AgentRecord) → Among b (moved s (wrap_up_moves turn a)).agents → StillAtWork xs b
  unfolding with_agent is_wrapped_up
  rested_by s a xs r found works h =
      let d = on_station s a.station (seated s a a.state works (every_among (AgentRule s) s.agents a r.agents (agent_among s a.agent a found))).0 in
      subst
      (λ o. Rules (moved s (go_from turn a o A.Ready ∷ [])) → (b : AgentRecord) → Among b (moved s (go_from turn a o A.Ready ∷ [])).agents
      → StillAtWork xs b)
      (sym d.1) (at d.0)
    where
      at : (d : ℕ) → Rules (moved s (go_from turn a (Some d) A.Ready ∷ [])) → (b : AgentRecord)
          → Among b (moved s (go_from turn a (Some d) A.Ready ∷ [])).agents → StillAtWork xs b
      at d r1 b i =
          let z : AgentRecord = in_state A.Ready turn a in
          elim (among_put (at_agent a.agent) z s.agents b i) [
            | inl e ↦ inl (subst (Works u turn.moment) (sym e) refl)
            | inr w ↦ elim (h b w) [
              | inl good ↦ inl good
              | inr m ↦ elim m [
                | inl same ↦
                    let found_now : agent_of (with_agent s z) b.agent ≡ Some b = agent_found (with_agent s z) r1.orders.agents b i in
                    let new : agent_of (with_agent s z) a.agent ≡ Some z =
                    agent_put s z a.agent ∙ ap (λ v. cond v (Some z) (agent_of s a.agent)) (eqb_self a.agent) in
                    let is : b ≡ z = some_is b z (sym found_now ∙ ap (λ (v : AgentRecord). agent_of (with_agent s z) v.agent) same ∙ new) in
                    inl (subst (Works u turn.moment) (sym is) refl)
                | inr more ↦ inr more
              ]
            ]
          ]

  all_rested : (s : Rows) (xs : List AgentRecord) → IsAscending agent_order xs
      → ((a : AgentRecord) → Among a xs → (agent_of s a.agent ≡ Some a) × (is_working_after_call a.state ≡ true)) → Rules s
      → ((b : AgentRecord) → Among b s.agents → StillAtWork xs b) → (b : AgentRecord) → Among b (moved s (each (λ t a. wrap_up_moves turn a) s xs)).agents
      → Works u turn.moment b
  all_rested s [] so k r h b i = elim (h b i) [ inl good ↦ good | inr none ↦ absurd none ]
  all_rested s (a ∷ xs) so k r h b i =
      let ka = k a (inl refl) in
      let one : List Move = wrap_up_moves turn a in
      let rest : List Move = each (λ t a. wrap_up_moves turn a) (moved s one) xs in
      let r1 : Rules (moved s one) = kept_rest_moves s turn a r ka.0 ka.1 in
      all_rested (moved s one) xs so.1
      (λ c j. let kc = k c (inr j) in (
        agent_others turn c.agent s _ (goes_from (λ d. (d.agent == c.agent) ≡ false) turn a a.station A.Ready
            (false_from_ne_true (a.agent == c.agent) (λ q. cc (after_among agent_order a xs c so.0 j, cmp_self a.agent c.agent (eqb-true a.agent c.agent q)))))
            ∙ kc.0,
        kc.1,
      ))
      r1 (rested_by s a xs r ka.0 ka.1 h r1) b (subst (λ (v : Rows). Among b v.agents) (moved_append s one rest) i)

  rest_connections : (s : Rows) (xs : List AgentRecord) → (moved s (each (λ t a. wrap_up_moves turn a) s xs)).connections ≡ s.connections
  rest_connections s [] = refl
  rest_connections s (a ∷ xs) =
      let one : List Move = wrap_up_moves turn a in
      ap (λ (v : Rows). v.connections) (moved_append s one (each (λ t a. wrap_up_moves turn a) (moved s one) xs))
      ∙ rest_connections (moved s one) xs ∙ agent_connections turn s _ (goes_from (λ _. Unit {0}) turn a a.station A.Ready tt)

-- of groups with the same rings and wraps the same is overdue

overdue_same : (u v : Rows) (t : ℕ) (x : ConnectionRecord) → ((g : ℕ) → ring_of (group_of u g) ≡ ring_of (group_of v g)) → is_overdue u t x ≡ is_overdue v t x
unfolding is_overdue
overdue_same u v t x h = by x.group x.offered
  where
    by : (g o : Option ℕ) → (is_alerting x.state && is_overdue_offer u t g o) ≡ (is_alerting x.state && is_overdue_offer v t g o)
    by None o = refl
    by (Some g) None = refl
    by (Some g) (Some m) = ap (λ n. is_alerting x.state && is_over n m t) (h g)

rested_same : (u v : Rows) (t : ℕ) (a : AgentRecord) → ((g : ℕ) → wrap_of (group_of u g) ≡ wrap_of (group_of v g)) → is_wrapped_up u t a ≡ is_wrapped_up v t a
unfolding is_wrapped_up
rested_same u v t a h = by (least_group a.groups)
  where
    by : (o : Option ℕ) → (is_working_after_call a.state && is_over_in u t a o) ≡ (is_working_after_call a.state && is_over_in v t a o)
    by None = refl
    by (Some g) = ap (λ n. is_working_after_call a.state && is_over n a.since t) (h g)

-- after the moves of a tick

tick_groups : (s : Rows) (turn : Turn) → Rules s → (moved s (tick s turn)).groups ≡ s.groups
tick_groups s turn r = by_tick (GroupsAre s.groups) turn (round_groups s.groups turn) s [] r refl

distribution_groups : (s : Rows) (turn : Turn) → Rules s → (moved s (distribution s turn.moment)).groups ≡ s.groups
distribution_groups s turn r = by_rounds (GroupsAre s.groups) turn (round_groups s.groups turn) s [] r refl

overdue_or_not : (s : Rows) (t : ℕ) (x : ConnectionRecord) → Among x s.connections → Rings s t x ⊎ Among x (overdue_in s t)
unfolding overdue_in
overdue_or_not s t x i = elim (cases_Bool (is_overdue s t x)) [ inl e ↦ inr (among-filter (is_overdue s t) s.connections x i e) | inr e ↦ inl e ]

rested_or_not : (s : Rows) (t : ℕ) (a : AgentRecord) → Among a s.agents → Works s t a ⊎ Among a (wrapped_up_in s t)
unfolding wrapped_up_in
rested_or_not s t a i = elim (cases_Bool (is_wrapped_up s t a)) [ inl e ↦ inr (among-filter (is_wrapped_up s t) s.agents a i e) | inr e ↦ inl e ]

overdue_ascend : (s : Rows) (t : ℕ) → Rules s → IsAscending connection_order (overdue_in s t)
unfolding overdue_in
overdue_ascend s t r = ascending-filter connection_order (is_overdue s t) s.connections r.orders.connections

rested_ascend : (s : Rows) (t : ℕ) → Rules s → IsAscending agent_order (wrapped_up_in s t)
unfolding wrapped_up_in
rested_ascend s t r = ascending-filter agent_order (is_wrapped_up s t) s.agents r.orders.agents

rested_works : (s : Rows) (t : ℕ) (a : AgentRecord) → Rules s → Among a (wrapped_up_in s t) → (agent_of s a.agent ≡ Some a) × (is_working_after_call a.state ≡ true)
unfolding wrapped_up_in is_wrapped_up
rested_works s t a r i =
    let w = filter_among (is_wrapped_up s t) s.agents a i in
    (agent_found s r.orders.agents a w.0, (and_parts (is_working_after_call a.state) (is_over_in s t a (least_group a.groups)) w.1).0)

none_overdue : (s : Rows) (turn : Turn) → Rules s → (x : ConnectionRecord) → Among x (moved s (all_returns s turn)).connections → Rings s turn.moment x
unfolding all_returns
none_overdue s turn r =
    all_left s turn s (overdue_in s turn.moment) (overdue_ascend s turn.moment r) (overdue_back s turn.moment) r (overdue_or_not s turn.moment)

none_rested : (s : Rows) (turn : Turn) → Rules s → (a : AgentRecord) → Among a (moved s (all_rests s turn)).agents → Works s turn.moment a
unfolding all_rests
none_rested s turn r =
    all_rested s turn s (wrapped_up_in s turn.moment) (rested_ascend s turn.moment r) (λ a i. rested_works s turn.moment a r i) r (rested_or_not s turn.moment)

tick_holds : (s : Rows) (turn : Turn) → Rules s → Holds s turn.moment (moved s (tick s turn))
unfolding tick all_rests group_of
tick_holds s turn r =
    let v : Rows = moved s (all_returns s turn) in
    let back = returned (GroupsAre s.groups) turn (λ t es x g rt h found alerting group. return_groups t turn x g ∙ h) s [] r refl in
    let joined : moved s (all_returns s turn ++ all_rests v turn) ≡ moved v (all_rests v turn) = moved_append s (all_returns s turn) (all_rests v turn) in
    let wraps : (g : ℕ) → wrap_of (group_of s g) ≡ wrap_of (group_of v g) = λ g. wrap_by s v g (sym back.1) in (
      subst (λ xs. Every (Rings s turn.moment) xs) (sym (ap (λ (w : Rows). w.connections) joined ∙ rest_connections v turn v (wrapped_up_in v turn.moment)))
          (every_from (Rings s turn.moment) v.connections (none_overdue s turn r)),
      subst (λ (w : Rows). Every (Works s turn.moment) w.agents) (sym joined)
          (every_from (Works s turn.moment) (moved v (all_rests v turn)).agents (λ a i. rested_same s v turn.moment a wraps ∙ none_rested v turn back.0 a i)),
    )
  where
    wrap_by : (s v : Rows) (g : ℕ) → s.groups ≡ v.groups → wrap_of (group_of s g) ≡ wrap_of (group_of v g)
    wrap_by s v g e = ap (λ gs. wrap_of (find_by (at_group g) gs)) e

-- the state that a tick leaves

abbrev ticked : Rows → ℕ → Rows
ticked s moment = (step s moment Tick).rows

counted_group : (es : List Event) (o : Option GroupRecord)
    → (ring_of (option_map (counting es) o) ≡ ring_of o) × (wrap_of (option_map (counting es) o) ≡ wrap_of o)
counted_group es None = (refl, refl)
counted_group es (Some g) = (refl, refl)

-- its groups have the rings and wraps of before
same_times : (s : Rows) (moment : ℕ) → Rules s → (g : ℕ)
    → (ring_of (group_of (ticked s moment) g) ≡ ring_of (group_of s g)) × (wrap_of (group_of (ticked s moment) g) ≡ wrap_of (group_of s g))
unfolding step with_last with_figures group_of
same_times s moment r g =
    let turn : Turn = next_turn s moment in
    let t : Rows = moved s (tick s turn) in
    let ms : List Move = distribution t turn.moment in
    let es : List Event = events_of turn.moment (tick s turn ++ ms) in
    let groups : (moved s (tick s turn ++ ms)).groups ≡ s.groups =
    ap (λ (w : Rows). w.groups) (moved_append s (tick s turn) ms) ∙ distribution_groups t turn (rules_serve s turn Tick r) ∙ tick_groups s turn r in
    let is : find_by (at_group g) (map (counting es) (moved s (tick s turn ++ ms)).groups) ≡ option_map (counting es) (find_by (at_group g) s.groups) =
    ap (λ gs. find_by (at_group g) (map (counting es) gs)) groups ∙ group_counted_found g es s.groups in
    let q = counted_group es (find_by (at_group g) s.groups) in
    (ap ring_of is ∙ q.0, ap wrap_of is ∙ q.1)

holds_ticked : (s : Rows) (moment : ℕ) → Rules s → Holds s (ticked s moment).last_moment (ticked s moment)
unfolding step with_last with_figures
holds_ticked s moment r =
    let turn : Turn = next_turn s moment in
    let t : Rows = moved s (tick s turn) in
    let ms : List Move = distribution t turn.moment in
    subst (Holds s turn.moment) (sym (moved_append s (tick s turn) ms))
    (holds_distribution s turn.moment t turn (omega arith) (rules_serve s turn Tick r) (tick_holds s turn r))

since_tick : (s : Rows) (moment : ℕ) → Rules s → Since (ticked s moment) (ticked s moment).last_moment (ticked s moment)
since_tick s moment r =
    let u : Rows = ticked s moment in
    let h = holds_ticked s moment r in
    record {
      rules = rules_step s moment Tick r;
      passed = omega arith;
      holds = (
        every_from (Rings u u.last_moment) u.connections
            (λ x i. overdue_same u s u.last_moment x (λ g. (same_times s moment r g).0) ∙ every_among (Rings s u.last_moment) u.connections x h.0 i),
        every_from (Works u u.last_moment) u.agents
            (λ a i. rested_same u s u.last_moment a (λ g. (same_times s moment r g).1) ∙ every_among (Works s u.last_moment) u.agents a h.1 i),
      );
    }

-- a state in which nothing is overdue is in time

offered : (s : Rows) (x : ConnectionRecord) (g : ℕ) → ConnectionRule s x → is_alerting x.state ≡ true → x.group ≡ Some g → (o : ℕ) × (x.offered ≡ Some o)
offered s x g h e f =
    let columns : AlertingColumns x x.group = subst (HasColumns x) (alerting_is x.state e) h.0 in
    some_from x.offered (subst (AlertingColumns x) f columns).offered

has_least : (gs : List ℕ) → is_choice gs ≡ true → (g : ℕ) × (least_group gs ≡ Some g)
has_least [] e = absurd (cc (e))
has_least (g ∷ gs) e = (g, refl)

younger : (u s : Rows) (n since : ℕ) → u.last_moment ≤ s.last_moment → is_over n since u.last_moment ≡ false → IsYoung u s n since
younger u s n since l e p = let h = young n since u.last_moment e p in omega (arith, h, l)

in_time : (u s : Rows) → Since u u.last_moment s → IsInTime u s
unfolding is_overdue is_wrapped_up
in_time u s h = record {
  passed = h.passed;
  offers = λ x g i e f.
      let o = offered s x g (every_among (ConnectionRule s) s.connections x h.rules.connections i) e f in
      let not : is_overdue u u.last_moment x ≡ false = every_among (Rings u u.last_moment) s.connections x h.holds.0 i in
      (o.0, o.1, younger u s (ring_of (group_of u g)) o.0 h.passed (rings x g o.0 e f o.1 not));
  work = λ a i e.
      let seat = seat_of a e (every_among (AgentRule s) s.agents a h.rules.agents i) in
      let g = has_least a.groups seat.1.0 in
      let not : is_wrapped_up u u.last_moment a ≡ false = every_among (Works u u.last_moment) s.agents a h.holds.1 i in
      (g.0, g.1, younger u s (wrap_of (group_of u g.0)) a.since h.passed (works a g.0 e g.1 not));
}
  where
    rings : (x : ConnectionRecord) (g o : ℕ) → is_alerting x.state ≡ true → x.group ≡ Some g → x.offered ≡ Some o → is_overdue u u.last_moment x ≡ false
        → is_over (ring_of (group_of u g)) o u.last_moment ≡ false
    rings x g o e f q not = sym (rw (e, f, q) refl) ∙ not

    works : (a : AgentRecord) (g : ℕ) → is_working_after_call a.state ≡ true → least_group a.groups ≡ Some g → is_wrapped_up u u.last_moment a ≡ false
        → is_over (wrap_of (group_of u g)) a.since u.last_moment ≡ false
    works a g e f not = sym (rw (e, f) refl) ∙ not

    seat_of : (a : AgentRecord) → is_working_after_call a.state ≡ true → SeatedAs s a a.state → IsPlannedStation s a.station × ArePlannedGroups s a.groups
    seat_of a e q = at a.state e q
      where
        at : (st : AgentState) → is_working_after_call st ≡ true → SeatedAs s a st → IsPlannedStation s a.station × ArePlannedGroups s a.groups
        at A.WorkingAfterCall e q = q
        at _ e q = absurd (cc (e))

bounds : (s : Rows) (moment : ℕ) (more : List TimedCommand) → Rules s → IsInTime (ticked s moment) (run (ticked s moment) more).rows
bounds s moment more r = let u : Rows = ticked s moment in in_time u (run u more).rows (since_run u u.last_moment more u (since_tick s moment r))

pub tick_bounds_answers : TickBoundsAnswers
tick_bounds_answers s moment more kept = bounds s moment more (rules_are_kept s kept)

-- so nothing is due

none_passes : {T : Type 0} (test : T → Bool) (xs : List T) → Every (λ x. test x ≡ false) xs → list_any test xs ≡ false
none_passes test [] h = refl
none_passes test (x ∷ xs) h = ap (λ b. b || list_any test xs) h.0 ∙ none_passes test xs h.1

not_due : (s : Rows) (t : ℕ) → Holds s t s → is_due s t ≡ false
unfolding is_due
not_due s t h = ap (λ b. b || list_any (is_wrapped_up s t) s.agents) (none_passes (is_overdue s t) s.connections h.0) ∙ none_passes (is_wrapped_up s t) s.agents h.1

pub tick_leaves_none : TickLeavesNone
unfolding step with_last with_figures
tick_leaves_none s moment kept = not_due (ticked s moment) (executed_moment s moment) (since_tick s moment (rules_are_kept s kept)).holds

-- a run of two lists
run_append : (s : Rows) (xs ys : List TimedCommand) → (run s (xs ++ ys)).rows ≡ (run (run s xs).rows ys).rows
unfolding run
run_append s [] ys = refl
run_append s (q ∷ xs) ys = run_append (step s q.moment q.command).rows xs ys

run_rules : (commands : List TimedCommand) (s : Rows) → Rules s → Rules (run s commands).rows
unfolding run
run_rules [] s r = r
run_rules (q ∷ more) s r = run_rules more (step s q.moment q.command).rows (rules_step s q.moment q.command r)

run_tick : (s : Rows) (moment : ℕ) (more : List TimedCommand) → (run s (tick_at moment ∷ more)).rows ≡ (run (ticked s moment) more).rows
unfolding run
run_tick s moment more = refl

run_one : (s : Rows) → (run s []).rows ≡ s
unfolding run
run_one s = refl

pub run_bounds_answers : RunBoundsAnswers
run_bounds_answers limits commands more moment =
    let e : Rows = empty_rows limits in
    let s : Rows = (run e commands).rows in
    let first : (run e (commands ++ tick_at moment ∷ [])).rows ≡ ticked s moment =
    run_append e commands (tick_at moment ∷ []) ∙ run_tick s moment [] ∙ run_one (ticked s moment) in
    let last : (run e (commands ++ tick_at moment ∷ more)).rows ≡ (run (ticked s moment) more).rows =
    run_append e commands (tick_at moment ∷ more) ∙ run_tick s moment more in
    subst (λ u. IsInTime u (run e (commands ++ tick_at moment ∷ more)).rows) (sym first)
    (subst (IsInTime (ticked s moment)) (sym last) (bounds s moment more (run_rules commands e (rules_first limits))))
