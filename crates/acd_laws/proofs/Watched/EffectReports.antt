-- Effects and rounds: their reports, balance and order.
use Rattle.std.proofs.Common.{◌≡◌, ℕ, ◌+◌, ◌<◌, ◌≤◌, inl, inr, true, false, ◌||◌, cond, List, [], ◌∷◌, Option, Some, None, refl, sym, ◌∙◌, ap, subst, arith, eq-eqb}
use Rattle.std.specs.Prelude.{◌==◌}
use Rattle.std.proofs.lemmas.Bool.{and_right, and_from, or_right}
use Rattle.acd_terms.specs.Groups.{only_group}
use Rattle.acd_lemmas.proofs.Words.{Rows, AgentRecord, CallRecord, ConnectionRecord, MonitorRecord, ConnectionState, Cause, Ending, Move, Report, count, Among, Every, state_wanted, is_initiated, is_alerting, is_connected, is_queued, connection_of, is_station, is_planned, has, other_of, with_call, with_connection, without_call, without_connection, no_move, changed, moved, is_open, parties_of, open_of, Command, GroupRecord}
use Rattle.acd_terms.specs.Columns.{columns_of}
use Rattle.acd_terms.specs.declared.state.AgentState.TheVariants as A
use Rattle.acd_terms.specs.declared.state.ConnectionState.TheVariants as S
use Rattle.acd_terms.specs.declared.event.Cause.TheVariants as cause
use Rattle.acd_terms.specs.declared.event.Report.TheVariants as report
use Rattle.acd_model.specs.Scans.{is_used}
use Rattle.acd_model.specs.CallMoves.{unqueued, queueing, ringing, begin, connect_caller, initiate, originate, arrive, answer, talking, waited_by, divert, transfer, go_back, clear, end_call}
use Rattle.acd_model.specs.AgentMoves.{log_on_at}
use Rattle.acd_model.specs.Release.{release, ending_of}
use Rattle.acd_model.specs.EventReports.{state_by}
use Rattle.acd_model.specs.Watcher.{seat_of}
use Rattle.acd_model.specs.Figures.{is_entry, is_answer, is_no_answer}
use Rattle.acd_model.specs.Services.{new_group, new_agent, next_monitor, next_call, occupy, waiting_group, first_group, clearing}
use Rattle.acd_model.specs.Distribution.{offer_at}
use Rattle.acd_model.specs.Tick.{return_to}
use Rattle.acd_model.specs.declared.moves.Ending.TheVariants.{NoAnswer}
use Rattle.acd_model.specs.declared.moves.Change.TheVariants.{Nothing, PutGroup, PutStation, PutAgent, PutCall, PutConnection, PutMonitor, RemoveCall, RemoveConnection, RemoveMonitor}
use Rattle.acd_lemmas.proofs.RuleFacts.{GroupColumn, StandsAt, Rules}
use Rattle.acd_laws.proofs.MoveKinds.{remains, left_connections, left_connection, LeavesAgents, left_agent, left_agents, left_plan, Recorded, releases, occupies, goes_from, arrival_of}
use Rattle.acd_lemmas.proofs.Lists.{one, none_from, two_counted, among_put}
use Rattle.acd_lemmas.proofs.KeyedLists.{eqb_self}
use Rattle.acd_lemmas.proofs.State.{found_key, connection_among, put_other, removed_other, still_none, connection_there, connection_rule, none_above, agent_there, other_agents, other_among, other_device}
use Rattle.acd_laws.proofs.ReleaseLemmas.{release_other_kept}
use Rattle.acd_laws.proofs.Rules.RulesOfPlanning.{nobody_at}
use Rattle.acd_lemmas.proofs.States.{initiated_is, alerting_is, hold_is}
use Rattle.acd_laws.proofs.Rules.RulesOfCalls.{initiated_alone, outgoing}
use Rattle.acd_laws.proofs.Rules.RulesOfEnds.{open_cases, closed_call, return_new}
use Rattle.acd_laws.proofs.Rules.RulesOfOffers.{offer_station, offer_new}
use Rattle.acd_laws.proofs.Watched.ReportedState.{truthful_put, truthful_remove, truthful_outside, truthful_unseen, truthful_group, truthful_put_group, truthful_station, truthful_end, truthful_agent, truthful_silent_agent}
use Rattle.acd_laws.proofs.Watched.Order.{holding, held, gone, holding_less, holding_new, stays, placed_put, placed_within}
use Rattle.acd_laws.proofs.Watched.MoveReports.{Sound, sound-append, sound_later, sound_nothing, sound_unheard, silently, sound_agent, put, remove, ungrouped, connections_put, removed_within, ascending_less, held_shut, held_is, waits_or_rings_is, waiting_alerting, waiting_open, sound_put_new, sound_put_old, sound_remove, sound_arrival, arrive_leaves, open_gone, planned_station, planned_group}
use Rattle.acd_laws.specs.FigureLaws.{group_given}
use Rattle.acd_laws.proofs.Effects.{new_call, Party, Free, Round, offers, returns, rests, Effect, nothing, adds_group, adds_station, adds_agent, watches, unwatches, arrives, makes, goes_out, answers, holds, retrieves, clears, deflects, transfers, logs_on, rejects, renames, waits, goes, ChangesGroup, refuses, puts as puts_group, given_planned}
use Rattle.acd_lemmas.proofs.Bools.{and_yes, or_no}
use Rattle.acd_terms.specs.declared.command.Turn.{Turn}

later : {m b k : ℕ} {s : Rows} {ms : List Move} → b < k → Sound m b b s ms → Sound m b k s ms
later {m} {b} {k} {s} {ms} l h = sound_later m b k s ms (omega (arith, l)) h

none_stands : (s : Rows) (d : ℕ) → Rules s → is_used s d ≡ false → (call : ℕ) → connection_of s call d ≡ None
none_stands s d r free call =
    none_from (connection_of s call d) (λ z e. cc (nobody_at s d r free z (connection_among s call d z e), eq-eqb z.device d (found_key s call d z e).1))

-- after moves that put no agent, the agents of a connection's station are as they were

sound_released : (s : Rows) (turn : Turn) (b : ℕ) (ms : List Move) (x : ConnectionRecord) (how : Ending) → Rules s
    → Every (λ (y : Move). LeavesAgents y.change) ms → Sound turn.moment b b (moved s ms) (release s turn x how ∷ [])
sound_released s turn b ms x how r h =
    sound_agent (releases (Recorded (moved s ms)) s turn x how (λ a e. left_agents s ms a.agent h ∙ agent_there s r.orders.agents x.device a e))

-- new calls

-- the other side of an external call is no open connection of it
new_caller : (s : Rows) (n caller : ℕ) (c : CallRecord) → Rules s → s.last_call < n → (z : ConnectionRecord)
    → Among z (with_connection (with_call s c) (unqueued n caller S.Connected)).connections → is_open z.state ≡ true → z.call ≡ n → ⊥
unfolding with_connection with_call
new_caller s n caller c r l z a e q =
    elim (among_put _ (unqueued n caller S.Connected) s.connections z a) [
      | inl w ↦ cc (e, w)
      | inr w ↦ cc (connection_there s r z w, ap (λ v. connection_of s v z.device) q, none_above s r n z.device l)
    ]

sound_arrives : (s : Rows) (turn : Turn) (b caller called : ℕ) → Rules s → b < turn.stamp → is_planned s caller ≡ false → is_planned s called ≡ true
    → Sound turn.moment b turn.stamp s
    (begin (new_call s turn.moment caller called) ∷ connect_caller (next_call s) caller ∷ arrive s turn (next_call s) called cause.NewCall ∷ [])
sound_arrives s turn b caller called r l free planned =
    let n : ℕ = next_call s in
    let c : CallRecord = new_call s turn.moment caller called in
    let x : ConnectionRecord = unqueued n caller S.Connected in
    let t : Rows = with_call s c in
    let u : Rows = with_connection t x in
    let none : (d : ℕ) → connection_of t n d ≡ None = λ d. left_connection s (PutCall c) n d tt ∙ none_above s r n d (omega arith) in
    let apart : caller ≡ called → ⊥ = λ e. cc (free, planned, ap (is_planned s) e) in
    sound-append turn.moment b b turn.stamp s (begin c ∷ []) (connect_caller n caller ∷ arrive s turn n called cause.NewCall ∷ [])
    (silently (PutCall c) (truthful_unseen s (PutCall c) tt tt tt) tt)
    (sound-append turn.moment b b turn.stamp t (connect_caller n caller ∷ []) (arrive s turn n called cause.NewCall ∷ [])
    (sound_put_new turn.moment b t x None (truthful_outside t x (left_plan s (PutCall c) caller tt ∙ free)) (none caller) (ungrouped n caller S.Connected refl)
    (λ g. refl) (λ g. refl))
    (sound_arrival turn b s u n called cause.NewCall _ (arrival_of s turn n called cause.NewCall) l
    (left_plan t (PutConnection x) called tt ∙ left_plan s (PutCall c) called tt ∙ planned) refl
    (put_other t x n called (λ _ e. apart e) ∙ none called)
    (new_caller s n caller c r (omega arith))))

sound_makes : (s : Rows) (m b device called : ℕ) → Rules s → is_planned s device ≡ true
    → Sound m b b s (begin (new_call s m device called) ∷ initiate (next_call s) device ∷ [])
sound_makes s m b device called r planned =
    let n : ℕ = next_call s in
    let c : CallRecord = new_call s m device called in
    let x : ConnectionRecord = unqueued n device S.Initiated in
    let t : Rows = with_call s c in
    sound-append m b b b s (begin c ∷ []) (initiate n device ∷ []) (silently (PutCall c) (truthful_unseen s (PutCall c) tt tt tt) tt)
    (sound_put_new m b t x (Some (report.ServiceInitiated n device))
    (truthful_put t x (report.ServiceInitiated n device) refl refl refl refl (left_plan s (PutCall c) device tt ∙ planned))
    (left_connection s (PutCall c) n device tt ∙ none_above s r n device (omega arith)) (ungrouped n device S.Initiated refl) (λ g. refl) (λ g. refl))

-- an initiated call is sent on

none_open : (s : Rows) (x : ConnectionRecord) → Rules s → Among x s.connections → is_initiated x.state ≡ true
    → (z : ConnectionRecord) → Among z (with_connection s (record x { state = S.Connected })).connections → is_open z.state ≡ true → z.call ≡ x.call → ⊥
unfolding with_connection
none_open s x r among initiated z a e q =
    elim (among_put _ (record x { state = S.Connected }) s.connections z a) [
      | inl w ↦ cc (e, ap (λ (y : ConnectionRecord). is_open y.state) w)
      | inr w ↦ (let alone = initiated_alone s x r among initiated in
          let two = two_counted (parties_of x.call) s.connections x z among w (eqb_self x.call) (eq-eqb z.call x.call q)
          (λ v. cc (ap (λ (y : ConnectionRecord). is_open y.state) v, e, ap is_open (initiated_is x.state initiated))) in omega (arith, alone, two))
    ]

initiated_shut : (st : ConnectionState) → is_initiated st ≡ true → is_open st ≡ false
initiated_shut st e = rw (initiated_is st e) refl

-- e reports only that x comes to the state st
record Tells (x : ConnectionRecord) (st : ConnectionState) (e : Report) : Type 0 where
  call : (columns_of e).call ≡ Some x.call
  device : (columns_of e).device ≡ Some x.device
  agent : (columns_of e).agent ≡ None
  state : state_by (columns_of e).kind ≡ Some st
  none_enters : (g : ℕ) → one (is_entry g e) ≡ 0
  none_goes : (g : ℕ) → gone g e ≡ 0

-- a connection that isn't open changes to another such state
sound_turned : (s : Rows) (m b : ℕ) (x : ConnectionRecord) (st : ConnectionState) (e : Report) → Rules s → connection_of s x.call x.device ≡ Some x
    → is_open st ≡ false → is_planned s x.device ≡ true → is_open x.state ≡ false → Tells x st e → Sound m b b s (put (record x { state = st }) (Some e) ∷ [])
sound_turned s m b x st e r there to_shut planned was_shut t =
    let y : ConnectionRecord = record x { state = st } in
    sound_put_old m b s x y (Some e) (truthful_put s y e t.call t.device t.agent t.state planned) r.orders.connections there to_shut t.none_enters
    (λ g. t.none_goes g ∙ sym (held_shut g x was_shut))

sound_out : (s : Rows) (turn : Turn) (b : ℕ) (p : Party s) → Rules s → b < turn.stamp → is_initiated p.x.state ≡ true
    → Sound turn.moment b turn.stamp s (originate p.x p.about.called ∷ arrive s turn p.x.call p.about.called cause.NewCall ∷ [])
sound_out s turn b p r l initiated =
    let x : ConnectionRecord = p.x in
    let c : CallRecord = p.about in
    let go = outgoing s x c r p.found initiated p.live in
    let y : ConnectionRecord = record x { state = S.Connected } in
    let u : Rows = with_connection s y in
    let at : StandsAt s x S.Initiated = subst (StandsAt s x) (initiated_is x.state initiated) (connection_rule s r x.call x.device x p.found).2 in
    sound-append turn.moment b b turn.stamp s (originate x c.called ∷ []) (arrive s turn x.call c.called cause.NewCall ∷ [])
    (sound_turned s turn.moment b x S.Connected (report.Originated x.call x.device c.called) r p.found refl (planned_station s x.device at.0)
    (initiated_shut x.state initiated) (record { call = refl; device = refl; agent = refl; state = refl; none_enters = λ g. refl; none_goes = λ g. refl }))
    (sound_arrival turn b s u x.call c.called cause.NewCall _ (arrival_of s turn x.call c.called cause.NewCall) l
    (left_plan s (PutConnection y) c.called tt ∙ go.planned) refl
    (put_other s y x.call c.called (λ _ e. go.apart e) ∙ go.new)
    (none_open s x r (connection_among s x.call x.device x p.found) initiated))

-- an answer

answered_in : (g m : ℕ) (call device : ℕ) (queued o : Option ℕ) → one (is_answer g (report.Established call device (waited_by m queued o))) ≡ one (has o g)
answered_in g m call device queued None = refl
answered_in g m call device queued (Some h) = refl

sound_answers : (s : Rows) (turn : Turn) (b : ℕ) (p : Party s) → Rules s → is_alerting p.x.state ≡ true
    → Sound turn.moment b b s (answer turn.moment p.x ∷ occupy s turn p.x ∷ [])
sound_answers s turn b p r alerting =
    let x : ConnectionRecord = p.x in
    let rule = connection_rule s r x.call x.device x p.found in
    let e : Report = report.Established x.call x.device (waited_by turn.moment x.queued x.group) in
    let u : Rows = with_connection s (talking x) in
    let station : is_station s x.device ≡ true = subst (StandsAt s x) (alerting_is x.state alerting) rule.2 in
    sound-append turn.moment b b b s (answer turn.moment x ∷ []) (occupy s turn x ∷ [])
    (sound_put_old turn.moment b s x (talking x) (Some e) (truthful_put s (talking x) e refl refl refl refl (planned_station s x.device station))
    r.orders.connections p.found refl (λ g. refl)
    (λ g. let a = answered_in g turn.moment x.call x.device x.queued x.group in
    let h : held g x ≡ one (has x.group g) = held_is g x rule.0 ∙ ap (λ o. one (has o g)) (waiting_alerting x alerting) in omega (arith, a, h)))
    (sound_agent (occupies (Recorded u) s turn x (λ a e. left_agent s (PutConnection (talking x)) a.agent tt ∙ agent_there s r.orders.agents x.device a e)))

-- hold and retrieve

connected_shut : (st : ConnectionState) → is_connected st ≡ true → is_open st ≡ false
connected_shut S.Connected e = refl
connected_shut S.Hold e = refl
connected_shut _ e = absurd (cc (e))

-- a clearing

-- a waiting connection is open
waits_open : (x : ConnectionRecord) (g : ℕ) → waiting_group x ≡ Some g → is_open x.state ≡ true
waits_open x g e = go x.state e
  where
    go : (st : ConnectionState) → cond (is_queued st || is_alerting st) x.group None ≡ Some g → is_open st ≡ true
    go S.Initiated q = absurd (cc (q))
    go S.Connected q = absurd (cc (q))
    go S.Hold q = absurd (cc (q))
    go _ q = refl

one_of_two : (p q : Option ℕ) (g : ℕ) → ((a b : ℕ) → p ≡ Some a → q ≡ Some b → ⊥) → one (has p g) + one (has q g) ≡ one (has (first_group p q) g)
one_of_two None q g h = omega arith
one_of_two (Some a) None g h = omega arith
one_of_two (Some a) (Some b) g h = absurd (h a b refl refl)

-- of one call that waits in one group at most
not_both : (s : Rows) (x y : ConnectionRecord) → Rules s → Among x s.connections → Among y s.connections → y.call ≡ x.call → (x.device ≡ y.device → ⊥)
    → (a b : ℕ) → waiting_group x ≡ Some a → waiting_group y ≡ Some b → ⊥
not_both s x y r i j same apart a b p q =
    let two = two_counted (open_of x.call) s.connections x y i j
    (and_from (is_open x.state) (x.call == x.call) (waits_open x a p) (eqb_self x.call))
    (and_from (is_open y.state) (y.call == x.call) (waits_open y b q) (eq-eqb y.call x.call same))
    (λ v. apart (ap (λ (z : ConnectionRecord). z.device) v)) in
    let l = r.one_open x.call in omega (arith, two, l)

sound_clear_one : (s : Rows) (m b : ℕ) (x : ConnectionRecord) → Rules s → connection_of s x.call x.device ≡ Some x
    → Sound m b b s (clear x ∷ no_move ∷ end_call x.call (waiting_group x) ∷ [])
sound_clear_one s m b x r there =
    let u : Rows = without_connection s x.call x.device in
    let t : Rows = without_call u x.call in
    let same : t.connections ≡ u.connections = left_connections u (RemoveCall x.call) tt in
    record {
      truthful = (
        truthful_remove s x.call x.device (report.ConnectionCleared x.call x.device) r.orders.connections refl refl refl refl,
        (truthful_unseen u Nothing tt tt tt, (truthful_end u x.call (waiting_group x), tt)),
      );
      balances = λ g.
          let a = holding_less s x.call x.device x g there in
          let c = held_is g x (connection_rule s r x.call x.device x there).0 in
          let d : holding t g ≡ holding u g = holding_same t u g same in
          omega (arith, a, c, d);
      order = stays m b s (clear x ∷ no_move ∷ end_call x.call (waiting_group x) ∷ []) (λ g. refl)
          (λ g c p h. placed_within s t g c p (λ z a. removed_within s x.call x.device z (subst (Among z) same a)) h);
    }
  where
    holding_same : (t v : Rows) (g : ℕ) → t.connections ≡ v.connections → holding t g ≡ holding v g
    holding_same t v g e = rw e refl

sound_clear_two : (s : Rows) (m b : ℕ) (x y : ConnectionRecord) → Rules s → connection_of s x.call x.device ≡ Some x → connection_of s y.call y.device ≡ Some y
    → y.call ≡ x.call → (x.device ≡ y.device → ⊥)
    → Sound m b b s (clear x ∷ clear y ∷ end_call x.call (first_group (waiting_group x) (waiting_group y)) ∷ [])
sound_clear_two s m b x y r there also same_call apart =
    let u : Rows = without_connection s x.call x.device in
    let v : Rows = without_connection u y.call y.device in
    let t : Rows = without_call v x.call in
    let asc = ascending_less s x.call x.device r.orders.connections in
    let still : connection_of u y.call y.device ≡ Some y = removed_other s x.call x.device y.call y.device r.orders.connections (λ _ q. apart q) ∙ also in
    let same : t.connections ≡ v.connections = left_connections v (RemoveCall x.call) tt in
    record {
      truthful = (
        truthful_remove s x.call x.device (report.ConnectionCleared x.call x.device) r.orders.connections refl refl refl refl,
        (
          truthful_remove u y.call y.device (report.ConnectionCleared y.call y.device) asc refl refl refl refl,
          (truthful_end v x.call (first_group (waiting_group x) (waiting_group y)), tt),
        ),
      );
      balances = λ g.
          let a = holding_less s x.call x.device x g there in
          let c = holding_less u y.call y.device y g still in
          let d = held_is g x (connection_rule s r x.call x.device x there).0 in
          let e = held_is g y (connection_rule s r y.call y.device y also).0 in
          let f =
          one_of_two (waiting_group x) (waiting_group y) g
          (not_both s x y r (connection_among s x.call x.device x there) (connection_among s y.call y.device y also) same_call apart) in
          let h : holding t g ≡ holding v g = holding_same t v g same in
          omega (arith, a, c, d, e, f, h);
      order = stays m b s (clear x ∷ clear y ∷ end_call x.call (first_group (waiting_group x) (waiting_group y)) ∷ []) (λ g. refl)
          (λ g c p h. placed_within s t g c p (λ z a. removed_within s x.call x.device z (removed_within u y.call y.device z (subst (Among z) same a))) h);
    }
  where
    holding_same : (t v : Rows) (g : ℕ) → t.connections ≡ v.connections → holding t g ≡ holding v g
    holding_same t v g e = rw e refl

sound_clearing : (s : Rows) (turn : Turn) (b : ℕ) (x : ConnectionRecord) (o : Option ConnectionRecord) → Rules s → connection_of s x.call x.device ≡ Some x
    → other_of s x ≡ o → Sound turn.moment b b s (clearing s turn x o)
sound_clearing s turn b x None r there other =
    let three : List Move = clear x ∷ no_move ∷ end_call x.call (waiting_group x) ∷ [] in
    let t : Rows = moved s three in
    sound-append turn.moment b b b s three (release s turn x (ending_of x) ∷ no_move ∷ []) (sound_clear_one s turn.moment b x r there)
    (sound-append turn.moment b b b t (release s turn x (ending_of x) ∷ []) (no_move ∷ [])
    (sound_released s turn b three x (ending_of x) r (tt, (tt, (tt, tt)))) (silently Nothing (truthful_unseen _ Nothing tt tt tt) tt))
sound_clearing s turn b x (Some y) r there other =
    let w = other_device s x y other in
    let three : List Move = clear x ∷ clear y ∷ end_call x.call (first_group (waiting_group x) (waiting_group y)) ∷ [] in
    let t : Rows = moved s three in
    let v : Rows = changed t (release s turn x (ending_of x)).change in
    sound-append turn.moment b b b s three (release s turn x (ending_of x) ∷ release s turn y (ending_of y) ∷ [])
    (sound_clear_two s turn.moment b x y r there (connection_there s r y (other_among s x y other)) w.0 w.1)
    (sound-append turn.moment b b b t (release s turn x (ending_of x) ∷ []) (release s turn y (ending_of y) ∷ [])
    (sound_released s turn b three x (ending_of x) r (tt, (tt, (tt, tt))))
    (sound_agent (releases (Recorded v) s turn y (ending_of y) (λ c f.
    release_other_kept s t x (ending_of x) turn c.agent (λ a e. other_agents s r.orders.agents x.device y.device a c e f w.1)
    ∙ left_agents s three c.agent (tt, (tt, (tt, tt))) ∙ agent_there s r.orders.agents y.device c f))))

-- a deflection and a transfer: the connection ends, its call comes to a destination, and an agent is released

sound_given : (s : Rows) (turn : Turn) (b to : ℕ) (p : Party s) (e : Report) (why : Cause) → Rules s → b < turn.stamp
    → Sound turn.moment b b s (remove p.x (Some e) ∷ []) → Free s p.x to → is_no_answer why ≡ false
    → count (open_of p.x.call) s.connections ≤ one (is_open p.x.state)
    → Sound turn.moment b turn.stamp s (remove p.x (Some e) ∷ arrive s turn p.x.call to why ∷ release s turn p.x (ending_of p.x) ∷ [])
sound_given s turn b to p e why r l sound free usual most =
    let x : ConnectionRecord = p.x in
    let u : Rows = without_connection s x.call x.device in
    sound-append turn.moment b b turn.stamp s (remove x (Some e) ∷ []) (arrive s turn x.call to why ∷ release s turn x (ending_of x) ∷ []) sound
    (sound-append turn.moment b turn.stamp turn.stamp u (arrive s turn x.call to why ∷ []) (release s turn x (ending_of x) ∷ [])
    (sound_arrival turn b s u x.call to why _ (arrival_of s turn x.call to why) l (left_plan s (RemoveConnection x.call x.device) to tt ∙ free.planned) usual
    (still_none s x.call x.device x.call to r.orders.connections free.apart) (open_gone s x.call x p.found refl most))
    (sound_released s turn turn.stamp (remove x (Some e) ∷ arrive s turn x.call to why ∷ []) x (ending_of x) r (tt, (arrive_leaves s turn x.call to why, tt))))

sound_deflects : (s : Rows) (m b to : ℕ) (p : Party s) → Rules s → (is_alerting p.x.state || is_queued p.x.state) ≡ true
    → Sound m b b s (divert p.x to cause.Deflected ∷ [])
sound_deflects s m b to p r state =
    let x : ConnectionRecord = p.x in
    let e : Report = report.Diverted x.call x.device to cause.Deflected x.group in
    sound_remove m b s x (Some e) (truthful_remove s x.call x.device e r.orders.connections refl refl refl refl) p.found (λ g. refl)
    (λ g.
    let h : held g x ≡ one (has x.group g) =
    held_is g x (connection_rule s r x.call x.device x p.found).0 ∙ ap (λ v. one (has v g)) (waiting_open x state) in
    omega (arith, h))

sound_transfers : (s : Rows) (m b to : ℕ) (p : Party s) → Rules s → is_connected p.x.state ≡ true → Sound m b b s (transfer p.x to ∷ [])
sound_transfers s m b to p r connected =
    let x : ConnectionRecord = p.x in
    let e : Report = report.Transferred x.call x.device to in
    sound_remove m b s x (Some e) (truthful_remove s x.call x.device e r.orders.connections refl refl refl refl) p.found (λ g. refl)
    (λ g. sym (held_shut g x (connected_shut x.state connected)))

-- an offer

queued_group : (x : ConnectionRecord) → is_queued x.state ≡ true → waiting_group x ≡ x.group
queued_group x e = waiting_open x (or_right (is_alerting x.state) (is_queued x.state) e)

held_ringing : (g m d : ℕ) (x : ConnectionRecord) → held g (ringing m x d) ≡ one (has x.group g)
held_ringing g m d x = rw (and_right (d == g) false refl, and_yes (has x.group g)) (omega arith)

held_queueing : (g c f : ℕ) (p q : Option ℕ) → held g (queueing c f p q) ≡ one (f == g)
held_queueing g c f p q = rw (and_yes (f == g), and_right (f == g) false refl) (omega arith)

-- a queued call is offered at a station where it wasn't
sound_offer_at : (s : Rows) (m b d : ℕ) (x : ConnectionRecord) → Rules s → connection_of s x.call x.device ≡ Some x → is_queued x.state ≡ true
    → is_planned s d ≡ true → connection_of s x.call d ≡ None
    → Sound m b b s (offer_at m (Some x) (Some d))
sound_offer_at s m b d x r there queued planned none =
    let u : Rows = without_connection s x.call x.device in
    let y : ConnectionRecord = ringing m x d in
    let t : Rows = with_connection u y in
    let left : Report = report.Diverted x.call x.device d cause.Distributed x.group in
    let rings : Report = report.Delivered x.call d cause.Distributed x.group in
    let columns = (connection_rule s r x.call x.device x there).0 in
    record {
      truthful = (
        truthful_remove s x.call x.device left r.orders.connections refl refl refl refl,
        (truthful_put u y rings refl refl refl refl (left_plan s (RemoveConnection x.call x.device) d tt ∙ planned), tt),
      );
      balances = λ g.
          let a = holding_less s x.call x.device x g there in
          let c = holding_new u y g (still_none s x.call x.device x.call d r.orders.connections none) in
          let e : held g x ≡ one (has x.group g) = held_is g x columns ∙ ap (λ o. one (has o g)) (queued_group x queued) in
          let f = held_ringing g m d x in
          omega (arith, a, c, e, f);
      order = stays m b s (offer_at m (Some x) (Some d)) (λ g. refl) (λ g c p h.
          placed_put s t u.connections y g c p (removed_within s x.call x.device)
          (λ w. (x, connection_among s x.call x.device x there, waits_or_rings_is g x columns ∙ ap (λ o. has o g) (queued_group x queued) ∙ w, refl, refl))
          (connections_put u y) h);
    }

-- an offer returns to its group

sound_return : (s : Rows) (turn : Turn) (b g : ℕ) (x : ConnectionRecord) → Rules s → connection_of s x.call x.device ≡ Some x → is_alerting x.state ≡ true
    → x.group ≡ Some g
    → Sound turn.moment b b s (return_to s turn x (Some g))
sound_return s turn b g x r there alerting group =
    let u : Rows = without_connection s x.call x.device in
    let y : ConnectionRecord = queueing x.call g x.place x.queued in
    let t : Rows = with_connection u y in
    let left : Report = report.Diverted x.call x.device g cause.NoAnswer x.group in
    let back : Report = report.Queued x.call g cause.NoAnswer in
    let rule = connection_rule s r x.call x.device x there in
    let planned : is_planned s g ≡ true = planned_group s g (subst (GroupColumn s) group rule.1) in
    let no_entry : (f : ℕ) → one (is_entry f back) ≡ 0 = λ f. ap one (and_right (g == f) false refl) in
    sound-append turn.moment b b b s (divert x g cause.NoAnswer ∷ go_back x g ∷ []) (release s turn x NoAnswer ∷ [])
    (record {
      truthful = (
        truthful_remove s x.call x.device left r.orders.connections refl refl refl refl,
        (truthful_put u y back refl refl refl refl (left_plan s (RemoveConnection x.call x.device) g tt ∙ planned), tt),
      );
      balances = λ f.
          let a = holding_less s x.call x.device x f there in
          let c = holding_new u y f (still_none s x.call x.device x.call g r.orders.connections (return_new s g x r there alerting group)) in
          let e : held f x ≡ one (g == f) = held_is f x rule.0 ∙ ap (λ o. one (has o f)) (waiting_alerting x alerting ∙ group) in
          let h = held_queueing f x.call g x.place x.queued in
          let i = no_entry f in
          omega (arith, a, c, e, h, i);
      order = stays turn.moment b s (divert x g cause.NoAnswer ∷ go_back x g ∷ []) (λ f. let i = no_entry f in omega (arith, i)) (λ f c p h.
          placed_put s t u.connections y f c p (removed_within s x.call x.device)
          (λ w. (
            x,
            connection_among s x.call x.device x there,
            waits_or_rings_is f x rule.0 ∙ ap (λ o. has o f) (waiting_alerting x alerting ∙ group)
                ∙ sym (or_no (g == f)) ∙ w,
            refl,
            refl,
          ))
          (connections_put u y) h);
    })
    (sound_released s turn b (divert x g cause.NoAnswer ∷ go_back x g ∷ []) x NoAnswer r (tt, (tt, tt)))

-- each round

pub sound_round : (s : Rows) (turn : Turn) (b : ℕ) (ms : List Move) → Round s turn ms → Rules s → Sound turn.moment b b s ms
sound_round s turn b _ (offers o x a d h) r =
    let found = connection_there s r x h.there in
    let at = offer_station s a d r h.known h.ready h.station in
    sound_offer_at s turn.moment b d x r found h.queued (planned_station s d at) (offer_new s x d r found h.queued at h.idle)
sound_round s turn b _ (returns x g found alerting group) r = sound_return s turn b g x r found alerting group
sound_round s turn b _ (rests a found _) r = sound_agent (goes_from (Recorded s) turn a a.station A.Ready found)

-- each effect

pub sound_effect : (s : Rows) (turn : Turn) (b : ℕ) (ms : List Move) → Effect s turn ms → Rules s → b < turn.stamp → Sound turn.moment b turn.stamp s ms
sound_effect s turn b _ nothing r l = later l (sound_nothing turn.moment b s)
sound_effect s turn b _ (adds_group device name ring wrap free _) r l =
    later l (silently (PutGroup (new_group device name ring wrap)) (truthful_group s (new_group device name ring wrap) (none_stands s device r free)) tt)
sound_effect s turn b _ (adds_station device free _) r l =
    later l (silently (PutStation (record { device = device })) (truthful_station s (record { device = device }) (none_stands s device r free)) tt)
sound_effect s turn b _ (adds_agent agent name new _) r l =
    later l (silently (PutAgent (new_agent turn agent name)) (truthful_silent_agent s (new_agent turn agent name) (ap seat_of (sym new))) tt)
sound_effect s turn b _ (watches device _ _) r l =
    let w : MonitorRecord = record { monitor = next_monitor s; device = device; after_event = s.last_event } in
    later l (silently (PutMonitor w) (truthful_unseen s (PutMonitor w) tt tt tt) tt)
sound_effect s turn b _ (unwatches monitor) r l = later l (silently (RemoveMonitor monitor) (truthful_unseen s (RemoveMonitor monitor) tt tt tt) tt)
sound_effect s turn b _ (arrives caller called outside inside _) r l = sound_arrives s turn b caller called r l outside inside
sound_effect s turn b _ (makes device called planned _ _ _ _ _) r l = later l (sound_makes s turn.moment b device called r planned)
sound_effect s turn b _ (goes_out p state) r l = sound_out s turn b p r l state
sound_effect s turn b _ (answers p state) r l = later l (sound_answers s turn b p r state)
sound_effect s turn b _ (holds p station state) r l = later l
    (sound_turned s turn.moment b p.x S.Hold (report.Held p.x.call p.x.device) r p.found refl (planned_station s p.x.device station)
    (connected_shut p.x.state state) (record { call = refl; device = refl; agent = refl; state = refl; none_enters = λ g. refl; none_goes = λ g. refl }))
sound_effect s turn b _ (retrieves p state _) r l =
    let is : p.x.state ≡ S.Hold = hold_is p.x.state state in
    let station : is_station s p.x.device ≡ true = subst (StandsAt s p.x) is (connection_rule s r p.x.call p.x.device p.x p.found).2 in later l
    (sound_turned s turn.moment b p.x S.Connected (report.Retrieved p.x.call p.x.device) r p.found refl (planned_station s p.x.device station) (rw is refl)
    (record { call = refl; device = refl; agent = refl; state = refl; none_enters = λ g. refl; none_goes = λ g. refl }))
sound_effect s turn b _ (clears p) r l = later l (sound_clearing s turn b p.x (other_of s p.x) r p.found refl)
sound_effect s turn b _ (deflects p to state free) r l =
    let o = r.one_open p.x.call in let f : one (is_open p.x.state) ≡ 1 = ap one (open_cases p.x.state state).1 in
    sound_given s turn b to p (report.Diverted p.x.call p.x.device to cause.Deflected p.x.group) cause.Deflected r l
    (sound_deflects s turn.moment b to p r state) free refl (omega (arith, f, o))
sound_effect s turn b _ (transfers p to state other free) r l =
    sound_given s turn b to p (report.Transferred p.x.call p.x.device to) cause.Transferred r l (sound_transfers s turn.moment b to p r state) free refl
    (closed_call s p.x r (connection_among s p.x.call p.x.device p.x p.found) state other)
sound_effect s turn b _ (logs_on a device groups _ _ _ _ _) r l =
    let c : AgentRecord = record a { state = A.NotReady; pending = None; station = Some device; groups = groups; stamp = turn.stamp; since = turn.moment } in
    later l (sound_unheard turn.moment b s (log_on_at turn a device groups)
    (truthful_agent s c (report.AgentLoggedOn a.agent device (only_group groups)) refl refl refl)
    (record { leaves = tt; entry = λ g. refl; gone = λ g. refl }))
sound_effect s turn b _ (rejects p g alerting group) r l = later l (sound_round s turn b _ (returns p.x g p.found alerting group) r)
sound_effect s turn b _ (renames a name found) r l = later l (sound_agent {turn = turn} (remains a name a.pending found))
sound_effect s turn b _ (waits a wanted found _ _) r l = later l (sound_agent {turn = turn} (remains a a.name (Some wanted) found))
sound_effect s turn b _ (goes a wanted found _ _) r l = later l (sound_agent (goes_from (Recorded s) turn a a.station (state_wanted wanted) found))

pub sound_regroups : (s : Rows) (turn : Turn) (b : ℕ) (c : Command) (ms : List Move) → ChangesGroup s c ms → b < turn.stamp → Sound turn.moment b turn.stamp s ms
sound_regroups s turn b c _ (refuses _ _ _) l = later l (sound_nothing turn.moment b s)
sound_regroups s turn b c _ (puts_group device g it found) l =
    let h : GroupRecord = group_given c g in later l (silently (PutGroup h) (truthful_put_group s h (given_planned s c device g found)) tt)
