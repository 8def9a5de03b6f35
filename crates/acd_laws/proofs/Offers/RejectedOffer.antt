-- rejectCall of the one offer that is overdue is what a tick does, where no after-call work is over.
use Rattle.std.proofs.Common.{◌≡◌, ℕ, false, ◌&&◌, ◌∷◌, ◌++◌, [], Option, Some, None, refl, sym, ◌∙◌, ap, subst, inl, append-nil, arith}
use Rattle.std.proofs.lemmas.Bool.{and_right}
use Rattle.std.proofs.lemmas.Bool.Decides.{nat_tests}
use Rattle.acd_terms.specs.Groups.{least_group}
use Rattle.acd_terms.specs.declared.command.Turn.{Turn}
use Rattle.acd_terms.specs.declared.answer.Answer.TheVariants.{Nothing}
use Rattle.acd_lemmas.proofs.Words.{Rows, AgentRecord, ConnectionRecord, Move, Among, at_agent, is_working_after_call, is_queued, group_of, with_agent, with_connection, without_connection, changed, moved}
use Rattle.acd_model.specs.declared.moves.Ending.TheVariants.{NoAnswer}
use Rattle.acd_model.specs.ServiceAnswers.{refuse_if, gives}
use Rattle.acd_model.specs.Services.{reject_call}
use Rattle.acd_model.specs.Tick.{is_over, is_over_in, wrap_of, overdue_in, return_to, return_moves, is_wrapped_up, wrapped_up_in, wrap_up_moves, each, returns, wraps, tick}
use Rattle.acd_lemmas.proofs.RuleFacts.{Rules}
use Rattle.acd_lemmas.proofs.Lists.{none_filtered, filter_put}
use Rattle.acd_lemmas.proofs.State.{connection_there, agent_seat}
use Rattle.acd_lemmas.proofs.States.{alerting_is}
use Rattle.acd_laws.specs.RejectLaws.{RejectsAsATick}
use Rattle.acd_laws.proofs.MoveKinds.{AgentMove, stays, remains, reports, releases}
use Rattle.acd_laws.proofs.Offers.DistributionSteps.{Back, overdue_back}
use Rattle.acd_laws.proofs.Places.ClearedCalls.{live_call}
use Rattle.acd_laws.proofs.Rules.AllRuleTests.{keeps_read}

-- no test refuses a call that is to return
rejected : (s : Rows) (turn : Turn) (x : ConnectionRecord) → Rules s → Back s x → reject_call s turn x.call x.device ≡ gives Nothing (return_moves s turn x)
unfolding reject_call refuse_if
rejected s turn x r b =
    let unqueued : is_queued x.state ≡ false = ap is_queued (alerting_is x.state b.alerting) in
    rw ((live_call s r x b.there).1, connection_there s r x b.there, b.alerting, b.grouped, unqueued) refl

-- no after-call work is over that began now
just_begun : (n m : ℕ) → is_over n m m ≡ false
just_begun n m = grind (arith, nat_tests)

not_rested : (s : Rows) (m : ℕ) (a : AgentRecord) → a.since ≡ m → is_wrapped_up s m a ≡ false
unfolding is_wrapped_up
not_rested s m a e = by (least_group a.groups)
  where
    by : (o : Option ℕ) → (is_working_after_call a.state && is_over_in s m a o) ≡ false
    by None = and_right (is_working_after_call a.state) false refl
    by (Some g) =
        and_right (is_working_after_call a.state) (is_over (wrap_of (group_of s g)) a.since m)
        (ap (λ since. is_over (wrap_of (group_of s g)) since m) e ∙ just_begun (wrap_of (group_of s g)) m)

-- nor by what becomes of an agent
none_rested : (s : Rows) (turn : Turn) (y : Move) → AgentMove (λ a. Among a s.agents) turn y → wrapped_up_in s turn.moment ≡ []
    → wrapped_up_in (changed s y.change) turn.moment ≡ []
unfolding wrapped_up_in is_wrapped_up with_agent group_of
none_rested s turn _ stays e = e
none_rested s turn _ (remains a name pending there) e =
    filter_put (is_wrapped_up s turn.moment) (at_agent a.agent) (record a { name = name; pending = pending }) s.agents e
    (none_filtered (is_wrapped_up s turn.moment) s.agents e a there)
none_rested s turn _ (reports a b d there h) e = filter_put (is_wrapped_up s turn.moment) (at_agent b.agent) b s.agents e (not_rested s turn.moment b h.since)

still_none_rested : (s : Rows) (turn : Turn) (x : ConnectionRecord) (o : Option ℕ) → wrapped_up_in s turn.moment ≡ []
    → wrapped_up_in (moved s (return_to s turn x o)) turn.moment ≡ []
unfolding wrapped_up_in is_wrapped_up with_connection without_connection group_of
still_none_rested s turn x None e = e
still_none_rested s turn x (Some g) e =
    none_rested _ turn _ (releases (λ a. Among a s.agents) s turn x NoAnswer (λ a found. (agent_seat s x.device a found).0)) e

-- a tick that has one call to return
ticks : (s : Rows) (turn : Turn) (x : ConnectionRecord) → overdue_in s turn.moment ≡ x ∷ [] → wrapped_up_in s turn.moment ≡ [] → tick s turn ≡ return_moves s turn x
unfolding tick returns wraps
ticks s turn x one none =
    let back : returns s turn ≡ return_moves s turn x = ap (each (λ t x. return_moves t turn x) s) one ∙ append-nil (return_moves s turn x) in
    let t : Rows = moved s (return_moves s turn x) in
    ap (λ ms. ms ++ wraps (moved s ms) turn) back
    ∙ ap (λ resting. return_moves s turn x ++ each (λ t a. wrap_up_moves turn a) t resting) (still_none_rested s turn x x.group none)
    ∙ append-nil (return_moves s turn x)

pub rejects_as_a_tick : RejectsAsATick
rejects_as_a_tick s turn x h one none =
    let b : Back s x = overdue_back s turn.moment x (subst (Among x) (sym one) (inl refl)) in
    rejected s turn x (keeps_read s h).rules b ∙ ap (gives Nothing) (sym (ticks s turn x one none))
