-- A content that was sound is sound: where each agent is in one group at most and no group has a priority, a request that
-- could be made then is executed as it was.
use Rattle.std.proofs.Common.{◌≡◌, ℕ, ◌≤◌, Bool, true, false, not, List, [], ◌∷◌, ◌++◌, length, refl, sym, subst, ◌∙◌, ap, arith}
use Rattle.std.specs.Option.{ok_or}
use Rattle.std.specs.Prelude.{is_some, Result, Ok}
use Rattle.acd_terms.specs.Lists.{Every}
use Rattle.acd_terms.specs.declared.rows.Rows.{Rows}
use Rattle.acd_terms.specs.declared.record.AgentRecord.{AgentRecord}
use Rattle.acd_terms.specs.declared.command.Arrival.{Arrival}
use Rattle.acd_terms.specs.declared.command.Requested.{Requested}
use Rattle.acd_terms.specs.declared.command.Requested.TheVariants as requested
use Rattle.acd_terms.specs.declared.command.Command.{Command}
use Rattle.acd_terms.specs.declared.command.Command.TheVariants.{SetAgentState, SetGroupPriority, RejectCall, ChangeGroup, ChangeAgent}
use Rattle.acd_terms.specs.declared.answer.Answer.TheVariants as answer
use Rattle.acd_terms.specs.declared.answer.Refusal.{Refusal}
use Rattle.acd_terms.specs.declared.answer.Refusal.TheVariants.{UnknownAgent, WrongAgentState, UnknownDevice, NotStation, StationTaken, NotGroup}
use Rattle.acd_terms.specs.declared.state.AgentState.TheVariants.{NotReady}
use Rattle.acd_terms.specs.States.{is_null}
use Rattle.acd_model.specs.Scans.{agent_of, agent_at, is_group, is_station, is_planned}
use Rattle.acd_model.specs.Moves.{moved}
use Rattle.acd_terms.specs.Results.{◌>>=◌, ◌>>◌}
use Rattle.acd_model.specs.ServiceAnswers.{Served, refuse_if, gives, outcome_of, moves_of}
use Rattle.acd_model.specs.Services.{log_on, set_agent_state}
use Rattle.acd_model.specs.Services.Serve.{serve}
use Rattle.acd_model.specs.Step.{Stepped, step, step_by, executed_moment, next_stamp, next_turn}
use Rattle.acd_model.specs.declared.moves.Move.{Move}
use Rattle.acd_book.specs.declared.kept.Kept.{Kept}
use Rattle.acd_book.specs.Content.{Content, empty_content, committed}
use Rattle.acd_desk.specs.Contents.AbstractDesk.{firsts, kept_at, executed, run_from}
use Rattle.acd_desk.specs.Contents.SoundContent.{arrivals_of, IsSound}
use Rattle.acd_desk_laws.specs.OldStep.{old_log_on_at, old_log_on, old_set_agent_state, old_serve, old_step_at, old_step}
use Rattle.acd_desk_laws.specs.OldSound.{old_executed, old_run_from, IsOldRequested, IsOldCommand, IsOldSound}
use Rattle.acd_desk_laws.proofs.OldStates.{just_one, IsOldState, empty_is_old, moved_is_old, serve_old, step_is_old}
use Rattle.acd_desk_laws.proofs.OldOffers.{same_distribution}
use Rattle.acd_desk.proofs.Contents.SoundRuns.{firsts_same, length-arrivals}
use Rattle.acd_terms.specs.declared.command.Turn.{Turn}

-- a log-on in one group

abbrev passed : Result (Unit {0}) Refusal
passed = Ok tt

one_test : (p q : Bool) (rest : Served) → (refuse_if p UnknownDevice >> (refuse_if q NotGroup >> rest)) ≡ ((refuse_if p UnknownDevice >> (refuse_if q NotGroup >> passed)) >> rest)
unfolding refuse_if
one_test true q rest = refl
one_test false true rest = refl
one_test false false rest = refl

same_log_on : (s : Rows) (turn : Turn) (agent device group : ℕ) → old_log_on s turn agent device group ≡ log_on s turn agent device (group ∷ [])
unfolding old_log_on log_on refuse_if
same_log_on s turn agent device group = λ i.
    ok_or (agent_of s agent) UnknownAgent >>= (λ (a : AgentRecord).
    refuse_if (not (is_null a.state)) WrongAgentState >> (refuse_if (not (is_planned s device)) UnknownDevice >> (refuse_if (not (is_station s device)) NotStation
    >> (refuse_if (is_some (agent_at s device)) StationTaken
    >> one_test (not (is_planned s group)) (not (is_group s group)) (gives (answer.State NotReady) (old_log_on_at turn a device group ∷ [])) i))))

same_set_agent_state : (s : Rows) (turn : Turn) (agent : ℕ) (q : Requested) → IsOldRequested q → old_set_agent_state s turn agent q ≡ set_agent_state s turn agent q
same_set_agent_state s turn agent (requested.LoggedOn device groups) h =
    let one = just_one groups h in
    subst (λ (gs : List ℕ). old_set_agent_state s turn agent (requested.LoggedOn device gs) ≡ log_on s turn agent device gs) (sym one.1) (same_log_on s turn agent device one.0)
same_set_agent_state s turn agent (requested.State wanted) h = refl

same_serve : (s : Rows) (turn : Turn) (c : Command) → IsOldCommand c → old_serve s turn c ≡ serve s turn c
same_serve s turn (SetAgentState agent q) h = same_set_agent_state s turn agent q h
same_serve s turn (SetGroupPriority device priority) h = absurd h
same_serve s turn (RejectCall call device) h = absurd h
same_serve s turn (ChangeGroup device name ring wrap) h = absurd h
same_serve s turn (ChangeAgent agent name) h = absurd h
same_serve s turn _ h = refl

same_step : (s : Rows) (moment : ℕ) (c : Command) → IsOldCommand c → IsOldState s → old_step s moment c ≡ step s moment c
unfolding old_step step
same_step s moment c h o =
    let turn : Turn = next_turn s moment in
    let v : Served = serve s turn c in
    ap (old_step_at s turn) (same_serve s turn c h)
    ∙ ap (λ (ms : List Move). step_by s turn (outcome_of v) (moves_of v ++ ms)) (same_distribution (moved s (moves_of v)) turn.moment (moved_is_old s (moves_of v) (serve_old s turn c h o) o))

-- runs

abbrev IsOldArrival : Arrival → Type 0
IsOldArrival a = IsOldCommand a.request.command

same_executed : (c : Content) (a : Arrival) → IsOldArrival a → IsOldState c.rows → old_executed c a ≡ executed c a
same_executed c a h o =
    ap (λ (one : Stepped). committed one.rows one.events (kept_at (next_stamp c.rows) (executed_moment c.rows a.moment) a.request one.outcome) c)
    (same_step c.rows a.moment a.request.command h o)

same_run : (list : List Arrival) (c : Content) → Every IsOldArrival list → IsOldState c.rows → old_run_from c list ≡ run_from c list
same_run [] c h o = refl
same_run (a ∷ list) c h o =
    ap (λ (d : Content). old_run_from d list) (same_executed c a h.0 o) ∙ same_run list (executed c a) h.1 (step_is_old c.rows a.moment a.request.command h.0 o)

arrivals_old : (ks : List Kept) → Every (λ (k : Kept). IsOldCommand k.request.command) ks → Every IsOldArrival (arrivals_of ks)
arrivals_old [] h = tt
arrivals_old (k ∷ ks) h = (h.0, arrivals_old ks h.1)

pub old_sound_is_sound : (c : Content) → IsOldSound c → IsSound c
old_sound_is_sound c sound =
    let start : Content = empty_content c.rows.limits in
    let list : List Arrival = arrivals_of c.kept in
    let size = length-arrivals c.kept in
    let few : length list ≤ c.rows.limits.requests = omega (arith, size, sound.few) in
    let same : firsts c.rows.limits.requests list ≡ list = firsts_same c.rows.limits.requests list sound.distinct few in
    record {
      fits = sound.fits;
      distinct = sound.distinct;
      few = sound.few;
      replays = sound.replays ∙ ap (old_run_from start) same ∙ same_run list start (arrivals_old c.kept sound.old) (empty_is_old c.rows.limits) ∙ ap (run_from start) (sym same);
    }
