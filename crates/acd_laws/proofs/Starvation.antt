-- A round in which an agent answers a call of the preceding group, computed over numbers that grow; call 1 keeps its place.
use Rattle.std.proofs.Common.{◌≡◌, ℕ, zero, suc, ◌+◌, ◌-◌, ◌*◌, ◌≤◌, true, false, max, List, [], ◌∷◌, ◌++◌, length, Some, None, refl, sym, ◌∙◌, ap, subst, arith}
use Rattle.std.specs.Prelude.{◌==◌, ◌≢◌, codes, nat_lt}
use Rattle.std.specs.Ordering.{nat_cmp}
use Rattle.std.specs.declared.cmp.Ordering.TheVariants.{Equal, Greater}
use Rattle.std.proofs.lemmas.Bool.{ne_eqb, le-ltb}
use Rattle.std.proofs.lemmas.Bool.Decides.{nat_tests}
use Rattle.acd_terms.specs.Limits.{greatest_limits}
use Rattle.acd_terms.specs.declared.state.AgentState.TheVariants as A
use Rattle.acd_terms.specs.declared.state.ConnectionState.TheVariants.{Connected}
use Rattle.acd_terms.specs.declared.command.Command.TheVariants.{ArriveCall, AnswerCall, ClearConnection, SetAgentState}
use Rattle.acd_terms.specs.declared.command.Requested.TheVariants.{State}
use Rattle.acd_terms.specs.declared.state.Pending.TheVariants as pending
use Rattle.acd_terms.specs.declared.answer.Outcome.TheVariants.{Done}
use Rattle.acd_terms.specs.declared.answer.Answer.TheVariants as answer
use Rattle.acd_lemmas.proofs.Words.{Rows, AgentRecord, AgentState, CallRecord, ConnectionRecord, Figures}
use Rattle.acd_lemmas.proofs.KeyedLists.{cmp_self, eqb_self}
use Rattle.acd_model.specs.CallMoves.{unqueued, queueing, talking, ringing}
use Rattle.acd_terms.specs.declared.event.Cause.TheVariants.{NewCall, Distributed}
use Rattle.acd_terms.specs.declared.event.Report.{Report}
use Rattle.acd_terms.specs.declared.event.Report.TheVariants as report
use Rattle.acd_terms.specs.declared.event.Event.{Event}
use Rattle.acd_model.specs.Figures.{sum_of_figures}
use Rattle.acd_model.specs.Step.{step}
use Rattle.acd_model.specs.Run.{TimedCommand, AfterRun, run, then_run}
use Rattle.acd_model.specs.Examples.Words.{billing, claims, first_station, second_station, ana, caller, second_caller, planned_billing, planned_ben, first_call}
use Rattle.acd_model.specs.Examples.Priorities.{ana_of_both}
use Rattle.acd_model.proofs.OnLiterals.{switch_on_literals}
use Rattle.acd_model.specs.Scans.{agent_of, connection_of}
use Rattle.acd_model.specs.Services.AddGroup.{no_figures}
use Rattle.acd_terms.specs.Columns.{columns_of}
use Rattle.acd_terms.specs.declared.answer.Outcome.{Outcome}
use Rattle.acd_lemmas.proofs.Lists.{count-append, every-append}
use Rattle.acd_lemmas.proofs.Words.{count, Every}
use Rattle.acd_laws.specs.StarvationLaws.{begun, rounds_from, Waits, WaitsThrough, IsDone, IsAnother, is_answered_there, Starves}

-- the numbers that grow: the last stamp, moment, call and event, and the figures of claims
record Numbers : Type 0 where
  pub stamp : ℕ
  pub moment : ℕ
  pub call : ℕ
  pub event : ℕ
  pub figures : Figures

-- Ana in a state that she has since the last request
abbrev ana_in : Numbers → AgentState → AgentRecord
ana_in n state = record ana_of_both { state = state; stamp = n.stamp; since = n.moment }

-- the state with these calls and connections beside call 1 and its connection
abbrev stands : Numbers → AgentRecord → List CallRecord → List ConnectionRecord → Rows
stands n a calls connections = record {
  limits = greatest_limits;
  groups = record planned_billing { figures = record no_figures { entered = 1 } }
      ∷ record planned_billing { device = claims; name = codes "Claims"; wrap = 45; priority = 5; figures = n.figures } ∷ [];
  stations = record { device = first_station } ∷ record { device = second_station } ∷ [];
  agents = a ∷ planned_ben ∷ [];
  calls = first_call ∷ calls;
  connections = queueing 1 billing (Some 8) (Some 10) ∷ unqueued 1 caller Connected ∷ connections;
  monitors = [];
  last_stamp = n.stamp;
  last_moment = n.moment;
  last_call = n.call;
  last_monitor = 0;
  last_event = n.event;
}

-- between rounds Ana is in after-call work
abbrev between : Numbers → Rows
between n = stands n (ana_in n A.WorkingAfterCall) [] []

abbrev first_numbers : Numbers
first_numbers = record { stamp = 10; moment = 18; call = 1; event = 3; figures = no_figures }

begins : begun ≡ between first_numbers
unfolding switch_on_literals
begins = refl

-- the call of a round, and its moment
abbrev next : Numbers → ℕ
next n = n.call + 1

abbrev minute : Numbers → ℕ
minute n = 60 * next n

-- rounds go on from such numbers
record Goes (n : Numbers) : Type 0 where
  pub call : 1 ≤ n.call
  pub moment : n.moment ≤ minute n

-- how the new call and its moment relate to the others
record Stand (n : Numbers) : Type 0 where
  pub above : nat_cmp (next n) 1 ≡ Greater
  pub same : nat_cmp (next n) (next n) ≡ Equal
  pub is : (next n == next n) ≡ true
  pub not_less : nat_lt (next n) (next n) ≡ false
  pub not_below : nat_lt (next n) 1 ≡ false
  pub not_first : (next n == 1) ≡ false
  pub differs : (1 == next n) ≡ false
  pub last : max n.call (next n) ≡ next n
  pub later : max (minute n) n.moment ≡ minute n
  pub now : max (minute n) (minute n) ≡ minute n

stand : (n : Numbers) → Goes n → Stand n
stand n h =
    let c = h.call in let m = h.moment in record {
      above = grind (arith, nat_tests, c);
      same = cmp_self (next n) (next n) refl;
      is = eqb_self (next n);
      not_less = le-ltb (next n) (next n) (omega arith);
      not_below = le-ltb (next n) 1 (omega arith);
      not_first = ne_eqb (next n) 1 (λ e. absurd (omega (arith, e, c)));
      differs = ne_eqb 1 (next n) (λ e. absurd (omega (arith, e, c)));
      last = omega arith;
      later = omega (arith, m);
      now = omega arith;
    }

abbrev more : Figures → ℕ → ℕ → ℕ → Figures
more f entered answered waited = sum_of_figures f (record no_figures { entered = entered; answered = answered; waited = waited })

abbrev its_call : Numbers → CallRecord
its_call n = record { call = next n; caller = second_caller; called = claims; since = minute n }

abbrev waits : Numbers → ConnectionRecord
waits n = queueing (next n) claims (Some (n.stamp + 1)) (Some (minute n))

abbrev calls : Numbers → ConnectionRecord
calls n = unqueued (next n) second_caller Connected

abbrev numbers_1 : Numbers → Numbers
numbers_1 n = record { stamp = n.stamp + 1; moment = minute n; call = next n; event = n.event + 1; figures = more n.figures 1 0 0 }

abbrev event : ℕ → ℕ → Report → Event
event number moment report = record { number = number; moment = moment; report = report }

abbrev Arrives : Numbers → Type 0
Arrives n = step (between n) (minute n) (ArriveCall second_caller claims) ≡ record {
  outcome = Done (answer.Call (next n));
  rows = stands (numbers_1 n) (ana_in n A.WorkingAfterCall) (its_call n ∷ []) (waits n ∷ calls n ∷ []);
  events = event (n.event + 1) (minute n) (report.Queued (next n) claims NewCall) ∷ [];
}

arrives : (n : Numbers) → Stand n → Arrives n
unfolding switch_on_literals
arrives n s = simp (s.above, s.same, s.last, s.later) refl

-- Ana is ready, and the call is offered at once
abbrev numbers_2 : Numbers → Numbers
numbers_2 n = record { stamp = n.stamp + 1 + 1; moment = minute n; call = next n; event = n.event + 1 + 3; figures = more (more n.figures 1 0 0) 0 0 0 }

abbrev rings : Numbers → ConnectionRecord
rings n = ringing (minute n) (waits n) first_station

abbrev IsReady : Numbers → Type 0
IsReady n =
    step (stands (numbers_1 n) (ana_in n A.WorkingAfterCall) (its_call n ∷ []) (waits n ∷ calls n ∷ [])) (minute n) (SetAgentState ana (State pending.Ready))
    ≡ record {
      outcome = Done (answer.State A.Ready);
      rows = stands (numbers_2 n) (ana_in (numbers_2 n) A.Ready) (its_call n ∷ []) (rings n ∷ calls n ∷ []);
      events = event (n.event + 1 + 1) (minute n) (report.AgentReady ana first_station)
          ∷ event (n.event + 1 + 1 + 1) (minute n) (report.Diverted (next n) claims first_station Distributed (Some claims))
          ∷ event (n.event + 1 + 1 + 1 + 1) (minute n) (report.Delivered (next n) first_station Distributed (Some claims)) ∷ [];
    }

is_ready : (n : Numbers) → Stand n → IsReady n
unfolding switch_on_literals
is_ready n s = simp (s.above, s.same, s.now) refl

-- she answers
abbrev numbers_3 : Numbers → Numbers
numbers_3 n = record {
  stamp = n.stamp + 1 + 1 + 1;
  moment = minute n;
  call = next n;
  event = n.event + 1 + 3 + 2;
  figures = more (more (more n.figures 1 0 0) 0 0 0) 0 1 (minute n - minute n + 0);
}

abbrev talks : Numbers → ConnectionRecord
talks n = talking (rings n)

abbrev IsAnswered : Numbers → Type 0
IsAnswered n =
    step (stands (numbers_2 n) (ana_in (numbers_2 n) A.Ready) (its_call n ∷ []) (rings n ∷ calls n ∷ [])) (minute n) (AnswerCall (next n) first_station)
    ≡ record {
      outcome = Done answer.Nothing;
      rows = stands (numbers_3 n) (ana_in (numbers_3 n) A.Busy) (its_call n ∷ []) (talks n ∷ calls n ∷ []);
      events = event (n.event + 1 + 3 + 1) (minute n) (report.Established (next n) first_station (Some (record { group = claims; seconds = minute n - minute n })))
          ∷ event (n.event + 1 + 3 + 1 + 1) (minute n) (report.AgentBusy ana first_station) ∷ [];
    }

is_answered : (n : Numbers) → Stand n → IsAnswered n
unfolding switch_on_literals
is_answered n s = simp (s.above, s.same, s.now) refl

-- the call ends
abbrev numbers_4 : Numbers → Numbers
numbers_4 n = record {
  stamp = n.stamp + 1 + 1 + 1 + 1;
  moment = minute n;
  call = next n;
  event = n.event + 1 + 3 + 2 + 4;
  figures = more (more (more (more n.figures 1 0 0) 0 0 0) 0 1 (minute n - minute n + 0)) 0 0 0;
}

abbrev Ends : Numbers → Type 0
Ends n =
    step (stands (numbers_3 n) (ana_in (numbers_3 n) A.Busy) (its_call n ∷ []) (talks n ∷ calls n ∷ [])) (minute n) (ClearConnection (next n) first_station)
    ≡ record {
      outcome = Done answer.Nothing;
      rows = between (numbers_4 n);
      events = event (n.event + 1 + 3 + 2 + 1) (minute n) (report.ConnectionCleared (next n) first_station)
          ∷ event (n.event + 1 + 3 + 2 + 1 + 1) (minute n) (report.ConnectionCleared (next n) second_caller)
          ∷ event (n.event + 1 + 3 + 2 + 1 + 1 + 1) (minute n) (report.CallCleared (next n) None)
          ∷ event (n.event + 1 + 3 + 2 + 1 + 1 + 1 + 1) (minute n) (report.AgentWorkingAfterCall ana first_station) ∷ [];
    }

ends : (n : Numbers) → Stand n → Ends n
unfolding switch_on_literals
ends n s = simp (s.now, s.not_below, s.not_first, s.not_less, s.is, s.differs) refl

-- requests in turn

abbrev IsSilent : Event → Type 0
IsSilent e = IsAnother (columns_of e.report).call

abbrev answered_in : List Event → ℕ
answered_in es = count (λ (e : Event). is_answered_there e.report) es

-- from a state through requests, of which so many are answers
record Through (s : Rows) (commands : List TimedCommand) (n : ℕ) : Type 0 where
  pub waits : WaitsThrough s commands
  pub done : Every IsDone (run s commands).outcomes
  pub answers : answered_in (run s commands).events ≡ n
  pub silent : Every IsSilent (run s commands).events

abbrev then_events : List Event → Outcome → AfterRun → AfterRun
then_events es o rest = record { rows = rest.rows; outcomes = o ∷ rest.outcomes; events = es ++ rest.events }

one_step : (s t : Rows) (q : TimedCommand) (more : List TimedCommand) (o : Outcome) (es : List Event)
    → step s q.moment q.command ≡ record { outcome = o; rows = t; events = es } → run s (q ∷ more) ≡ then_events es o (run t more)
unfolding run
one_step s t q more o es e = ap (λ x. then_run x (run x.rows more)) e

-- a request while the call waits: it is done, and so many of its events are answers, all of other calls
record Steps (s t : Rows) (q : TimedCommand) (o : Outcome) (es : List Event) (m : ℕ) : Type 0 where
  pub step_is : step s q.moment q.command ≡ record { outcome = o; rows = t; events = es }
  pub waits : Waits s
  pub done : IsDone o
  pub answers : answered_in es ≡ m
  pub silent : Every IsSilent es

by_step : {s t : Rows} {q : TimedCommand} {more : List TimedCommand} {o : Outcome} {es : List Event} (m n all : ℕ) → m + n ≡ all
    → Steps s t q o es m → Through t more n → Through s (q ∷ more) all
by_step {s} {t} {q} {more} {o} {es} m n all sum first rest =
    let is : run s (q ∷ more) ≡ then_events es o (run t more) = one_step s t q more o es first.step_is in
    let c = count-append (λ (e : Event). is_answered_there e.report) es (run t more).events in
    let a = first.answers in
    let r = rest.answers in
    record {
      waits = (first.waits, subst (λ x. WaitsThrough x.rows more) (sym first.step_is) rest.waits);
      done = subst (λ (r : AfterRun). Every IsDone r.outcomes) (sym is) (first.done, rest.done);
      answers = ap (λ (r : AfterRun). answered_in r.events) is ∙ omega (arith, c, a, r, sum);
      silent = subst (λ (r : AfterRun). Every IsSilent r.events) (sym is) (every-append IsSilent es (run t more).events first.silent rest.silent);
    }

waits_here : (n k : Numbers) (state : AgentState) (calls : List CallRecord) (connections : List ConnectionRecord)
    → Waits (stands n (ana_in k state) calls connections)
unfolding connection_of agent_of
waits_here n k state calls connections = record { place = 8; waiting = refl; agent = ana_in k state; known = refl; groups = refl }

goes_on : (n : Numbers) → Goes n → Goes (numbers_4 n)
goes_on n h = let c = h.call in record { call = omega (arith, c); moment = omega arith }

nothing_left : (s : Rows) → Waits s → Through s [] 0
unfolding run
nothing_left s w = record { waits = w; done = tt; answers = refl; silent = tt }

through : (n : ℕ) (k : Numbers) → Goes k → Through (between k) (rounds_from (next k) n) n
through zero k h = nothing_left (between k) (waits_here k k A.WorkingAfterCall [] [])
through (suc n) k h =
    let s = stand k h in
    let c = h.call in
    let other : next k ≢ 1 = omega (arith, c) in
    let rest = through n (numbers_4 k) (goes_on k h) in
    let fourth =
    by_step 0 n n (omega arith) (record {
      step_is = ends k s;
      waits = waits_here (numbers_3 k) (numbers_3 k) A.Busy (its_call k ∷ []) (talks k ∷ calls k ∷ []);
      done = tt;
      answers = refl;
      silent = (other, (other, (other, (tt, tt))));
    }) rest in
    let third =
    by_step 1 n (suc n) (omega arith) (record {
      step_is = is_answered k s;
      waits = waits_here (numbers_2 k) (numbers_2 k) A.Ready (its_call k ∷ []) (rings k ∷ calls k ∷ []);
      done = tt;
      answers = refl;
      silent = (other, (tt, tt));
    }) fourth in
    let second =
    by_step 0 (suc n) (suc n) (omega arith) (record {
      step_is = is_ready k s;
      waits = waits_here (numbers_1 k) k A.WorkingAfterCall (its_call k ∷ []) (waits k ∷ calls k ∷ []);
      done = tt;
      answers = refl;
      silent = (tt, (other, (other, tt)));
    }) third in
    by_step 0 (suc n) (suc n) (omega arith) (record {
      step_is = arrives k s;
      waits = waits_here k k A.WorkingAfterCall [] [];
      done = tt;
      answers = refl;
      silent = (other, tt);
    }) second

length_rounds : (n call : ℕ) → length (rounds_from call n) ≡ 4 * n
length_rounds zero call = refl
length_rounds (suc n) call = let h = length_rounds n (call + 1) in omega (arith, h)

pub starves : (n : ℕ) → Starves n
starves n =
    let t : Through begun (rounds_from 2 n) n =
    subst (λ s. Through s (rounds_from 2 n) n) (sym begins) (through n first_numbers (record { call = omega arith; moment = omega arith })) in
    record { requests = length_rounds n 2; waits = t.waits; done = t.done; answers = t.answers; silent = t.silent }
