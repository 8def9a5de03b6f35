-- How many events a step makes at most.
use Rattle.std.proofs.Common.{◌≡◌, ℕ, zero, suc, ◌+◌, ◌*◌, ◌≤◌, inl, inr, true, not, List, [], ◌∷◌, ◌++◌, Option, Some, None, refl, sym, ◌∙◌, ap, arith, length, eq-eqb, length-append}
use Rattle.std.specs.Prelude.{◌==◌, is_some, filter}
use Rattle.std.proofs.lemmas.Bool.{not-true}
use Rattle.acd_lemmas.proofs.Words.{Rows, AgentRecord, CallRecord, ConnectionRecord, Event, Move, Offer, Report, count, Among, is_queued, agent_of, call_of, connection_of, queued_in_all, moved, with_event, events_of, parties_of}
use Rattle.acd_lemmas.proofs.RuleFacts.{Rules}
use Rattle.acd_lemmas.proofs.Lists.{filter_among, counted, filter_length, split_length, fewer_filtered}
use Rattle.acd_lemmas.proofs.KeyedLists.{eqb_self}
use Rattle.acd_lemmas.proofs.State.{call_among, call_key, none_of_call}
use Rattle.acd_terms.specs.Limits.{limits_fit}
use Rattle.acd_model.specs.Choice.{offer_of}
use Rattle.acd_model.specs.Distribution.{offer_at, offer_moves, with_offer, offers, distribution, station_of_agent}
use Rattle.acd_model.specs.Tick.{return_to, return_moves, wrap_up_moves, each, is_overdue, overdue_in, is_wrapped_up, wrapped_up_in, returns, wraps, tick}
use Rattle.acd_laws.proofs.Rules.RulesOfEnds.{two_le}
use Rattle.acd_lemmas.proofs.RuleTests.{◌and◌, within}
use Rattle.acd_terms.specs.declared.command.Turn.{Turn}

-- no more events than moves
event_length : (m : ℕ) (o : Option Report) (es : List Event) → length (with_event m o es) ≤ 1 + length es
event_length m None es = omega arith
event_length m (Some r) es = omega arith

pub events_length : (m : ℕ) (ms : List Move) → length (events_of m ms) ≤ length ms
events_length m [] = omega arith
events_length m (x ∷ xs) = let a = event_length m x.report (events_of m xs) in let b = events_length m xs in omega (arith, a, b)

-- at most two connections for each call

record HasCall (cs : List CallRecord) (x : ConnectionRecord) : Type 0 where
  call : CallRecord
  there : Among call cs
  same : call.call ≡ x.call

two_each : (cs : List CallRecord) (xs : List ConnectionRecord) → ((x : ConnectionRecord) → Among x xs → HasCall cs x)
    → ((c : CallRecord) → Among c cs → count (parties_of c.call) xs ≤ 2) → length xs ≤ 2 * length cs
two_each [] [] h f = omega arith
two_each [] (x ∷ xs) h f = absurd ((h x (inl refl)).there)
two_each (c ∷ cs) xs h f =
    let rest : List ConnectionRecord = filter (λ x. not (parties_of c.call x)) xs in
    let a = split_length (parties_of c.call) xs in
    let b = f c (inl refl) in
    let ih = two_each cs rest
    (λ x i. (let w = filter_among (λ x. not (parties_of c.call x)) xs x i in let k = h x w.0 in
    elim k.there [
      | inl e ↦ absurd (cc (not-true (x.call == c.call) w.1, eq-eqb x.call c.call (sym k.same ∙ ap (λ (z : CallRecord). z.call) e)))
      | inr t ↦ record { call = k.call; there = t; same = k.same }
    ]))
    (λ d i. (let u = f d (inr i) in let v = fewer_filtered (parties_of d.call) (λ x. not (parties_of c.call x)) xs in omega (arith, u, v))) in
    omega (arith, a, b, ih)

pub connections_length : (s : Rows) → Rules s → length s.connections ≤ 2 * length s.calls
connections_length s r = two_each s.calls s.connections
    (λ x i. (elim (call_of s x.call) as (λ o. call_of s x.call ≡ o → HasCall s.calls x) [
      | None ↦ λ e.
          (let z = none_of_call s r x.call e in let c = counted (parties_of x.call) s.connections x i (eqb_self x.call) in absurd (omega (arith, z, c)))
      | Some c ↦ λ e. record { call = c; there = call_among s x.call c e; same = call_key s x.call c e }
    ]) refl)
    (λ c i. (let p = r.parties c.call in let t = two_le (is_some (call_of s c.call)) in omega (arith, p, t)))

-- limits

pub record Greatest (s : Rows) : Type 0 where
  pub calls : s.limits.calls ≤ 2000
  pub agents : s.limits.agents ≤ 1000
  pub requests : s.limits.requests ≤ 1000000000

pub greatest : (s : Rows) → limits_fit s.limits ≡ true → Greatest s
unfolding limits_fit
greatest s e =
    let p =
    (within s.limits.requests 1000000000 and within s.limits.calls 2000 and within s.limits.groups 64 and within s.limits.stations 1000
    and within s.limits.agents 1000 and within s.limits.monitors 256).0
    e in
    record { calls = p.0.0.0.0.1; agents = p.0.1; requests = p.0.0.0.0.0 }

-- the moves of a distribution and of tick

offer_at_length : (m : ℕ) (o : Option ConnectionRecord) (d : Option ℕ) → length (offer_at m o d) ≤ 2
offer_at_length m None None = omega arith
offer_at_length m None (Some d) = omega arith
offer_at_length m (Some x) None = omega arith
offer_at_length m (Some x) (Some d) = omega arith

offer_length : (s : Rows) (m : ℕ) (o : Offer) → length (offer_moves s m o) ≤ 2
unfolding offer_moves
offer_length s m o = offer_at_length m (connection_of s o.call o.group) (station_of_agent (agent_of s o.agent))

offers_length : (n : ℕ) (s : Rows) (m : ℕ) → length (offers n s m) ≤ 2 * n
offers_length zero s m = omega arith
offers_length (suc n) s m =
    elim (offer_of s) as (λ p. length (with_offer p [] (λ o. offer_moves s m o ++ offers n (moved s (offer_moves s m o)) m)) ≤ 2 * suc n) [
      | None ↦ omega arith
      | Some o ↦ (let a = length-append (offer_moves s m o) (offers n (moved s (offer_moves s m o)) m) in let b = offer_length s m o in
          let c = offers_length n (moved s (offer_moves s m o)) m in omega (arith, a, b, c))
    ]

pub distribution_length : (s : Rows) (m : ℕ) → length (distribution s m) ≤ 2 * length s.connections
unfolding distribution queued_in_all
distribution_length s m =
    let a = offers_length (length (queued_in_all s)) s m in let b = filter_length (λ (c : ConnectionRecord). is_queued c.state) s.connections in
    omega (arith, a, b)

return_length : (s : Rows) (turn : Turn) (x : ConnectionRecord) (o : Option ℕ) → length (return_to s turn x o) ≤ 3
return_length s turn x None = omega arith
return_length s turn x (Some g) = omega arith

each_returns : (turn : Turn) (t : Rows) (xs : List ConnectionRecord) → length (each (λ t x. return_moves t turn x) t xs) ≤ 3 * length xs
each_returns turn t [] = omega arith
each_returns turn t (x ∷ xs) =
    let ms : List Move = return_moves t turn x in
    let a = length-append ms (each (λ t x. return_moves t turn x) (moved t ms) xs) in let b = return_length t turn x x.group in
    let c = each_returns turn (moved t ms) xs in omega (arith, a, b, c)

each_rests : (turn : Turn) (t : Rows) (xs : List AgentRecord) → length (each (λ t a. wrap_up_moves turn a) t xs) ≤ length xs
each_rests turn t [] = omega arith
each_rests turn t (a ∷ xs) =
    let ms : List Move = wrap_up_moves turn a in
    let b = length-append ms (each (λ t a. wrap_up_moves turn a) (moved t ms) xs) in let c = each_rests turn (moved t ms) xs in omega (arith, b, c)

returns_length : (s : Rows) (turn : Turn) → length (returns s turn) ≤ 3 * length s.connections
unfolding returns overdue_in
returns_length s turn =
    let a = each_returns turn s (filter (is_overdue s turn.moment) s.connections) in let b = filter_length (is_overdue s turn.moment) s.connections in
    omega (arith, a, b)

rests_length : (s : Rows) (turn : Turn) → length (wraps s turn) ≤ length s.agents
unfolding wraps wrapped_up_in
rests_length s turn =
    let a = each_rests turn s (filter (is_wrapped_up s turn.moment) s.agents) in let b = filter_length (is_wrapped_up s turn.moment) s.agents in omega (arith, a, b)

pub tick_length : (s : Rows) (turn : Turn) → length (tick s turn) ≤ 3 * length s.connections + length (moved s (returns s turn)).agents
unfolding tick
tick_length s turn =
    let a = length-append (returns s turn) (wraps (moved s (returns s turn)) turn) in let b = returns_length s turn in
    let c = rests_length (moved s (returns s turn)) turn in omega (arith, a, b, c)
