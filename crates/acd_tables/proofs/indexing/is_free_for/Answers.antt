use Rattle.std.proofs.Common.{◌≡◌, ℕ, Option, Some, None, true, ap, sym, ◌∙◌}
use Rattle.std.proofs.lemmas.Bool.{eqb-true}
use Rattle.acd_model.specs.Scans.{has}
use Rattle.acd_lemmas.proofs.Lists.{some_is}
use Rattle.acd_lemmas.proofs.State.{has_is}
use Rattle.acd_tables.specs.IndexedRows.{SeatMap, agent_seated}
use Rattle.acd_tables.proofs.indexing.is_free_for.Goals as goal

-- the agent at the station that the agent has
seat_there : (seats : SeatMap) (wanted : Option ℕ) (station d n : ℕ) (there : Option ℕ) → wanted ≡ Some station → there ≡ agent_seated seats station
    → has wanted d ≡ true → has (agent_seated seats d) n ≡ true → there ≡ Some n
seat_there seats wanted station d n there is at e f =
    let same : station ≡ d = some_is station d (sym is ∙ has_is wanted d e) in
    at ∙ ap (agent_seated seats) same ∙ has_is (agent_seated seats d) n f

pub returns-in-None-get : goal.returns-in-None-get
returns-in-None-get c = λ yes d n e f.
    let there = seat_there c.args.seats.now c.args.item.now.station c.in-Some.station d n None c.in-Some.is c.in-None-get.ensures.value e f in
    absurd (cc (there))

pub returns-in-Some-get : goal.returns-in-Some-get
returns-in-Some-get c = λ yes d n e f.
    let there =
    seat_there c.args.seats.now c.args.item.now.station c.in-Some.station d n (Some c.in-Some-get.agent.now) c.in-Some.is c.in-Some-get.ensures.value e f in
    sym (eqb-true c.in-Some-get.agent.now c.args.item.now.agent (sym c.eq.ensures ∙ yes)) ∙ some_is c.in-Some-get.agent.now n there
