-- Distribution: offers are made until there is none.
use Rattle.std.specs.Prelude.{ℕ, zero, suc, List, [], ◌∷◌, ◌++◌, Option, Some, None, length}
use Rattle.acd_terms.specs.Numbers.{Device, Moment}
use Rattle.acd_terms.specs.declared.rows.Rows.{Rows}
use Rattle.acd_terms.specs.declared.record.ConnectionRecord.{ConnectionRecord}
use Rattle.acd_terms.specs.declared.record.AgentRecord.{AgentRecord}
use Rattle.acd_terms.specs.declared.event.Cause.TheVariants.{Distributed}
use Rattle.acd_model.specs.Scans.{connection_of, agent_of, queued_in_all}
use Rattle.acd_model.specs.Choice.{offer_of}
use Rattle.acd_model.specs.Moves.{moved}
use Rattle.acd_model.specs.CallMoves.{divert, offer}
use Rattle.acd_model.specs.declared.moves.Move.{Move}
use Rattle.acd_model.specs.declared.moves.Offer.{Offer}

-- the queued connection ends, and the call alerts at the agent's station
abbrev pub offer_at : Moment → Option ConnectionRecord → Option Device → List Move
offer_at moment (Some x) (Some station) = divert x station Distributed ∷ offer moment x station ∷ []
offer_at moment _ _ = []

abbrev pub station_of_agent : Option AgentRecord → Option Device
station_of_agent None = None
station_of_agent (Some a) = a.station

-- the moves of an offer
unfoldable pub offer_moves : Rows → Moment → Offer → List Move
offer_moves s moment o = offer_at moment (connection_of s o.call o.group) (station_of_agent (agent_of s o.agent))

-- stays where there is no offer, and continues with the one there is
abbrev pub with_offer : {A : Type 0} → Option Offer → A → (Offer → A) → A
with_offer None stay go = stay
with_offer (Some o) stay go = go o

-- at most this many offers, one after another
abbrev pub offers : ℕ → Rows → Moment → List Move
offers zero s moment = []
offers (suc n) s moment = with_offer (offer_of s) [] (λ o. offer_moves s moment o ++ offers n (moved s (offer_moves s moment o)) moment)

-- each offer takes a queued connection away, so there are at most as many as are queued
unfoldable pub distribution : Rows → Moment → List Move
distribution s moment = offers (length (queued_in_all s)) s moment
