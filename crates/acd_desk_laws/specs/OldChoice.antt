-- Distribution as it was while an agent was in one group and groups had no priority, over the records of today: of an agent's
-- groups the one of least number takes the place of its only one. The parts that have not changed since are shared: who
-- waits, the least of a list, and the moves of an offer.
use Rattle.std.specs.Prelude.{ℕ, zero, suc, Bool, not, ◌&&◌, List, [], ◌∷◌, ◌++◌, length, filter, map, Option, Some, None}
use Rattle.acd_terms.specs.Groups.{least_group}
use Rattle.acd_terms.specs.States.{is_ready}
use Rattle.acd_terms.specs.Numbers.{Device, Agent, CallId, Moment, Stamp}
use Rattle.acd_terms.specs.declared.rows.Rows.{Rows}
use Rattle.acd_terms.specs.declared.record.GroupRecord.{GroupRecord}
use Rattle.acd_terms.specs.declared.record.AgentRecord.{AgentRecord}
use Rattle.acd_model.specs.Scans.{has, is_occupied, is_idle_there, queued_in_all}
use Rattle.acd_model.specs.Choice.{least_from, ready_pair, first_waiting}
use Rattle.acd_model.specs.Distribution.{offer_moves, with_offer}
use Rattle.acd_model.specs.Moves.{moved}
use Rattle.acd_model.specs.declared.moves.Move.{Move}
use Rattle.acd_model.specs.declared.moves.Offer.{Offer}

-- of the group, ready and unoccupied, at an idle station
unfoldable pub old_is_eligible : Rows → Device → AgentRecord → Bool
old_is_eligible s group a = has (least_group a.groups) group && is_ready a.state && not (is_occupied s a) && is_idle_there s a.station

unfoldable pub old_eligible_in : Rows → Device → List AgentRecord
old_eligible_in s group = filter (old_is_eligible s group) s.agents

-- the stamp and number of the agent that is ready longest in a group
unfoldable pub old_first_eligible : Rows → Device → Option (Stamp × Agent)
old_first_eligible s group = least_from None (map ready_pair (old_eligible_in s group))

-- the offer in a group, where it has both, and else another
abbrev pub old_offer_or : Device → Option (Stamp × CallId) → Option (Stamp × Agent) → Option Offer → Option Offer
old_offer_or g None r rest = rest
old_offer_or g (Some w) None rest = rest
old_offer_or g (Some w) (Some r) rest = Some (record { group = g; call = w.1; agent = r.1 })

abbrev pub old_offer_in : Rows → List GroupRecord → Option Offer
old_offer_in s [] = None
old_offer_in s (g ∷ gs) = old_offer_or g.device (first_waiting s g.device) (old_first_eligible s g.device) (old_offer_in s gs)

-- the offer that is to be made: in the first group that has one
unfoldable pub old_offer_of : Rows → Option Offer
old_offer_of s = old_offer_in s s.groups

-- at most this many offers, one after another
abbrev pub old_offers : ℕ → Rows → Moment → List Move
old_offers zero s moment = []
old_offers (suc n) s moment = with_offer (old_offer_of s) [] (λ o. offer_moves s moment o ++ old_offers n (moved s (offer_moves s moment o)) moment)

-- each offer takes a queued connection away, so there are at most as many as are queued
unfoldable pub old_distribution : Rows → Moment → List Move
old_distribution s moment = old_offers (length (queued_in_all s)) s moment
