-- The choice of a waiting call and of a ready agent for it.
use Rattle.std.specs.Prelude.{ℕ, Bool, ◌&&◌, ◌||◌, ◌==◌, nat_lt, List, [], ◌∷◌, Option, Some, None, option_and_then, is_some, filter, map, unwrap_or, if◌then◌else◌}
use Rattle.acd_terms.specs.Numbers.{Device, Agent, CallId, Stamp}
use Rattle.acd_terms.specs.declared.rows.Rows.{Rows}
use Rattle.acd_terms.specs.declared.record.GroupRecord.{GroupRecord}
use Rattle.acd_terms.specs.declared.record.AgentRecord.{AgentRecord}
use Rattle.acd_terms.specs.declared.record.ConnectionRecord.{ConnectionRecord}
use Rattle.acd_model.specs.Scans.{waiting_in, eligible_in}
use Rattle.acd_model.specs.declared.moves.Offer.{Offer}

-- by the first part, and by the second where the first is equal
abbrev pub pair_lt : ℕ × ℕ → ℕ × ℕ → Bool
pair_lt a b = nat_lt a.0 b.0 || (a.0 == b.0 && nat_lt a.1 b.1)

-- the lesser of a pair and another that may be there
abbrev pub lesser : Option (ℕ × ℕ) → ℕ × ℕ → ℕ × ℕ
lesser None p = p
lesser (Some q) p = if pair_lt p q then p else q

-- the least of the pairs and one from before
abbrev pub least_from : Option (ℕ × ℕ) → List (ℕ × ℕ) → Option (ℕ × ℕ)
least_from best [] = best
least_from best (p ∷ ps) = least_from (Some (lesser best p)) ps

-- the place and call of a waiting connection
abbrev pub waiting_pair : ConnectionRecord → Stamp × CallId
waiting_pair c = (unwrap_or c.place 0, c.call)

-- the stamp and number of an agent
abbrev pub ready_pair : AgentRecord → Stamp × Agent
ready_pair a = (a.stamp, a.agent)

-- the place and call of the one that waits first in a group
unfoldable pub first_waiting : Rows → Device → Option (Stamp × CallId)
first_waiting s group = least_from None (map waiting_pair (waiting_in s group))

-- the stamp and number of the agent that is ready longest in a group
unfoldable pub first_eligible : Rows → Device → Option (Stamp × Agent)
first_eligible s group = least_from None (map ready_pair (eligible_in s group))

-- the first call of a group is offered to its first agent, where it has both
abbrev pub offer_by : Device → Option (Stamp × CallId) → Option (Stamp × Agent) → Option Offer
offer_by g (Some w) (Some r) = Some (record { group = g; call = w.1; agent = r.1 })
offer_by g _ _ = None

abbrev pub offer_in : Rows → GroupRecord → Option Offer
offer_in s g = offer_by g.device (first_waiting s g.device) (first_eligible s g.device)

-- of higher priority, or of equal priority and smaller number
abbrev pub precedes : GroupRecord → GroupRecord → Bool
precedes g h = nat_lt h.priority g.priority || (g.priority == h.priority && nat_lt g.device h.device)

-- the one of a group and another that may be there which precedes
abbrev pub sooner : Option GroupRecord → GroupRecord → GroupRecord
sooner None g = g
sooner (Some h) g = if precedes g h then g else h

-- the one of the groups and one from before which precedes
abbrev pub foremost : Option GroupRecord → List GroupRecord → Option GroupRecord
foremost best [] = best
foremost best (g ∷ gs) = foremost (Some (sooner best g)) gs

-- it has a waiting call and an eligible agent
abbrev pub has_both : Rows → GroupRecord → Bool
has_both s g = is_some (first_waiting s g.device) && is_some (first_eligible s g.device)

-- the offer that is to be made: of the groups that have both, in the one that precedes the others
unfoldable pub offer_of : Rows → Option Offer
offer_of s = option_and_then (offer_in s) (foremost None (filter (has_both s) s.groups))
