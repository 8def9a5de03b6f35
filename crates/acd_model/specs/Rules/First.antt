-- The rules of rows, in the order in which they are tested.
use Rattle.std.specs.Prelude.{◌≡◌, Bool, Option, Some, None, if◌then◌else◌}
use Rattle.acd_terms.specs.declared.rows.Rows.{Rows}
use Rattle.acd_terms.specs.declared.rows.Rule.{Rule}
use Rattle.acd_terms.specs.declared.rows.Rule.TheVariants as rule
use Rattle.acd_model.specs.Rules.Plan.{keeps_limits, keeps_order, keeps_device, keeps_agent, keeps_monitor}
use Rattle.acd_model.specs.Rules.Calls.{keeps_call, keeps_connection, keeps_parties, keeps_live}
use Rattle.acd_model.specs.Rules.Occupied.{keeps_occupied, keeps_offer, keeps_balance}
use Rattle.acd_model.specs.Rules.Counters.{keeps_counters}

-- continues where the rule is kept
abbrev pub or_broken : Bool → Rule → Option Rule → Option Rule
or_broken kept which rest = if kept then rest else Some which

-- the first rule that the rows break, of those from one on
abbrev pub broken_from_offer : Rows → Option Rule
broken_from_offer s =
    or_broken (keeps_offer s) rule.Offer (
    or_broken (keeps_monitor s) rule.Monitor (
    or_broken (keeps_balance s) rule.Balance None))

-- the first broken one of the rules from Live on
abbrev pub broken_from_live : Rows → Option Rule
broken_from_live s =
    or_broken (keeps_live s) rule.Live (
    or_broken (keeps_occupied s) rule.Occupied (
    or_broken (keeps_counters s) rule.Counters (broken_from_offer s)))

-- the first broken one of the rules from Call on
abbrev pub broken_from_call : Rows → Option Rule
broken_from_call s =
    or_broken (keeps_call s) rule.Call (
    or_broken (keeps_connection s) rule.Connection (
    or_broken (keeps_parties s) rule.Parties (broken_from_live s)))

-- and of all
unfoldable pub first_broken : Rows → Option Rule
first_broken s =
    or_broken (keeps_limits s) rule.Limits (
    or_broken (keeps_order s) rule.Order (
    or_broken (keeps_device s) rule.Device (
    or_broken (keeps_agent s) rule.Agent (broken_from_call s))))

-- the rows break no rule
abbrev pub BreaksNoRule : Rows → Type 0
BreaksNoRule s = first_broken s ≡ None
