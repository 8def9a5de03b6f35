-- The one text of a request: its members in the order of their names.
use Rattle.std.specs.Prelude.{ℕ, List, Result}
use Rattle.std.specs.Borrow.{MutBor}
use Rattle.json.specs.Written.{Written}
use Rattle.serde_json.specs.Data.{Data, string, number, object, unsigned, Members, member, no_members}
use Rattle.serde_json.specs.Written.{compact_text}
use Rattle.acd_terms.specs.Forms.{digits_of}
use Rattle.acd_terms.specs.declared.command.Request.{Request}
use Rattle.acd_terms.specs.declared.command.Requested.TheVariants as requested
use Rattle.acd_terms.specs.declared.command.Command.{Command}
use Rattle.acd_codec.specs.declared.member.Member.{Member}
use Rattle.acd_codec.specs.declared.member.Member.TheVariants as m
use Rattle.acd_codec.specs.declared.service.Details.{Details}
use Rattle.acd_codec.specs.declared.service.Details.TheVariants.{Group, Agent, Device, Arrival, Making, Connection, Transfer, State, Monitor, Priority, Nothing}
use Rattle.acd_codec.specs.declared.service.RequestedState.{RequestedState}
use Rattle.acd_codec.specs.declared.service.RequestedState.TheVariants as requested_state
use Rattle.acd_codec.specs.declared.service.Service.{Service}
use Rattle.acd_codec.specs.Members.{member_name}
use Rattle.acd_codec.specs.Parts.{written_before, groups_parts}
use Rattle.acd_codec.specs.Services.{service_name, taken_apart, requested_state_name}
use Rattle.acd_codec.specs.Tokens.{AddsMembers}
use denote.Triple.Both.{Both}

-- a member that is a text, before the others
abbrev pub text : Member → List ℕ → Members → Members
text m t more = member (member_name m) (string t) more

-- one that is a whole number
abbrev pub whole : Member → ℕ → Members → Members
whole m n more = member (member_name m) (number (unsigned n)) more

-- one that is the digits of a device or an agent
abbrev pub digits : Member → ℕ → Members → Members
digits m n more = text m (digits_of n) more

-- whose request it is, its key: the requester and the number
abbrev pub whose : Request → List ℕ × ℕ
whose r = (r.requester, r.invoke)

-- the requester, and the service next
abbrev pub sent_by : List ℕ → Service → Members → Members
sent_by requester s more = text m.Requester requester (text m.Service (service_name s) more)

-- the key and the service, where no other member comes between them
abbrev pub sent : List ℕ × ℕ → Service → Members → Members
sent key s more = whole m.Invoke key.1 (sent_by key.0 s more)

-- the key, with a name between
abbrev pub named : List ℕ × ℕ → List ℕ → Members → Members
named key name more = whole m.Invoke key.1 (text m.Name name (text m.Requester key.0 more))

-- the key, with what is asked for between, and the service
abbrev pub asked : List ℕ × ℕ → Service → RequestedState → Members
asked key s state = whole m.Invoke key.1 (text m.Requested (requested_state_name state) (sent_by key.0 s no_members))

-- the key, the service and its members; only loggedOn has a device and groups
abbrev pub service_members : List ℕ × ℕ → Service → Details → Members
service_members key s (Group device name ring wrap) =
    digits m.Device device (named key name (whole m.Ring ring (text m.Service (service_name s) (whole m.Wrap wrap no_members))))
service_members key s (Agent agent name) = digits m.Agent agent (named key name (text m.Service (service_name s) no_members))
service_members key s (Device device) = digits m.Device device (sent key s no_members)
service_members key s (Arrival caller called) = digits m.Called called (digits m.Caller caller (sent key s no_members))
service_members key s (Making device called) = digits m.Called called (digits m.Device device (sent key s no_members))
service_members key s (Connection call device) = whole m.Call call (digits m.Device device (sent key s no_members))
service_members key s (Transfer call device to) = whole m.Call call (digits m.Device device (sent key s (digits m.To to no_members)))
service_members key s (State agent (requested.LoggedOn device groups)) =
    digits m.Agent agent (digits m.Device device (written_before (groups_parts groups) (asked key s requested_state.LoggedOn)))
service_members key s (State agent (requested.State state)) = digits m.Agent agent (asked key s (requested_state.State state))
service_members key s (Monitor monitor) = whole m.Invoke key.1 (whole m.Monitor monitor (sent_by key.0 s no_members))
service_members key s (Priority device priority) =
    digits m.Device device (whole m.Invoke key.1 (whole m.Priority priority (sent_by key.0 s no_members)))
service_members key s Nothing = sent key s no_members

-- those of the request's service are written after what the buffer holds, unless memory ran out
abbrev pub AddsService : {E : Type 0} → Result (Unit {0}) E → Both (MutBor Written) (MutBor Written) → Request → Service → Details → Type 0
AddsService r out request s details = AddsMembers r out.entry.now out.exit.now (service_members (whose request) s details)

abbrev pub request_members : List ℕ → ℕ → Command → Members
request_members q i c = service_members (q, i) (taken_apart c).0 (taken_apart c).1

-- the members of a request
abbrev pub members_of : Request → Members
members_of r = request_members r.requester r.invoke r.command

unfoldable pub request_data : Request → Data
request_data r = object (members_of r)

-- compact JSON
unfoldable pub request_text : Request → List ℕ
request_text r = compact_text (request_data r)
