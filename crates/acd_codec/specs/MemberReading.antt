-- The members of a request, each read by the form of what it names.
use Rattle.std.specs.Prelude.{ℕ, nat_le, Bool, true, not, ◌&&◌, List, [], ◌∷◌, length, Option, Some, None, option_map, option_and_then, Result, if◌then◌else◌}
use Rattle.std.specs.Ordering.{nat_cmp}
use Rattle.std.specs.Option.{ok_or, is_some}
use Rattle.std.specs.Result.{result_ok}
use Rattle.json.specs.declared.value.Value.{Value}
use Rattle.serde_json.specs.Data.{Data, Items, no_items, item}
use Rattle.serde_json.specs.Find.{get, as_str, as_number, as_u64, as_array}
use Rattle.acd_terms.specs.Forms.{device_digits, agent_digits, read_id, read_text, is_name_byte, is_requester_byte, number_between}
use Rattle.acd_terms.specs.Groups.{most_groups, is_one_of}
use Rattle.acd_terms.specs.Lists.{put_by}
use Rattle.acd_codec.specs.declared.member.Member.{Member}
use Rattle.acd_codec.specs.declared.member.Member.TheVariants as member
use Rattle.acd_codec.specs.declared.service.RequestedState.{RequestedState}
use Rattle.acd_codec.specs.declared.service.Service.{Service}
use Rattle.acd_codec.specs.Members.{member_name}
use Rattle.acd_codec.specs.Documents.{items_data}
use Rattle.acd_codec.specs.Services.{service_of, requested_state_of}

-- the value of a member
abbrev pub member_in : Member → Data → Option Data
member_in m d = get (member_name m) d

-- a member that is a text
abbrev pub text_in : Member → Data → Option (List ℕ)
text_in m d = option_and_then as_str (member_in m d)

-- a member that is a whole number, written with no fraction, exponent or sign
abbrev pub number_in : Member → Data → Option ℕ
number_in m d = option_and_then as_u64 (option_and_then as_number (member_in m d))

-- a member that is a list
abbrev pub list_in : Member → Data → Option Items
list_in m d = option_and_then as_array (member_in m d)

-- there is a member of this name, whatever it is
abbrev pub is_there : Member → Data → Bool
is_there m d = is_some (member_in m d)

-- the member's text as this reader reads it, or the member as faulty
abbrev pub read_in : {A : Type 0} → (List ℕ → Option A) → Member → Data → Result A Member
read_in reader m d = ok_or (option_and_then reader (text_in m d)) m

-- the member's number, if it is from the least to the greatest
abbrev pub number_within : ℕ → ℕ → Member → Data → Result ℕ Member
number_within least greatest m d = ok_or (option_and_then (number_between least greatest) (number_in m d)) m

-- a device is 1 to 15 digits
abbrev pub device_of : List ℕ → Option ℕ
device_of t = result_ok (read_id device_digits t)

unfoldable pub device_in : Member → Data → Result ℕ Member
device_in m d = read_in device_of m d

-- an agent is 1 to 9 digits
unfoldable pub agent_in : Data → Result ℕ Member
agent_in d = read_in (λ t. result_ok (read_id agent_digits t)) member.Agent d

-- a name is 1 to 40 printable characters
unfoldable pub name_in : Data → Result (List ℕ) Member
name_in d = read_in (λ t. result_ok (read_text is_name_byte 40 t)) member.Name d

-- a requester is 1 to 32 lower-case letters, digits and hyphens
unfoldable pub requester_in : Data → Result (List ℕ) Member
requester_in d = read_in (λ t. result_ok (read_text is_requester_byte 32 t)) member.Requester d

-- an invoke number is 1 to 999999999
unfoldable pub invoke_in : Data → Result ℕ Member
invoke_in d = number_within 1 999999999 member.Invoke d

-- a time of a group is 0 to 3600 seconds
unfoldable pub seconds_in : Member → Data → Result ℕ Member
seconds_in m d = number_within 0 3600 m d

-- a priority is 0 to 9
unfoldable pub priority_in : Data → Result ℕ Member
priority_in d = number_within 0 9 member.Priority d

-- a call or a monitor is 1 to 1000000000
unfoldable pub serial_in : Member → Data → Result ℕ Member
serial_in m d = number_within 1 1000000000 m d

-- a service has one of the names
unfoldable pub service_in : Data → Result Service Member
service_in d = read_in service_of member.Service d

-- the request is for loggedOn or one of four states
unfoldable pub requested_state_in : Data → Result RequestedState Member
requested_state_in d = read_in requested_state_of member.Requested d

-- the devices of a list, where each item is the text of one
abbrev pub devices_of : Items → Option (List ℕ)
devices_of no_items = Some []
devices_of (item d ds) = option_and_then (λ (n : ℕ). option_map (λ (ns : List ℕ). n ∷ ns) (devices_of ds)) (option_and_then device_of (as_str d))

-- those of values that were read
abbrev pub devices_named : {A : Type 0} → List (Value A) → Option (List ℕ)
devices_named vs = option_and_then devices_of (items_data vs)

-- none of them occurs there twice
abbrev pub are_distinct : List ℕ → Bool
are_distinct [] = true
are_distinct (d ∷ ds) = not (is_one_of ds d) && are_distinct ds

-- in ascending number: each is put in its place among the rest
abbrev pub ascending : List ℕ → List ℕ
ascending [] = []
ascending (d ∷ ds) = put_by (nat_cmp d) (ascending ds) d

-- one to eight devices, none of them twice, in whatever order
abbrev pub choice_of : List ℕ → Option (List ℕ)
choice_of ds = if nat_le 1 (length ds) && nat_le (length ds) most_groups && are_distinct ds then Some (ascending ds) else None

-- groups are a list of such devices
unfoldable pub groups_in : Data → Result (List ℕ) Member
groups_in d = ok_or (option_and_then choice_of (option_and_then devices_of (list_in member.Groups d))) member.Groups
