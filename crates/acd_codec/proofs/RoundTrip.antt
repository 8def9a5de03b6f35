-- The text written for a request reads as that request.
use Rattle.std.proofs.Common.{◌≡◌, ℕ, ◌^◌, ◌<◌, ◌≤◌, List, [], ◌∷◌, true, Option, Some, None, Result, Ok, Err, refl, sym, ap, ◌∙◌, lit≤, lit<, arith, true≢false, IsUtf8}
use Rattle.json.specs.Tree as tree
use Rattle.json.proofs.Printed.Utf8.{IsUtf8-are_ascii, are_ascii}
use Rattle.serde_json.specs.Data.{Data, object, Members}
use Rattle.serde_json.specs.Read.{read, of_json, of_items, max_depth}
use Rattle.serde_json.specs.Written.{outline, items_outline, compact_text}
use Rattle.serde_json.proofs.Numbers.{number_of-decimal}
use Rattle.acd_terms.specs.Forms.{is_name_byte, is_requester_byte, digits_of, IsNumberOf, IsName, IsRequester, IsBetween}
use Rattle.acd_terms.specs.Groups.{is_choice}
use Rattle.acd_terms.specs.Lists.{Every}
use Rattle.acd_terms.specs.States.{pending_name}
use Rattle.acd_terms.specs.declared.state.Pending.{Pending}
use Rattle.acd_terms.specs.declared.state.Pending.TheVariants as pending
use Rattle.acd_terms.specs.declared.command.Request.{Request}
use Rattle.acd_terms.specs.declared.command.Requested.TheVariants as requested
use Rattle.acd_terms.specs.declared.command.Command.{Command}
use Rattle.acd_terms.specs.declared.command.Command.TheVariants as command
use Rattle.acd_terms.proofs.Identifiers.{ascii_name, ascii_requester, digits_ascii}
use Rattle.acd_terms.proofs.Texts.{utf8_ascii}
use Rattle.acd_terms.proofs.ReadBack.{id_again, text_again, number_again}
use Rattle.acd_codec.specs.declared.member.Member.{Member}
use Rattle.acd_codec.specs.declared.member.Member.TheVariants as member
use Rattle.acd_codec.specs.declared.service.Details.{Details}
use Rattle.acd_codec.specs.declared.service.Details.TheVariants as details
use Rattle.acd_codec.specs.declared.service.RequestedState.TheVariants as requested_state
use Rattle.acd_codec.specs.declared.service.Service.{Service}
use Rattle.acd_codec.specs.declared.service.Service.TheVariants as service
use Rattle.acd_codec.specs.Services.{Form, of_group, of_agent, of_device, of_arrival, of_making, of_connection, of_transfer, of_state, of_monitor, of_priority, of_nothing, row, service_name, service_of, taken_apart, requested_state_of}
use Rattle.acd_codec.specs.MemberReading.{list_in, device_in, agent_in, name_in, requester_in, invoke_in, seconds_in, priority_in, serial_in, service_in, requested_state_in, devices_of, groups_in}
use Rattle.acd_codec.specs.RequestReading.{reads_as, request_in, command_in, form_in, group_in, named_agent_in, two_devices_in, connection_in, one_group_in, chosen_in, requested_in, set_agent_state_in}
use Rattle.acd_codec.specs.Parts.{digits_data, groups_parts, items_of, written_before}
use Rattle.acd_codec.specs.RequestTexts.{service_members, request_data, request_text}
use Rattle.acd_codec.specs.RequestForms.{IsDevice, AreFormed, IsRequest}
use Rattle.acd_codec.proofs.GroupChoices.{choice_again}
use Rattle.acd_codec.proofs.PlainValues.{IsPlain, ItemsArePlain, MembersArePlain, read_plain, utf8_text}
use Rattle.acd_codec.proofs.Readings.{reads_object}

word : (s : List ℕ) → are_ascii s ≡ true → IsUtf8 s
word s e = IsUtf8-are_ascii s e

state_word : (p : Pending) → IsUtf8 (pending_name p)
state_word pending.LoggedOff = word _ refl
state_word pending.NotReady = word _ refl
state_word pending.Ready = word _ refl
state_word pending.WorkingAfterCall = word _ refl

digits_word : (longest n : ℕ) → IsNumberOf longest n → IsUtf8 (digits_of n)
digits_word longest n h = utf8_ascii (digits_of n) (digits_ascii n h.range)

name_word : (t : List ℕ) → IsName t → IsUtf8 t
name_word t h = utf8_ascii t (ascii_name t h.all)

requester_word : (t : List ℕ) → IsRequester t → IsUtf8 t
requester_word t h = utf8_ascii t (ascii_requester t h.all)

small : (least greatest n : ℕ) → greatest < 2 ^ 64 → IsBetween least greatest n → n < 2 ^ 64
small least greatest n l h = omega (arith, h.1)

plain_items : (gs : List ℕ) → Every IsDevice gs → ItemsArePlain (items_of digits_data gs)
plain_items [] h = tt
plain_items (g ∷ gs) h = (digits_word 15 g h.0, plain_items gs h.1)

plain_groups : (gs : List ℕ) (more : Members) → Every IsDevice gs → MembersArePlain more → MembersArePlain (written_before (groups_parts gs) more)
plain_groups [] more h rest = rest
plain_groups (g ∷ []) more h rest = (word _ refl, digits_word 15 g h.0, rest)
plain_groups (g ∷ k ∷ gs) more h rest = (word _ refl, plain_items (g ∷ k ∷ gs) h, rest)

service_word : (s : Service) → IsUtf8 (service_name s)
service_word service.AddGroup = word _ refl
service_word s = word _ refl

plain : (q : List ℕ) (i : ℕ) (s : Service) (x : Details) → IsRequester q → IsBetween 1 999999999 i → AreFormed x → MembersArePlain (service_members (q, i) s x)
plain q i s (details.Group device name ring wrap) hq hi hx = (word _ refl, digits_word 15 device hx.0, (word _ refl, small 1 999999999 i (lit< tt) hi, (word _ refl, name_word name hx.1, (word _ refl, requester_word q hq, (word _ refl, small 0 3600 ring (lit< tt) hx.2, (word _ refl, service_word s, (word _ refl, small 0 3600 wrap (lit< tt) hx.3, tt)))))))
plain q i s (details.Device device) hq hi hx = (word _ refl, digits_word 15 device hx, (word _ refl, small 1 999999999 i (lit< tt) hi, (word _ refl, requester_word q hq, (word _ refl, service_word s, tt))))
plain q i s (details.Agent agent name) hq hi hx = (word _ refl, digits_word 9 agent hx.0, (word _ refl, small 1 999999999 i (lit< tt) hi, (word _ refl, name_word name hx.1, (word _ refl, requester_word q hq, (word _ refl, service_word s, tt)))))
plain q i s (details.Arrival caller called) hq hi hx = (word _ refl, digits_word 15 called hx.1, (word _ refl, digits_word 15 caller hx.0, (word _ refl, small 1 999999999 i (lit< tt) hi, (word _ refl, requester_word q hq, (word _ refl, service_word s, tt)))))
plain q i s (details.Making device called) hq hi hx = (word _ refl, digits_word 15 called hx.1, (word _ refl, digits_word 15 device hx.0, (word _ refl, small 1 999999999 i (lit< tt) hi, (word _ refl, requester_word q hq, (word _ refl, service_word s, tt)))))
plain q i s (details.Connection call device) hq hi hx = (word _ refl, small 1 1000000000 call (lit< tt) hx.0, (word _ refl, digits_word 15 device hx.1, (word _ refl, small 1 999999999 i (lit< tt) hi, (word _ refl, requester_word q hq, (word _ refl, service_word s, tt)))))
plain q i s (details.Transfer call device to) hq hi hx = (word _ refl, small 1 1000000000 call (lit< tt) hx.0, (word _ refl, digits_word 15 device hx.1, (word _ refl, small 1 999999999 i (lit< tt) hi, (word _ refl, requester_word q hq, (word _ refl, service_word s, (word _ refl, digits_word 15 to hx.2, tt))))))
plain q i s (details.State agent (requested.LoggedOn device groups)) hq hi hx = (word _ refl, digits_word 9 agent hx.0, (word _ refl, digits_word 15 device hx.1.0, plain_groups groups _ hx.1.2 (word _ refl, small 1 999999999 i (lit< tt) hi, (word _ refl, word _ refl, (word _ refl, requester_word q hq, (word _ refl, service_word s, tt))))))
plain q i s (details.State agent (requested.State state)) hq hi hx = (word _ refl, digits_word 9 agent hx.0, (word _ refl, small 1 999999999 i (lit< tt) hi, (word _ refl, state_word state, (word _ refl, requester_word q hq, (word _ refl, service_word s, tt)))))
plain q i s (details.Monitor monitor) hq hi hx = (word _ refl, small 1 999999999 i (lit< tt) hi, (word _ refl, small 1 1000000000 monitor (lit< tt) hx, (word _ refl, requester_word q hq, (word _ refl, service_word s, tt))))
plain q i s (details.Priority device priority) hq hi hx = (word _ refl, digits_word 15 device hx.0, (word _ refl, small 1 999999999 i (lit< tt) hi, (word _ refl, small 0 9 priority (lit< tt) hx.1, (word _ refl, requester_word q hq, (word _ refl, service_word s, tt)))))
plain q i s details.Nothing hq hi hx = (word _ refl, small 1 999999999 i (lit< tt) hi, (word _ refl, requester_word q hq, (word _ refl, service_word s, tt)))

listed_again : (gs : List ℕ) → of_items (items_outline (items_of digits_data gs)) ≡ Some (items_of digits_data gs)
listed_again [] = refl
listed_again (g ∷ gs) = rw (listed_again gs) refl

-- the keys are distinct and in order
keyed : (q : List ℕ) (i : ℕ) (s : Service) (x : Details) → IsBetween 1 999999999 i → AreFormed x → of_json (outline (object (service_members (q, i) s x))) ≡ Some (object (service_members (q, i) s x))
keyed q i s (details.Group device name ring wrap) hi hx = rw (number_of-decimal i (small 1 999999999 i (lit< tt) hi), number_of-decimal ring (small 0 3600 ring (lit< tt) hx.2), number_of-decimal wrap (small 0 3600 wrap (lit< tt) hx.3)) refl
keyed q i s (details.Connection call device) hi hx = rw (number_of-decimal i (small 1 999999999 i (lit< tt) hi), number_of-decimal call (small 1 1000000000 call (lit< tt) hx.0)) refl
keyed q i s (details.Transfer call device to) hi hx = rw (number_of-decimal i (small 1 999999999 i (lit< tt) hi), number_of-decimal call (small 1 1000000000 call (lit< tt) hx.0)) refl
keyed q i s (details.State agent (requested.LoggedOn device (g ∷ k ∷ gs))) hi hx = rw (number_of-decimal i (small 1 999999999 i (lit< tt) hi), listed_again gs) refl
keyed q i s (details.Monitor monitor) hi hx = rw (number_of-decimal i (small 1 999999999 i (lit< tt) hi), number_of-decimal monitor (small 1 1000000000 monitor (lit< tt) hx)) refl
keyed q i s (details.Priority device priority) hi hx = rw (number_of-decimal i (small 1 999999999 i (lit< tt) hi), number_of-decimal priority (small 0 9 priority (lit< tt) hx.1)) refl
keyed q i s x hi hx = rw (number_of-decimal i (small 1 999999999 i (lit< tt) hi)) refl

flat : (gs : List ℕ) → tree.items_depth (items_outline (items_of digits_data gs)) ≡ 0
flat [] = refl
flat (g ∷ gs) = rw (flat gs) refl

shallow : (q : List ℕ) (i : ℕ) (s : Service) (x : Details) → tree.depth (outline (object (service_members (q, i) s x))) ≤ max_depth
shallow q i s (details.State agent (requested.LoggedOn device (g ∷ k ∷ gs))) = rw (flat gs) (lit≤ tt)
shallow q i s x = lit≤ tt

state_again : (p : Pending) → requested_state_of (pending_name p) ≡ Some (requested_state.State p)
state_again pending.LoggedOff = refl
state_again pending.NotReady = refl
state_again pending.Ready = refl
state_again pending.WorkingAfterCall = refl

devices_again : (gs : List ℕ) → Every IsDevice gs → devices_of (items_of digits_data gs) ≡ Some gs
devices_again [] h = refl
devices_again (g ∷ gs) h = rw (id_again 15 g h.0, devices_again gs h.1) refl

groups_again : (d : Data) (gs : List ℕ) → list_in member.Groups d ≡ Some (items_of digits_data gs) → is_choice gs ≡ true → Every IsDevice gs → groups_in d ≡ Ok gs
unfolding groups_in
groups_again d gs e choice h = rw (e, devices_again gs h, choice_again gs choice) refl

service_again : (s : Service) → service_of (service_name s) ≡ Some s
service_again service.AddGroup = refl
service_again s = refl

-- the command that a form makes of these members
abbrev made : Form → Details → Option Command
made (of_group make) (details.Group device name ring wrap) = Some (make device name ring wrap)
made (of_agent make) (details.Agent agent name) = Some (make agent name)
made (of_device make) (details.Device device) = Some (make device)
made of_arrival (details.Arrival caller called) = Some (command.ArriveCall caller called)
made of_making (details.Making device called) = Some (command.MakeCall device called)
made (of_connection make) (details.Connection call device) = Some (make call device)
made (of_transfer make) (details.Transfer call device to) = Some (make call device to)
made of_state (details.State agent requested) = Some (command.SetAgentState agent requested)
made of_monitor (details.Monitor monitor) = Some (command.MonitorStop monitor)
made of_priority (details.Priority device priority) = Some (command.SetGroupPriority device priority)
made of_nothing details.Nothing = Some command.Tick
made f x = None

made_again : (c : Command) → made (row (taken_apart c).0).1 (taken_apart c).1 ≡ Some c
made_again command.Tick = refl
made_again c = refl

-- reading the members of a form
form_again : (q : List ℕ) (i : ℕ) (s : Service) (f : Form) (x : Details) (c : Command) → AreFormed x → made f x ≡ Some c → form_in f (object (service_members (q, i) s x)) ≡ Ok c
unfolding device_in agent_in name_in seconds_in serial_in requested_state_in group_in named_agent_in two_devices_in connection_in one_group_in chosen_in requested_in set_agent_state_in priority_in
form_again q i s (of_group make) (details.Group device name ring wrap) c hx e = rw (id_again 15 device hx.0, text_again is_name_byte 40 name hx.1, number_again 0 3600 ring hx.2, number_again 0 3600 wrap hx.3) (cc (e))
form_again q i s (of_device make) (details.Device device) c hx e = rw (id_again 15 device hx) (cc (e))
form_again q i s (of_agent make) (details.Agent agent name) c hx e = rw (id_again 9 agent hx.0, text_again is_name_byte 40 name hx.1) (cc (e))
form_again q i s of_arrival (details.Arrival caller called) c hx e = rw (id_again 15 caller hx.0, id_again 15 called hx.1) (cc (e))
form_again q i s of_making (details.Making device called) c hx e = rw (id_again 15 device hx.0, id_again 15 called hx.1) (cc (e))
form_again q i s (of_connection make) (details.Connection call device) c hx e = rw (number_again 1 1000000000 call hx.0, id_again 15 device hx.1) (cc (e))
form_again q i s (of_transfer make) (details.Transfer call device to) c hx e = rw (number_again 1 1000000000 call hx.0, id_again 15 device hx.1, id_again 15 to hx.2) (cc (e))
form_again q i s of_state (details.State agent (requested.LoggedOn device [])) c hx e = absurd (true≢false (sym hx.1.1))
form_again q i s of_state (details.State agent (requested.LoggedOn device (g ∷ []))) c hx e = rw (id_again 9 agent hx.0, id_again 15 device hx.1.0, id_again 15 g hx.1.2.0) (cc (e))
form_again q i s of_state (details.State agent (requested.LoggedOn device (g ∷ k ∷ gs))) c hx e =
    let d = object (service_members (q, i) s (details.State agent (requested.LoggedOn device (g ∷ k ∷ gs)))) in
    rw (id_again 9 agent hx.0, id_again 15 device hx.1.0, groups_again d (g ∷ k ∷ gs) refl hx.1.1 hx.1.2) (cc (e))
form_again q i s of_state (details.State agent (requested.State state)) c hx e = rw (id_again 9 agent hx.0, state_again state) (cc (e))
form_again q i s of_monitor (details.Monitor monitor) c hx e = rw (number_again 1 1000000000 monitor hx) (cc (e))
form_again q i s of_priority (details.Priority device priority) c hx e = rw (id_again 15 device hx.0, number_again 0 9 priority hx.1) (cc (e))
form_again q i s of_nothing details.Nothing c hx e = cc (e)
form_again q i s f x c hx e = absurd (cc (e))

-- the key and the service that are read of the value
record IsKeyed (q : List ℕ) (i : ℕ) (s : Service) (d : Data) : Type 0 where
  requester : requester_in d ≡ Ok q
  invoke : invoke_in d ≡ Ok i
  service : service_in d ≡ Ok s

key_again : (q : List ℕ) (i : ℕ) (s : Service) (x : Details) → IsRequester q → IsBetween 1 999999999 i → IsKeyed q i s (object (service_members (q, i) s x))
unfolding requester_in invoke_in service_in
key_again q i s (details.State agent (requested.LoggedOn device (g ∷ k ∷ gs))) hq hi =
    record { requester = rw (text_again is_requester_byte 32 q hq) refl; invoke = rw (number_again 1 999999999 i hi) refl; service = rw (service_again s) refl }
key_again q i s x hq hi = record { requester = rw (text_again is_requester_byte 32 q hq) refl; invoke = rw (number_again 1 999999999 i hi) refl; service = rw (service_again s) refl }

-- reading the members of the value
taken : (q : List ℕ) (i : ℕ) (s : Service) (d : Data) (c : Command) → IsKeyed q i s d → command_in s d ≡ Ok c → request_in d ≡ Ok (record { requester = q; invoke = i; command = c })
unfolding request_in
taken q i s d c k e = rw (k.requester, k.invoke, k.service, e) refl

-- the text written for a request reads as it
pub reads_back : (r : Request) → IsRequest r → reads_as (request_text r) ≡ Ok r
unfolding request_data request_text
reads_back r h =
    let s = (taken_apart r.command).0 in
    let x = (taken_apart r.command).1 in
    let d = request_data r in
    let flat : IsPlain d = plain r.requester r.invoke s x h.requester h.invoke h.command in
    let again : read (compact_text d) ≡ Some d = read_plain d flat (shallow r.requester r.invoke s x) (keyed r.requester r.invoke s x h.invoke h.command) in
    let command = form_again r.requester r.invoke s (row s).1 x r.command h.command (made_again r.command) in
    reads_object (compact_text d) d (utf8_text d flat) again refl ∙ taken r.requester r.invoke s d r.command (key_again r.requester r.invoke s x h.requester h.invoke) command

abbrev or_else : Request → Result Request Member → Request
or_else d (Ok x) = x
or_else d (Err m) = d

-- requests with one text are one
pub same_request : (a b : Request) → IsRequest a → IsRequest b → request_text a ≡ request_text b → a ≡ b
same_request a b ha hb e = ap (or_else a) (sym (reads_back a ha) ∙ ap reads_as e ∙ reads_back b hb)
