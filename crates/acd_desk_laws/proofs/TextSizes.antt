-- How long the texts of requests and replies are at most.
use Rattle.std.proofs.Common.{◌≡◌, ℕ, ◌+◌, ◌*◌, ◌-◌, ◌<◌, ◌≤◌, List, [], ◌∷◌, ◌++◌, length, drop, nat_lt, nat_le, refl, sym, subst, arith, length-append, length-drop, codes, Bool, true, false, cond, ◌&&◌, ◌||◌, ◌==◌, decimal, leb-true, ltb-true, ltb-false, le-ltb, ne_eqb, eqb-true}
use Rattle.std.proofs.lemmas.Bool.{and_parts}
use Rattle.std.proofs.lemmas.Fmt.{decimal_is_IsNumeral, length-decimal-le}
use Rattle.std.specs.Char.{digit_value, is_ascii_digit}
use Rattle.std.specs.List.{list_all}
use Rattle.std.specs.Str.Parse.{AllDigits}
use Rattle.json.specs.Print.{escape, escape_byte, quoted}
use Rattle.serde_json.specs.Data.{Data, string, number, object, unsigned, Members, member, no_members}
use Rattle.serde_json.specs.Written.{compact_text, items_text, members_text, comma_if}
use Rattle.acd_terms.specs.Lists.{Every}
use Rattle.acd_terms.specs.Forms.{digits_of, is_name_byte, is_requester_byte, IsNumberOf, IsName, IsRequester, IsBetween}
use Rattle.acd_terms.specs.Groups.{is_choice, are_groups, most_groups}
use Rattle.acd_terms.specs.States.{agent_state_name, pending_name}
use Rattle.acd_terms.specs.Refusals.{refusal_code, refusal_name}
use Rattle.acd_terms.specs.declared.state.AgentState.{AgentState}
use Rattle.acd_terms.specs.declared.state.AgentState.TheVariants as state
use Rattle.acd_terms.specs.declared.state.Pending.{Pending}
use Rattle.acd_terms.specs.declared.state.Pending.TheVariants as pending
use Rattle.acd_terms.specs.declared.answer.Answer.TheVariants as answer
use Rattle.acd_terms.specs.declared.answer.Outcome.{Outcome}
use Rattle.acd_terms.specs.declared.answer.Outcome.TheVariants.{Done, Refused}
use Rattle.acd_terms.specs.declared.answer.Refusal.{Refusal}
use Rattle.acd_terms.specs.declared.answer.Refusal.TheVariants as refusal
use Rattle.acd_terms.specs.declared.command.Request.{Request}
use Rattle.acd_terms.specs.declared.command.Requested.{Requested}
use Rattle.acd_terms.specs.declared.command.Requested.TheVariants as requested
use Rattle.acd_codec.specs.declared.member.Member.{Member}
use Rattle.acd_codec.specs.declared.member.Member.TheVariants as m
use Rattle.acd_codec.specs.declared.service.Details.{Details}
use Rattle.acd_codec.specs.declared.service.Details.TheVariants as details
use Rattle.acd_codec.specs.declared.service.RequestedState.{RequestedState}
use Rattle.acd_codec.specs.declared.service.RequestedState.TheVariants as requested_state
use Rattle.acd_codec.specs.declared.service.Service.{Service}
use Rattle.acd_codec.specs.declared.service.Service.TheVariants as service
use Rattle.acd_codec.specs.RequestForms.{IsDevice, IsAgent, IsSeconds, IsPriority, IsSerial, IsRequested, AreFormed, IsRequest}
use Rattle.acd_codec.specs.Members.{member_name}
use Rattle.acd_codec.specs.Parts.{items_of, digits_data, groups_parts, written_before}
use Rattle.acd_codec.specs.Services.{service_name, taken_apart, requested_state_name}
use Rattle.acd_codec.specs.RequestTexts.{text, whole, digits, sent, named, asked, service_members, request_data, request_text}
use Rattle.acd_codec.specs.ReplyTexts.{to_whom, reply_data, reply_text}
use Rattle.acd_desk_laws.specs.PageSizes.{IsOutcome}

-- ---- characters ----

-- no other than quote, backslash and those below the space is escaped
same_byte : (x : ℕ) → 45 ≤ x → (x ≡ 92 → ⊥) → escape_byte x ≡ x ∷ []
unfolding escape_byte
same_byte x low other =
    rw (
      ne_eqb x 34 (λ e. omega (arith, low, e)),
      ne_eqb x 92 other,
      ne_eqb x 8 (λ e. omega (arith, low, e)),
      ne_eqb x 12 (λ e. omega (arith, low, e)),
      ne_eqb x 10 (λ e. omega (arith, low, e)),
      ne_eqb x 13 (λ e. omega (arith, low, e)),
      ne_eqb x 9 (λ e. omega (arith, low, e)),
      le-ltb x 32 (omega (arith, low)),
    ) refl

two_bytes : (a b : Bool) (x y : ℕ) (six : List ℕ) → b ≡ false → length (cond a (92 ∷ y ∷ []) (cond b six (x ∷ []))) ≤ 2
two_bytes true b x y six h = omega arith
two_bytes false true x y six h = absurd (cc (h))
two_bytes false false x y six h = omega arith

-- a printable one takes two at most
name_byte : (x : ℕ) → is_name_byte x ≡ true → length (escape_byte x) ≤ 2
unfolding escape_byte
name_byte x h =
    let parts = and_parts (nat_le 32 x) (nat_le x 126) h in
    let low = leb-true 32 x parts.0 in
    two_bytes _ (nat_lt x 32) x _ _ (le-ltb x 32 low)

requester_byte : (x : ℕ) → is_requester_byte x ≡ true → length (escape_byte x) ≤ 1
requester_byte x h = by (nat_le 97 x && nat_le x 122) (is_ascii_digit x) refl refl h
  where
    one : 45 ≤ x → (x ≡ 92 → ⊥) → length (escape_byte x) ≤ 1
    one low other = subst (λ (l : List ℕ). length l ≤ 1) (sym (same_byte x low other)) (omega arith)

    by : (letter digit : Bool) → (nat_le 97 x && nat_le x 122) ≡ letter → is_ascii_digit x ≡ digit → ((letter || digit) || (x == 45)) ≡ true → length (escape_byte x) ≤ 1
    by true digit l d h = let low = leb-true 97 x (and_parts (nat_le 97 x) (nat_le x 122) l).0 in one (omega (arith, low)) (λ e. omega (arith, low, e))
    by false true l d h = let parts = and_parts (nat_le 48 x) (nat_le x 57) d in let low = leb-true 48 x parts.0 in let high = leb-true x 57 parts.1 in one (omega (arith, low)) (λ e. omega (arith, high, e))
    by false false l d h = let is = eqb-true x 45 h in one (omega (arith, is)) (λ e. omega (arith, is, e))

-- a digit by its value is one of ten characters
digit_byte : (x : ℕ) → digit_value x < 10 → length (escape_byte x) ≤ 1
digit_byte x h = by (nat_lt x 48) (nat_lt x 58) (nat_lt x 65) (nat_lt x 91) (nat_lt x 97) (nat_lt x 123) refl refl refl refl h
  where
    by : (a b c d e f : Bool) → nat_lt x 48 ≡ a → nat_lt x 58 ≡ b → nat_lt x 65 ≡ c → nat_lt x 97 ≡ e
        → cond a 36 (cond b (x - 48) (cond c 36 (cond d (x - 55) (cond e 36 (cond f (x - 87) 36))))) < 10 → length (escape_byte x) ≤ 1
    by true b c d e f ha hb hc he h = absurd (omega (arith, h))
    by false true c d e f ha hb hc he h =
        let low = ltb-false x 48 ha in let high = ltb-true x 58 hb in
        subst (λ (l : List ℕ). length l ≤ 1) (sym (same_byte x (omega (arith, low)) (λ e. omega (arith, high, e)))) (omega arith)
    by false false true d e f ha hb hc he h = absurd (omega (arith, h))
    by false false false true e f ha hb hc he h = let low = ltb-false x 65 hc in absurd (omega (arith, low, h))
    by false false false false true f ha hb hc he h = absurd (omega (arith, h))
    by false false false false false true ha hb hc he h = let low = ltb-false x 97 he in absurd (omega (arith, low, h))
    by false false false false false false ha hb hc he h = absurd (omega (arith, h))

-- ---- texts ----

quoted_by : (t : List ℕ) (n : ℕ) → length (escape t) ≤ n → length (quoted t) ≤ n + 2
quoted_by t n h = let e = length-append (escape t) (34 ∷ []) in omega (arith, e, h)

name_escaped : (t : List ℕ) → list_all is_name_byte t ≡ true → length (escape t) ≤ length t + length t
name_escaped [] h = omega arith
name_escaped (x ∷ t) h =
    let parts = and_parts (is_name_byte x) (list_all is_name_byte t) h in
    let e = length-append (escape_byte x) (escape t) in
    let here = name_byte x parts.0 in
    let rest = name_escaped t parts.1 in
    omega (arith, e, here, rest)

requester_escaped : (t : List ℕ) → list_all is_requester_byte t ≡ true → length (escape t) ≤ length t
requester_escaped [] h = omega arith
requester_escaped (x ∷ t) h =
    let parts = and_parts (is_requester_byte x) (list_all is_requester_byte t) h in
    let e = length-append (escape_byte x) (escape t) in
    let here = requester_byte x parts.0 in
    let rest = requester_escaped t parts.1 in
    omega (arith, e, here, rest)

digits_escaped : (t : List ℕ) → AllDigits 10 t → length (escape t) ≤ length t
digits_escaped [] h = omega arith
digits_escaped (x ∷ t) h =
    let e = length-append (escape_byte x) (escape t) in
    let here = digit_byte x h.0 in
    let rest = digits_escaped t h.1 in
    omega (arith, e, here, rest)

digits_rest : (t : List ℕ) → AllDigits 10 t → AllDigits 10 (drop 1 t)
digits_rest [] h = h
digits_rest (x ∷ t) h = h.1

-- ---- values ----

name_short : (t : List ℕ) → IsName t → length (quoted t) ≤ 82
name_short t h = let short = h.short in let e = name_escaped t h.all in quoted_by t 80 (omega (arith, short, e))

requester_short : (t : List ℕ) → IsRequester t → length (quoted t) ≤ 34
requester_short t h = let short = h.short in let e = requester_escaped t h.all in quoted_by t 32 (omega (arith, short, e))

id_short : (longest n : ℕ) → IsNumberOf longest n → length (quoted (digits_of n)) ≤ longest + 2
id_short longest n h =
    let short = h.short in
    let left = length-drop 1 (decimal n) in
    let e = digits_escaped (digits_of n) (digits_rest (decimal n) (decimal_is_IsNumeral n h.range).0.1) in
    quoted_by (digits_of n) longest (omega (arith, short, left, e))

device_short : (n : ℕ) → IsDevice n → length (quoted (digits_of n)) ≤ 17
device_short n h = id_short 15 n h

agent_short : (n : ℕ) → IsAgent n → length (quoted (digits_of n)) ≤ 11
agent_short n h = id_short 9 n h

invoke_short : (n : ℕ) → IsBetween 1 999999999 n → length (decimal n) ≤ 9
invoke_short n h = let high = h.1 in length-decimal-le 9 n (omega arith) (omega (arith, high)) (omega (arith, high))

serial_short : (n : ℕ) → IsSerial n → length (decimal n) ≤ 10
serial_short n h = let high = h.1 in length-decimal-le 10 n (omega arith) (omega (arith, high)) (omega (arith, high))

seconds_short : (n : ℕ) → IsSeconds n → length (decimal n) ≤ 4
seconds_short n h = let high = h.1 in length-decimal-le 4 n (omega arith) (omega (arith, high)) (omega (arith, high))

priority_short : (n : ℕ) → IsPriority n → length (decimal n) ≤ 1
priority_short n h = let high = h.1 in length-decimal-le 1 n (omega arith) (omega (arith, high)) (omega (arith, high))

-- ---- names ----

member_short : (x : Member) → length (quoted (member_name x)) ≤ 11
unfolding escape_byte
member_short m.Json = leb-true _ 11 refl
member_short m.Requester = leb-true _ 11 refl
member_short m.Invoke = leb-true _ 11 refl
member_short m.Service = leb-true _ 11 refl
member_short m.Device = leb-true _ 11 refl
member_short m.Name = leb-true _ 11 refl
member_short m.Ring = leb-true _ 11 refl
member_short m.Wrap = leb-true _ 11 refl
member_short m.Agent = leb-true _ 11 refl
member_short m.Caller = leb-true _ 11 refl
member_short m.Called = leb-true _ 11 refl
member_short m.Call = leb-true _ 11 refl
member_short m.To = leb-true _ 11 refl
member_short m.Requested = leb-true _ 11 refl
member_short m.Group = leb-true _ 11 refl
member_short m.Groups = leb-true _ 11 refl
member_short m.Priority = leb-true _ 11 refl
member_short m.Monitor = leb-true _ 11 refl
member_short m.Moment = leb-true _ 11 refl

-- the other names of members

invoke_key : length (quoted (codes "invoke")) ≤ 11
unfolding escape_byte
invoke_key = leb-true _ 11 refl

requester_key : length (quoted (codes "requester")) ≤ 11
unfolding escape_byte
requester_key = leb-true _ 11 refl

result_key : length (quoted (codes "result")) ≤ 11
unfolding escape_byte
result_key = leb-true _ 11 refl

call_key : length (quoted (codes "call")) ≤ 11
unfolding escape_byte
call_key = leb-true _ 11 refl

monitor_key : length (quoted (codes "monitor")) ≤ 11
unfolding escape_byte
monitor_key = leb-true _ 11 refl

state_key : length (quoted (codes "state")) ≤ 11
unfolding escape_byte
state_key = leb-true _ 11 refl

pending_key : length (quoted (codes "pending")) ≤ 11
unfolding escape_byte
pending_key = leb-true _ 11 refl

error_key : length (quoted (codes "error")) ≤ 11
unfolding escape_byte
error_key = leb-true _ 11 refl

code_key : length (quoted (codes "code")) ≤ 11
unfolding escape_byte
code_key = leb-true _ 11 refl

name_key : length (quoted (codes "name")) ≤ 11
unfolding escape_byte
name_key = leb-true _ 11 refl

group_key : length (quoted (codes "group")) ≤ 11
unfolding escape_byte
group_key = leb-true _ 11 refl

groups_key : length (quoted (codes "groups")) ≤ 11
unfolding escape_byte
groups_key = leb-true _ 11 refl

service_short : (s : Service) → length (quoted (service_name s)) ≤ 20
unfolding escape_byte
service_short service.AddGroup = leb-true _ 20 refl
service_short s = leb-true _ 20 refl

pending_short : (p : Pending) → length (quoted (pending_name p)) ≤ 18
unfolding escape_byte
pending_short pending.LoggedOff = leb-true _ 18 refl
pending_short pending.NotReady = leb-true _ 18 refl
pending_short pending.Ready = leb-true _ 18 refl
pending_short pending.WorkingAfterCall = leb-true _ 18 refl

requested_short : (r : RequestedState) → length (quoted (requested_state_name r)) ≤ 18
unfolding escape_byte
requested_short requested_state.LoggedOn = leb-true _ 18 refl
requested_short (requested_state.State p) = pending_short p

state_short : (s : AgentState) → length (quoted (agent_state_name s)) ≤ 18
unfolding escape_byte
state_short state.Null = leb-true _ 18 refl
state_short state.NotReady = leb-true _ 18 refl
state_short state.Ready = leb-true _ 18 refl
state_short state.Busy = leb-true _ 18 refl
state_short state.WorkingAfterCall = leb-true _ 18 refl

refusal_short : (r : Refusal) → length (quoted (refusal_name r)) ≤ 22
unfolding escape_byte
refusal_short refusal.UnknownDevice = leb-true _ 22 refl
refusal_short refusal.UnknownAgent = leb-true _ 22 refl
refusal_short refusal.UnknownCall = leb-true _ 22 refl
refusal_short refusal.UnknownConnection = leb-true _ 22 refl
refusal_short refusal.WrongConnectionState = leb-true _ 22 refl
refusal_short refusal.WrongAgentState = leb-true _ 22 refl
refusal_short refusal.DeviceExists = leb-true _ 22 refl
refusal_short refusal.AgentExists = leb-true _ 22 refl
refusal_short refusal.NotStation = leb-true _ 22 refl
refusal_short refusal.NotGroup = leb-true _ 22 refl
refusal_short refusal.DestinationBusy = leb-true _ 22 refl
refusal_short refusal.SameDevice = leb-true _ 22 refl
refusal_short refusal.StationTaken = leb-true _ 22 refl
refusal_short refusal.StationBusy = leb-true _ 22 refl
refusal_short refusal.TooManyCalls = leb-true _ 22 refl
refusal_short refusal.PlanFull = leb-true _ 22 refl
refusal_short refusal.UnknownMonitor = leb-true _ 22 refl
refusal_short refusal.CallerPlanned = leb-true _ 22 refl

code_few : (r : Refusal) → refusal_code r < 100
code_few refusal.UnknownDevice = omega arith
code_few refusal.UnknownAgent = omega arith
code_few refusal.UnknownCall = omega arith
code_few refusal.UnknownConnection = omega arith
code_few refusal.WrongConnectionState = omega arith
code_few refusal.WrongAgentState = omega arith
code_few refusal.DeviceExists = omega arith
code_few refusal.AgentExists = omega arith
code_few refusal.NotStation = omega arith
code_few refusal.NotGroup = omega arith
code_few refusal.DestinationBusy = omega arith
code_few refusal.SameDevice = omega arith
code_few refusal.StationTaken = omega arith
code_few refusal.StationBusy = omega arith
code_few refusal.TooManyCalls = omega arith
code_few refusal.PlanFull = omega arith
code_few refusal.UnknownMonitor = omega arith
code_few refusal.CallerPlanned = omega arith

code_short : (r : Refusal) → length (decimal (refusal_code r)) ≤ 2
code_short r = let few = code_few r in length-decimal-le 2 (refusal_code r) (omega arith) (omega (arith, few)) (omega (arith, few))

-- ---- members and items ----

-- the members take at most so many characters, with the closing bracket
record Takes (n : ℕ) (ms : Members) : Type 0 where
  within : (later : Bool) → length (members_text later ms) ≤ n

comma_short : (later : Bool) → length (comma_if later) ≤ 1
comma_short true = omega arith
comma_short false = omega arith

none_takes : Takes 1 no_members
none_takes = record { within = λ later. omega arith }

takes : (k : List ℕ) (d : Data) (more : Members) (a b n : ℕ) → length (quoted k) ≤ 11 → length (compact_text d) ≤ a → Takes b more → 13 + a + b ≤ n → Takes n (member k d more)
takes k d more a b n key value rest fits = record {
  within = λ later.
      let comma = comma_short later in
      let tail = rest.within true in
      let e = length-append (comma_if later) (quoted k ++ 58 ∷ (compact_text d ++ members_text true more)) in
      let f = length-append (quoted k) (58 ∷ (compact_text d ++ members_text true more)) in
      let g = length-append (compact_text d) (members_text true more) in
      omega (arith, comma, tail, e, f, g, key, value, fits);
}

weaker : (ms : Members) (a n : ℕ) → Takes a ms → a ≤ n → Takes n ms
weaker ms a n h le = record { within = λ later. (let e = h.within later in omega (arith, e, le)) }

-- an object has its opening bracket besides
object_short : (ms : Members) (n : ℕ) → Takes n ms → length (compact_text (object ms)) ≤ n + 1
object_short ms n h = let e = h.within false in omega (arith, e)

groups_short : (gs : List ℕ) (later : Bool) → Every IsDevice gs → length (items_text later (items_of digits_data gs)) ≤ 18 * length gs + 1
groups_short [] later h = omega arith
groups_short (g ∷ gs) later h =
    let comma = comma_short later in
    let here = device_short g h.0 in
    let rest = groups_short gs true h.1 in
    let e = length-append (comma_if later) (quoted (digits_of g) ++ items_text true (items_of digits_data gs)) in
    let f = length-append (quoted (digits_of g)) (items_text true (items_of digits_data gs)) in
    omega (arith, comma, here, rest, e, f)

choice_few : (gs : List ℕ) → is_choice gs ≡ true → length gs ≤ 8
choice_few gs h = let groups = (and_parts (nat_le 1 (length gs)) (are_groups gs) h).1 in leb-true (length gs) 8 (and_parts (nat_le (length gs) most_groups) _ groups).0

-- ---- requests ----

module _ (q : List ℕ) (i : ℕ) (hq : IsRequester q) (hi : IsBetween 1 999999999 i) where
  takes_service : (s : Service) (more : Members) (b n : ℕ) → Takes b more → 33 + b ≤ n → Takes n (text m.Service (service_name s) more)
  takes_service s more b n rest fits = takes _ _ more 20 b n (member_short m.Service) (service_short s) rest (omega (arith, fits))

  takes_requester : (more : Members) (b n : ℕ) → Takes b more → 47 + b ≤ n → Takes n (text m.Requester q more)
  takes_requester more b n rest fits = takes _ _ more 34 b n (member_short m.Requester) (requester_short q hq) rest (omega (arith, fits))

  takes_invoke : (more : Members) (b n : ℕ) → Takes b more → 22 + b ≤ n → Takes n (whole m.Invoke i more)
  takes_invoke more b n rest fits = takes _ _ more 9 b n (member_short m.Invoke) (invoke_short i hi) rest (omega (arith, fits))

  takes_name : (t : List ℕ) → IsName t → (more : Members) (b n : ℕ) → Takes b more → 95 + b ≤ n → Takes n (text m.Name t more)
  takes_name t ht more b n rest fits = takes _ _ more 82 b n (member_short m.Name) (name_short t ht) rest (omega (arith, fits))

  takes_device : (x : Member) (d : ℕ) → IsDevice d → (more : Members) (b n : ℕ) → Takes b more → 30 + b ≤ n → Takes n (digits x d more)
  takes_device x d hd more b n rest fits = takes _ _ more 17 b n (member_short x) (device_short d hd) rest (omega (arith, fits))

  takes_agent : (a : ℕ) → IsAgent a → (more : Members) (b n : ℕ) → Takes b more → 24 + b ≤ n → Takes n (digits m.Agent a more)
  takes_agent a ha more b n rest fits = takes _ _ more 11 b n (member_short m.Agent) (agent_short a ha) rest (omega (arith, fits))

  takes_serial : (x : Member) (c : ℕ) → IsSerial c → (more : Members) (b n : ℕ) → Takes b more → 23 + b ≤ n → Takes n (whole x c more)
  takes_serial x c hc more b n rest fits = takes _ _ more 10 b n (member_short x) (serial_short c hc) rest (omega (arith, fits))

  takes_seconds : (x : Member) (t : ℕ) → IsSeconds t → (more : Members) (b n : ℕ) → Takes b more → 17 + b ≤ n → Takes n (whole x t more)
  takes_seconds x t ht more b n rest fits = takes _ _ more 4 b n (member_short x) (seconds_short t ht) rest (omega (arith, fits))

  -- the service alone, and with the key
  takes_last : (s : Service) → Takes 34 (text m.Service (service_name s) no_members)
  takes_last s = takes_service s no_members 1 34 none_takes (omega arith)

  takes_sent : (s : Service) (more : Members) (b : ℕ) → Takes b more → Takes (102 + b) (sent (q, i) s more)
  takes_sent s more b rest =
      takes_invoke _ (80 + b) (102 + b) (takes_requester _ (33 + b) (80 + b) (takes_service s more b (33 + b) rest (omega arith)) (omega arith)) (omega arith)

  takes_named : (t : List ℕ) → IsName t → (more : Members) (b : ℕ) → Takes b more → Takes (164 + b) (named (q, i) t more)
  takes_named t ht more b rest =
      takes_invoke _ (142 + b) (164 + b) (takes_name t ht _ (47 + b) (142 + b) (takes_requester more b (47 + b) rest (omega arith)) (omega arith)) (omega arith)

  takes_at_device : (s : Service) (d : ℕ) → IsDevice d → Takes 133 (service_members (q, i) s (details.Device d))
  takes_at_device s d hd = takes_device m.Device d hd _ 103 133 (takes_sent s no_members 1 none_takes) (omega arith)

  takes_at_connection : (s : Service) (c d : ℕ) → IsSerial c → IsDevice d → Takes 156 (service_members (q, i) s (details.Connection c d))
  takes_at_connection s c d hc hd = takes_serial m.Call c hc _ 133 156 (takes_at_device s d hd) (omega arith)

  takes_to_device : (s : Service) (c d t : ℕ) → IsSerial c → IsDevice d → IsDevice t → Takes 186 (service_members (q, i) s (details.Transfer c d t))
  takes_to_device s c d t hc hd ht =
      takes_serial m.Call c hc _ 163 186 (takes_device m.Device d hd _ 133 163 (takes_sent s _ 31 (takes_device m.To t ht no_members 1 31 none_takes (omega arith))) (omega arith)) (omega arith)

  takes_at_agent : (s : Service) (a : ℕ) (t : List ℕ) → IsAgent a → IsName t → Takes 222 (service_members (q, i) s (details.Agent a t))
  takes_at_agent s a t ha ht = takes_agent a ha _ 198 222 (takes_named t ht _ 34 (takes_last s)) (omega arith)

  takes_at_group : (s : Service) (d : ℕ) (t : List ℕ) (ring wrap : ℕ) → IsDevice d → IsName t → IsSeconds ring → IsSeconds wrap → Takes 262 (service_members (q, i) s (details.Group d t ring wrap))
  takes_at_group s d t ring wrap hd ht hr hw =
      takes_device m.Device d hd _ 232 262 (takes_named t ht _ 68
      (takes_seconds m.Ring ring hr _ 51 68 (takes_service s _ 18 51 (takes_seconds m.Wrap wrap hw no_members 1 18 none_takes (omega arith)) (omega arith)) (omega arith)))
      (omega arith)

  takes_asked : (s : Service) (r : RequestedState) → Takes 134 (asked (q, i) s r)
  takes_asked s r =
      takes_invoke _ 112 134 (takes _ _ _ 18 81 112 (member_short m.Requested) (requested_short r)
      (takes_requester _ 34 81 (takes_last s) (omega arith)) (omega arith)) (omega arith)

  takes_groups : (gs : List ℕ) → is_choice gs ≡ true → Every IsDevice gs → (more : Members) → Takes 134 more → Takes 293 (written_before (groups_parts gs) more)
  takes_groups [] some hg more rest = weaker more 134 293 rest (omega arith)
  takes_groups (g ∷ []) some hg more rest = takes _ _ more 17 134 293 group_key (device_short g hg.0) rest (omega arith)
  takes_groups (g ∷ h ∷ gs) some hg more rest =
      let few = choice_few (g ∷ h ∷ gs) some in
      let e = groups_short (g ∷ h ∷ gs) false hg in
      takes _ _ more 146 134 293 groups_key (omega (arith, few, e)) rest (omega arith)

  takes_state : (s : Service) (a : ℕ) (r : Requested) → IsAgent a → IsRequested r → Takes 347 (service_members (q, i) s (details.State a r))
  takes_state s a (requested.LoggedOn d gs) ha hr =
      takes_agent a ha _ 323 347 (takes_device m.Device d hr.0 _ 293 323 (takes_groups gs hr.1 hr.2 _ (takes_asked s requested_state.LoggedOn)) (omega arith)) (omega arith)
  takes_state s a (requested.State p) ha hr = takes_agent a ha _ 134 347 (takes_asked s (requested_state.State p)) (omega arith)

  takes_members : (s : Service) (x : Details) → AreFormed x → Takes 347 (service_members (q, i) s x)
  takes_members s (details.Group d t ring wrap) h = weaker _ 262 347 (takes_at_group s d t ring wrap h.0 h.1 h.2 h.3) (omega arith)
  takes_members s (details.Agent a t) h = weaker _ 222 347 (takes_at_agent s a t h.0 h.1) (omega arith)
  takes_members s (details.Device d) h = weaker _ 133 347 (takes_at_device s d h) (omega arith)
  takes_members s (details.Arrival caller called) h =
      takes_device m.Called called h.1 _ 133 347 (takes_device m.Caller caller h.0 _ 103 133 (takes_sent s no_members 1 none_takes) (omega arith)) (omega arith)
  takes_members s (details.Making d called) h = takes_device m.Called called h.1 _ 133 347 (takes_at_device s d h.0) (omega arith)
  takes_members s (details.Connection c d) h = weaker _ 156 347 (takes_at_connection s c d h.0 h.1) (omega arith)
  takes_members s (details.Transfer c d t) h = weaker _ 186 347 (takes_to_device s c d t h.0 h.1 h.2) (omega arith)
  takes_members s (details.State a r) h = takes_state s a r h.0 h.1
  takes_members s (details.Monitor w) h =
      takes_invoke _ 104 347 (takes_serial m.Monitor w h _ 81 104 (takes_requester _ 34 81 (takes_last s) (omega arith)) (omega arith)) (omega arith)
  takes_members s (details.Priority d p) h =
      takes_device m.Device d h.0 _ 117 347 (takes_invoke _ 95 117 (takes _ _ _ 1 81 95 (member_short m.Priority) (priority_short p h.1)
      (takes_requester _ 34 81 (takes_last s) (omega arith)) (omega arith)) (omega arith)) (omega arith)
  takes_members s details.Nothing h = weaker _ 103 347 (takes_sent s no_members 1 none_takes) (omega arith)

-- the longest is a log-on in eight groups
pub request_short : (r : Request) → IsRequest r → length (request_text r) ≤ 348
unfolding request_text request_data
request_short r h =
    let s = (taken_apart r.command).0 in
    let x = (taken_apart r.command).1 in
    object_short (service_members (r.requester, r.invoke) s x) 347 (takes_members r.requester r.invoke h.requester h.invoke s x h.command)

-- ---- replies ----

module _ (q : List ℕ) (i : ℕ) (hq : IsRequester q) (hi : IsBetween 1 999999999 i) where
  takes_whom : (more : Members) (b : ℕ) → Takes b more → Takes (69 + b) (to_whom q i more)
  takes_whom more b rest =
      takes (codes "invoke") (number (unsigned i)) _ 9 (47 + b) (69 + b) invoke_key (invoke_short i hi)
      (takes (codes "requester") (string q) more 34 b (47 + b) requester_key (requester_short q hq) rest (omega arith)) (omega arith)

  result_short : (ms : Members) (n : ℕ) → Takes n ms → n ≤ 63 → length (compact_text (object (to_whom q i (member (codes "result") (object ms) no_members)))) ≤ 148
  result_short ms n h fits =
      object_short _ 147 (takes_whom _ 78 (takes (codes "result") (object ms) no_members (n + 1) 1 78 result_key (object_short ms n h) none_takes (omega (arith, fits))))

  outcome_short : (o : Outcome) → IsOutcome o → length (compact_text (reply_data q i o)) ≤ 148
  outcome_short (Done answer.Nothing) h = result_short no_members 1 none_takes (omega arith)
  outcome_short (Done (answer.Call c)) h =
      result_short _ 24 (takes (codes "call") (number (unsigned c)) no_members 10 1 24 call_key (serial_short c h) none_takes (omega arith)) (omega arith)
  outcome_short (Done (answer.Monitor w)) h =
      result_short _ 24 (takes (codes "monitor") (number (unsigned w)) no_members 10 1 24 monitor_key (serial_short w h) none_takes (omega arith)) (omega arith)
  outcome_short (Done (answer.State s)) h =
      result_short _ 32 (takes (codes "state") (string (agent_state_name s)) no_members 18 1 32 state_key (state_short s) none_takes (omega arith)) (omega arith)
  outcome_short (Done (answer.Pending s p)) h =
      result_short _ 63 (takes (codes "pending") (string (pending_name p)) _ 18 32 63 pending_key (pending_short p)
      (takes (codes "state") (string (agent_state_name s)) no_members 18 1 32 state_key (state_short s) none_takes (omega arith)) (omega arith)) (omega arith)
  outcome_short (Refused r) h =
      let name : Members = member (codes "name") (string (refusal_name r)) no_members in
      let both : Members = member (codes "code") (number (unsigned (refusal_code r))) name in
      let short : Takes 36 name = takes (codes "name") (string (refusal_name r)) no_members 22 1 36 name_key (refusal_short r) none_takes (omega arith) in
      let error : Takes 51 both = takes (codes "code") (number (unsigned (refusal_code r))) name 2 36 51 code_key (code_short r) short (omega arith) in
      object_short _ 147 (takes (codes "error") (object both) (to_whom q i no_members) 52 70 147 error_key (object_short both 51 error) (takes_whom no_members 1 none_takes) (omega arith))

pub reply_short : (q : List ℕ) (i : ℕ) (o : Outcome) → IsRequester q → IsBetween 1 999999999 i → IsOutcome o → length (reply_text q i o) ≤ 148
unfolding reply_text
reply_short q i o hq hi h = outcome_short q i hq hi o h
