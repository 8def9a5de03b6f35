-- The texts of replies.
use Rattle.std.specs.Prelude.{ℕ, List, ◌++◌, codes}
use Rattle.acd_codec.specs.declared.member.Member.{Member}
use Rattle.acd_codec.specs.declared.fault.FixedAnswer.{FixedAnswer}
use Rattle.acd_codec.specs.declared.fault.FixedAnswer.TheVariants.{NoMemory, StoreFault, NotFound, MethodNotAllowed, LengthRequired, BodyTooLarge, HeadTooLarge, NotImplemented}
use Rattle.serde_json.specs.Data.{Data, string, number, object, unsigned, Members, member, no_members}
use Rattle.serde_json.specs.Written.{compact_text}
use Rattle.acd_terms.specs.Refusals.{refusal_code, refusal_name}
use Rattle.acd_terms.specs.States.{agent_state_name, pending_name}
use Rattle.acd_terms.specs.declared.answer.Answer.{Answer}
use Rattle.acd_terms.specs.declared.answer.Answer.TheVariants as answer
use Rattle.acd_terms.specs.declared.answer.Outcome.{Outcome}
use Rattle.acd_terms.specs.declared.answer.Outcome.TheVariants.{Done, Refused}
use Rattle.acd_codec.specs.declared.replies.Rejected.{Rejected}
use Rattle.acd_codec.specs.declared.replies.Rejected.TheVariants.{InvokeReused, DeskFull}
use Rattle.acd_codec.specs.Members.{member_name}

-- the reply to a request with a faulty member
abbrev pub malformed_text : Member → List ℕ
malformed_text m = codes "{\"error\":{\"code\":30,\"member\":\"" ++ member_name m ++ codes "\",\"name\":\"malformed\"}}"

-- the digits of its code
abbrev pub fixed_code : FixedAnswer → List ℕ
fixed_code NoMemory = codes "33"
fixed_code StoreFault = codes "34"
fixed_code NotFound = codes "35"
fixed_code MethodNotAllowed = codes "36"
fixed_code LengthRequired = codes "37"
fixed_code BodyTooLarge = codes "38"
fixed_code HeadTooLarge = codes "39"
fixed_code NotImplemented = codes "40"

abbrev pub fixed_name : FixedAnswer → List ℕ
fixed_name NoMemory = codes "noMemory"
fixed_name StoreFault = codes "storeFault"
fixed_name NotFound = codes "notFound"
fixed_name MethodNotAllowed = codes "methodNotAllowed"
fixed_name LengthRequired = codes "lengthRequired"
fixed_name BodyTooLarge = codes "bodyTooLarge"
fixed_name HeadTooLarge = codes "headTooLarge"
fixed_name NotImplemented = codes "notImplemented"

abbrev pub fixed_status : FixedAnswer → ℕ
fixed_status NoMemory = 503
fixed_status StoreFault = 503
fixed_status NotFound = 404
fixed_status MethodNotAllowed = 405
fixed_status LengthRequired = 411
fixed_status BodyTooLarge = 413
fixed_status HeadTooLarge = 431
fixed_status NotImplemented = 501

-- an answer that names no request
abbrev pub fixed_text : FixedAnswer → List ℕ
fixed_text a = codes "{\"error\":{\"code\":" ++ fixed_code a ++ codes ",\"name\":\"" ++ fixed_name a ++ codes "\"}}"

-- the status of an executed request's reply
abbrev pub outcome_status : Outcome → ℕ
outcome_status (Done answer) = 200
outcome_status (Refused refusal) = 409

abbrev pub rejected_code : Rejected → ℕ
rejected_code InvokeReused = 31
rejected_code DeskFull = 32

abbrev pub rejected_name : Rejected → List ℕ
rejected_name InvokeReused = codes "invokeReused"
rejected_name DeskFull = codes "deskFull"

abbrev pub rejected_status : Rejected → ℕ
rejected_status InvokeReused = 422
rejected_status DeskFull = 507

-- the result of a request that wasn't refused
abbrev pub result_of : Answer → Members
result_of answer.Nothing = no_members
result_of (answer.Call call) = member (codes "call") (number (unsigned call)) no_members
result_of (answer.Monitor monitor) = member (codes "monitor") (number (unsigned monitor)) no_members
result_of (answer.State state) = member (codes "state") (string (agent_state_name state)) no_members
result_of (answer.Pending state next) = member (codes "pending") (string (pending_name next)) (member (codes "state") (string (agent_state_name state)) no_members)

-- whose request is answered
abbrev pub to_whom : List ℕ → ℕ → Members → Members
to_whom requester invoke more = member (codes "invoke") (number (unsigned invoke)) (member (codes "requester") (string requester) more)

-- why nothing was done: its code and name
abbrev pub error_of : ℕ → List ℕ → Members → Members
error_of code name more = member (codes "error") (object (member (codes "code") (number (unsigned code)) (member (codes "name") (string name) no_members))) more

-- a refusal, and whose request it answers
abbrev pub error_data : ℕ → List ℕ → List ℕ → ℕ → Data
error_data code name requester invoke = object (error_of code name (to_whom requester invoke no_members))

-- a result or a refusal, and whose request it answers
abbrev pub reply_data : List ℕ → ℕ → Outcome → Data
reply_data requester invoke (Done answer) = object (to_whom requester invoke (member (codes "result") (object (result_of answer)) no_members))
reply_data requester invoke (Refused refusal) = error_data (refusal_code refusal) (refusal_name refusal) requester invoke

-- the reply to an executed request
unfoldable pub reply_text : List ℕ → ℕ → Outcome → List ℕ
reply_text requester invoke outcome = compact_text (reply_data requester invoke outcome)

-- the reply to a request that isn't executed
unfoldable pub rejected_text : List ℕ → ℕ → Rejected → List ℕ
rejected_text requester invoke rejected = compact_text (error_data (rejected_code rejected) (rejected_name rejected) requester invoke)
