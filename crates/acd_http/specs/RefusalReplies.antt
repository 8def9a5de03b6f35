-- The answer to a request that the desk doesn't see.
use Rattle.std.specs.Prelude.{ℕ, List, ◌++◌, codes, Option, Some, None}
use Rattle.acd_codec.specs.declared.fault.FixedAnswer.TheVariants as fixed
use Rattle.acd_desk.specs.Reads.AnswerTexts.{Said, fixed_said, malformed_said}
use Rattle.acd_http.specs.declared.refused.Part.{Part}
use Rattle.acd_http.specs.declared.refused.Part.TheVariants.{Head, Host, ContentLength, After}
use Rattle.acd_http.specs.declared.refused.Allow.{Allow}
use Rattle.acd_http.specs.declared.refused.Refused.{Refused}
use Rattle.acd_http.specs.declared.refused.Refused.TheVariants.{HeadTooLarge, Malformed, Body, NotImplemented, NotFound, MethodNotAllowed, LengthRequired, BodyTooLarge}

-- the part's name as a member of the reply
abbrev pub part_name : Part → List ℕ
part_name Head = codes "head"
part_name Host = codes "host"
part_name ContentLength = codes "contentLength"
part_name After = codes "after"

abbrev pub part_text : Part → List ℕ
part_text part = codes "{\"error\":{\"code\":30,\"member\":\"" ++ part_name part ++ codes "\",\"name\":\"malformed\"}}"

abbrev pub refused_said : Refused → Said
refused_said HeadTooLarge = fixed_said fixed.HeadTooLarge
refused_said (Malformed part) = record { status = 400; body = part_text part }
refused_said (Body member) = malformed_said member
refused_said NotImplemented = fixed_said fixed.NotImplemented
refused_said NotFound = fixed_said fixed.NotFound
refused_said (MethodNotAllowed allow) = fixed_said fixed.MethodNotAllowed
refused_said LengthRequired = fixed_said fixed.LengthRequired
refused_said BodyTooLarge = fixed_said fixed.BodyTooLarge

-- the value of the Allow field, which 405 alone has
abbrev pub refused_allow : Refused → Option Allow
refused_allow HeadTooLarge = None
refused_allow (Malformed part) = None
refused_allow (Body member) = None
refused_allow NotImplemented = None
refused_allow NotFound = None
refused_allow (MethodNotAllowed allow) = Some allow
refused_allow LengthRequired = None
refused_allow BodyTooLarge = None
