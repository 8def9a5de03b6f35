-- The request of a head that has come whole.
use Rattle.std.specs.Prelude.{◌≡◌, ℕ, ◌≤◌, List, [], length, map, Bool, true, false, if◌then◌else◌, codes, Option, Some, None, Result, Ok, Err, MatchResult}
use Rattle.std.specs.Str.{bytes_eq}
use Rattle.httparse.specs.Grammar.{RequestHead, ReadsRequest}
use Rattle.httparse.specs.Spans.{name_and_value}
use Rattle.std.specs.declared.alloc.AllocError.{AllocError}
use Rattle.acd_http.specs.declared.method.Method.{Method}
use Rattle.acd_http.specs.declared.method.Method.TheVariants.{Get, Head, Post}
use Rattle.acd_http.specs.declared.routes.Route.{Route}
use Rattle.acd_http.specs.declared.fields.Length.{Length}
use Rattle.acd_http.specs.declared.fields.Length.TheVariants as len
use Rattle.acd_http.specs.declared.refused.Refused.{Refused}
use Rattle.acd_http.specs.declared.refused.Refused.TheVariants as refused
use Rattle.acd_http.specs.declared.refused.Allow.TheVariants as allow
use Rattle.acd_desk.specs.declared.question.Question.{Question}
use Rattle.acd_http.specs.declared.head_request.HeadRequest.{HeadRequest}
use Rattle.acd_http.specs.declared.head_request.HeadRequest.TheVariants as want
use Rattle.acd_http.specs.Fields.{fields_refused, length_in}
use Rattle.acd_http.specs.Target.{path_of}
use Rattle.acd_http.specs.Routing.{is_services, route_of}
use Rattle.acd_http.specs.Lookups.{target_looked}

-- the method, in its case
abbrev pub method_of : List ℕ → Option Method
method_of bytes =
    if bytes_eq bytes (codes "GET") then Some Get
    else (if bytes_eq bytes (codes "HEAD") then Some Head
    else (if bytes_eq bytes (codes "POST") then Some Post else None))

-- the reply has no body
abbrev pub is_head : Option Method → Bool
is_head None = false
is_head (Some Get) = false
is_head (Some Head) = true
is_head (Some Post) = false

abbrev pub looked : Result Question Refused → HeadRequest
looked (Ok question) = want.Look question
looked (Err why) = want.Refused why

-- a POST has a length, of at most 4096
abbrev pub by_length : Length → HeadRequest
by_length (len.Given n) = want.Body n
by_length len.TooLarge = want.Refused refused.BodyTooLarge
by_length len.Absent = want.Refused refused.LengthRequired
by_length len.Faulty = want.Refused refused.LengthRequired

-- services are asked for by POST
abbrev pub posted : Option Route → Length → HeadRequest
posted None length = want.Refused refused.NotFound
posted (Some route) length = if is_services route then by_length length else want.Refused (refused.MethodNotAllowed allow.Reads)

-- and reads by GET and HEAD
abbrev pub by_method : Option Method → List ℕ → Length → HeadRequest
by_method None target length = want.Refused refused.NotImplemented
by_method (Some Post) target length = posted (route_of (path_of target)) length
by_method (Some Get) target length = looked (target_looked target)
by_method (Some Head) target length = looked (target_looked target)

abbrev pub or_refused : Option Refused → HeadRequest → HeadRequest
or_refused (Some why) wanted = want.Refused why
or_refused None wanted = wanted

-- the request of a head: the tests of its fields come first, then its method, its route and its length
unfoldable pub from_head : ℕ → Option Method → List ℕ → List (List ℕ × List ℕ) → HeadRequest
from_head minor method target fields = or_refused (fields_refused minor fields) (by_method method target (length_in fields))

-- the names and values of a head's fields
abbrev pub fields_of : RequestHead → List (List ℕ × List ℕ)
fields_of h = map name_and_value h.fields

abbrev pub wanted_of : RequestHead → HeadRequest
wanted_of h = from_head h.minor (method_of h.method) h.target (fields_of h)

abbrev pub has_no_body : RequestHead → Bool
has_no_body h = is_head (method_of h.method)

-- the bytes are this head (RFC 9112, section 2.1), and nothing else
abbrev pub IsWhole : List ℕ → RequestHead → Type 0
IsWhole head h = ReadsRequest head h [] × (length h.fields ≤ 32)

-- the bytes are no head
abbrev pub IsUnread : List ℕ → Type 0
IsUnread head = (h : RequestHead) → IsWhole head h → ⊥

abbrev pub is_body : HeadRequest → Bool
is_body (want.Refused why) = false
is_body (want.Look lookup) = false
is_body (want.Body n) = true

-- for private clauses: a request was read as this one, which asks for no body where there was no memory to read it
abbrev pub IsReadAs : Result HeadRequest AllocError → HeadRequest → Type 0
IsReadAs result wanted = MatchResult result (λ w. w ≡ wanted) (λ e. is_body wanted ≡ false)

-- a body that is asked for has at most 4096 bytes
abbrev pub IsSmallBody : HeadRequest → Type 0
IsSmallBody (want.Body n) = n ≤ 4096
IsSmallBody (want.Refused why) = Unit {0}
IsSmallBody (want.Look question) = Unit {0}

-- for private clauses: a head as it was read; it asks for no body where there was no memory to read it
abbrev pub IsHeadRead : List ℕ → Option (Bool × Result HeadRequest AllocError) → Type 0
IsHeadRead head None = IsUnread head
IsHeadRead head (Some read) = (h : RequestHead) × IsWhole head h × (read.0 ≡ has_no_body h) × IsReadAs read.1 (wanted_of h)
