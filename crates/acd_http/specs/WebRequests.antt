-- The question that the bytes of a connection ask.
use Rattle.std.specs.Prelude.{◌≡◌, ◌≢◌, ◌⊎◌, ℕ, ◌≤◌, List, length, take, drop, Bool, true, false, nat_lt, nat_le, if◌then◌else◌, Option, Some, None, Result, Ok, Err, MatchResult}
use Rattle.std.specs.Io.KnownBytes.{Consumes}
use Rattle.httparse.specs.Grammar.{RequestHead}
use Rattle.std.specs.declared.alloc.AllocError.{AllocError}
use Rattle.acd_terms.specs.declared.command.Request.{Request}
use Rattle.acd_codec.specs.declared.member.Member.{Member}
use Rattle.acd_codec.specs.RequestReading.{reads_as}
use Rattle.acd_io.specs.Streams.{IsInput}
use Rattle.acd_http.specs.declared.refused.Refused.TheVariants as refused
use Rattle.acd_http.specs.declared.refused.Part.TheVariants as part
use Rattle.acd_http.specs.declared.head_request.HeadRequest.{HeadRequest}
use Rattle.acd_http.specs.declared.head_request.HeadRequest.TheVariants as want
use Rattle.acd_http.specs.declared.web_request.WebRequest.{WebRequest}
use Rattle.acd_http.specs.declared.web_request.WebRequest.TheVariants.{Truncated, Refused, Look, Arrival}
use Rattle.acd_http.specs.declared.web_request.ParseFault.{ParseFault}
use Rattle.acd_http.specs.declared.web_request.ParseFault.TheVariants as unknown
use Rattle.acd_http.specs.Head.{head_len, lines_in}
use Rattle.acd_http.specs.HeadRequests.{IsWhole, IsUnread, wanted_of, has_no_body, is_body, IsSmallBody}

-- a body that has come whole asks what it reads as
abbrev pub body_asks : Result Request Member → WebRequest
body_asks (Ok request) = Arrival request
body_asks (Err member) = Refused (refused.Body member) false

-- for private clauses: the question of a body, as it was read, or that there was no memory to read it
abbrev pub IsBodyAsked : List ℕ → Result WebRequest ParseFault → Type 0
IsBodyAsked body result = MatchResult result (λ (asked : WebRequest). asked ≡ body_asks (reads_as body)) (λ (why : ParseFault). why ≡ unknown.NoMemory false)

-- so many bytes of what follows the head are the body
abbrev pub body_in : ℕ → List ℕ → WebRequest
body_in len rest = if nat_le len (length rest) then body_asks (reads_as (take len rest)) else Truncated

-- what a head asks for, with the bytes after it
abbrev pub parse : HeadRequest → Bool → List ℕ → WebRequest
parse (want.Refused why) bodiless rest = Refused why bodiless
parse (want.Look question) bodiless rest = Look question bodiless
parse (want.Body len) bodiless rest = body_in len rest

-- a head that can't be read is refused, and one that can asks what it wants
abbrev pub ReadAsks : List ℕ → List ℕ → WebRequest → Type 0
ReadAsks head rest asked = (IsUnread head × (asked ≡ Refused (refused.Malformed part.Head) false))
    ⊎ ((h : RequestHead) × IsWhole head h × (asked ≡ parse (wanted_of h) (has_no_body h) rest))

-- a head of more than 33 lines is too large
abbrev pub AsksUnless : Bool → List ℕ → List ℕ → WebRequest → Type 0
AsksUnless true head rest asked = asked ≡ Refused refused.HeadTooLarge false
AsksUnless false head rest asked = ReadAsks head rest asked

abbrev pub HeadAsks : List ℕ → List ℕ → WebRequest → Type 0
HeadAsks head rest asked = AsksUnless (nat_lt 33 (lines_in head)) head rest asked

-- a head that hasn't ended within 8192 bytes is too large, if so many came
abbrev pub headless : ℕ → WebRequest
headless size = if nat_le 8192 size then Refused refused.HeadTooLarge false else Truncated

abbrev pub AsksBy : Option ℕ → List ℕ → WebRequest → Type 0
AsksBy None input asked = asked ≡ headless (length input)
AsksBy (Some n) input asked = HeadAsks (take n input) (drop n input) asked

-- the question of these bytes
unfoldable pub Asks : List ℕ → WebRequest → Type 0
Asks input asked = AsksBy (head_len (take 8192 input)) input asked

abbrev pub is_bodiless : WebRequest → Bool
is_bodiless Truncated = false
is_bodiless (Refused why bodiless) = bodiless
is_bodiless (Look question bodiless) = bodiless
is_bodiless (Arrival request) = false

-- for private clauses: a head wants this, whatever follows it
abbrev pub IsWanted : List ℕ → Bool → HeadRequest → Type 0
IsWanted head bodiless w = (rest : List ℕ) → HeadAsks head rest (parse w bodiless rest)

-- the question of a head, as it was read; it asks for no body where there was no memory to read it
abbrev pub IsHeadAsked : List ℕ → Bool → Result HeadRequest AllocError → Type 0
IsHeadAsked head bodiless (Ok w) = IsSmallBody w × IsWanted head bodiless w
IsHeadAsked head bodiless (Err e) = (w : HeadRequest) × (is_body w ≡ false) × IsWanted head bodiless w

abbrev pub IsHeadOf : ℕ → List ℕ → Type 0
IsHeadOf len input = (head_len (take 8192 input) ≡ Some len) × (len ≤ 8192) × (len ≤ length input)

-- the reader's bytes ask this
abbrev pub IsAsked : Option (List ℕ) → WebRequest → Type 0
IsAsked known asked = (input : List ℕ) × IsInput known input × Asks input asked

-- the bytes read of the input, up to where reading stopped, ask nothing yet
abbrev pub IsUnasked : Option (List ℕ) → Option (List ℕ) → Type 0
IsUnasked known left = (read : List ℕ) × Consumes known left read × Asks read Truncated

-- it isn't known what they ask: reading stopped, or there was no memory to see it
abbrev pub IsUnknown : Option (List ℕ) → Option (List ℕ) → ParseFault → Type 0
IsUnknown known left unknown.Stopped = IsUnasked known left
IsUnknown known left (unknown.NoMemory bodiless) = (asked : WebRequest) × (asked ≢ Truncated) × (bodiless ≡ is_bodiless asked) × IsAsked known asked

-- the question of a reader's bytes, as far as they were read
abbrev pub IsSeen : Option (List ℕ) → Option (List ℕ) → Result WebRequest ParseFault → Type 0
IsSeen known left result = MatchResult result (IsAsked known) (IsUnknown known left)

-- for private clauses: the same where these of its bytes were read before, whatever it held first
abbrev pub IsSeenAfter : List ℕ → Option (List ℕ) × Option (List ℕ) → Result WebRequest ParseFault → Type 0
IsSeenAfter input left result = (first : Option (List ℕ)) → Consumes first left.0 input → IsSeen first left.1 result
