-- The bytes of a reply (RFC 9112, section 2.1).
use Rattle.std.specs.Prelude.{ℕ, List, [], ◌∷◌, ◌++◌, length, Bool, ◌==◌, if◌then◌else◌, cond, codes, decimal, Option, Some, None}
use Rattle.acd_http.specs.declared.reply.Kind.{Kind}
use Rattle.acd_http.specs.declared.reply.Kind.TheVariants.{Json, Plain}
use Rattle.acd_http.specs.declared.refused.Allow.{Allow}
use Rattle.acd_http.specs.declared.refused.Allow.TheVariants.{Reads, Posts}

-- the statuses that the desk answers, each with its phrase
abbrev pub phrases : List (ℕ × List ℕ)
phrases =
    (200, codes "OK")
    ∷ (400, codes "Bad Request")
    ∷ (404, codes "Not Found")
    ∷ (405, codes "Method Not Allowed")
    ∷ (409, codes "Conflict")
    ∷ (411, codes "Length Required")
    ∷ (413, codes "Payload Too Large")
    ∷ (422, codes "Unprocessable Entity")
    ∷ (431, codes "Request Header Fields Too Large")
    ∷ (501, codes "Not Implemented")
    ∷ (503, codes "Service Unavailable")
    ∷ (507, codes "Insufficient Storage")
    ∷ []

-- the phrase of a number in such a list
abbrev pub phrase_in : List (ℕ × List ℕ) → ℕ → List ℕ
phrase_in [] n = []
phrase_in (p ∷ ps) n = if n == p.0 then p.1 else phrase_in ps n

-- the phrase of a status
unfoldable pub phrase_of : ℕ → List ℕ
phrase_of n = phrase_in phrases n

abbrev pub kind_text : Kind → List ℕ
kind_text Json = codes "application/json"
kind_text Plain = codes "text/plain"

abbrev pub allow_text : Option Allow → List ℕ
allow_text None = []
allow_text (Some Reads) = codes "Allow: GET, HEAD\r\n"
allow_text (Some Posts) = codes "Allow: POST\r\n"

abbrev pub status_line : ℕ → List ℕ
status_line status = codes "HTTP/1.1 " ++ decimal status ++ codes " " ++ phrase_of status ++ codes "\r\n"

abbrev pub kind_field : Kind → List ℕ
kind_field kind = codes "Content-Type: " ++ kind_text kind ++ codes "\r\n"

abbrev pub size_field : ℕ → List ℕ
size_field size = codes "Content-Length: " ++ decimal size ++ codes "\r\n"

abbrev pub close_field : List ℕ
close_field = codes "Connection: close\r\n\r\n"

-- the status line, the fields, and the empty line
unfoldable pub head_text : ℕ → Kind → ℕ → Option Allow → List ℕ
head_text status kind size allow = status_line status ++ kind_field kind ++ size_field size ++ allow_text allow ++ close_field

-- a reply; to HEAD its body is left out
unfoldable pub reply_bytes : Bool → ℕ → Kind → Option Allow → List ℕ → List ℕ
reply_bytes bodiless status kind allow body = head_text status kind (length body) allow ++ cond bodiless [] body
