-- The fields of a head, and the tests that every request passes first.
use Rattle.std.specs.Prelude.{ℕ, List, map, Bool, true, false, not, ◌&&◌, ◌||◌, ◌==◌, nat_lt, if◌then◌else◌, codes, find, Option, Some, None, option_map}
use Rattle.std.specs.List.{count_by}
use Rattle.std.specs.Char.{to_ascii_lowercase}
use Rattle.std.specs.Str.{bytes_eq}
use Rattle.httparse.specs.Spans.{header_bytes}
use Rattle.httparse.specs.declared.spans.HeaderSpan.{HeaderSpan}
use Rattle.acd_io.specs.Digits.{number_up_to}
use Rattle.acd_http.specs.declared.fields.Length.{Length}
use Rattle.acd_http.specs.declared.fields.Length.TheVariants.{Absent, Faulty, Given, TooLarge}
use Rattle.acd_http.specs.declared.refused.Refused.{Refused}
use Rattle.acd_http.specs.declared.refused.Refused.TheVariants as refused
use Rattle.acd_http.specs.declared.refused.Part.TheVariants as part

-- the names and values of some fields, which lie in these bytes
abbrev pub fields_in : List ℕ → List HeaderSpan → List (List ℕ × List ℕ)
fields_in bytes headers = map (header_bytes bytes) headers

-- the field has this name, whatever the case
abbrev pub is_named : List ℕ → List ℕ × List ℕ → Bool
is_named name field = bytes_eq (map to_ascii_lowercase field.0) (map to_ascii_lowercase name)

-- how many fields have it
abbrev pub count_named : List ℕ → List (List ℕ × List ℕ) → ℕ
count_named name fields = count_by (is_named name) fields

-- the value of the first that has it
abbrev pub first_named : List ℕ → List (List ℕ × List ℕ) → Option (List ℕ)
first_named name fields = option_map (λ (field : List ℕ × List ℕ). field.1) (find (is_named name) fields)

-- HTTP/1.1 has one Host field, and HTTP/1.0 at most one
abbrev pub is_host_fine : ℕ → ℕ → Bool
is_host_fine minor hosts = (hosts == 1) || ((minor == 0) && (hosts == 0))

abbrev pub length_of : Option ℕ → Length
length_of None = Faulty
length_of (Some n) = if nat_lt 4096 n then TooLarge else Given n

-- the value of a Content-Length field, as a length
abbrev pub length_by : List ℕ → Length
length_by value = length_of (number_up_to value)

abbrev pub length_or_none : Option (List ℕ) → Length
length_or_none None = Absent
length_or_none (Some value) = length_by value

-- the length that all Content-Length fields give
unfoldable pub length_in : List (List ℕ × List ℕ) → Length
length_in fields = if nat_lt 1 (count_named (codes "content-length") fields) then Faulty else length_or_none (first_named (codes "content-length") fields)

abbrev pub is_faulty : Length → Bool
is_faulty Absent = false
is_faulty Faulty = true
is_faulty (Given n) = false
is_faulty TooLarge = false

-- a head's Host fields are not as its version wants them
abbrev pub has_wrong_host : ℕ → List (List ℕ × List ℕ) → Bool
has_wrong_host minor fields = not (is_host_fine minor (count_named (codes "host") fields))

-- its body comes in a transfer coding
abbrev pub is_coded : List (List ℕ × List ℕ) → Bool
is_coded fields = nat_lt 0 (count_named (codes "transfer-encoding") fields)

-- the last of the tests that every request passes: its length can be read
abbrev pub length_refused : List (List ℕ × List ℕ) → Option Refused
length_refused fields = if is_faulty (length_in fields) then Some (refused.Malformed part.ContentLength) else None

-- the first of these tests that a request fails
unfoldable pub fields_refused : ℕ → List (List ℕ × List ℕ) → Option Refused
fields_refused minor fields =
    if has_wrong_host minor fields then Some (refused.Malformed part.Host)
    else (if is_coded fields then Some refused.NotImplemented else length_refused fields)
