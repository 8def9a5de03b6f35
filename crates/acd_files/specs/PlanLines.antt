-- The lines of a plan, as whoever wrote it sees them.
use Rattle.std.specs.Prelude.{◌≡◌, ◌≤◌, ℕ, [], ◌∷◌, ◌++◌, length, take, take_while, flat_map, Option, Some, None, ◌+◌, ◌/◌, ◌%◌, Bool, true, false, not, ◌&&◌, ◌||◌, nat_eq, nat_le, nat_lt, List, codes, if◌then◌else◌}
use Rattle.acd_files.specs.declared.plan_lines.Place.{Place}
use Rattle.acd_reports.specs.declared.fault.PlanMember.{PlanMember}
use Rattle.acd_reports.specs.declared.fault.PlanMember.TheVariants as member

-- a count goes on to the greatest number of 64 bits
abbrev pub one_more : ℕ → ℕ
one_more n = if nat_le 18446744073709551615 n then n else n + 1

-- the place is in a record
abbrev pub begun_at : Place → Place
begun_at place = if place.is_begun then place else record place { records = one_more place.records; is_begun = true }

-- a line ends there, and a record with it, but within quotes
abbrev pub ended_at : Place → Place
ended_at place = record place { line = one_more place.line; is_begun = place.is_begun && place.is_quoted }

-- quotes begin or end there
abbrev pub quoted_at : Place → Place
quoted_at place = record (begun_at place) { is_quoted = not place.is_quoted }

-- LF and CR end a line
abbrev pub ends_line : ℕ → Bool
ends_line byte = nat_eq byte 10 || nat_eq byte 13

-- a byte stands there: CR or LF, a quote, or another
abbrev pub byte_at : Place → ℕ → Place
byte_at place byte = if ends_line byte then ended_at place else (if nat_eq byte 34 then quoted_at place else begun_at place)

-- the place after a byte: CR and LF together end one line
abbrev pub place_after : Place → ℕ → Place
place_after place byte = if nat_eq byte 10 && nat_eq place.last 13 then record place { last = byte } else byte_at (record place { last = byte }) byte

-- a byte that is shown as it is
abbrev pub is_printable : ℕ → Bool
is_printable byte = nat_le 32 byte && nat_le byte 126

-- a digit of a number to the base of 16
abbrev pub hex_digit : ℕ → ℕ
hex_digit value = if nat_lt value 10 then 48 + value else 55 + value

-- a byte as it is shown: as it is where that can be printed, and else as its number
abbrev pub shown_byte : ℕ → List ℕ
shown_byte byte = if is_printable byte then byte ∷ [] else codes "\\x" ++ (hex_digit (byte / 16) ∷ hex_digit (byte % 16) ∷ [])

-- so much is shown of a line, which ends before this byte, or there is no room for it
abbrev pub is_shown_to : List ℕ → ℕ → Bool
is_shown_to text byte = ends_line byte || nat_lt 60 (length text + length (shown_byte byte))

-- the form of a member of a row
abbrev pub form_text : PlanMember → List ℕ
form_text member.Fields = codes "a row has five fields, parted by commas, in UTF-8"
form_text member.Kind = codes "a kind is group, station or agent"
form_text member.Number = codes "a number is 1 to 15 digits, an agent's 1 to 9"
form_text member.Name = codes "a name is 1 to 40 characters from space to ~; a station has none"
form_text member.Ring = codes "a group's ring is 0 to 3600; others have none"
form_text member.Wrap = codes "a group's wrap is 0 to 3600; others have none"

-- the line in which this record begins, from a place on
unfoldable pub line_from : Place → ℕ → List ℕ → Option ℕ
line_from place wanted [] = None
line_from place wanted (byte ∷ rest) = if nat_eq (place_after place byte).records wanted then Some place.line else line_from (place_after place byte) wanted rest

-- the place before a plan
abbrev pub first_place : Place
first_place = record { line = 1; records = 0; is_begun = false; is_quoted = false; last = 0 }

abbrev pub line_number : List ℕ → ℕ → Option ℕ
line_number plan wanted = line_from first_place wanted plan

-- the first line of a plan: the bytes before its first LF or CR
abbrev pub first_line : List ℕ → List ℕ
first_line plan = take_while (λ byte. not (ends_line byte)) plan

-- so many bytes of a line, as they are shown
abbrev pub shown : ℕ → List ℕ → List ℕ
shown count line = flat_map shown_byte (take count line)

-- this text shows a line from its beginning on, as far as 60 characters can
pub record ShowsLine (line text : List ℕ) : Type 0 where
  pub count : ℕ
  pub shows : text ≡ shown count line
  pub fits : length text ≤ 60
  pub longest : (other : ℕ) → length (shown other line) ≤ 60 → length (shown other line) ≤ length text
