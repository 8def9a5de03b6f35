-- An input is lines, and a line is a moment, a space and a request.
use Rattle.std.specs.Prelude.{◌≡◌, ℕ, List, [], ◌∷◌, ◌++◌, length, map, Bool, true, not, ◌&&◌, ◌==◌, nat_lt, nat_le, if◌then◌else◌, Option, Some, None, option_map, Result, Ok, Err}
use Rattle.std.specs.List.{list_all, position_or_len, before_first, after_first}
use Rattle.std.specs.Char.{is_ascii_digit}
use Rattle.std.specs.Str.Parse.{digits_value}
use Rattle.std.specs.Io.BufRead.{ends_with_byte, strip_last}
use Rattle.acd_terms.specs.declared.command.Request.{Request}
use Rattle.acd_terms.specs.declared.command.Arrival.{Arrival}
use Rattle.acd_codec.specs.declared.member.Member.{Member}
use Rattle.acd_codec.specs.RequestReading.{reads_as}
use Rattle.acd_desk.specs.Contents.Arrivals.{arrival_at}

-- x is put before the first piece
abbrev pub onto : ℕ → List (List ℕ) → List (List ℕ)
onto x [] = (x ∷ []) ∷ []
onto x (p ∷ ps) = (x ∷ p) ∷ ps

-- the input, cut after each line feed
unfoldable pub cut : List ℕ → List (List ℕ)
cut [] = []
cut (x ∷ xs) = if x == 10 then (10 ∷ []) ∷ cut xs else onto x (cut xs)

-- a piece without its line feed, and without a carriage return before that
unfoldable pub text_of_line : List ℕ → List ℕ
text_of_line piece = if ends_with_byte 10 piece then strip_last 13 (strip_last 10 piece) else piece

-- no such byte
abbrev pub has_none : ℕ → List ℕ → Bool
has_none byte text = list_all (λ x. not (x == byte)) text

abbrev pub HasNone : ℕ → List ℕ → Type 0
HasNone byte text = has_none byte text ≡ true

-- front is the part of a text before its first such byte, and rest the part after it
abbrev pub IsSplit : ℕ → List ℕ → List ℕ → List ℕ → Type 0
IsSplit byte text front rest = (text ≡ front ++ byte ∷ rest) × HasNone byte front

-- the part before the first such byte, and the part after it
abbrev pub split_once : ℕ → List ℕ → Option (List ℕ × List ℕ)
split_once byte text = if nat_lt (position_or_len (λ x. x == byte) text) (length text) then Some (before_first (λ x. x == byte) text, after_first (λ x. x == byte) text) else None

-- a moment has 1 to 10 digits, and the number that they write is at most 4294967295
abbrev pub is_moment : List ℕ → Bool
is_moment digits = nat_lt 0 (length digits) && (nat_le (length digits) 10 && (list_all is_ascii_digit digits && nat_le (digits_value 10 digits) 4294967295))

-- the number of a moment
unfoldable pub moment_of_digits : List ℕ → Option ℕ
moment_of_digits digits = if is_moment digits then Some (digits_value 10 digits) else None

abbrev pub moment_before : Option (List ℕ × List ℕ) → Option (ℕ × List ℕ)
moment_before None = None
moment_before (Some p) = option_map (λ n. (n, p.1)) (moment_of_digits p.0)

-- the moment of a line, before its first space, and the rest after that
unfoldable pub moment_of : List ℕ → Option (ℕ × List ℕ)
moment_of text = moment_before (split_once 32 text)

-- the kinds of a line: without a moment, with JSON longer than is read, with faulty JSON, or a request that comes in at a
-- moment
pub data Line : Type 0 where
  no_moment : Line
  too_long : Line
  faulty : Member → Line
  arrival : ℕ → Request → Line

abbrev pub line_read : ℕ → Result Request Member → Line
line_read moment (Ok request) = arrival moment request
line_read moment (Err member) = faulty member

-- the question of a line's text: the moment is looked at first, then the length of what follows it, and then that
abbrev pub asked_at : {L : Type 0} → L → L → (ℕ → List ℕ → L) → Option (ℕ × List ℕ) → L
asked_at unmarked long read None = unmarked
asked_at unmarked long read (Some p) = if nat_lt 4096 (length p.1) then long else read p.0 p.1

unfoldable pub line_asked : {L : Type 0} → L → L → (ℕ → List ℕ → L) → List ℕ → L
line_asked unmarked long read text = asked_at unmarked long read (moment_of text)

-- the request after a moment
abbrev pub request_read : ℕ → List ℕ → Line
request_read moment json = line_read moment (reads_as json)

-- the kind of a line
abbrev pub line_of : List ℕ → Line
line_of text = line_asked no_moment too_long request_read text

-- the lines that some pieces are
abbrev pub lines_of : List (List ℕ) → List Line
lines_of pieces = map (λ (piece : List ℕ). line_of (text_of_line piece)) pieces

-- the arrivals among some lines
abbrev pub arrivals_in : List Line → List Arrival
arrivals_in [] = []
arrivals_in (no_moment ∷ lines) = arrivals_in lines
arrivals_in (too_long ∷ lines) = arrivals_in lines
arrivals_in (faulty member ∷ lines) = arrivals_in lines
arrivals_in (arrival moment request ∷ lines) = arrival_at moment request ∷ arrivals_in lines
