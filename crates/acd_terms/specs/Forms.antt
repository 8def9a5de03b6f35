-- The written forms of identifiers and names, and what reading them answers.
use Rattle.std.specs.Prelude.{◌≡◌, ℕ, ◌+◌, ◌^◌, ◌<◌, ◌≤◌, ◌&&◌, ◌||◌, ◌==◌, not, List, ◌∷◌, length, drop, slice_index, Bool, true, nat_lt, nat_le, if◌then◌else◌, Option, Some, None, Result, Ok, Err, position, decimal}
use Rattle.std.specs.List.{list_all}
use Rattle.std.specs.Char.{is_ascii_digit}
use Rattle.std.specs.Str.Parse.{digits_value}
use Rattle.acd_terms.specs.declared.id.IdFault.{IdFault}
use Rattle.acd_terms.specs.declared.id.IdFault.TheVariants as id_fault
use Rattle.acd_terms.specs.declared.name.NameFault.{NameFault}
use Rattle.acd_terms.specs.declared.name.NameFault.TheVariants as name_fault

-- the most digits of a device, and of an agent
abbrev pub device_digits : ℕ
device_digits = 15

abbrev pub agent_digits : ℕ
agent_digits = 9

-- digits are kept as the value of the digit 1 followed by them
abbrev pub number_of : List ℕ → ℕ
number_of digits = digits_value 10 (49 ∷ digits)

-- the digits of a number: all after its first
abbrev pub digits_of : ℕ → List ℕ
digits_of number = drop 1 (decimal number)

abbrev pub is_not_digit : ℕ → Bool
is_not_digit b = not (is_ascii_digit b)

abbrev pub digits_or_fault : Option ℕ → List ℕ → Result ℕ IdFault
digits_or_fault None bytes = Ok (number_of bytes)
digits_or_fault (Some place) bytes = Err (id_fault.NotDigit place)

-- the number of one to `longest` digits, or the first fault
unfoldable pub read_id : ℕ → List ℕ → Result ℕ IdFault
read_id longest bytes =
    if length bytes == 0 then Err id_fault.Empty
    else (if nat_lt longest (length bytes) then Err id_fault.TooLong
    else digits_or_fault (position is_not_digit bytes) bytes)

-- the number is the digit 1 and one to `longest` digits
pub record IsNumberOf (longest number : ℕ) : Type 0 where
  pub range : number < 2 ^ 64
  pub one : slice_index (decimal number) 0 ≡ 49
  pub some : 1 < length (decimal number)
  pub short : length (decimal number) ≤ longest + 1

-- the test of it
abbrev pub is_number_of : ℕ → ℕ → Bool
is_number_of longest number = nat_lt 1 (length (decimal number)) && nat_le (length (decimal number)) (longest + 1) && slice_index (decimal number) 0 == 49

-- the number, where it is the digit 1 and one to `longest` digits
unfoldable pub id_with : ℕ → ℕ → Option ℕ
id_with longest number = if is_number_of longest number then Some number else None

-- a printable character of ASCII
abbrev pub is_name_byte : ℕ → Bool
is_name_byte b = nat_le 32 b && nat_le b 126

-- a lower-case letter, a digit or a hyphen
abbrev pub is_requester_byte : ℕ → Bool
is_requester_byte b = (nat_le 97 b && nat_le b 122) || is_ascii_digit b || b == 45

abbrev pub text_or_fault : Option ℕ → List ℕ → Result (List ℕ) NameFault
text_or_fault None bytes = Ok bytes
text_or_fault (Some place) bytes = Err (name_fault.BadCharacter place)

-- the place of the first character that doesn't pass
abbrev pub first_bad : (ℕ → Bool) → List ℕ → Option ℕ
first_bad passes bytes = position (λ b. not (passes b)) bytes

-- one to `longest` characters, each of which passes, or the first fault
unfoldable pub read_text : (ℕ → Bool) → ℕ → List ℕ → Result (List ℕ) NameFault
read_text passes longest bytes =
    if length bytes == 0 then Err name_fault.Empty
    else (if nat_lt longest (length bytes) then Err name_fault.TooLong
    else text_or_fault (first_bad passes bytes) bytes)

-- the text has one to `longest` characters, each of which passes
pub record IsText (passes : ℕ → Bool) (longest : ℕ) (text : List ℕ) : Type 0 where
  pub some : 0 < length text
  pub short : length text ≤ longest
  pub all : list_all passes text ≡ true

abbrev pub IsName : List ℕ → Type 0
IsName text = IsText is_name_byte 40 text

abbrev pub IsRequester : List ℕ → Type 0
IsRequester text = IsText is_requester_byte 32 text

-- a number from the least to the greatest
abbrev pub IsBetween : ℕ → ℕ → ℕ → Type 0
IsBetween least greatest n = (least ≤ n) × (n ≤ greatest)

-- the number, if it is from the least to the greatest
unfoldable pub number_between : ℕ → ℕ → ℕ → Option ℕ
number_between least greatest n = if nat_le least n && nat_le n greatest then Some n else None
