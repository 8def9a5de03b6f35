-- The number that digits write.
use Rattle.std.specs.Prelude.{ℕ, List, length, min, Bool, not, ◌&&◌, ◌==◌, if◌then◌else◌, Option, Some, None}
use Rattle.std.specs.List.{list_all}
use Rattle.std.specs.Char.{is_ascii_digit}
use Rattle.std.specs.Str.Parse.{digits_value}

-- one or more digits
abbrev pub is_number : List ℕ → Bool
is_number text = not (length text == 0) && list_all is_ascii_digit text

-- the number that digits write, or 10^15 where it is greater
unfoldable pub number_up_to : List ℕ → Option ℕ
number_up_to text = if is_number text then Some (min 1000000000000000 (digits_value 10 text)) else None
