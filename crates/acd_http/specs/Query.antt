-- The number that a query names as `after`, by the rules of forms (application/x-www-form-urlencoded).
use Rattle.std.specs.Prelude.{ℕ, List, [], ◌∷◌, length, Bool, nat_le, if◌then◌else◌, codes, Option, Some, None, is_some, unwrap_or}
use Rattle.std.specs.Str.{bytes_eq}
use Rattle.std.specs.Str.Lossy.{utf8_lossy}
use Rattle.form_urlencoded.specs.Form.{raw_pairs, decode}
use Rattle.acd_io.specs.Digits.{number_up_to}

-- the text that a name or a value of a form represents
abbrev pub query_text : List ℕ → List ℕ
query_text bytes = utf8_lossy (decode bytes)

abbrev pub names_after : List ℕ → Bool
names_after name = bytes_eq (query_text name) (codes "after")

-- the number of 1 to 15 digits
unfoldable pub after_number : List ℕ → Option ℕ
after_number digits = if nat_le (length digits) 15 then number_up_to digits else None

-- one pair more: a second `after` leaves no number
unfoldable pub after_step : Option (Option ℕ) → List ℕ × List ℕ → Option (Option ℕ)
after_step found p = if names_after p.0 then Some (if is_some found then None else after_number (query_text p.1)) else found

unfoldable pub after_from : Option (Option ℕ) → List (List ℕ × List ℕ) → Option ℕ
after_from found [] = unwrap_or found (Some 0)
after_from found (p ∷ ps) = after_from (after_step found p) ps

-- the number that a query names, 0 where it names none
abbrev pub after_of : List ℕ → Option ℕ
after_of query = after_from None (raw_pairs query)
