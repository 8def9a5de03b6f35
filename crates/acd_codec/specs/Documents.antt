-- The JSON of a text, and the data that it is.
use Rattle.std.specs.Prelude.{ℕ, ◌^◌, nat_lt, nat_le, Bool, ◌&&◌, List, Option, option_and_then, unwrap_or}
use Rattle.fast_float.specs.Text.{Parts, digits_of}
use Rattle.json.specs.Json as json
use Rattle.json.specs.Lex.{tokens}
use Rattle.json.specs.declared.value.Value.{Value}
use Rattle.json.specs.Value.{value_view, items_view}
use Rattle.serde_json.specs.Data.{Data, Items, null}
use Rattle.serde_json.specs.Read.{read, max_depth, of_json, of_items, is_integer}

-- the one value that a text is
abbrev pub json_of : List ℕ → Option json.Json
json_of text = option_and_then (λ p. json.if_last p.0 p.1) (json.value max_depth (tokens text))

-- the data that a value is, if its numbers are in range
abbrev pub value_data : {A : Type 0} → Value A → Option Data
value_data v = of_json (value_view v)

-- the data that a list of values is, if their numbers are in range
abbrev pub items_data : {A : Type 0} → List (Value A) → Option Items
items_data vs = of_items (items_view vs)

-- these digits are a whole number that is not 0, and fits with a minus before it
abbrev pub is_below_zero : Parts → Bool
is_below_zero numeral = is_integer numeral && nat_lt 0 (digits_of numeral) && nat_le (digits_of numeral) (2 ^ 63)

-- the data that a text is; null, where it is none
abbrev pub data_of : List ℕ → Data
data_of text = unwrap_or (read text) null
