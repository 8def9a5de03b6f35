-- Members and items that are written as tokens.
use Rattle.std.specs.Prelude.{◌≡◌, ℕ, List, [], ◌∷◌, ◌++◌, Some, None, Result, OnOk}
use Rattle.json.specs.Token.{Token, key, begin_object}
use Rattle.json.specs.Tree.{json_tokens}
use Rattle.json.specs.Written.{Written}
use Rattle.serde_json.specs.Data.{Data, Members, no_members, member}
use Rattle.serde_json.specs.Written.{outline}
use Rattle.acd_codec.specs.Parts.{Part, part}

-- the tokens of a value
abbrev pub data_tokens : Data → List Token
data_tokens d = json_tokens (outline d)

-- the tokens of members, without the closing bracket
abbrev pub tokens_of : Members → List Token
tokens_of no_members = []
tokens_of (member name d more) = key name ∷ (data_tokens d ++ tokens_of more)

-- those of a member that may be missing
abbrev pub part_tokens : Part → List Token
part_tokens (part k None) = []
part_tokens (part k (Some d)) = key k ∷ data_tokens d

abbrev pub parts_tokens : List Part → List Token
parts_tokens [] = []
parts_tokens (p ∷ ps) = part_tokens p ++ parts_tokens ps

-- the tokens of items, without the closing bracket
abbrev pub each_tokens : {T : Type 0} → (T → Data) → List T → List Token
each_tokens f [] = []
each_tokens f (x ∷ xs) = data_tokens (f x) ++ each_tokens f xs

-- these tokens are written after the others, and what the buffer held before them stays
abbrev pub Added : Written → Written → List Token → Type 0
Added old new ts = (new.before ≡ old.before) × (new.tokens ≡ old.tokens ++ ts)

-- the same, unless memory ran out
abbrev pub AddsTokens : {E : Type 0} → Result (Unit {0}) E → Written → Written → List Token → Type 0
AddsTokens r old new ts = OnOk r (Added old new ts)

-- the tokens of a value are written after the others, unless memory ran out
abbrev pub AddsData : {E : Type 0} → Result (Unit {0}) E → Written → Written → Data → Type 0
AddsData r old new d = AddsTokens r old new (data_tokens d)

-- those of members
abbrev pub AddsMembers : {E : Type 0} → Result (Unit {0}) E → Written → Written → Members → Type 0
AddsMembers r old new ms = AddsTokens r old new (tokens_of ms)

-- those of one member: its name and its value
abbrev pub AddsMember : {E : Type 0} → Result (Unit {0}) E → Written → Written → List ℕ → Data → Type 0
AddsMember r old new name d = AddsMembers r old new (member name d no_members)

-- those of a member that may be missing
abbrev pub AddsPart : {E : Type 0} → Result (Unit {0}) E → Written → Written → Part → Type 0
AddsPart r old new p = AddsTokens r old new (part_tokens p)

-- those of several of them
abbrev pub AddsParts : {E : Type 0} → Result (Unit {0}) E → Written → Written → List Part → Type 0
AddsParts r old new ps = AddsTokens r old new (parts_tokens ps)

-- an object begins in an empty buffer
abbrev pub Begun : Written → Type 0
Begun w = (w.before ≡ []) × (w.tokens ≡ begin_object ∷ [])
