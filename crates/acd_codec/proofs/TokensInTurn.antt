-- Tokens that are written one after the other.
use Rattle.std.proofs.Common.{◌≡◌, ℕ, List, [], ◌∷◌, ◌++◌, Some, None, Result, Ok, refl, sym, ap, ◌∙◌, append_assoc, append-nil}
use Rattle.std.proofs.lemmas.Result.{on_ok_weaker}
use Rattle.json.specs.Print.{print}
use Rattle.json.specs.Token.{Token, key, begin_object, end_object, begin_array, end_array}
use Rattle.json.specs.Tree.{json_tokens, items_tokens, members_tokens}
use Rattle.json.specs.Written.{Written, Writes}
use Rattle.serde_json.specs.Data.{Data, object, Members, no_members, member}
use Rattle.serde_json.specs.Written.{outline, items_outline, members_outline, compact_text}
use Rattle.serde_json.proofs.Texts.{print-outline}
use Rattle.acd_codec.specs.Parts.{Part, part, list_part, written_before, written_parts, object_of, items_of}
use Rattle.acd_codec.specs.Tokens.{data_tokens, tokens_of, part_tokens, parts_tokens, each_tokens, Added, AddsTokens, Begun}

pub wrote : {E : Type 0} (r : Result (Unit {0}) E) (old new : Written) (t : Token) → Writes r old new t → AddsTokens r old new (t ∷ [])
wrote {E} r old new t w = on_ok_weaker r (λ e. (w.room.0, e)) w.ok

pub wrote_ok : {E : Type 0} (x : Unit {0}) (old new : Written) (t : Token) → Writes {E = E} (Ok x) old new t → Added old new (t ∷ [])
wrote_ok {E} x old new t w = (w.room.0, w.ok)

pub and_then : (old mid new : Written) (xs ys : List Token) → Added old mid xs → Added mid new ys → Added old new (xs ++ ys)
and_then old mid new xs ys a b = (b.0 ∙ a.0, b.1 ∙ ap (λ ts. ts ++ ys) a.1 ∙ append_assoc old.tokens xs ys)

pub adds_then : {E : Type 0} (r : Result (Unit {0}) E) (old mid new : Written) (xs ys : List Token) → Added old mid xs → AddsTokens r mid new ys → AddsTokens r old new (xs ++ ys)
adds_then {E} r old mid new xs ys a b = on_ok_weaker r (λ (e : Added mid new ys). and_then old mid new xs ys a e) b

-- the last part of several
pub adds_last : {E : Type 0} (r : Result (Unit {0}) E) (old new : Written) (xs : List Token) → AddsTokens r old new xs → AddsTokens r old new (xs ++ [])
adds_last {E} r old new xs a = rw (append-nil xs) a

-- the tokens of parts, and of those that follow them
pub parts_append : (ps qs : List Part) → parts_tokens (ps ++ qs) ≡ parts_tokens ps ++ parts_tokens qs
parts_append [] qs = refl
parts_append (p ∷ ps) qs = ap (λ (ts : List Token). part_tokens p ++ ts) (parts_append ps qs) ∙ sym (append_assoc (part_tokens p) (parts_tokens ps) (parts_tokens qs))

-- the written text is that of the data that the tokens represent
pub printed : (d : Data) (start out : Written) → start.tokens ≡ [] → Added start out (json_tokens (outline d)) → print out.tokens ≡ compact_text d
printed d start out empty added = ap print (added.1 ∙ ap (λ (ts : List Token). ts ++ json_tokens (outline d)) empty) ∙ print-outline d

-- ---- objects and lists

members_closed : (ms : Members) → members_tokens (members_outline ms) ≡ tokens_of ms ++ end_object ∷ []
members_closed no_members = refl
members_closed (member k d ms) =
    ap (λ (ts : List Token). key k ∷ (data_tokens d ++ ts)) (members_closed ms) ∙ sym (append_assoc (key k ∷ data_tokens d) (tokens_of ms) (end_object ∷ []))

parts_written : (ps : List Part) → tokens_of (written_parts ps) ≡ parts_tokens ps
parts_written [] = refl
parts_written (part k None ∷ ps) = parts_written ps
parts_written (part k (Some d) ∷ ps) = ap (λ (ts : List Token). key k ∷ (data_tokens d ++ ts)) (parts_written ps)

before_written : (ps : List Part) (more : Members) → tokens_of (written_before ps more) ≡ parts_tokens ps ++ tokens_of more
before_written [] more = refl
before_written (part k None ∷ ps) more = before_written ps more
before_written (part k (Some d) ∷ ps) more =
    ap (λ (ts : List Token). key k ∷ (data_tokens d ++ ts)) (before_written ps more)
    ∙ sym (append_assoc (key k ∷ data_tokens d) (parts_tokens ps) (tokens_of more))

items_closed : {T : Type 0} (f : T → Data) (xs : List T) → items_tokens (items_outline (items_of f xs)) ≡ each_tokens f xs ++ end_array ∷ []
items_closed {T} f [] = refl
items_closed {T} f (x ∷ xs) =
    ap (λ (ts : List Token). data_tokens (f x) ++ ts) (items_closed f xs) ∙ sym (append_assoc (data_tokens (f x)) (each_tokens f xs) (end_array ∷ []))

-- parts, and then members
pub adds_before : {E : Type 0} (r : Result (Unit {0}) E) (old mid new : Written) (ps : List Part) (more : Members)
    → Added old mid (parts_tokens ps) → AddsTokens r mid new (tokens_of more) → AddsTokens r old new (tokens_of (written_before ps more))
adds_before {E} r old mid new ps more a b = rw (before_written ps more) (adds_then r old mid new (parts_tokens ps) (tokens_of more) a b)

-- an object is its members between brackets
pub object_added : {E : Type 0} (r : Result (Unit {0}) E) (old begun filled new : Written) (ps : List Part)
    → Added old begun (begin_object ∷ []) → Added begun filled (parts_tokens ps) → AddsTokens r filled new (end_object ∷ []) → AddsTokens r old new (data_tokens (object_of ps))
object_added {E} r old begun filled new ps a b c =
    rw (members_closed (written_parts ps), parts_written ps) (adds_then r old filled new (begin_object ∷ parts_tokens ps) (end_object ∷ []) (and_then old begun filled (begin_object ∷ []) (parts_tokens ps) a b) c)

-- a list is its items between brackets, after its key
pub list_added : {E : Type 0} {T : Type 0} (r : Result (Unit {0}) E) (old begun filled new : Written) (k : List ℕ) (f : T → Data) (xs : List T)
    → Added old begun (key k ∷ begin_array ∷ []) → Added begun filled (each_tokens f xs) → AddsTokens r filled new (end_array ∷ [])
    → AddsTokens r old new (part_tokens (list_part k (items_of f xs)))
list_added {E} {T} r old begun filled new k f xs opened items closed =
    rw (items_closed f xs) (adds_then r old filled new (key k ∷ begin_array ∷ each_tokens f xs) (end_array ∷ [])
    (and_then old begun filled (key k ∷ begin_array ∷ []) (each_tokens f xs) opened items) closed)

-- members that were written where an object begins, and then closed, are its text
pub printed_members : (begun filled : Written) (ms : Members) → Begun begun → Added begun filled (tokens_of ms) → print (filled.tokens ++ end_object ∷ []) ≡ compact_text (object ms)
printed_members begun filled ms b a =
    ap (λ (ts : List Token). print (ts ++ end_object ∷ [])) (a.1 ∙ ap (λ (ts : List Token). ts ++ tokens_of ms) b.1)
    ∙ ap (λ (ts : List Token). print (begin_object ∷ ts)) (sym (members_closed ms)) ∙ print-outline (object ms)

pub printed_object : (begun filled : Written) (ps : List Part) → Begun begun → Added begun filled (parts_tokens ps) → print (filled.tokens ++ end_object ∷ []) ≡ compact_text (object_of ps)
printed_object begun filled ps b a = printed_members begun filled (written_parts ps) b (a.0, a.1 ∙ ap (λ (ts : List Token). begun.tokens ++ ts) (sym (parts_written ps)))
