-- A look-up in JSON as it was read, and in the data that it is.
use Rattle.std.proofs.Common.{◌&&◌, ◌==◌, ◌<◌, ◌+◌, ◌^◌, ◌∷◌, length, drop, slice_index, slice_index_or, nat_lt, nat_le, Bor, ◌≡◌, ℕ, List, Bool, true, false, cond, Option, Some, None, option_map, option_and_then, is_some, refl, sym, ap, subst, ◌∙◌, true≢false}
use Rattle.std.specs.Str.{bytes_eq}
use Rattle.std.proofs.lemmas.Slice.Eq.{bytes_eq-Decides}
use Rattle.std.proofs.lemmas.Bool.{and_parts}
use Rattle.std.proofs.lemmas.List.{at_drop_more}
use Rattle.std.specs.Float.{binary64, float_is_finite}
use Rattle.fast_float.specs.Text.{minus, Parts, scan, digits_of, nearest}
use Rattle.json.specs.declared.value.Value.{Value}
use Rattle.json.specs.Value.{value_view, items_view, members_view}
use Rattle.json.specs.Json as json
use Rattle.json.specs.Find as found
use Rattle.serde_json.specs.Data.{Num, Data, item, Members, no_members, number, array, object, put}
use Rattle.serde_json.specs.Find.{get, get_member, as_u64}
use Rattle.serde_json.specs.Read.{of_json, of_items, of_members, number_of, number_from, is_integer}
use Rattle.serde_json.proofs.Views.{get_member-put, get_member-put_other}

-- the data of a member that was found, or else what was there before
abbrev pub later : Option json.Json → Option Data → Option Data
later None before = before
later (Some j) before = of_json j

-- a member that is put is found by its name, and the others as before
found_put : (k l : List ℕ) (j : json.Json) (d : Data) (before : Members) (b : Bool) → bytes_eq l k ≡ b → of_json j ≡ Some d → get_member k (put l d before) ≡ later (cond b (Some j) None) (get_member k before)
found_put k l j d before true e h = subst (λ n. get_member n (put l d before) ≡ Some d) ((bytes_eq-Decides l k).0 e) (get_member-put l d before) ∙ sym h
found_put k l j d before false e h = get_member-put_other k l d before (λ same. true≢false (sym ((bytes_eq-Decides l k).1 (sym same)) ∙ e))

this_or_later : (o : Option json.Json) (k l : List ℕ) (j : json.Json) (d : Data) (before : Members) → of_json j ≡ Some d
    → later o (get_member k (put l d before)) ≡ later (found.later_or o (cond (bytes_eq l k) (Some j) None)) (get_member k before)
this_or_later None k l j d before h = found_put k l j d before (bytes_eq l k) refl h
this_or_later (Some x) k l j d before h = refl

-- the last member of a name is the one that stays
member_kept : (k : List ℕ) (ms : json.Members) (before after : Members) → of_members ms before ≡ Some after → get_member k after ≡ later (found.get_member k ms) (get_member k before)
member_kept k json.no_members before after e = subst (λ o. option_and_then (get_member k) o ≡ get_member k before) e refl
member_kept k (json.member l j ms) before after e =
    (elim (of_json j) as (λ o. of_json j ≡ o → option_and_then (λ d. of_members ms (put l d before)) o ≡ Some after → get_member k after ≡ later (found.get_member k (json.member l j ms)) (get_member k before)) [
      | None ↦ λ q h. absurd (cc (h))
      | Some d ↦ λ q h. member_kept k ms (put l d before) after h ∙ this_or_later (found.get_member k ms) k l j d before q
    ]) refl e

as_later : (o : Option json.Json) → later o None ≡ option_and_then of_json o
as_later None = refl
as_later (Some j) = refl

no_member : {A : Type 0} (o : Option A) (make : A → Data) (k : List ℕ) (d : Data) → ((a : A) → get k (make a) ≡ None) → option_map make o ≡ Some d → get k d ≡ None
no_member None make k d h e = absurd (cc (e))
no_member (Some a) make k d h e = subst (λ o. option_and_then (get k) o ≡ None) e (h a)

within : (k : List ℕ) (o : Option Members) (d : Data) (r : Option Data) → ((ms : Members) → o ≡ Some ms → get_member k ms ≡ r) → option_map object o ≡ Some d → get k d ≡ r
within k None d r h e = absurd (cc (e))
within k (Some ms) d r h e = subst (λ o. option_and_then (get k) o ≡ r) e (h ms refl)

-- a look-up in the data finds the data of what the look-up in the text finds
pub get_of : (k : List ℕ) (j : json.Json) (d : Data) → of_json j ≡ Some d → get k d ≡ option_and_then of_json (found.get k j)
get_of k json.null d e = subst (λ o. option_and_then (get k) o ≡ None) e refl
get_of k (json.boolean b) d e = subst (λ o. option_and_then (get k) o ≡ None) e refl
get_of k (json.number s) d e = no_member (number_of s) number k d (λ a. refl) e
get_of k (json.string s) d e = subst (λ o. option_and_then (get k) o ≡ None) e refl
get_of k (json.array js) d e = no_member (of_items js) array k d (λ a. refl) e
get_of k (json.object ms) d e = within k (of_members ms no_members) d _ (λ after h. member_kept k ms no_members after h ∙ as_later (found.get_member k ms)) e

-- numbers in range

some_then : {A B : Type 0} (o : Option A) (f : A → Option B) (b : Bool) → ((a : A) → is_some (f a) ≡ b) → is_some (option_and_then f o) ≡ (is_some o && b)
some_then None f b h = refl
some_then (Some a) f b h = h a

-- reading what was mapped is to map and read
pub mapped_then : {A B C : Type 0} (o : Option A) (f : A → B) (g : B → Option C) → option_and_then g (option_map f o) ≡ option_and_then (λ a. g (f a)) o
mapped_then None f g = refl
mapped_then (Some a) f g = refl

mapped : {A B : Type 0} (o : Option A) (f : A → B) → is_some (option_map f o) ≡ is_some o
mapped None f = refl
mapped (Some a) f = refl

-- the numbers of all items are in range
abbrev pub items_fit : {A : Type 0} → List (Value A) → Bool
items_fit vs = is_some (of_items (items_view vs))

pub items_fit_more : {A : Type 0} (v : Value A) (vs : List (Value A)) → items_fit (v ∷ vs) ≡ (is_some (of_json (value_view v)) && items_fit vs)
items_fit_more v vs = some_then (of_json (value_view v)) (λ d. option_map (item d) (of_items (items_view vs))) (items_fit vs) (λ d. mapped (of_items (items_view vs)) (item d))

-- the numbers of all members are in range
abbrev fit : json.Members → Bool
fit json.no_members = true
fit (json.member k j ms) = is_some (of_json j) && fit ms

abbrev pub members_fit : {A : Type 0} → List (Bor (List ℕ) × Value A) → Bool
members_fit ms = fit (members_view ms)

pub members_fit_more : {A : Type 0} (m : Bor (List ℕ) × Value A) (ms : List (Bor (List ℕ) × Value A)) → members_fit (m ∷ ms) ≡ (is_some (of_json (value_view m.1)) && members_fit ms)
members_fit_more m ms = refl

fits : (ms : json.Members) (before : Members) → is_some (of_members ms before) ≡ fit ms
fits json.no_members before = refl
fits (json.member k j ms) before = some_then (of_json j) (λ d. of_members ms (put k d before)) (fit ms) (λ d. fits ms (put k d before))

pub members_fit_is : {A : Type 0} (ms : List (Bor (List ℕ) × Value A)) (before : Members) → is_some (of_members (members_view ms) before) ≡ members_fit ms
members_fit_is ms before = fits (members_view ms) before

-- a test of what is left of a list, where the first left is x
pub left_at : {X : Type 0} (F : List X → Bool) (p : X → Bool) → ((x : X) (xs : List X) → F (x ∷ xs) ≡ (p x && F xs))
    → (xs : List X) (i : ℕ) (x : X) → x ≡ slice_index_or xs i x → i < length xs → F (drop i xs) ≡ (p x && F (drop (i + 1) xs))
left_at F p step xs i x is l = at_drop_more F xs i x l ∙ ap (λ y. F (y ∷ drop (i + 1) xs)) (sym is) ∙ step x (drop (i + 1) xs)

-- numbers below zero aren't whole numbers here

pub positive_is : (s : List ℕ) → (slice_index s 0 == minus) ≡ false → number_of s ≡ number_from false (scan s)
unfolding number_of
positive_is s e = rw e refl

pub negative_is : (s : List ℕ) → (slice_index s 0 == minus) ≡ true → number_of s ≡ number_from true (scan (drop 1 s))
unfolding number_of
negative_is s e = rw e refl

if_none : (b : Bool) (n : Num) (o : Option Num) → as_u64 n ≡ None → option_and_then as_u64 o ≡ None → option_and_then as_u64 (cond b (Some n) o) ≡ None
if_none true n o h k = h
if_none false n o h k = k

pub below_zero : (p : Parts) → option_and_then as_u64 (number_from true p) ≡ None
below_zero p = if_none (is_integer p && nat_lt 0 (digits_of p) && nat_le (digits_of p) (2 ^ 63)) _ _ refl (if_none (float_is_finite (nearest binary64 true p)) _ None refl refl)

-- a member that was found in JSON whose numbers are in range is in range itself

later_fits : (o : Option json.Json) (b : Bool) (j : json.Json) → is_some (of_json j) ≡ true → is_some (option_and_then of_json o) ≡ is_some o
    → is_some (option_and_then of_json (found.later_or o (cond b (Some j) None))) ≡ is_some (found.later_or o (cond b (Some j) None))
later_fits (Some x) b j h k = k
later_fits None true j h k = h
later_fits None false j h k = refl

member_fits : (k : List ℕ) (ms : json.Members) → fit ms ≡ true → is_some (option_and_then of_json (found.get_member k ms)) ≡ is_some (found.get_member k ms)
member_fits k json.no_members h = refl
member_fits k (json.member l j ms) h =
    let both = and_parts (is_some (of_json j)) (fit ms) h in
    later_fits (found.get_member k ms) (bytes_eq l k) j both.0 (member_fits k ms both.1)

found_fits : (k : List ℕ) (j : json.Json) (d : Data) → of_json j ≡ Some d → is_some (option_and_then of_json (found.get k j)) ≡ is_some (found.get k j)
found_fits k json.null d e = refl
found_fits k (json.boolean b) d e = refl
found_fits k (json.number s) d e = refl
found_fits k (json.string s) d e = refl
found_fits k (json.array js) d e = refl
found_fits k (json.object ms) d e = member_fits k ms (sym (fits ms no_members) ∙ sym (mapped (of_members ms no_members) object) ∙ ap is_some e)

-- there is a member in the data where one was found in the text
pub found_there : {A : Type 0} (k : List ℕ) (j : json.Json) (d : Data) (o : Option (Bor (Value A))) → of_json j ≡ Some d
    → option_map (λ v. value_view v.now) o ≡ found.get k j → is_some o ≡ is_some (get k d)
found_there {A} k j d o h e =
    sym (mapped o (λ (v : Bor (Value A)). value_view v.now)) ∙ ap is_some e ∙ sym (ap is_some (get_of k j d h) ∙ found_fits k j d h)
