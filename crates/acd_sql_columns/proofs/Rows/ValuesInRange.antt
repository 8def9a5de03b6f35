-- A value that is read in its range is the one that is kept.
use Rattle.std.proofs.Common.{◌≡◌, ℕ, zero, suc, pos, negsuc, ◌==◌, nat_lt, length, List, [], ◌∷◌, Bool, true, false, not, cond, Option, Some, None, Result, Err, refl, sym, ap, subst, ◌∙◌}
use Rattle.std.specs.Prelude.{option_map, position}
use Rattle.std.specs.Str.{is_utf8, IsUtf8}
use Rattle.std.specs.Result.{result_ok}
use Rattle.std.proofs.lemmas.Str.{is_utf8-from_IsUtf8, IsUtf8-from_is_utf8}
use Rattle.std.proofs.lemmas.Bool.{false_from_ne_true}
use Rattle.sqlite_value.specs.declared.value.Value.{Value}
use Rattle.sqlite_value.specs.declared.value.Value.TheVariants.{Null, Int, Real, Text, Blob}
use Rattle.sqlite_value.specs.Order.{Row, column}
use Rattle.sqlite.specs.Values.{or_null}
use Rattle.acd_terms.specs.Forms.{id_with, is_number_of, number_between, read_text, text_or_fault, is_name_byte}
use Rattle.acd_terms.specs.declared.name.NameFault.TheVariants.{Empty, TooLong}
use Rattle.acd_terms.specs.declared.state.AgentState.{AgentState}
use Rattle.acd_terms.specs.declared.state.Pending.{Pending}
use Rattle.acd_terms.specs.declared.state.ConnectionState.{ConnectionState}
use Rattle.acd_terms.specs.declared.event.EventKind.{EventKind}
use Rattle.acd_terms.specs.declared.event.Cause.{Cause}
use Rattle.acd_lemmas.proofs.Lists.{find_passes, some_is}
use Rattle.acd_sql_columns.specs.Codes.{with_code, agent_states, pending_states, connection_states, causes, kinds, agent_state_of, pending_of, connection_state_of, event_kind_of, cause_of, agent_code, pending_code, connection_code, kind_code, cause_code}
use Rattle.acd_sql_columns.specs.Values.{id_value, cells, option_in, ◌>>=◌, text_value, is_null_value, text_at, whole_at, at_least, stamp_at, serial_at, moment_at, seconds_at, priority_at, device_at, agent_value_at, name_at, agent_state_at, pending_at, connection_state_at, kind_at, cause_at, utf8_of, or_none}
use Rattle.acd_lemmas.proofs.Numbers.{same_number}

-- ---- UTF-8

pub utf8_is : (bytes t : List ℕ) → t ≡ bytes → IsUtf8 bytes → Some t ≡ utf8_of bytes
utf8_is bytes t e h = rw (is_utf8-from_IsUtf8 bytes h) (ap Some e)

pub utf8_isnt : (bytes : List ℕ) → ¬ IsUtf8 bytes → None ≡ utf8_of bytes
utf8_isnt bytes h = rw (false_from_ne_true (is_utf8 bytes) (λ e. h (IsUtf8-from_is_utf8 bytes e))) refl

-- ---- one after the other

pub bound : {A B : Type 0} (o : Option A) (f : A → Option B) (y : B) → (o >>= f) ≡ Some y → (x : A) × (o ≡ Some x) × (f x ≡ Some y)
bound None f y h = absurd (cc h)
bound (Some x) f y h = (x, refl, h)

pub guarded : {B : Type 0} (b : Bool) (o : Option B) (y : B) → cond b o None ≡ Some y → (b ≡ true) × (o ≡ Some y)
guarded false o y h = absurd (cc h)
guarded true o y h = (refl, h)

-- ---- values

whole_is : (v : Value) (n : ℕ) → option_in v ≡ Some n → v ≡ id_value n
whole_is Null n e = absurd (cc e)
whole_is (Int (pos m)) n e = ap id_value (some_is m n e)
whole_is (Int (negsuc m)) n e = absurd (cc e)
whole_is (Real x) n e = absurd (cc e)
whole_is (Text t) n e = absurd (cc e)
whole_is (Blob b) n e = absurd (cc e)

text_is : (v : Value) (t : List ℕ) → text_value v ≡ Some t → v ≡ Text t
text_is Null t e = absurd (cc e)
text_is (Int n) t e = absurd (cc e)
text_is (Real x) t e = absurd (cc e)
text_is (Text s) t e = ap Text (some_is s t e)
text_is (Blob b) t e = absurd (cc e)

pub null_is : (v : Value) → is_null_value v ≡ true → v ≡ Null
null_is Null e = refl
null_is (Int n) e = absurd (cc e)
null_is (Real x) e = absurd (cc e)
null_is (Text t) e = absurd (cc e)
null_is (Blob b) e = absurd (cc e)

-- a number that a test lets pass
passed : (f : ℕ → Option ℕ) → ((m n : ℕ) → f m ≡ Some n → m ≡ n) → (v : Value) (n : ℕ) → (option_in v >>= f) ≡ Some n → v ≡ id_value n
passed f same v n h = let b = bound (option_in v) f n h in whole_is v b.0 b.1 ∙ ap id_value (same b.0 n b.2)

module _ (r : Row) (at : ℕ) where
  pub whole_stored : (n : ℕ) → whole_at r at ≡ Some n → column r at ≡ id_value n
  whole_stored n h = whole_is (column r at) n h

  pub stamp_stored : (n : ℕ) → stamp_at r at ≡ Some n → column r at ≡ id_value n
  unfolding stamp_at
  stamp_stored n h = passed (at_least 1) (λ m k e. some_is m k (guarded _ (Some m) k e).1) (column r at) n h

  pub serial_stored : (n : ℕ) → serial_at r at ≡ Some n → column r at ≡ id_value n
  unfolding serial_at number_between
  serial_stored n h = passed (number_between 1 1000000000) (λ m k e. some_is m k (guarded _ (Some m) k e).1) (column r at) n h

  pub moment_stored : (n : ℕ) → moment_at r at ≡ Some n → column r at ≡ id_value n
  unfolding moment_at number_between
  moment_stored n h = passed (number_between 0 4294967295) (λ m k e. some_is m k (guarded _ (Some m) k e).1) (column r at) n h

  pub seconds_stored : (n : ℕ) → seconds_at r at ≡ Some n → column r at ≡ id_value n
  unfolding seconds_at number_between
  seconds_stored n h = passed (number_between 0 3600) (λ m k e. some_is m k (guarded _ (Some m) k e).1) (column r at) n h

  pub priority_stored : (n : ℕ) → priority_at r at ≡ Some n → column r at ≡ id_value n
  unfolding priority_at number_between
  priority_stored n h = passed (number_between 1 9) (λ m k e. some_is m k (guarded _ (Some m) k e).1) (column r at) n h

  pub device_stored : (n : ℕ) → device_at r at ≡ Some n → column r at ≡ id_value n
  unfolding device_at id_with
  device_stored n h = passed (id_with 15) (λ m k e. some_is m k (guarded (is_number_of 15 m) (Some m) k e).1) (column r at) n h

  pub agent_id_stored : (n : ℕ) → agent_value_at r at ≡ Some n → column r at ≡ id_value n
  unfolding agent_value_at id_with
  agent_id_stored n h = passed (id_with 9) (λ m k e. some_is m k (guarded (is_number_of 9 m) (Some m) k e).1) (column r at) n h

  -- NULL, or the value of what was read
  pub or_none_stored : {A : Type 0} (read : Row → ℕ → Option A) (value : A → Value) → ((x : A) → read r at ≡ Some x → column r at ≡ value x)
      → (o : Option A) → or_none read r at ≡ Some o → column r at ≡ or_null value o
  or_none_stored {A = A} read value stored o h =
      (elim (is_null_value (column r at)) as (λ b. is_null_value (column r at) ≡ b → cond b (Some None) (option_map Some (read r at)) ≡ Some o
      → column r at ≡ or_null value o) [
        | true ↦ λ e k. subst (λ x. column r at ≡ or_null value x) (some_is None o k) (null_is (column r at) e)
        | false ↦ λ e k. go (read r at) refl k
      ]) refl h
    where
      go : (found : Option A) → read r at ≡ found → option_map Some found ≡ Some o → column r at ≡ or_null value o
      go None e k = absurd (cc k)
      go (Some x) e k = subst (λ z. column r at ≡ or_null value z) (some_is (Some x) o k) (stored x e)

-- ---- texts

passes_on : {E : Type 0} (b : Bool) (e : E) (x : Result (List ℕ) E) (name : List ℕ) → result_ok (cond b (Err e) x) ≡ Some name → result_ok x ≡ Some name
passes_on true e x name h = absurd (cc h)
passes_on false e x name h = h

found_none : (o : Option ℕ) (t name : List ℕ) → result_ok (text_or_fault o t) ≡ Some name → t ≡ name
found_none None t name h = some_is t name h
found_none (Some place) t name h = absurd (cc h)

name_same : (passes : ℕ → Bool) (longest : ℕ) (t name : List ℕ) → result_ok (read_text passes longest t) ≡ Some name → t ≡ name
unfolding read_text
name_same passes longest t name h =
    let found = text_or_fault (position (λ b. not (passes b)) t) t in
    found_none (position (λ b. not (passes b)) t) t name
    (passes_on (nat_lt longest (length t)) TooLong found name (passes_on (length t == 0) Empty (cond (nat_lt longest (length t)) (Err TooLong) found) name h))

pub name_stored : (r : Row) (at : ℕ) (name : List ℕ) → name_at r at ≡ Some name → column r at ≡ Text name
unfolding name_at
name_stored r at name h =
    let b = bound (text_at r at) (λ t. result_ok (read_text is_name_byte 40 t)) name h in
    text_is (column r at) b.0 b.1 ∙ ap Text (name_same is_name_byte 40 b.0 name b.2)

pub text_stored : (r : Row) (at : ℕ) (t : List ℕ) → text_at r at ≡ Some t → column r at ≡ Text t
text_stored r at t h = text_is (column r at) t h

-- ---- codes

coded : {A : Type 0} (code : A → ℕ) (all : List A) (n : ℕ) (x : A) → with_code code all n ≡ Some x → n ≡ code x
coded code all n x h = same_number (code x) n (find_passes (λ a. code a == n) all x h)

-- the value is that of the code
is_of_code : {A : Type 0} (code : A → ℕ) (all : List A) (v : Value) (x : A) → (option_in v >>= with_code code all) ≡ Some x → v ≡ id_value (code x)
is_of_code code all v x h = let b = bound (option_in v) (with_code code all) x h in whole_is v b.0 b.1 ∙ ap id_value (coded code all b.0 x b.2)

module _ (r : Row) (at : ℕ) where
  pub agent_state_stored : (s : AgentState) → agent_state_at r at ≡ Some s → column r at ≡ id_value (agent_code s)
  unfolding agent_state_at agent_state_of
  agent_state_stored s h = is_of_code agent_code agent_states (column r at) s h

  pub pending_stored : (p : Pending) → pending_at r at ≡ Some p → column r at ≡ id_value (pending_code p)
  unfolding pending_at pending_of
  pending_stored p h = is_of_code pending_code pending_states (column r at) p h

  pub connection_state_stored : (s : ConnectionState) → connection_state_at r at ≡ Some s → column r at ≡ id_value (connection_code s)
  unfolding connection_state_at connection_state_of
  connection_state_stored s h = is_of_code connection_code connection_states (column r at) s h

  pub kind_stored : (k : EventKind) → kind_at r at ≡ Some k → column r at ≡ id_value (kind_code k)
  unfolding kind_at event_kind_of
  kind_stored k h = is_of_code kind_code kinds (column r at) k h

  pub cause_stored : (w : Cause) → cause_at r at ≡ Some w → column r at ≡ id_value (cause_code w)
  unfolding cause_at cause_of
  cause_stored w h = is_of_code cause_code causes (column r at) w h

-- ---- rows of a known width

shifted : (start k : ℕ) (v : Value) (r : Row) → cells (suc start) k (v ∷ r) ≡ cells start k r
shifted start zero v r = refl
shifted start (suc k) v r = ap (λ l. column r start ∷ l) (shifted (suc start) k v r)

all_cells : (r : Row) → cells 0 (length r) r ≡ r
all_cells [] = refl
all_cells (v ∷ r) = ap (λ l. v ∷ l) (shifted 0 (length r) v r ∙ all_cells r)

pub row_is : (n : ℕ) (r : Row) → (length r == n) ≡ true → r ≡ cells 0 n r
row_is n r h = subst (λ k. r ≡ cells 0 k r) (sym (same_number (length r) n h)) (sym (all_cells r))

pub beside : (u v : Value) (r s : Row) → u ≡ v → r ≡ s → u ∷ r ≡ v ∷ s
beside u v r s e f = ap (λ x. x ∷ r) e ∙ ap (λ l. v ∷ l) f
