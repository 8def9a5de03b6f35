-- A record whose values are in their ranges has a row that is read as the record.
use Rattle.std.proofs.Common.{◌≡◌, ℕ, suc, ◌+◌, ◌<◌, ◌^◌, ◌==◌, length, decimal, cond, true, false, List, [], ◌∷◌, Option, Some, None, refl, sym, ap, ◌∙◌, arith, eq-eqb, le-leb, lt-ltb}
use Rattle.std.specs.Prelude.{⊤, option_map, IfSome}
use Rattle.std.specs.Result.{result_ok}
use Rattle.sqlite_value.specs.Order.{Row, column}
use Rattle.acd_terms.specs.Forms.{id_with, number_between, read_text, is_name_byte, IsNumberOf, IsBetween, IsName}
use Rattle.acd_terms.proofs.ReadBack.{number_again, text_again}
use Rattle.acd_codec.specs.RequestForms.{IsAgent, IsDevice, IsSeconds, IsSerial}
use Rattle.acd_lemmas.proofs.Lists.{head_is, tail_is}
use Rattle.acd_sql_columns.specs.Codes.{agent_code, pending_code, kind_code, cause_code, connection_code, agent_state_of, pending_of, event_kind_of, cause_of, connection_state_of}
use Rattle.acd_sql_columns.specs.Fields.{Field, Makes, Remade, written_row, read_from, read_whole}
use Rattle.acd_sql_columns.specs.InRange.{IsStamp}
use Rattle.acd_sql_columns.specs.Sorts.{Sort, whole, stamp, serial, moment, seconds, priority, device, agent, name, agent_state, pending, kind, cause, connection_state, Column, sure, maybe, Of, Means, value_of, value, read_of, read_at}
use Rattle.acd_sql_columns.specs.Values.{◌>>=◌, id_value, cells, option_in, text_value, is_null_value, whole_at, at_least, stamp_at, serial_at, moment_at, seconds_at, priority_at, device_at, agent_value_at, name_at, agent_state_at, pending_at, kind_at, cause_at, connection_state_at}
use Rattle.acd_sql_columns.proofs.Rows.CodeLaws.{agent_state_back, pending_back, kind_back, cause_back, connection_state_back}
use Rattle.acd_sql_columns.proofs.Rows.ValuesInRange.{row_is}

-- ---- a value in its range

-- by the sort of its column
abbrev pub InSort : (s : Sort) → Of s → Type 0
InSort whole n = ⊤
InSort stamp n = IsStamp n
InSort serial n = IsSerial n
InSort moment n = n < 2 ^ 32
InSort seconds n = IsSeconds n
InSort priority n = IsBetween 1 9 n
InSort device n = IsDevice n
InSort agent n = IsAgent n
InSort name t = IsName t
InSort agent_state s = ⊤
InSort pending p = ⊤
InSort kind k = ⊤
InSort cause w = ⊤
InSort connection_state s = ⊤

abbrev pub InColumn : (c : Column) → Means c → Type 0
InColumn (sure s) x = InSort s x
InColumn (maybe s) o = IfSome o (InSort s)

-- each field of the record
abbrev pub AllIn : {R : Type 0} → List (Field R) → R → Type 0
AllIn [] r = ⊤
AllIn (f ∷ fs) r = InColumn f.column (f.get r) × AllIn fs r

-- where each value of the sort is in range
pub any_in : {A : Type 0} (P : A → Type 0) → ((x : A) → P x) → (o : Option A) → IfSome o P
any_in P all None = tt
any_in P all (Some x) = all x

-- ---- it is read as it was written

passed : {A : Type 0} (f : ℕ → Option A) (r : Row) (at n : ℕ) (x : A) → f n ≡ Some x → column r at ≡ id_value n → (whole_at r at >>= f) ≡ Some x
passed f r at n x passes is = ap (λ v. option_in v >>= f) is ∙ passes

stamp_again : (n : ℕ) → IsStamp n → at_least 1 n ≡ Some n
stamp_again n h = ap (λ b. cond b (Some n) None) (le-leb 1 n h)

id_again : (longest n : ℕ) → IsNumberOf longest n → id_with longest n ≡ Some n
unfolding id_with
id_again longest n h = rw (lt-ltb 1 (length (decimal n)) h.some, le-leb (length (decimal n)) (longest + 1) h.short, h.one) refl

moment_between : (n : ℕ) → n < 2 ^ 32 → IsBetween 0 4294967295 n
moment_between n h = (omega arith, omega (arith, h))

sort_again : (s : Sort) (x : Of s) → InSort s x → (r : Row) (at : ℕ) → column r at ≡ value_of s x → read_of s r at ≡ Some x
unfolding stamp_at serial_at moment_at seconds_at priority_at device_at agent_value_at name_at agent_state_at pending_at kind_at cause_at connection_state_at
sort_again whole n h r at is = ap option_in is
sort_again stamp n h r at is = passed (at_least 1) r at n n (stamp_again n h) is
sort_again serial n h r at is = passed (number_between 1 1000000000) r at n n (number_again 1 1000000000 n h) is
sort_again moment n h r at is = passed (number_between 0 4294967295) r at n n (number_again 0 4294967295 n (moment_between n h)) is
sort_again seconds n h r at is = passed (number_between 0 3600) r at n n (number_again 0 3600 n h) is
sort_again priority n h r at is = passed (number_between 1 9) r at n n (number_again 1 9 n h) is
sort_again device n h r at is = passed (id_with 15) r at n n (id_again 15 n h) is
sort_again agent n h r at is = passed (id_with 9) r at n n (id_again 9 n h) is
sort_again name t h r at is = ap (λ v. text_value v >>= (λ u. result_ok (read_text is_name_byte 40 u))) is ∙ ap result_ok (text_again is_name_byte 40 t h)
sort_again agent_state s h r at is = passed agent_state_of r at (agent_code s) s (agent_state_back s) is
sort_again pending p h r at is = passed pending_of r at (pending_code p) p (pending_back p) is
sort_again kind k h r at is = passed event_kind_of r at (kind_code k) k (kind_back k) is
sort_again cause w h r at is = passed cause_of r at (cause_code w) w (cause_back w) is
sort_again connection_state s h r at is = passed connection_state_of r at (connection_code s) s (connection_state_back s) is

no_null : (s : Sort) (x : Of s) → is_null_value (value_of s x) ≡ false
no_null whole x = refl
no_null stamp x = refl
no_null serial x = refl
no_null moment x = refl
no_null seconds x = refl
no_null priority x = refl
no_null device x = refl
no_null agent x = refl
no_null name x = refl
no_null agent_state x = refl
no_null pending x = refl
no_null kind x = refl
no_null cause x = refl
no_null connection_state x = refl

column_again : (c : Column) (x : Means c) → InColumn c x → (r : Row) (at : ℕ) → column r at ≡ value c x → read_at c r at ≡ Some x
column_again (sure s) x h r at is = sort_again s x h r at is
column_again (maybe s) None h r at is = ap (λ v. cond (is_null_value v) (Some None) (option_map Some (read_of s r at))) is
column_again (maybe s) (Some x) h r at is =
    ap (λ b. cond b (Some None) (option_map Some (read_of s r at))) (ap is_null_value is ∙ no_null s x) ∙ ap (option_map Some) (sort_again s x h r at is)

module _ {R : Type 0} where
  wide : (fs : List (Field R)) (x : R) → length (written_row fs x) ≡ length fs
  wide [] x = refl
  wide (f ∷ fs) x = ap suc (wide fs x)

  cells_again : (fs : List (Field R)) (make : Makes R fs) (row : Row) (at : ℕ) (x : R) → AllIn fs x → cells at (length fs) row ≡ written_row fs x → Remade fs make x
      → read_from fs make row at ≡ Some x
  cells_again [] make row at x all are same = ap Some same
  cells_again (f ∷ fs) make row at x all are same =
      ap (λ o. o >>= (λ v. read_from fs (make v) row (suc at))) (column_again f.column (f.get x) all.0 row at (head_is _ _ _ _ are))
      ∙ cells_again fs (make (f.get x)) row (suc at) x all.1 (tail_is _ _ _ _ are) same

  pub read_again : (fs : List (Field R)) (make : Makes R fs) (x : R) → Remade fs make x → AllIn fs x → read_whole fs make (written_row fs x) ≡ Some x
  read_again fs make x same all =
      let width : (length (written_row fs x) == length fs) ≡ true = eq-eqb (length (written_row fs x)) (length fs) (wide fs x) in
      ap (λ b. cond b (read_from fs make (written_row fs x) 0) None) width
      ∙ cells_again fs make (written_row fs x) 0 x all (sym (row_is (length fs) (written_row fs x) width)) same
