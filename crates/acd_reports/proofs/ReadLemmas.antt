-- A reader's way through the records of a text.
use Rattle.std.proofs.Common.{◌≡◌, ℕ, zero, suc, ◌+◌, ◌<◌, ◌≤◌, Bool, true, false, List, [], ◌∷◌, length, add-one, Option, Some, None, refl, rules, subst, ◌==◌, ◌||◌, ◌∙◌, ap, arith, if◌then◌else◌}
use Rattle.csv.specs.Machine.{Read, next_record, start_field, start_record, step, is_end, ends_at_end}
use Rattle.csv.specs.Reading.{NextIs, ReadRecord, ReadsNext, ReadsOn, default_config, is_bom, pending_of, records_from, records_next, source_of, strip_bom}
use Rattle.std.specs.Prelude.{unwrap_or}
use Rattle.std.specs.Option.{IsSome}
use Rattle.acd_reports.specs.PlanReaders.{IsPlanReader, PlanReader, ReadsPlan, known, rows_left, unread}
use Rattle.csv.specs.declared.parser.State.{State}
use Rattle.csv.specs.declared.parser.State.TheVariants as st
use Rattle.csv.specs.declared.parser.Action.{Action}
use Rattle.csv.specs.declared.parser.Action.TheVariants as act

-- no record is begun
abbrev IsBetween : State × Action → Type 0
IsBetween p = is_end p.1 ≡ true → ends_at_end p.0 ≡ false

in_field_ends : (a b d : Bool) → IsBetween (if a then (st.StartField, act.EndField) else if b then ((if d then st.AfterCr else st.StartRecord), act.EndRecord) else (st.InField, act.Copy))
in_field_ends true b d = λ e. absurd cc
in_field_ends false true true = λ e. refl
in_field_ends false true false = λ e. refl
in_field_ends false false d = λ e. absurd cc

if_ends : (b : Bool) (p q : State × Action) → IsBetween p → IsBetween q → IsBetween (if b then p else q)
if_ends true p q hp hq = hp
if_ends false p q hp hq = hq

start_field_ends : (c : ℕ) → IsBetween (start_field default_config c)
start_field_ends c = if_ends (c == 34) _ _ (λ e. absurd cc) (in_field_ends (c == 44) ((c == 13) || (c == 10)) (c == 13))

start_record_ends : (c : ℕ) → IsBetween (start_record default_config c)
start_record_ends c = if_ends ((c == 13) || (c == 10)) _ _ (λ e. absurd cc) (start_field_ends c)

-- a record that ends in a step leaves none begun
step_ends : (s : State) (c : ℕ) → IsBetween (step default_config s c)
step_ends st.StartRecord c = start_record_ends c
step_ends st.StartField c = start_field_ends c
step_ends st.InField c = in_field_ends (c == 44) ((c == 13) || (c == 10)) (c == 13)
step_ends st.InQuoted c = if_ends (c == 34) _ _ (λ e. absurd cc) (λ e. absurd cc)
step_ends st.InEscape c = λ e. absurd cc
step_ends st.AfterQuote c = if_ends (c == 34) _ _ (λ e. absurd cc) (in_field_ends (c == 44) ((c == 13) || (c == 10)) (c == 13))
step_ends st.InComment c = if_ends (c == 10) _ _ (λ e. absurd cc) (λ e. absurd cc)
step_ends st.AfterCr c = if_ends (c == 10) _ _ (λ e. absurd cc) (start_record_ends c)

-- the rest after a record has at most so many bytes, and begins with no record
abbrev Leaves : ℕ → Read → Type 0
Leaves n p = (length p.2 ≤ n) × (ends_at_end p.1 ≡ false)

at_nothing : (b : Bool) (fields : List (List ℕ)) (p : Read) → (if b then Some (fields, st.StartRecord, []) else None) ≡ Some p → Leaves 0 p
at_nothing true fields p e = let same : (fields, st.StartRecord, []) ≡ p = cc in subst (Leaves 0) same (omega arith, refl)
at_nothing false fields p e = absurd cc

at_end : (b : Bool) (s : State) (fields : List (List ℕ)) (rest : List ℕ) (q : Option Read) (p : Read) → (b ≡ true → ends_at_end s ≡ false) → (q ≡ Some p → Leaves (length rest) p)
    → (if b then Some (fields, s, rest) else q) ≡ Some p → Leaves (length rest) p
at_end true s fields rest q p done more e = let same : (fields, s, rest) ≡ p = cc in subst (Leaves (length rest)) same (omega arith, done refl)
at_end false s fields rest q p done more e = more e

-- a record takes a byte at least
record_leaves : (s : State) (fields : List (List ℕ)) (field : List ℕ) (c : ℕ) (rest : List ℕ) (p : Read) → next_record default_config s fields field (c ∷ rest) ≡ Some p → Leaves (length rest) p
unfolding next_record
record_leaves s fields field c [] p e =
    at_end (is_end (step default_config s c).1) (step default_config s c).0 _ [] _ p (step_ends s c) (at_nothing (ends_at_end (step default_config s c).0) _ p) e
record_leaves s fields field c (d ∷ rest) p e =
    at_end (is_end (step default_config s c).1) (step default_config s c).0 _ (d ∷ rest) _ p (step_ends s c)
    (λ h. let more = record_leaves (step default_config s c).0 _ _ d rest p h in (omega (arith, more.0), more.1)) e

shorter : (s : State) (xs : List ℕ) (p : Read) → ends_at_end s ≡ false → next_record default_config s [] [] xs ≡ Some p → (length p.2 < length xs) × (ends_at_end p.1 ≡ false)
unfolding next_record
shorter s [] p between e = let none : None ≡ Some p = rw between at e in absurd cc
shorter s (c ∷ rest) p between e = let more = record_leaves s [] [] c rest p e in (omega (arith, more.0), more.1)

-- as many steps as there are bytes, and one more, are enough
enough_by : (n m : ℕ) (o : Option Read) → ((p : Read) → o ≡ Some p → records_from default_config n p.1 p.2 ≡ records_from default_config m p.1 p.2) → records_next (records_from default_config n) o ≡ records_next (records_from default_config m) o
enough_by n m None more = refl
enough_by n m (Some p) more = ap (λ (l : List (List (List ℕ))). p.0 ∷ l) (more p refl)

enough : (n m : ℕ) (s : State) (xs : List ℕ) → length xs < n → length xs < m → ends_at_end s ≡ false → records_from default_config n s xs ≡ records_from default_config m s xs
unfolding records_from
enough zero m s xs h k between = absurd (omega arith)
enough (suc n) zero s xs h k between = absurd (omega arith)
enough (suc n) (suc m) s xs h k between = enough_by n m (next_record default_config s [] [] xs)
    (λ p e. let less = shorter s xs p between e in enough n m p.1 p.2 (omega (arith, less.0)) (omega (arith, less.0)) less.1)

-- the records of some bytes
abbrev pub rows_in : State → Option (List ℕ) → List (List (List ℕ))
rows_in s bytes = records_from default_config (length (unwrap_or bytes []) + 1) s (unwrap_or bytes [])

abbrev pub ReadsRows : Bool → State → Option (List ℕ) → List (List ℕ) → State → Option (List ℕ) → Type 0
ReadsRows false s old fields s2 new = rows_in s old ≡ []
ReadsRows true s old fields s2 new =
    (rows_in s old ≡ fields ∷ rows_in s2 new) × (length (unwrap_or new []) < length (unwrap_or old [])) × (ends_at_end s2 ≡ false) × IsSome new

none_left : (s : State) (xs : List ℕ) → next_record default_config s [] [] xs ≡ None → records_from default_config (length xs + 1) s xs ≡ []
unfolding records_from
none_left s xs e = rw (add-one, e) refl

one_more : (s : State) (xs : List ℕ) (p : Read) → next_record default_config s [] [] xs ≡ Some p → records_from default_config (length xs + 1) s xs ≡ p.0 ∷ records_from default_config (length xs) p.1 p.2
unfolding records_from
one_more s xs p e = rw (add-one, e) refl

by_read : (s s2 : State) (xs ys : List ℕ) (fields : List (List ℕ)) (o : Option Read) (found : Bool) → ends_at_end s ≡ false → next_record default_config s [] [] xs ≡ o → NextIs o found fields s2 ys → ReadsRows found s (Some xs) fields s2 (Some ys)
by_read s s2 xs ys fields None true between e r = absurd cc
by_read s s2 xs ys fields None false between e r = none_left s xs e
by_read s s2 xs ys fields (Some p) false between e r = let no = r.0 in absurd cc
by_read s s2 xs ys fields (Some p) true between e r =
    let less = shorter s xs p between e in
    let steps = enough (length xs) (length p.2 + 1) p.1 p.2 less.0 (omega arith) less.1 in
    (one_more s xs p e ∙ rw (r.1, r.2, r.3) (ap (λ (l : List (List (List ℕ))). p.0 ∷ l) steps), rw r.3 less.0, rw r.2 less.1, search rules)

pub reads_rows : (s s2 : State) (old new : Option (List ℕ)) (fields : List (List ℕ)) (found : Bool) → ends_at_end s ≡ false → IsSome old → ReadsNext default_config s old new found fields s2 → ReadsRows found s old fields s2 new
reads_rows s s2 None new fields found between has r = absurd cc
reads_rows s s2 (Some xs) None fields found between has r = absurd r
reads_rows s s2 (Some xs) (Some ys) fields found between has r = by_read s s2 xs ys fields (next_record default_config s [] [] xs) found between refl r

-- the effect of a read on a plan's reader
source_known : (reader : PlanReader) → reader.bom_checked ≡ true → pending_of (known reader.rdr) reader ≡ source_of known reader
source_known reader checked = rw checked refl

found_row : (old new : PlanReader) (fields : List (List ℕ)) → IsPlanReader old → ReadRecord known old new true fields → ReadsOn old new
    → ReadsRows true old.state (source_of known old) fields new.state (source_of known new) → ReadsPlan true old fields new
unfolding rows_left
found_row old new fields plain read on rows =
    (rows.0, rows.1, record { trim = read.3 ∙ plain.trim; ready = (on.4 plain.ready).0; config = read.2 ∙ plain.config; between = rows.2; has = rows.3 })

no_row : (old new : PlanReader) (fields : List (List ℕ)) → ReadsRows false old.state (source_of known old) fields new.state (source_of known new) → ReadsPlan false old fields new
unfolding rows_left
no_row old new fields rows = rows

rows_of_read : (old new : PlanReader) (found : Bool) (fields : List (List ℕ)) → IsPlanReader old → ReadRecord known old new found fields → ReadsRows found old.state (source_of known old) fields new.state (source_of known new)
rows_of_read old new found fields plain read =
    reads_rows old.state new.state (source_of known old) (source_of known new) fields found plain.between plain.has (rw (plain.config, source_known new read.1) at read.0)

pub next_rows : (old new : PlanReader) (found : Bool) (fields : List (List ℕ)) → IsPlanReader old → ReadRecord known old new found fields → (found ≡ true → ReadsOn old new) → ReadsPlan found old fields new
next_rows old new true fields plain read on = found_row old new fields plain read (on refl) (rows_of_read old new true fields plain read)
next_rows old new false fields plain read on = no_row old new fields (rows_of_read old new false fields plain read)

-- a reader that has nothing left has no records left
empty_left : (s : State) (xs : List ℕ) → ends_at_end s ≡ false → length xs ≡ 0 → records_from default_config (length xs + 1) s xs ≡ []
unfolding records_from next_record
empty_left s [] between e = rw between refl
empty_left s (x ∷ xs) between e = absurd (omega arith)

pub rows_end : (reader : PlanReader) → IsPlanReader reader → length (unread reader) ≡ 0 → rows_left reader ≡ []
unfolding rows_left
rows_end reader plain e = empty_left reader.state (unread reader) plain.between e

-- a text without its mark is no longer
strip_by : (b : Bool) (x y z : ℕ) (rest : List ℕ) → length (if b then rest else x ∷ y ∷ z ∷ rest) ≤ length (x ∷ y ∷ z ∷ rest)
strip_by true x y z rest = omega arith
strip_by false x y z rest = omega arith

pub strip_short : (xs : List ℕ) → length (strip_bom xs) ≤ length xs
unfolding strip_bom
strip_short [] = omega arith
strip_short (x ∷ []) = omega arith
strip_short (x ∷ y ∷ []) = omega arith
strip_short (x ∷ y ∷ z ∷ rest) = strip_by (is_bom x y z) x y z rest

-- whether a read took a record
pub read_none : (old new : PlanReader) (fields : List (List ℕ)) (found : Bool) → found ≡ false → ReadsPlan found old fields new → rows_left old ≡ []
read_none old new fields false e r = r
read_none old new fields true e r = absurd cc

pub read_some : (old new : PlanReader) (fields : List (List ℕ)) (found : Bool) → found ≡ true → ReadsPlan found old fields new → ReadsPlan true old fields new
read_some old new fields true e r = r
read_some old new fields false e r = absurd cc
