-- Lines that are kept up to a limit.
use Rattle.std.proofs.Common.{◌≡◌, ℕ, zero, suc, ◌+◌, ◌-◌, ◌<◌, ◌≤◌, true, false, List, [], ◌∷◌, ◌++◌, length, take, drop, Option, Some, None, option_map, refl, sym, ap, ◌∙◌, subst, arith, append_assoc, length-append, lt-ltb, inl, inr, ◌⊎◌}
use Rattle.std.proofs.lemmas.List.{take_all, take_at, length-take-le, take-append-drop}
use Rattle.std.proofs.lemmas.List.Folds.{list_all-append}
use Rattle.std.proofs.Math.Seq.{take-add}
use Rattle.std.proofs.lemmas.Bool.{cases_lt}
use Rattle.std.specs.Cmp.Derive.{both_true}
use Rattle.std.specs.Bool.{if◌then◌else◌}
use Rattle.std.specs.Io.BufRead.{ends_with_byte, strip_last}
use Rattle.acd_lines.specs.declared.answering.Answering.{Ghosts}
use Rattle.acd_lines.specs.Input.{has_none, moment_of_digits, asked_at, line_asked}
use Rattle.acd_lines.specs.Questions.{question}
use Rattle.acd_lines.proofs.Splits.{divides}
use Rattle.acd_lines.proofs.Moments.{number_long, moment_none, moment_split}

-- more bytes, kept up to n
pub kept_more : (n : ℕ) (part more : List ℕ) → take n (take n part ++ more) ≡ take n (part ++ more)
kept_more zero part more = refl
kept_more (suc n) [] more = refl
kept_more (suc n) (x ∷ part) more = ap (λ (l : List ℕ). x ∷ l) (kept_more n part more)

-- what is put after what is kept
pub kept_room : (n : ℕ) (kept more : List ℕ) (count : ℕ) → length kept ≤ n → count ≡ n - length kept → kept ++ take count more ≡ take n (kept ++ more)
kept_room n [] more count room is = ap (λ (k : ℕ). take k more) (omega arith)
kept_room zero (x ∷ kept) more count room is = absurd (omega arith)
kept_room (suc n) (x ∷ kept) more count room is = ap (λ (l : List ℕ). x ∷ l) (kept_room n kept more count (omega arith) (omega arith))

pub take_room : (room count : ℕ) (more : List ℕ) → count ≤ room → (count < room → length more ≤ count) → take count more ≡ take room more
take_room room count more within all = elim (cases_lt count room) [
  | inl less ↦ take_all count more (all less) ∙ sym (take_all room more (omega (arith, all less)))
  | inr full ↦ ap (λ (k : ℕ). take k more) (omega arith)
]

-- ---- a long line is as its beginning

-- the first 4108 bytes of a text decide what it asks for: a moment has at most ten, and of the rest after it no more than 4096 are
-- read
abbrev pub ByFront : {L : Type 0} → (List ℕ → L) → Type 0
ByFront asks = (base u v : List ℕ) → 4107 < length base → asks (base ++ u) ≡ asks (base ++ v)

pub short_or_none : (front : List ℕ) → (length front ≤ 10) ⊎ (moment_of_digits front ≡ None)
short_or_none front = elim (cases_lt 10 (length front)) [ inl long ↦ inr (number_long front long) | inr short ↦ inl short ]

module _ {L : Type 0} (unmarked long : L) (read : ℕ → List ℕ → L) where
  line_split : (front rest : List ℕ) → has_none 32 front ≡ true → line_asked unmarked long read (front ++ 32 ∷ rest) ≡ asked_at unmarked long read (option_map (λ n. (n, rest)) (moment_of_digits front))
  unfolding line_asked
  line_split front rest h = ap (asked_at unmarked long read) (moment_split (front ++ 32 ∷ rest) front rest refl h)

  line_open : (text : List ℕ) → has_none 32 text ≡ true → line_asked unmarked long read text ≡ unmarked
  unfolding line_asked
  line_open text h = ap (asked_at unmarked long read) (moment_none text h)

  -- a long text with no space in its front
  line_unmarked : (base u : List ℕ) → 10 < length base → has_none 32 base ≡ true → line_asked unmarked long read (base ++ u) ≡ unmarked
  line_unmarked base u big none = elim (divides 32 u) [
    | inl spaceless ↦ line_open (base ++ u) (list_all-append _ base u ∙ both_true none spaceless)
    | inr one ↦
        let whole : base ++ u ≡ (base ++ one.0) ++ 32 ∷ one.1 = ap (λ (l : List ℕ). base ++ l) one.2 ∙ sym (append_assoc base one.0 (32 ∷ one.1)) in
        let size = length-append base one.0 in
        let no = number_long (base ++ one.0) (omega arith) in
        ap (line_asked unmarked long read) whole ∙ line_split (base ++ one.0) one.1 (list_all-append _ base one.0 ∙ both_true none one.3) ∙ ap (λ o. asked_at unmarked long read (option_map (λ n. (n, one.1)) o)) no
  ]

  -- a text that is long after its space, or has no moment
  abbrev long_line : Option ℕ → L
  long_line None = unmarked
  long_line (Some n) = long

  long_rest : (o : Option ℕ) (rest : List ℕ) → 4096 < length rest → asked_at unmarked long read (option_map (λ n. (n, rest)) o) ≡ long_line o
  long_rest None rest h = refl
  long_rest (Some n) rest h = rw (lt-ltb 4096 (length rest) h) refl

  line_of_front : (front b u : List ℕ) → 4107 < length (front ++ 32 ∷ b) → has_none 32 front ≡ true → line_asked unmarked long read (front ++ 32 ∷ (b ++ u)) ≡ long_line (moment_of_digits front)
  line_of_front front b u big none = line_split front (b ++ u) none ∙ elim (short_or_none front) [
    | inl short ↦ long_rest (moment_of_digits front) (b ++ u) (omega (arith, length-append b u, length-append front (32 ∷ b)))
    | inr nothing ↦ rw nothing refl
  ]

  pub by_front : ByFront (line_asked unmarked long read)
  by_front base u v h = elim (divides 32 base) [
    | inl none ↦ line_unmarked base u (omega arith) none ∙ sym (line_unmarked base v (omega arith) none)
    | inr one ↦
        let big : 4107 < length (one.0 ++ 32 ∷ one.1) = subst (λ (l : List ℕ). 4107 < length l) one.2 h in
        let at = λ (w : List ℕ). ap (λ (l : List ℕ). line_asked unmarked long read (l ++ w)) one.2 ∙ ap (line_asked unmarked long read) (append_assoc one.0 (32 ∷ one.1) w) ∙ line_of_front one.0 one.1 w big one.3 in
        at u ∙ sym (at v)
  ]

-- it decides what a line asks for
pub front_decides : {A B : Type 0} (lines : Ghosts A B) → ByFront (question lines)
front_decides lines = by_front lines.unmarked lines.long lines.read

-- a line and a long line's beginning
long_strip : (m : ℕ) (xs : List ℕ) → m < length xs → (u : List ℕ) × (strip_last 13 xs ≡ take m xs ++ u)
long_strip m xs h =
    elim (ends_with_byte 13 xs) as (λ b. (u : List ℕ) × ((if b then take (length xs - 1) xs else xs) ≡ take m xs ++ u)) [
      | true ↦ (take (length xs - 1 - m) (drop m xs), ap (λ (k : ℕ). take k xs) (omega arith) ∙ take-add m (length xs - 1 - m) xs)
      | false ↦ (drop m xs, sym (take-append-drop m xs))
    ]

front_kept : (m : ℕ) (part : List ℕ) → m < length part → take m (take (m + 1) part) ≡ take m part
front_kept m part h = ap (take m) (take-add m 1 part) ∙ take_at (take m part) (take 1 (drop m part)) m (length-take-le m part (omega arith))

short_or_long : (m : ℕ) (part : List ℕ) → (length part ≤ m + 1) ⊎ (m + 1 < length part)
short_or_long m part = elim (cases_lt (m + 1) (length part)) [ inl l ↦ inr l | inr g ↦ inl g ]

module _ {L : Type 0} (asks : List ℕ → L) (by_front : ByFront asks) where
  same_long : (base u v xs ys : List ℕ) → 4107 < length base → xs ≡ base ++ u → ys ≡ base ++ v → asks xs ≡ asks ys
  same_long base u v xs ys h e f = ap asks e ∙ by_front base u v h ∙ ap asks (sym f)

  pub kept_line : (m : ℕ) (part : List ℕ) → 4107 < m → asks (take (m + 1) part) ≡ asks part
  kept_line m part big = elim (short_or_long m part) [
    | inl short ↦ ap asks (take_all (m + 1) part short)
    | inr long ↦ same_long (take m part) (take 1 (drop m part)) (drop m part) (take (m + 1) part) part (omega (arith, length-take-le m part (omega arith))) (take-add m 1 part) (sym (take-append-drop m part))
  ]

  pub kept_strip : (m : ℕ) (part : List ℕ) → 4107 < m → asks (strip_last 13 (take (m + 1) part)) ≡ asks (strip_last 13 part)
  kept_strip m part big = elim (short_or_long m part) [
    | inl short ↦ ap (λ (l : List ℕ). asks (strip_last 13 l)) (take_all (m + 1) part short)
    | inr long ↦
        let kept = long_strip m (take (m + 1) part) (omega (arith, length-take-le (m + 1) part (omega arith))) in
        let all = long_strip m part (omega arith) in
        same_long (take m part) kept.0 all.0 (strip_last 13 (take (m + 1) part)) (strip_last 13 part) (omega (arith, length-take-le m part (omega arith)))
        (kept.1 ∙ ap (λ (l : List ℕ). l ++ kept.0) (front_kept m part (omega arith))) all.1
  ]

  -- a line of which nothing was kept, and that is read whole
  pub whole_line : (m : ℕ) (kept end text : List ℕ) → 4107 < m → length kept ≡ 0 → text ≡ strip_last 13 end → asks text ≡ asks (strip_last 13 (take (m + 1) (kept ++ end)))
  whole_line m [] end text big none e = ap asks e ∙ sym (kept_strip m end big)
  whole_line m (x ∷ kept) end text big none e = absurd (omega arith)
