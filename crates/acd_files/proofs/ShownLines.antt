-- What is shown of the first line of a plan, byte by byte.
use Rattle.std.specs.List.{prefix_len}
use Rattle.std.proofs.Common.{◌≡◌, ◌||◌, ◌+◌, ◌<◌, ◌≤◌, ◌++◌, ℕ, Bool, true, false, not, List, [], length, take, drop, get_or, flat_map, ltb, nat_lt, refl, sym, ap, ◌∙◌, ap₂, subst, arith, take-append-drop, take-take, length-append, get_or-take}
use Rattle.std.proofs.lemmas.Bool.{ltb-true, ltb-false, true≢false, not_from_false, not_from_true, or_parts}
use Rattle.std.proofs.lemmas.Grind.{flat_map-append}
use Rattle.std.proofs.lemmas.List.{take_all, take_more, flat_map_more}
use Rattle.std.proofs.lemmas.List.Sums.{prefix_len_passes, prefix_len_stops, prefix_len-le-length}
use Rattle.std.proofs.lemmas.List.Folds.{length-prefix_len}
use Rattle.acd_files.specs.PlanLines.{ends_line, first_line, is_shown_to, shown, shown_byte, ShowsLine}

-- a text shows so many bytes of a line
pub record IsShown (line text : List ℕ) (count : ℕ) : Type 0 where
  pub shows : text ≡ shown count line
  pub fits : length text ≤ 60
  pub within : count ≤ length line

-- more bytes are shown by no fewer characters
grows : (line : List ℕ) (few many : ℕ) → few ≤ many → length (shown few line) ≤ length (shown many line)
grows line few many le =
    let begun = take few (take many line) in
    let rest = drop few (take many line) in
    let whole = ap (λ (bytes : List ℕ). length (flat_map shown_byte bytes)) (take-append-drop few (take many line)) in
    let parts = ap length (flat_map-append shown_byte begun rest) in
    let sum = length-append (flat_map shown_byte begun) (flat_map shown_byte rest) in
    subst (λ (bytes : List ℕ). length (flat_map shown_byte bytes) ≤ length (shown many line)) (take-take few many line le) (omega (arith, whole, parts, sum))

-- one byte more
next : (line : List ℕ) (i d : ℕ) → i < length line → shown (i + 1) line ≡ shown i line ++ shown_byte (get_or line i d)
next line i d low = ap (flat_map shown_byte) (take_more line i d low) ∙ sym (flat_map_more shown_byte [] (take i line) (get_or line i d))

module _ (line text : List ℕ) (i : ℕ) (so : IsShown line text i) where
  -- the whole line is shown
  shown_whole : length line ≤ i → ShowsLine line text
  shown_whole all = record {
    count = i;
    shows = so.shows;
    fits = so.fits;
    longest = λ other fits.
        let most : length (shown other line) ≤ length (shown i line) = by other (ltb other i) refl in
        omega (arith, most, ap length so.shows);
  } where
    by : (other : ℕ) (b : Bool) → ltb other i ≡ b → length (shown other line) ≤ length (shown i line)
    by other true e = grows line other i (omega (arith, ltb-true other i e))
    by other false e =
        let both : take other line ≡ take i line = take_all other line (omega (arith, all, ltb-false other i e)) ∙ sym (take_all i line all) in
        omega (arith, ap (λ (bytes : List ℕ). length (flat_map shown_byte bytes)) both)

  -- there is no room for the next byte
  shown_room : (d : ℕ) → i < length line → 60 < length text + length (shown_byte (get_or line i d)) → ShowsLine line text
  shown_room d low full = record { count = i; shows = so.shows; fits = so.fits; longest = λ other fits. by other fits (ltb i other) refl } where
    by : (other : ℕ) → length (shown other line) ≤ 60 → (b : Bool) → ltb i other ≡ b → length (shown other line) ≤ length text
    by other fits false e = omega (arith, grows line other i (ltb-false i other e), ap length so.shows)
    by other fits true e =
        let past : i + 1 ≤ other = omega (arith, ltb-true i other e) in
        let one = ap length (next line i d low) in
        let sum = length-append (shown i line) (shown_byte (get_or line i d)) in
        absurd (omega (arith, grows line (i + 1) other past, one, sum, ap length so.shows, full, fits))

-- the line goes on with a byte that doesn't end it
abbrev stays : ℕ → Bool
stays byte = not (ends_line byte)

-- how long the first line is
line_length : (plan : List ℕ) → length (first_line plan) ≡ prefix_len stays plan
line_length plan = length-prefix_len stays plan

module _ (plan : List ℕ) (i d : ℕ) where
  -- its bytes are the plan's
  same : i < length (first_line plan) → get_or (first_line plan) i d ≡ get_or plan i d
  same low = get_or-take (prefix_len stays plan) plan i d (omega (arith, low, line_length plan))

  -- it ends before a byte that ends a line
  ended : ends_line (get_or plan i d) ≡ true → length (first_line plan) ≤ i
  ended ends = by (ltb i (prefix_len stays plan)) refl where
    by : (b : Bool) → ltb i (prefix_len stays plan) ≡ b → length (first_line plan) ≤ i
    by false e = omega (arith, ltb-false i _ e, line_length plan)
    by true e = absurd (true≢false (sym (prefix_len_passes stays plan i d (ltb-true i _ e)) ∙ not_from_true _ ends))

  -- and goes on to any other
  goes_on : i < length plan → i ≤ length (first_line plan) → ends_line (get_or plan i d) ≡ false → i < length (first_line plan)
  goes_on low within other = by (ltb i (prefix_len stays plan)) refl where
    by : (b : Bool) → ltb i (prefix_len stays plan) ≡ b → i < length (first_line plan)
    by true e = omega (arith, ltb-true i _ e, line_length plan)
    by false e =
        let here : prefix_len stays plan ≡ i = omega (arith, ltb-false i _ e, within, line_length plan) in
        let stops = prefix_len_stops stays plan d (omega (arith, here, low)) in
        absurd (true≢false (sym (not_from_false _ other) ∙ (ap (λ (n : ℕ). stays (get_or plan n d)) (sym here) ∙ stops)))

  module _ (text : List ℕ) (so : IsShown (first_line plan) text i) where
    -- what is shown ends before this byte
    pub shown_full : i < length plan → is_shown_to text (get_or plan i d) ≡ true → ShowsLine (first_line plan) text
    shown_full low full = by (ends_line (get_or plan i d)) refl where
      by : (b : Bool) → ends_line (get_or plan i d) ≡ b → ShowsLine (first_line plan) text
      by true ends = shown_whole (first_line plan) text i so (ended ends)
      by false other =
          let in_line = goes_on low so.within other in
          let room = ltb-true 60 _ (ap (λ (b : Bool). b || nat_lt 60 (length text + length (shown_byte (get_or plan i d)))) (sym other) ∙ full) in
          let both = ap (λ (byte : ℕ). length (shown_byte byte)) (same in_line) in
          shown_room (first_line plan) text i so d in_line (omega (arith, room, both))

    -- with this byte
    pub shown_more : (new : List ℕ) → i < length plan → is_shown_to text (get_or plan i d) ≡ false → new ≡ text ++ shown_byte (get_or plan i d) → IsShown (first_line plan) new (i + 1)
    shown_more new low not_full is =
        let neither = or_parts _ _ not_full in
        let in_line = goes_on low so.within neither.0 in
        let room = ltb-false 60 _ neither.1 in
        record {
          shows = is ∙ (ap₂ (λ (a b : List ℕ). a ++ b) so.shows (ap shown_byte (sym (same in_line))) ∙ sym (next (first_line plan) i d in_line));
          fits = omega (arith, room, ap length is, length-append text (shown_byte (get_or plan i d)));
          within = omega (arith, in_line);
        }

-- the plan ends
pub shown_all : (plan text : List ℕ) (i : ℕ) → IsShown (first_line plan) text i → length plan ≤ i → ShowsLine (first_line plan) text
shown_all plan text i so all = shown_whole (first_line plan) text i so (omega (arith, all, line_length plan, prefix_len-le-length stays plan))
