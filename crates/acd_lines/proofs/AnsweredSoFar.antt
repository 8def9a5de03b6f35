-- The lines of an input that were answered so far.
use Rattle.std.proofs.Common.{◌≡◌, ℕ, ◌<◌, true, not, ◌==◌, List, [], ◌∷◌, ◌++◌, length, take, refl, sym, ap, ◌∙◌, subst, append_assoc, append-nil}
use Rattle.std.proofs.lemmas.List.{take_at}
use Rattle.std.specs.Cmp.Derive.{both_true}
use Rattle.std.specs.List.{concat}
use Rattle.std.proofs.lemmas.List.Folds.{concat-append, list_all-append}
use Rattle.std.specs.Io.BufRead.{ends_with_byte}
use Rattle.acd_lines.specs.Input.{cut, text_of_line, has_none}
use Rattle.acd_lines.specs.Output.{whole_lines}
use Rattle.acd_lines.specs.Parts.{AnswersEach, AnsweredAs, FirstAnswered, Reached}
use Rattle.acd_lines.proofs.Cuts.{cut_line, cut_open, ends_in_feed, whole_of}

concat_one : (outs : List (List ℕ)) (out : List ℕ) → concat outs ++ out ≡ concat (outs ++ out ∷ [])
concat_one outs out = ap (λ (l : List ℕ). concat outs ++ l) (sym (append-nil out)) ∙ sym (concat-append outs (out ∷ []))

module _ {S L : Type 0} (asks : List ℕ → L) (A : S → L → List ℕ → S → Type 0) where
  -- one line more
  pub answers_more : (s : S) (pieces outs : List (List ℕ)) (mid : S) (piece out : List ℕ) (t : S) → AnswersEach asks A s pieces outs mid → A mid (asks (text_of_line piece)) out t → AnswersEach asks A s (pieces ++ piece ∷ []) (outs ++ out ∷ []) t
  answers_more s [] [] mid piece out t h a = (t, subst (λ (n : S). A n (asks (text_of_line piece)) out t) h a, refl)
  answers_more s [] (o ∷ os) mid piece out t h a = absurd h
  answers_more s (p ∷ ps) [] mid piece out t h a = absurd h
  answers_more s (p ∷ ps) (o ∷ os) mid piece out t h a = (h.0, h.1, answers_more h.0 ps os mid piece out t h.2 a)

  pub reached_bytes : (s : S) (seen part written : List ℕ) (t : S) (bytes : List ℕ) → has_none 10 bytes ≡ true → Reached asks A s seen part written t → Reached asks A s (seen ++ bytes) (part ++ bytes) written t
  reached_bytes s seen part written t bytes none h = record {
    pieces = h.pieces;
    outs = h.outs;
    cuts = λ rest. ap cut (append_assoc seen bytes rest) ∙ h.cuts (bytes ++ rest) ∙ ap (λ (l : List ℕ). h.pieces ++ cut l) (sym (append_assoc part bytes rest));
    ended = h.ended;
    no_feed = list_all-append (λ x. not (x == 10)) part bytes ∙ both_true h.no_feed none;
    answered = h.answered;
    whole = h.whole;
  }

  line_cuts : (s : S) (seen part written : List ℕ) (t : S) → (h : Reached asks A s seen part written t) → (rest : List ℕ) → cut ((seen ++ 10 ∷ []) ++ rest) ≡ (h.pieces ++ (part ++ 10 ∷ []) ∷ []) ++ cut rest
  line_cuts s seen part written t h rest =
      ap cut (append_assoc seen (10 ∷ []) rest) ∙ h.cuts (10 ∷ rest) ∙ ap (λ l. h.pieces ++ l) (cut_line part rest h.no_feed) ∙ sym (append_assoc h.pieces ((part ++ 10 ∷ []) ∷ []) (cut rest))

  pub reached_line : (s : S) (seen part written : List ℕ) (mid : S) (out : List ℕ) (t : S) → Reached asks A s seen part written mid → A mid (asks (text_of_line (part ++ 10 ∷ []))) out t → Reached asks A s (seen ++ 10 ∷ []) [] (written ++ out) t
  reached_line s seen part written mid out t h a = record {
    pieces = h.pieces ++ (part ++ 10 ∷ []) ∷ [];
    outs = h.outs ++ out ∷ [];
    cuts = line_cuts s seen part written mid h;
    ended = list_all-append (ends_with_byte 10) h.pieces ((part ++ 10 ∷ []) ∷ []) ∙ both_true h.ended (rw (ends_in_feed part) refl);
    no_feed = refl;
    answered = answers_more s h.pieces h.outs mid (part ++ 10 ∷ []) out t h.answered a;
    whole = ap (λ (l : List ℕ). l ++ out) h.whole ∙ concat_one h.outs out;
  }

  -- the bytes read up to now
  pub read_reached : (s : S) (seen part written : List ℕ) (t : S) → Reached asks A s seen part written t → AnsweredAs asks A s (whole_lines seen) written t
  read_reached s seen part written t h = record {
    outs = h.outs;
    answered = subst (λ l. AnswersEach asks A s l h.outs t) (sym (whole_of seen part h.pieces h.cuts h.ended h.no_feed)) h.answered;
    whole = h.whole;
  }

  -- a fault after whole lines
  pub some_reached : (s : S) (seen part written more : List ℕ) (t : S) → Reached asks A s seen part written t → FirstAnswered asks A s (seen ++ more) written t
  some_reached s seen part written more t h = (
    length h.pieces,
    record {
      outs = h.outs;
      answered = subst (λ l. AnswersEach asks A s l h.outs t) (sym (ap (take (length h.pieces)) (h.cuts more) ∙ take_at h.pieces _ _ refl)) h.answered;
      whole = h.whole;
    },
  )

  -- the end of the input
  pub all_ended : (s : S) (seen written : List ℕ) (t : S) → Reached asks A s seen [] written t → AnsweredAs asks A s (cut seen) written t
  unfolding cut
  all_ended s seen written t h = record {
    outs = h.outs;
    answered = subst (λ l. AnswersEach asks A s l h.outs t) (sym (ap cut (sym (append-nil seen)) ∙ h.cuts [] ∙ append-nil h.pieces)) h.answered;
    whole = h.whole;
  }

  open_cut : (s : S) (seen part written : List ℕ) (t : S) → (h : Reached asks A s seen part written t) → 0 < length part → cut seen ≡ h.pieces ++ part ∷ []
  open_cut s seen part written t h some = ap cut (sym (append-nil seen)) ∙ h.cuts [] ∙ ap (λ l. h.pieces ++ l) (ap cut (append-nil part) ∙ cut_open part h.no_feed some)

  -- the end of the input after a last line with no line feed
  pub all_open : (s : S) (seen part written : List ℕ) (mid : S) (out : List ℕ) (t : S) → Reached asks A s seen part written mid → 0 < length part → A mid (asks (text_of_line part)) out t
      → AnsweredAs asks A s (cut seen) (written ++ out) t
  all_open s seen part written mid out t h some a = record {
    outs = h.outs ++ out ∷ [];
    answered = subst (λ l. AnswersEach asks A s l (h.outs ++ out ∷ []) t) (sym (open_cut s seen part written mid h some)) (answers_more s h.pieces h.outs mid part out t h.answered a);
    whole = ap (λ (l : List ℕ). l ++ out) h.whole ∙ concat_one h.outs out;
  }
