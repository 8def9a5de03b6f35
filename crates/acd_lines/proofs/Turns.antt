-- One line of the input, and one read, over plain values.
use Rattle.std.proofs.Common.{◌≡◌, ℕ, zero, suc, ◌+◌, ◌<◌, true, List, [], ◌∷◌, ◌++◌, length, take, drop, Option, Result, refl, sym, ap, ◌∙◌, subst, arith, lit<, append_assoc, append-nil}
use Rattle.std.proofs.lemmas.List.{length-take, take_at}
use Rattle.std.specs.Io.BufRead.{strip_last}
use Rattle.std.specs.Io.KnownBytes.{Appends, Consumes}
use Rattle.std.proofs.KnownBytes.{Consumes-nil}
use Rattle.acd_lines.specs.Input.{has_none, text_of_line, cut}
use Rattle.acd_io.specs.Streams.{IsInput}
use Rattle.acd_io.proofs.Inputs.{input_begun}
use Rattle.acd_io.specs.declared.sending.Stopped.{Stopped}
use Rattle.acd_io.specs.SentBytes.{Passes, Breaks, Begins}
use Rattle.acd_lines.specs.WaitingBytes.{OverCall, Talk}
use Rattle.acd_lines.specs.Parts.{FirstAnswered, Reached, AnsweredSoFar, LineDone, LineStops, Feeds, Stops, FeedStops, Finishes, FinishStops, InTurn, AnsweredAs, AnswerPushed, text_kept}
use Rattle.acd_io.proofs.Sends.{breaks_front, passes_same_front, passes_nothing, passes_then, breaks_then, passes_out, breaks_out, begins_so, passes_whole}
use Rattle.acd_lines.specs.Output.{whole_lines}
use Rattle.acd_lines.specs.Lines.{LinesAnswered, AllLines, FirstLines, EndedLines}
use Rattle.acd_lines.proofs.BoundedLines.{ByFront, kept_more, kept_line, kept_strip}
use Rattle.acd_lines.proofs.Cuts.{text_line, text_open}
use Rattle.acd_lines.proofs.AnsweredSoFar.{reached_bytes, reached_line, read_reached, some_reached, all_ended, all_open}
use Rattle.acd_lines.proofs.WeakerAnswers.{out_so, all_are_first}

-- the text of a line, of which a beginning was kept
line_text_of : {L : Type 0} (asks : List ℕ → L) → ByFront asks → (m : ℕ) (part kept end : List ℕ) → 4107 < m → kept ≡ take (m + 1) part → asks (strip_last 13 (take (m + 1) (kept ++ end))) ≡ asks (text_of_line ((part ++ end) ++ 10 ∷ []))
line_text_of {L} asks by_front m part kept end big e =
    ap (λ (l : List ℕ). asks (strip_last 13 l)) (ap (λ (l : List ℕ). take (m + 1) (l ++ end)) e ∙ kept_more (m + 1) part end) ∙ kept_strip asks by_front m (part ++ end) big ∙ ap asks (sym (text_line (part ++ end)))

-- the bytes read up to a line feed
up_to_feed : (seen end : List ℕ) → seen ++ (end ++ 10 ∷ []) ≡ (seen ++ end) ++ 10 ∷ []
up_to_feed seen end = sym (append_assoc seen end (10 ∷ []))

-- the part of a chunk that was used, and the rest after a line
pub past_line : (chunk front rest end new_rest : List ℕ) → chunk ≡ front ++ rest → rest ≡ end ++ 10 ∷ new_rest → chunk ≡ (front ++ (end ++ 10 ∷ [])) ++ new_rest
past_line chunk front rest end new_rest e f =
    e ∙ ap (λ (l : List ℕ). front ++ l) (f ∙ sym (append_assoc end (10 ∷ []) new_rest)) ∙ sym (append_assoc front (end ++ 10 ∷ []) new_rest)

pub seen_line : (seen chunk front rest end new_rest : List ℕ) → chunk ≡ front ++ rest → rest ≡ end ++ 10 ∷ new_rest → seen ++ chunk ≡ ((seen ++ front) ++ (end ++ 10 ∷ [])) ++ new_rest
seen_line seen chunk front rest end new_rest e f =
    ap (λ (l : List ℕ). seen ++ l) (past_line chunk front rest end new_rest e f) ∙ sym (append_assoc seen (front ++ (end ++ 10 ∷ [])) new_rest) ∙ ap (λ (l : List ℕ). l ++ new_rest) (sym (append_assoc seen front (end ++ 10 ∷ [])))

pub seen_chunk : (seen chunk front rest : List ℕ) → chunk ≡ front ++ rest → (seen ++ front) ++ rest ≡ seen ++ chunk
seen_chunk seen chunk front rest e = append_assoc seen front rest ∙ ap (λ (l : List ℕ). seen ++ l) (sym e)

nothing_kept : (n : ℕ) → ◌≡◌ {A = List ℕ} [] (take n [])
nothing_kept zero = refl
nothing_kept (suc n) = refl

no_part : (n : ℕ) (part : List ℕ) → 0 < n → length (take n part) ≡ 0 → part ≡ []
no_part n [] h e = refl
no_part zero (x ∷ part) h e = absurd (omega arith)
no_part (suc n) (x ∷ part) h e = absurd (omega arith)

-- the buffer after a read
pub chunk_read : (items buf : List ℕ) (len : ℕ) → length buf ≡ length items → len ≡ length items → take len (buf ++ drop (length buf) items) ≡ buf
chunk_read items buf len same size = take_at buf (drop (length buf) items) len (same ∙ sym size)

-- the same conversation, with these bytes kept
abbrev pub keeping : {S : Type 0} → Talk S → List ℕ → Talk S
keeping now kept = record { desk = now.desk; kept = kept; waiting = now.waiting; output = now.output }

module _ {S L : Type 0} (asks : List ℕ → L) (by_front : ByFront asks) (A : S → L → List ℕ → S → Type 0) where
  -- nothing was read
  pub starts : (n : ℕ) (now : Talk S) → now.kept ≡ [] → now.waiting ≡ [] → AnsweredSoFar asks A n now.desk [] [] [] now.output now
  starts n now e f = record {
    part = [];
    answers = [];
    keeps = e ∙ nothing_kept n;
    reached = record { pieces = []; outs = []; cuts = λ rest. refl; ended = refl; no_feed = refl; answered = refl; whole = refl };
    passes = subst (λ (w : List ℕ). Passes now.output now.output w []) (sym f) (passes_nothing now.output []);
  }

  -- nothing more was read
  pub stands_first : (n : ℕ) (s : S) (seen part earlier : List ℕ) (now : Talk S) → now.kept ≡ take n part → Reached asks A s seen part earlier now.desk
      → AnsweredSoFar asks A n s (seen ++ []) earlier now.waiting now.output now
  stands_first n s seen part earlier now e h = record {
    part = part;
    answers = [];
    keeps = e;
    reached =
        subst (λ (l : List ℕ). Reached asks A s l part (earlier ++ []) now.desk) (sym (append-nil seen))
        (subst (λ (w : List ℕ). Reached asks A s seen part w now.desk) (sym (append-nil earlier)) h);
    passes = passes_nothing now.output now.waiting;
  }

  -- the same line
  pub pushed_same : (line line' : L) (over : OverCall S) (r : Result (Unit {0}) Stopped) → line ≡ line' → AnswerPushed A line over r → AnswerPushed A line' over r
  pushed_same line line' over r e h = (h.0, subst (λ (l : L). A over.old l h.0 over.new) e h.1, h.2)

  -- bytes with no line feed
  pub step_bytes : (n : ℕ) (s : S) (seen earlier before : List ℕ) (old : Option (List ℕ)) (now : Talk S) (kept bytes : List ℕ) → AnsweredSoFar asks A n s seen earlier before old now
      → has_none 10 bytes ≡ true → kept ≡ take n (now.kept ++ bytes) → AnsweredSoFar asks A n s (seen ++ bytes) earlier before old (keeping now kept)
  step_bytes n s seen earlier before old now kept bytes h none is = record {
    part = h.part ++ bytes;
    answers = h.answers;
    keeps = is ∙ ap (λ (l : List ℕ). take n (l ++ bytes)) h.keeps ∙ kept_more n h.part bytes;
    reached = reached_bytes asks A s seen h.part (earlier ++ h.answers) now.desk bytes none h.reached;
    passes = h.passes;
  }

  -- the same bytes
  pub stands_seen : (n : ℕ) (s : S) (seen seen' earlier before : List ℕ) (old : Option (List ℕ)) (now : Talk S) → seen ≡ seen' → AnsweredSoFar asks A n s seen earlier before old now
      → AnsweredSoFar asks A n s seen' earlier before old now
  stands_seen n s seen seen' earlier before old now e h = record {
    part = h.part;
    answers = h.answers;
    keeps = h.keeps;
    reached = subst (λ (l : List ℕ). Reached asks A s l h.part (earlier ++ h.answers) now.desk) e h.reached;
    passes = h.passes;
  }

  -- the waiting bytes were written
  pub stands_out : (n : ℕ) (s : S) (seen earlier before : List ℕ) (old : Option (List ℕ)) (now next : Talk S) → AnsweredSoFar asks A n s seen earlier before old now
      → next.desk ≡ now.desk → next.kept ≡ now.kept → Passes now.output next.output [] now.waiting → next.waiting ≡ [] → AnsweredSoFar asks A n s seen earlier before old next
  stands_out n s seen earlier before old now next h desk kept out none = record {
    part = h.part;
    answers = h.answers;
    keeps = kept ∙ h.keeps;
    reached = subst (λ (d : S). Reached asks A s seen h.part (earlier ++ h.answers) d) (sym desk) h.reached;
    passes =
        subst (λ (w : List ℕ). Passes old next.output w (before ++ h.answers)) (sym none)
        (passes_out old now.output next.output now.waiting (before ++ h.answers) h.passes out);
  }

  -- the writer stopped after the lines
  pub stop_out : (n : ℕ) (s : S) (seen earlier before : List ℕ) (old : Option (List ℕ)) (now next : Talk S) → AnsweredSoFar asks A n s seen earlier before old now
      → next.desk ≡ now.desk → Breaks now.output next.output now.waiting → Stops asks A s seen earlier before old next
  stop_out n s seen earlier before old now next h desk out = (
    h.answers,
    λ more. subst (λ (d : S). FirstAnswered asks A s (seen ++ more) (earlier ++ h.answers) d) (sym desk) (some_reached asks A s seen h.part (earlier ++ h.answers) more now.desk h.reached),
    breaks_out old now.output next.output now.waiting (before ++ h.answers) h.passes out,
  )

  -- ---- a line, of which m + 1 bytes are kept at most

  module _ (m : ℕ) (big : 4107 < m) where
    line_reached : (s : S) (seen earlier before : List ℕ) (old : Option (List ℕ)) (now : Talk S) (end out : List ℕ) (t : S) → (h : AnsweredSoFar asks A (m + 1) s seen earlier before old now)
        → has_none 10 end ≡ true → A now.desk (asks (strip_last 13 (take (m + 1) (now.kept ++ end)))) out t → Reached asks A s (seen ++ (end ++ 10 ∷ [])) [] (earlier ++ (h.answers ++ out)) t
    line_reached s seen earlier before old now end out t h none answered =
        let line = line_text_of asks by_front m h.part now.kept end big h.keeps in
        let more = reached_bytes asks A s seen h.part (earlier ++ h.answers) now.desk end none h.reached in
        let reached = reached_line asks A s (seen ++ end) (h.part ++ end) (earlier ++ h.answers) now.desk out t more (subst (λ (l : L). A now.desk l out t) line answered) in
        subst (λ (l : List ℕ). Reached asks A s l [] (earlier ++ (h.answers ++ out)) t) (sym (up_to_feed seen end))
        (subst (λ (w : List ℕ). Reached asks A s ((seen ++ end) ++ 10 ∷ []) [] w t) (append_assoc earlier h.answers out) reached)

    -- it ended, and was answered
    pub step_line : (s : S) (seen earlier before : List ℕ) (old : Option (List ℕ)) (now next : Talk S) (end : List ℕ) → AnsweredSoFar asks A (m + 1) s seen earlier before old now → has_none 10 end ≡ true
        → LineDone A now.desk (asks (strip_last 13 (take (m + 1) (now.kept ++ end)))) next.desk now.output next.output now.waiting next.waiting → next.kept ≡ []
        → AnsweredSoFar asks A (m + 1) s (seen ++ (end ++ 10 ∷ [])) earlier before old next
    step_line s seen earlier before old now next end h none done empty = record {
      part = [];
      answers = h.answers ++ done.0;
      keeps = empty ∙ nothing_kept (m + 1);
      reached = line_reached s seen earlier before old now end done.0 next.desk h none done.1;
      passes = passes_then old now.output next.output before now.waiting next.waiting h.answers done.0 h.passes done.2;
    }

    -- the writer stopped at it
    pub stop_line : (s : S) (seen whole earlier before : List ℕ) (old : Option (List ℕ)) (now next : Talk S) (end left : List ℕ) → AnsweredSoFar asks A (m + 1) s seen earlier before old now → has_none 10 end ≡ true
        → LineStops A now.desk (asks (strip_last 13 (take (m + 1) (now.kept ++ end)))) next.desk now.output next.output now.waiting → whole ≡ (seen ++ (end ++ 10 ∷ [])) ++ left
        → Stops asks A s whole earlier before old next
    stop_line s seen whole earlier before old now next end left h none stopped is_whole =
        let line = seen ++ (end ++ 10 ∷ []) in
        let out = h.answers ++ stopped.0 in
        let reached = line_reached s seen earlier before old now end stopped.0 next.desk h none stopped.1 in
        let done = λ (more : List ℕ). some_reached asks A s line [] (earlier ++ out) (left ++ more) next.desk reached in
        let same = λ (more : List ℕ). ap (λ (l : List ℕ). l ++ more) is_whole ∙ append_assoc line left more in (
          out,
          λ more. subst (λ (l : List ℕ). FirstAnswered asks A s l (earlier ++ out) next.desk) (sym (same more)) (done more),
          breaks_then old now.output next.output before now.waiting h.answers stopped.0 h.passes stopped.2,
        )

  -- ---- a chunk

  -- none of it was used
  pub feed_none : (now : Talk S) → Feeds asks A now now []
  feed_none now = λ s seen part answers is reached. stands_first 4109 s seen part answers now is reached

  -- a line of it
  pub feed_line : (old now next : Talk S) (front end : List ℕ) → Feeds asks A old now front → has_none 10 end ≡ true
      → LineDone A now.desk (asks (text_kept now.kept end)) next.desk now.output next.output now.waiting next.waiting → next.kept ≡ [] → Feeds asks A old next (front ++ (end ++ 10 ∷ []))
  feed_line old now next front end feeds none done empty = λ s seen part answers is reached.
      stands_seen 4109 s ((seen ++ front) ++ (end ++ 10 ∷ [])) (seen ++ (front ++ (end ++ 10 ∷ []))) answers old.waiting old.output next (append_assoc seen front (end ++ 10 ∷ []))
      (step_line 4108 (lit< tt) s (seen ++ front) answers old.waiting old.output now next end (feeds s seen part answers is reached) none done empty)

  -- the writer stopped at it
  pub feed_stops : (old now next : Talk S) (chunk front rest end new_rest : List ℕ) → Feeds asks A old now front → has_none 10 end ≡ true
      → LineStops A now.desk (asks (text_kept now.kept end)) next.desk now.output next.output now.waiting → chunk ≡ front ++ rest → rest ≡ end ++ 10 ∷ new_rest → FeedStops asks A old next chunk
  feed_stops old now next chunk front rest end new_rest feeds none stopped e f = λ s seen part answers is reached.
      stop_line 4108 (lit< tt) s (seen ++ front) (seen ++ chunk) answers old.waiting old.output now next end new_rest (feeds s seen part answers is reached) none stopped
      (seen_line seen chunk front rest end new_rest e f)

  -- the rest after its last line
  pub feed_rest : (old now : Talk S) (kept chunk front rest : List ℕ) → Feeds asks A old now front → has_none 10 rest ≡ true → kept ≡ take 4109 (now.kept ++ rest) → chunk ≡ front ++ rest
      → Feeds asks A old (keeping now kept) chunk
  feed_rest old now kept chunk front rest feeds none is_kept e = λ s seen part answers is reached.
      stands_seen 4109 s ((seen ++ front) ++ rest) (seen ++ chunk) answers old.waiting old.output (keeping now kept) (seen_chunk seen chunk front rest e)
      (step_bytes 4109 s (seen ++ front) answers old.waiting old.output now kept rest (feeds s seen part answers is reached) none is_kept)

  -- the answers to its lines go out
  pub feed_out : (old now next : Talk S) (chunk : List ℕ) → Feeds asks A old now chunk → next.desk ≡ now.desk → next.kept ≡ now.kept → Passes now.output next.output [] now.waiting → next.waiting ≡ []
      → Feeds asks A old next chunk
  feed_out old now next chunk feeds desk kept out none = λ s seen part answers is reached.
      stands_out 4109 s (seen ++ chunk) answers old.waiting old.output now next (feeds s seen part answers is reached) desk kept out none

  pub feed_out_stops : (old now next : Talk S) (chunk : List ℕ) → Feeds asks A old now chunk → next.desk ≡ now.desk → Breaks now.output next.output now.waiting → FeedStops asks A old next chunk
  feed_out_stops old now next chunk feeds desk begun = λ s seen part answers is reached.
      stop_out 4109 s (seen ++ chunk) answers old.waiting old.output now next (feeds s seen part answers is reached) desk begun

  -- ---- the end of the input

  -- it ends in a line feed, or is empty
  pub end_empty : (m : ℕ) (s : S) (seen part answers : List ℕ) (t : S) (kept : List ℕ) → kept ≡ take (m + 1) part → length kept ≡ 0 → Reached asks A s seen part answers t → AnsweredAs asks A s (cut seen) (answers ++ []) t
  end_empty m s seen part answers t kept e none h =
      let nothing : part ≡ [] = no_part (m + 1) part (omega arith) (ap length (sym e) ∙ none) in
      subst (λ (w : List ℕ). AnsweredAs asks A s (cut seen) w t) (sym (append-nil answers)) (all_ended asks A s seen answers t (subst (λ (l : List ℕ). Reached asks A s seen l answers t) nothing h))

  -- a last line without one
  pub end_line : (m : ℕ) (s : S) (seen part answers kept : List ℕ) (mid : S) (out : List ℕ) (t : S) → 4107 < m → kept ≡ take (m + 1) part → 0 < length kept → Reached asks A s seen part answers mid → A mid (asks kept) out t → AnsweredAs asks A s (cut seen) (answers ++ out) t
  end_line m s seen part answers kept mid out t big e some h answered =
      let line = ap asks e ∙ kept_line asks by_front m part big ∙ ap asks (sym (text_open part h.no_feed)) in
      all_open asks A s seen part answers mid out t h (omega (arith, ap length e, length-take (m + 1) part)) (subst (λ (l : L). A mid l out t) line answered)

  pub finish_empty : (old new : Talk S) → new.desk ≡ old.desk → length old.kept ≡ 0 → Passes old.output new.output [] old.waiting → Finishes asks A old new
  finish_empty old new desk none out = λ s seen part answers is reached. (
    [],
    subst (λ (d : S). AnsweredAs asks A s (cut seen) (answers ++ []) d) (sym desk) (end_empty 4108 s seen part answers old.desk old.kept is none reached),
    passes_same_front old.output new.output old.waiting out,
  )

  pub finish_empty_stops : (old new : Talk S) → new.desk ≡ old.desk → length old.kept ≡ 0 → Breaks old.output new.output old.waiting → FinishStops asks A old new
  finish_empty_stops old new desk none begun = λ s seen part answers is reached. (
    [],
    subst (λ (d : S). AnsweredAs asks A s (cut seen) (answers ++ []) d) (sym desk) (end_empty 4108 s seen part answers old.desk old.kept is none reached),
    breaks_front old.output new.output old.waiting [] begun,
  )

  last_line : (mid t s : S) (seen part answers kept text out : List ℕ) → 0 < length kept → text ≡ kept → A mid (asks text) out t → kept ≡ take 4109 part → Reached asks A s seen part answers mid
      → AnsweredAs asks A s (cut seen) (answers ++ out) t
  last_line mid t s seen part answers kept text out some same answered is reached =
      end_line 4108 s seen part answers kept mid out t (lit< tt) is some reached (subst (λ (l : List ℕ). A mid (asks l) out t) same answered)

  -- the last line was answered, and its answer goes out
  pub finish_line : (old now new : Talk S) (text : List ℕ) → 0 < length old.kept → text ≡ old.kept → LineDone A old.desk (asks text) now.desk old.output now.output old.waiting now.waiting
      → new.desk ≡ now.desk → Passes now.output new.output [] now.waiting → Finishes asks A old new
  finish_line old now new text some same done desk out = λ s seen part answers is reached. (
    done.0,
    subst (λ (d : S). AnsweredAs asks A s (cut seen) (answers ++ done.0) d) (sym desk)
        (last_line old.desk now.desk s seen part answers old.kept text done.0 some same done.1 is reached),
    passes_out old.output now.output new.output now.waiting (old.waiting ++ done.0) done.2 out,
  )

  pub finish_line_stops : (old now new : Talk S) (text : List ℕ) → 0 < length old.kept → text ≡ old.kept → LineDone A old.desk (asks text) now.desk old.output now.output old.waiting now.waiting
      → new.desk ≡ now.desk → Breaks now.output new.output now.waiting → FinishStops asks A old new
  finish_line_stops old now new text some same done desk begun = λ s seen part answers is reached. (
    done.0,
    subst (λ (d : S). AnsweredAs asks A s (cut seen) (answers ++ done.0) d) (sym desk)
        (last_line old.desk now.desk s seen part answers old.kept text done.0 some same done.1 is reached),
    breaks_out old.output now.output new.output now.waiting (old.waiting ++ done.0) done.2 begun,
  )

  pub finish_stops : (old new : Talk S) (text : List ℕ) → 0 < length old.kept → text ≡ old.kept → LineStops A old.desk (asks text) new.desk old.output new.output old.waiting → FinishStops asks A old new
  finish_stops old new text some same stopped = λ s seen part answers is reached.
      (stopped.0, last_line old.desk new.desk s seen part answers old.kept text stopped.0 some same stopped.1 is reached, stopped.2)

  -- ---- whole reads

  -- a whole chunk was fed
  pub fed : (n : ℕ) (s : S) (seen chunk : List ℕ) (old : Option (List ℕ)) (now next : Talk S) → (h : AnsweredSoFar asks A n s seen [] [] old now)
      → AnsweredSoFar asks A n s (seen ++ chunk) h.answers now.waiting now.output next → AnsweredSoFar asks A n s (seen ++ chunk) [] [] old next
  fed n s seen chunk old now next h k = record {
    part = k.part;
    answers = h.answers ++ k.answers;
    keeps = k.keeps;
    reached = k.reached;
    passes = passes_then old now.output next.output [] now.waiting next.waiting h.answers k.answers h.passes k.passes;
  }

  -- these lines were answered, and the answers were written so
  answered_by : (P : List (List ℕ) → Type 0) (W : List ℕ → Type 0) (s t : S) (pieces : List (List ℕ)) (text : List ℕ) → P pieces → AnsweredAs asks A s pieces text t → W text → LinesAnswered P (InTurn asks A s t) W
  answered_by P W s t pieces text picked done out = record { taken = pieces; answers = done.outs; picked = picked; answered = done.answered; out = subst W done.whole out }

  pub some_short : (known : Option (List ℕ)) (s t : S) (a c : Option (List ℕ)) → LinesAnswered (FirstLines known) (InTurn asks A s t) (Breaks a c) → LinesAnswered (FirstLines known) (InTurn asks A s t) (Begins a c)
  some_short known s t a c h = out_so (FirstLines known) (InTurn asks A s t) (Breaks a c) (Begins a c) (begins_so a c) h

  pub all_done : (n : ℕ) (s : S) (seen : List ℕ) (old known : Option (List ℕ)) (now new : Talk S) → (h : AnsweredSoFar asks A n s seen [] [] old now) → IsInput known seen
      → (out : List ℕ) × AnsweredAs asks A s (cut seen) (h.answers ++ out) new.desk × Passes now.output new.output [] (now.waiting ++ out)
      → LinesAnswered (AllLines known) (InTurn asks A s new.desk) (Appends old new.output)
  all_done n s seen old known now new h input done =
      let text = h.answers ++ done.0 in
      answered_by (AllLines known) (Appends old new.output) s new.desk (cut seen) text (seen, input, refl) done.1
      (passes_whole old new.output text (passes_then old now.output new.output [] now.waiting [] h.answers done.0 h.passes done.2))

  -- no more was read
  pub first_done : (n : ℕ) (s : S) (seen : List ℕ) (old p q : Option (List ℕ)) (now : Talk S) → AnsweredSoFar asks A n s seen [] [] old now → now.waiting ≡ [] → Consumes p q seen
      → LinesAnswered (FirstLines p) (InTurn asks A s now.desk) (Appends old now.output)
  first_done n s seen old p q now h none taken =
      let more = input_begun p q seen taken in
      let some = some_reached asks A s seen h.part h.answers more.0 now.desk h.reached in
      answered_by (FirstLines p) (Appends old now.output) s now.desk (take some.0 (cut (seen ++ more.0))) h.answers (seen ++ more.0, some.0, more.1, refl) some.1
      (passes_whole old now.output h.answers (subst (λ (w : List ℕ). Passes old now.output w h.answers) none h.passes))

  -- the writer stopped at the end of the input
  pub end_stopped : (n : ℕ) (s : S) (seen : List ℕ) (old known : Option (List ℕ)) (now new : Talk S) → (h : AnsweredSoFar asks A n s seen [] [] old now) → IsInput known seen
      → (out : List ℕ) × AnsweredAs asks A s (cut seen) (h.answers ++ out) new.desk × Breaks now.output new.output (now.waiting ++ out)
      → LinesAnswered (FirstLines known) (InTurn asks A s new.desk) (Breaks old new.output)
  end_stopped n s seen old known now new h input done =
      answered_by (FirstLines known) (Breaks old new.output) s new.desk (cut seen) (h.answers ++ done.0) (all_are_first known (cut seen) (seen, input, refl)) done.1
      (breaks_then old now.output new.output [] now.waiting h.answers done.0 h.passes done.2)

  -- it stopped in a chunk
  pub feed_stopped : (n : ℕ) (s : S) (seen chunk : List ℕ) (old p q : Option (List ℕ)) (now new : Talk S) → (h : AnsweredSoFar asks A n s seen [] [] old now) → Consumes p q (seen ++ chunk)
      → Stops asks A s (seen ++ chunk) h.answers now.waiting now.output new → LinesAnswered (FirstLines p) (InTurn asks A s new.desk) (Breaks old new.output)
  feed_stopped n s seen chunk old p q now new h taken stopped =
      let more = input_begun p q (seen ++ chunk) taken in
      let input = (seen ++ chunk) ++ more.0 in
      let some = stopped.1 more.0 in
      answered_by (FirstLines p) (Breaks old new.output) s new.desk (take some.0 (cut input)) (h.answers ++ stopped.0) (input, some.0, more.1, refl) some.1
      (breaks_then old now.output new.output [] now.waiting h.answers stopped.0 h.passes stopped.2)

  -- the reader stopped between two reads
  pub read_done : (n : ℕ) (s : S) (seen : List ℕ) (old p q : Option (List ℕ)) (now : Talk S) → AnsweredSoFar asks A n s seen [] [] old now → now.waiting ≡ [] → Consumes p q seen
      → LinesAnswered (EndedLines p q) (InTurn asks A s now.desk) (Appends old now.output)
  read_done n s seen old p q now h none taken =
      answered_by (EndedLines p q) (Appends old now.output) s now.desk (whole_lines seen) h.answers (seen, taken, refl) (read_reached asks A s seen h.part h.answers now.desk h.reached)
      (passes_whole old now.output h.answers (subst (λ (w : List ℕ). Passes old now.output w h.answers) none h.passes))

  pub read_stopped : (n : ℕ) (s : S) (seen : List ℕ) (old p q : Option (List ℕ)) (now : Talk S) → AnsweredSoFar asks A n s seen [] [] old now → Consumes p q seen
      → LinesAnswered (FirstLines p) (InTurn asks A s now.desk) (Begins old now.output)
  read_stopped n s seen old p q now h taken =
      let more = input_begun p q seen taken in
      let some = some_reached asks A s seen h.part h.answers more.0 now.desk h.reached in
      answered_by (FirstLines p) (Begins old now.output) s now.desk (take some.0 (cut (seen ++ more.0))) h.answers (seen ++ more.0, some.0, more.1, refl) some.1
      (record { front = h.passes.sent; rest = now.waiting; whole = h.passes.whole; written = h.passes.written })

  -- nothing was read
  pub nothing_read : (s : S) (p a : Option (List ℕ)) → LinesAnswered (FirstLines p) (InTurn asks A s s) (Begins a a)
  nothing_read s p a =
      let now : Talk S = record { desk = s; kept = []; waiting = []; output = a } in
      read_stopped 0 s [] a p p now (starts 0 now refl refl) (Consumes-nil p)
