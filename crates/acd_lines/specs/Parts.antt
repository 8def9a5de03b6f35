-- The lines that were answered so far, by what their texts ask for, and by a relation of the desk, what is asked, what is written for it, and the desk after it.
use Rattle.std.specs.Prelude.{◌≡◌, ℕ, List, [], ◌∷◌, ◌++◌, take, true, Option, Result}
use Rattle.std.specs.List.{concat, list_all}
use Rattle.std.specs.Io.BufRead.{ends_with_byte, strip_last}
use Rattle.acd_terms.specs.declared.command.Request.{Request}
use Rattle.acd_terms.specs.declared.command.Arrival.{Arrival}
use Rattle.acd_desk.specs.declared.taken.Taken.{Taken}
use Rattle.acd_desk.specs.Desks.DeskCalls.{DeskState, Ran}
use Rattle.acd_lines.specs.Input.{has_none, text_of_line, cut}
use Rattle.acd_io.specs.declared.sending.Stopped.{Stopped}
use Rattle.acd_io.specs.SentBytes.{Passes, Breaks}
use Rattle.acd_lines.specs.WaitingBytes.{OverCall, Pushed, Talk}
use Rattle.acd_lines.specs.Lines.{LinesAnswered, AllRequests, FirstRequests, RequestsAnswered}

module _ {S L : Type 0} (Answers : S → L → List ℕ → S → Type 0) where
  -- a line was answered
  abbrev pub LineDone : S → L → S → Option (List ℕ) → Option (List ℕ) → List ℕ → List ℕ → Type 0
  LineDone s line t old new before waiting = (out : List ℕ) × Answers s line out t × Passes old new waiting (before ++ out)

  -- a line was answered, and then the writer stopped
  abbrev pub LineStops : S → L → S → Option (List ℕ) → Option (List ℕ) → List ℕ → Type 0
  LineStops s line t old new before = (out : List ℕ) × Answers s line out t × Breaks old new (before ++ out)

  -- a line was answered, and its answer was pushed: by how that ended, the one or the other
  abbrev pub AnswerPushed : L → OverCall S → Result (Unit {0}) Stopped → Type 0
  AnswerPushed line over result = (text : List ℕ) × Answers over.old line text over.new × Pushed result over.out text

module _ {S L : Type 0} (asks : List ℕ → L) (Answers : S → L → List ℕ → S → Type 0) where
  -- the lines are answered in order, each by the desk that the earlier ones left
  abbrev pub AnswersEach : S → List (List ℕ) → List (List ℕ) → S → Type 0
  AnswersEach s [] [] t = t ≡ s
  AnswersEach s [] (out ∷ outs) t = ⊥
  AnswersEach s (piece ∷ pieces) [] t = ⊥
  AnswersEach s (piece ∷ pieces) (out ∷ outs) t = (mid : S) × Answers s (asks (text_of_line piece)) out mid × AnswersEach mid pieces outs t

  -- from one desk to another
  abbrev pub InTurn : S → S → List (List ℕ) → List (List ℕ) → Type 0
  InTurn s t pieces outs = AnswersEach s pieces outs t

  -- these lines were answered, by this text
  pub record AnsweredAs (s : S) (pieces : List (List ℕ)) (text : List ℕ) (t : S) : Type 0 where
    pub outs : List (List ℕ)
    pub answered : AnswersEach s pieces outs t
    pub whole : text ≡ concat outs

  -- the first lines of an input were
  abbrev pub FirstAnswered : S → List ℕ → List ℕ → S → Type 0
  FirstAnswered s input text t = (n : ℕ) × AnsweredAs s (take n (cut input)) text t

  -- the whole lines of seen were answered, and part is what came after them
  pub record Reached (s : S) (seen part answers : List ℕ) (t : S) : Type 0 where
    pub pieces : List (List ℕ)
    pub outs : List (List ℕ)
    pub cuts : (rest : List ℕ) → cut (seen ++ rest) ≡ pieces ++ cut (part ++ rest)
    pub ended : list_all (ends_with_byte 10) pieces ≡ true
    pub no_feed : has_none 10 part ≡ true
    pub answered : AnswersEach s pieces outs t
    pub whole : answers ≡ concat outs

  -- So far: earlier answers, and those after them. What waited before, and these, were written but for what waits. At most n bytes of a line are kept.
  pub record AnsweredSoFar (n : ℕ) (s : S) (seen earlier before : List ℕ) (old : Option (List ℕ)) (now : Talk S) : Type 0 where
    pub part : List ℕ
    pub answers : List ℕ
    pub keeps : now.kept ≡ take n part
    pub reached : Reached s seen part (earlier ++ answers) now.desk
    pub passes : Passes old now.output now.waiting (before ++ answers)

  -- more bytes lead on from what was reached
  abbrev pub Feeds : Talk S → Talk S → List ℕ → Type 0
  Feeds old new bytes = (s : S) (seen part answers : List ℕ) → old.kept ≡ take 4109 part → Reached s seen part answers old.desk
      → AnsweredSoFar 4109 s (seen ++ bytes) answers old.waiting old.output new

  -- the writer stopped, and some lines were answered of each input that begins with these bytes
  abbrev pub Stops : S → List ℕ → List ℕ → List ℕ → Option (List ℕ) → Talk S → Type 0
  Stops s seen answers before old new =
      (out : List ℕ) × ((more : List ℕ) → FirstAnswered s (seen ++ more) (answers ++ out) new.desk) × Breaks old new.output (before ++ out)

  abbrev pub FeedStops : Talk S → Talk S → List ℕ → Type 0
  FeedStops old new bytes = (s : S) (seen part answers : List ℕ) → old.kept ≡ take 4109 part → Reached s seen part answers old.desk
      → Stops s (seen ++ bytes) answers old.waiting old.output new

  -- the input is at its end
  abbrev pub Finishes : Talk S → Talk S → Type 0
  Finishes old new = (s : S) (seen part answers : List ℕ) → old.kept ≡ take 4109 part → Reached s seen part answers old.desk
      → (out : List ℕ) × AnsweredAs s (cut seen) (answers ++ out) new.desk × Passes old.output new.output [] (old.waiting ++ out)

  abbrev pub FinishStops : Talk S → Talk S → Type 0
  FinishStops old new = (s : S) (seen part answers : List ℕ) → old.kept ≡ take 4109 part → Reached s seen part answers old.desk
      → (out : List ℕ) × AnsweredAs s (cut seen) (answers ++ out) new.desk × Breaks old.output new.output (old.waiting ++ out)

module _ {D : Type 0} (stands : D → DeskState) where
  -- a desk has run over the requests of a plan
  abbrev pub HasImported : D → D → List Request → List (List ℕ) → Type 0
  HasImported d e requests outs = RequestsAnswered (λ (arrivals : List Arrival) (answers : List Taken). Ran (stands d) arrivals answers (stands e)) requests outs

  -- they were executed, and their answers were written but for what waits
  abbrev pub Imports : D → List Request → D → Option (List ℕ) → Option (List ℕ) → List ℕ → Type 0
  Imports d requests e old new waiting = LinesAnswered (AllRequests requests) (HasImported d e) (Passes old new waiting)

  -- the writer stopped, and some of them were executed
  abbrev pub ImportStops : D → List Request → D → Option (List ℕ) → Option (List ℕ) → Type 0
  ImportStops d requests e old new = LinesAnswered (FirstRequests requests) (HasImported d e) (Breaks old new)

-- the text of a line that ends in these bytes, of whose beginning at most 4109 bytes are kept
abbrev pub text_kept : List ℕ → List ℕ → List ℕ
text_kept kept end = strip_last 13 (take 4109 (kept ++ end))
