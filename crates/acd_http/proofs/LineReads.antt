-- The text written for a line that reads; and lines lead to the run of the requests among them.
use Rattle.std.proofs.Common.{◌≡◌, inl, inr, ℕ, List, [], ◌∷◌, ◌++◌, map, Bool, Option, Result, Ok, Err, String, IfOk, refl, sym, ap, subst, ◌∙◌, append_assoc, append-nil}
use Rattle.std.proofs.lemmas.List.{map-append}
use Rattle.acd_terms.specs.declared.command.Arrival.{Arrival}
use Rattle.acd_book.specs.Content.{Content}
use Rattle.acd_desk.specs.declared.taken.Taken.{Taken}
use Rattle.acd_desk.specs.Contents.Arrivals.{arrival_at}
use Rattle.acd_desk.specs.Desks.DeskCalls.{DeskState}
use Rattle.acd_desk.proofs.Contents.RunsOfAnyContent.{sound_led}
use Rattle.acd_desk.specs.Desks.ArrivalsAndReads.{Attended}
use Rattle.acd_desk.proofs.Desks.CallsInTurn.{Settles, ran_nothing, attended_ran, attended_more, attended_read}
use Rattle.acd_desk.specs.Reads.DeskReads.{ReadDone}
use Rattle.acd_desk.specs.Reads.ReadAnswers.{text_read, question_read, is_plain}
use Rattle.acd_desk.specs.declared.question.Question.{Question}
use Rattle.acd_desk.specs.Reads.AnswerTexts.{seen_text}
use Rattle.acd_desk.specs.declared.answer_text.AnswerText.{AnswerText}
use Rattle.acd_desk.specs.declared.fault.DeskFault.{DeskFault}
use Rattle.acd_desk.specs.declared.fault.DeskFault.TheVariants as fault
use Rattle.acd_desk.proofs.Pages.ReadsDone.{read_seen, read_no_memory}
use Rattle.acd_lines.specs.Answers.{answered_text}
use Rattle.acd_lines.specs.Input.{no_moment, too_long, faulty, arrival, text_of_line}
use Rattle.acd_http.specs.LinesWithReads.{ReadingLine, plain, get, reading_line_of, found_line, SaysFound, AnswersRead, IsReadAnswer, ReadingAnswers, asked_by, all_asked, AnswersReads, ReadAfterLines, accepted_before, led_before, IsReadFrom, IfOpen, LinesLeadToTheRun, ReadsAnswerByTheContent, ReadsAnswerByTheRun}

module _ {D Z : Type 0} (stands : D → DeskState) where
  -- the desk's answer, or noMemory in its place
  pub answers_look : (d e : D) (moment : ℕ) (question : Question) (as_text : Bool) (found : Result (Option (String Z)) DeskFault) (answer : AnswerText) → as_text ≡ is_plain question
      → SaysFound answer as_text (seen_text found) → ReadDone (stands d) (stands e) found (λ (c : Content) (text : Option (String Z)). text_read text ≡ question_read c moment question)
      → AnswersRead stands d moment (Ok question) (answered_text answer) e
  answers_look d e moment question as_text found answer same (inl is) h = inr (
    seen_text found,
    is ∙ ap (λ (b : Bool). found_line b (seen_text found)) same,
    read_seen (stands d) (stands e) found (λ (c : Content). question_read c moment question) h,
  )
  answers_look d e moment question as_text (Ok text) answer same (inr lost) h = inr (
    Err fault.NoMemory,
    lost.1,
    read_no_memory (stands d) (stands e) text (λ (c : Content) (x : Option (String Z)). text_read x ≡ question_read c moment question)
        (λ (c : Content) (x : Option (List ℕ)). x ≡ question_read c moment question) h,
  )
  answers_look d e moment question as_text (Err why) answer same (inr lost) h = absurd lost.0

-- ---- lines lead to the run

abbrev arrived : Arrival × Taken → Arrival
arrived p = p.0

abbrev answered : Arrival × Taken → Taken
answered p = p.1

module _ {D : Type 0} (stands : D → DeskState) (settles : (d : D) → Settles (stands d)) where
  -- the arrivals of a list after others, and their answers after others
  abbrev So : D → List Arrival → List Taken → List (Arrival × Taken) → D → Type 0
  So s l ts more e = Attended (stands s) (l ++ map arrived more) (ts ++ map answered more) (stands e)

  none_more : (s d e : D) (l : List Arrival) (ts : List Taken) → e ≡ d → Attended (stands s) l ts (stands d) → So s l ts [] e
  none_more s d e l ts same h =
      subst (λ (x : D). So s l ts [] x) (sym same)
      (subst (λ (y : List Arrival). Attended (stands s) y (ts ++ []) (stands d)) (sym (append-nil l)) (subst (λ (z : List Taken). Attended (stands s) l z (stands d)) (sym (append-nil ts)) h))

  one_more : (s d e : D) (l : List Arrival) (ts : List Taken) (line : ReadingLine) (out : List ℕ) (a : ReadingAnswers stands d line out e) → Attended (stands s) l ts (stands d) → So s l ts (asked_by stands d line out e a) e
  one_more s d e l ts (plain no_moment) out a h = none_more s d e l ts a.1 h
  one_more s d e l ts (plain too_long) out a h = none_more s d e l ts a.1 h
  one_more s d e l ts (plain (faulty member)) out a h = none_more s d e l ts a.1 h
  one_more s d e l ts (plain (arrival moment r)) out a h = attended_more (stands s) (stands d) (stands e) l ts (arrival_at moment r) a.0 (settles e) h a.2
  one_more s d e l ts (get moment (Err why)) out a h = none_more s d e l ts a.1 h
  one_more s d e l ts (get moment (Ok question)) out (inl a) h = none_more s d e l ts a.1 h
  one_more s d e l ts (get moment (Ok question)) out (inr a) h =
      none_more s e e l ts refl (attended_read (stands s) (stands d) (stands e) l ts a.0 (λ (c : Content) (text : _). text ≡ question_read c moment question) h a.2)

  joined : {A : Type 0} (f : Arrival × Taken → A) (l : List A) (p q : List (Arrival × Taken)) → ((l ++ map f p) ++ map f q) ≡ (l ++ map f (p ++ q))
  joined f l p q = append_assoc l (map f p) (map f q) ∙ ap (λ (m : List _). l ++ m) (sym (map-append f p q))

  on_and_on : (s d e : D) (l : List Arrival) (ts : List Taken) (pieces outs : List (List ℕ)) (h : AnswersReads stands d pieces outs e) → Attended (stands s) l ts (stands d) → So s l ts (all_asked stands d pieces outs e h) e
  on_and_on s d e l ts [] [] h before = none_more s d e l ts h before
  on_and_on s d e l ts [] (o ∷ os) h before = absurd h
  on_and_on s d e l ts (piece ∷ pieces) [] h before = absurd h
  on_and_on s d e l ts (piece ∷ pieces) (o ∷ os) h before =
      let p = asked_by stands d (reading_line_of (text_of_line piece)) o h.0 h.1 in
      let q = all_asked stands h.0 pieces os e h.2 in
      let rest = on_and_on s h.0 e (l ++ map arrived p) (ts ++ map answered p) pieces os h.2 (one_more s d h.0 l ts (reading_line_of (text_of_line piece)) o h.1 before) in
      subst (λ (y : List Arrival). Attended (stands s) y (ts ++ map answered (p ++ q)) (stands e)) (joined arrived l p q)
      (subst (λ (z : List Taken). Attended (stands s) ((l ++ map arrived p) ++ map arrived q) z (stands e)) (joined answered ts p q) rest)

  pub lines_lead_to_the_run : LinesLeadToTheRun stands
  lines_lead_to_the_run d e pieces outs h = on_and_on d d e [] [] pieces outs h (attended_ran (stands d) (stands d) [] [] (ran_nothing (stands d) (settles d)))

  -- the content gives what was found
  found_answers : (c : Content) (moment : ℕ) (question : Question) (out : List ℕ) (found : Result (Option (List ℕ)) DeskFault) → out ≡ found_line (is_plain question) found → IfOk found (λ (text : Option (List ℕ)). text ≡ question_read c moment question) → IsReadAnswer c moment question out
  found_answers c moment question out (Ok text) is h = inl (is ∙ ap (λ (x : Option (List ℕ)). found_line (is_plain question) (Ok x)) h)
  found_answers c moment question out (Err fault.NoMemory) is h = inr (inl is)
  found_answers c moment question out (Err fault.StoreFault) is h = inr (inr is)

  by_the_content : (d f : D) (r : ReadAfterLines stands d f) → ReadingAnswers stands r.between (get r.moment (Ok r.question)) r.out f → IfOpen stands d f r (IsReadFrom stands d f r (led_before stands d f r))
  by_the_content d f r (inl a) = λ clean sound first step opened. inr (inl a.0)
  by_the_content d f r (inr a) =
      let run = lines_lead_to_the_run d r.between r.pieces r.outs r.lines in
      λ clean sound first step opened.
      let before = a.2.step.clean clean in
      found_answers (led_before stands d f r) r.moment r.question r.out a.0 a.1
      (subst (λ (c : Content). IfOk a.0 (λ (text : Option (List ℕ)). text ≡ question_read c r.moment r.question)) ((run.leads before sound first step).content opened)
      (a.2.value clean (run.sound before sound) (run.in_step before sound step) opened))

  pub reads_answer_by_the_content : ReadsAnswerByTheContent stands
  reads_answer_by_the_content d f r = by_the_content d f r r.read

  pub reads_answer_by_the_run : ReadsAnswerByTheRun stands
  reads_answer_by_the_run d f r = λ clean starts opened.
      subst (IsReadFrom stands d f r) (sound_led (stands d).book.content (accepted_before stands d f r) starts.3)
      (reads_answer_by_the_content d f r clean starts.0 starts.1 starts.2 opened)
