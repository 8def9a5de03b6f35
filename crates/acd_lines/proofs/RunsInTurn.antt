-- The lines that a desk answered one after the other, and what they say of the desk.
use Rattle.std.proofs.Common.{◌≡◌, ℕ, List, [], ◌∷◌, ◌++◌, refl, sym, ap, subst, ◌∙◌, append_assoc, append-nil}
use Rattle.acd_terms.specs.declared.command.Arrival.{Arrival}
use Rattle.acd_desk.specs.declared.taken.Taken.{Taken}
use Rattle.acd_desk.specs.Contents.Arrivals.{arrival_at}
use Rattle.acd_desk.specs.Desks.DeskCalls.{DeskState, Ran}
use Rattle.acd_desk.proofs.Desks.CallsInTurn.{Settles, ran_nothing, ran_more}
use Rattle.acd_lines.specs.Input.{Line, no_moment, too_long, faulty, arrival, line_of, text_of_line, lines_of, arrivals_in}
use Rattle.acd_lines.specs.Answers.{Answers}
use Rattle.acd_lines.specs.Output.{AnswerLines}
use Rattle.acd_lines.specs.Parts.{AnswersEach}

-- the arrivals of a line, and those of the lines after it
arrivals_rest : (line : Line) (lines : List Line) → arrivals_in (line ∷ lines) ≡ arrivals_in (line ∷ []) ++ arrivals_in lines
arrivals_rest no_moment lines = refl
arrivals_rest too_long lines = refl
arrivals_rest (faulty member) lines = refl
arrivals_rest (arrival moment request) lines = refl

module _ {D : Type 0} (stands : D → DeskState) where
  -- one line more
  abbrev pub OneLine : D → List Arrival → List Taken → D → Line → List ℕ → Type 0
  OneLine s l ts e line out = (more : List Taken) × Ran (stands s) (l ++ arrivals_in (line ∷ [])) (ts ++ more) (stands e)
      × ((lines : List Line) (answers : List Taken) (outs : List (List ℕ)) → AnswerLines lines answers outs → AnswerLines (line ∷ lines) (more ++ answers) (out ∷ outs))

  quiet : (s d e : D) (l : List Arrival) (ts : List Taken) → e ≡ d → Ran (stands s) l ts (stands d) → Ran (stands s) (l ++ []) (ts ++ []) (stands e)
  quiet s d e l ts same ran =
      subst (λ (x : D). Ran (stands s) (l ++ []) (ts ++ []) (stands x)) (sym same)
      (subst (λ (y : List Arrival). Ran (stands s) y (ts ++ []) (stands d)) (sym (append-nil l)) (subst (λ (z : List Taken). Ran (stands s) l z (stands d)) (sym (append-nil ts)) ran))

  one_line : ((d : D) → Settles (stands d)) → (s d e : D) (l : List Arrival) (ts : List Taken) (line : Line) (out : List ℕ) → Ran (stands s) l ts (stands d) → Answers stands d line out e → OneLine s l ts e line out
  one_line settles s d e l ts no_moment out ran h = ([], quiet s d e l ts h.1 ran, λ lines answers outs rest. (h.0, rest))
  one_line settles s d e l ts too_long out ran h = ([], quiet s d e l ts h.1 ran, λ lines answers outs rest. (h.0, rest))
  one_line settles s d e l ts (faulty member) out ran h = ([], quiet s d e l ts h.1 ran, λ lines answers outs rest. (h.0, rest))
  one_line settles s d e l ts (arrival moment r) out ran h =
      (h.0 ∷ [], ran_more (stands s) (stands d) (stands e) l ts (arrival_at moment r) h.0 (settles e) ran h.2, λ lines answers outs rest. (h.1, rest))

  answers_on : ((d : D) → Settles (stands d)) → (s d e : D) (l : List Arrival) (ts : List Taken) (pieces outs : List (List ℕ)) → Ran (stands s) l ts (stands d) → AnswersEach line_of (Answers stands) d pieces outs e
      → (more : List Taken) × AnswerLines (lines_of pieces) more outs × Ran (stands s) (l ++ arrivals_in (lines_of pieces)) (ts ++ more) (stands e)
  answers_on settles s d e l ts [] [] ran h = ([], tt, quiet s d e l ts h ran)
  answers_on settles s d e l ts [] (o ∷ os) ran h = absurd h
  answers_on settles s d e l ts (p ∷ ps) [] ran h = absurd h
  answers_on settles s d e l ts (p ∷ ps) (o ∷ os) ran h =
      let line : Line = line_of (text_of_line p) in
      let one = one_line settles s d h.0 l ts line o ran h.1 in
      let rest = answers_on settles s h.0 e (l ++ arrivals_in (line ∷ [])) (ts ++ one.0) ps os one.1 h.2 in (
        one.0 ++ rest.0,
        one.2 (lines_of ps) rest.0 os rest.1,
        subst (λ (y : List Arrival). Ran (stands s) y (ts ++ (one.0 ++ rest.0)) (stands e)) (append_assoc l (arrivals_in (line ∷ [])) (arrivals_in (lines_of ps)) ∙ ap (λ (y : List Arrival). l ++ y) (sym (arrivals_rest line (lines_of ps))))
            (subst (λ (z : List Taken). Ran (stands s) ((l ++ arrivals_in (line ∷ [])) ++ arrivals_in (lines_of ps)) z (stands e)) (append_assoc ts one.0 rest.0) rest.2),
      )

  -- the answers to the arrivals, of which the desk's contract speaks
  pub run_in_turn : ((d : D) → Settles (stands d)) → (s e : D) (pieces outs : List (List ℕ)) → AnswersEach line_of (Answers stands) s pieces outs e
      → (answers : List Taken) × AnswerLines (lines_of pieces) answers outs × Ran (stands s) (arrivals_in (lines_of pieces)) answers (stands e)
  run_in_turn settles s e pieces outs h = answers_on settles s s e [] [] pieces outs (ran_nothing (stands s) (settles s)) h
