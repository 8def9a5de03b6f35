-- The requests of a plan, one after the other.
use Rattle.std.proofs.Common.{◌≡◌, ℕ, ◌+◌, ◌<◌, ◌≤◌, List, [], ◌∷◌, ◌++◌, length, map, take, get_or, Option, refl, sym, ap, subst, ◌∙◌, arith, append-nil}
use Rattle.std.proofs.lemmas.Grind.{common_steps}
use Rattle.std.specs.List.{concat}
use Rattle.std.proofs.lemmas.List.Folds.{concat-append}
use Rattle.std.specs.Io.KnownBytes.{Appends}
use Rattle.acd_terms.specs.declared.command.Request.{Request}
use Rattle.acd_terms.specs.declared.command.Arrival.{Arrival}
use Rattle.acd_desk.specs.declared.taken.Taken.{Taken}
use Rattle.acd_desk.specs.Contents.Arrivals.{arrival_at}
use Rattle.acd_desk.specs.Desks.DeskCalls.{DeskState, Ran}
use Rattle.acd_desk.proofs.Desks.CallsInTurn.{Settles, ran_nothing, ran_more}
use Rattle.acd_lines.specs.Input.{arrival}
use Rattle.acd_lines.specs.Answers.{Answers, taken_line}
use Rattle.acd_lines.specs.Output.{AnswerLines, imported}
use Rattle.acd_io.specs.SentBytes.{Passes, Breaks}
use Rattle.acd_lines.specs.Parts.{LineDone, LineStops, Imports, ImportStops, HasImported}
use Rattle.acd_io.proofs.Sends.{passes_nothing, passes_then, passes_out, passes_whole, breaks_then, breaks_out}
use Rattle.acd_lines.specs.Lines.{LinesAnswered, AllRequests}
use Rattle.acd_lines.proofs.WeakerAnswers.{out_so}

-- one answer line more
answered_more : (rs : List Request) (ts : List Taken) (outs : List (List ℕ)) (r : Request) (t : Taken) (out : List ℕ) → out ≡ taken_line r t → AnswerLines (imported rs) ts outs
    → AnswerLines (imported (rs ++ r ∷ [])) (ts ++ t ∷ []) (outs ++ out ∷ [])
answered_more [] [] [] r t out is h = (is, tt)
answered_more [] (u ∷ ts) outs r t out is h = absurd h
answered_more [] [] (o ∷ outs) r t out is h = absurd h
answered_more (q ∷ rs) [] outs r t out is h = absurd h
answered_more (q ∷ rs) (u ∷ ts) [] r t out is h = absurd h
answered_more (q ∷ rs) (u ∷ ts) (o ∷ outs) r t out is h = (h.0, answered_more rs ts outs r t out is h.1)

arrived_more : (rs : List Request) (r : Request) → map (arrival_at 0) (rs ++ r ∷ []) ≡ map (arrival_at 0) rs ++ arrival_at 0 r ∷ []
arrived_more [] r = refl
arrived_more (q ∷ rs) r = ap (λ (l : List Arrival). arrival_at 0 q ∷ l) (arrived_more rs r)

text_more : (outs : List (List ℕ)) (out : List ℕ) → concat (outs ++ out ∷ []) ≡ concat outs ++ out
text_more outs out = concat-append outs (out ∷ []) ∙ ap (λ (l : List ℕ). concat outs ++ l) (append-nil out)

pub take_more : (i : ℕ) (rs : List Request) (r d : Request) → r ≡ get_or rs i d → i < length rs → take (i + 1) rs ≡ take i rs ++ r ∷ []
take_more i rs r d e h = subst (λ (x : Request). take (i + 1) rs ≡ take i rs ++ x ∷ []) (sym e) (grind (arith, common_steps))

pub take_whole : (i : ℕ) (rs : List Request) → length rs ≤ i → take i rs ≡ rs
take_whole i rs h = grind (arith, common_steps)

module _ {D : Type 0} (stands : D → DeskState) (settles : (d : D) → Settles (stands d)) where
  -- none was executed
  pub imports_none : (d : D) (a : Option (List ℕ)) (waiting : List ℕ) → waiting ≡ [] → Imports stands d [] d a a waiting
  imports_none d a waiting none = record {
    taken = [];
    answers = [];
    picked = refl;
    answered = ([], tt, ran_nothing (stands d) (settles d));
    out = subst (λ (w : List ℕ). Passes a a w []) (sym none) (passes_nothing a []);
  }

  -- one more was executed
  one_more : (d mid e : D) (rs : List Request) (outs : List (List ℕ)) (r : Request) (out : List ℕ) → HasImported stands d mid rs outs → Answers stands mid (arrival 0 r) out e → HasImported stands d e (rs ++ r ∷ []) (outs ++ out ∷ [])
  one_more d mid e rs outs r out h answer = (
    h.0 ++ answer.0 ∷ [],
    answered_more rs h.0 outs r answer.0 out answer.1 h.1,
    subst (λ (l : List Arrival). Ran (stands d) l (h.0 ++ answer.0 ∷ []) (stands e)) (sym (arrived_more rs r))
        (ran_more (stands d) (stands mid) (stands e) (map (arrival_at 0) rs) h.0 (arrival_at 0 r) answer.0 (settles e) h.2 answer.2),
  )

  pub imports_more : (d mid e : D) (rs : List Request) (r : Request) (a b c : Option (List ℕ)) (waiting waiting' : List ℕ) → Imports stands d rs mid a b waiting
      → LineDone (Answers stands) mid (arrival 0 r) e b c waiting waiting' → Imports stands d (rs ++ r ∷ []) e a c waiting'
  imports_more d mid e rs r a b c waiting waiting' h done = record {
    taken = h.taken ++ r ∷ [];
    answers = h.answers ++ done.0 ∷ [];
    picked = ap (λ (l : List Request). l ++ r ∷ []) h.picked;
    answered = one_more d mid e h.taken h.answers r done.0 h.answered done.1;
    out = subst (Passes a c waiting') (sym (text_more h.answers done.0)) (passes_then a b c [] waiting waiting' (concat h.answers) done.0 h.out done.2);
  }

  -- the writer stopped at one
  pub import_stopped : (d mid e : D) (all rs : List Request) (r : Request) (n : ℕ) (a b c : Option (List ℕ)) (waiting : List ℕ) → take n all ≡ rs ++ r ∷ [] → Imports stands d rs mid a b waiting
      → LineStops (Answers stands) mid (arrival 0 r) e b c waiting → ImportStops stands d all e a c
  import_stopped d mid e all rs r n a b c waiting is h stopped = record {
    taken = h.taken ++ r ∷ [];
    answers = h.answers ++ stopped.0 ∷ [];
    picked = (n, ap (λ (l : List Request). l ++ r ∷ []) h.picked ∙ sym is);
    answered = one_more d mid e h.taken h.answers r stopped.0 h.answered stopped.1;
    out = subst (Breaks a c) (sym (text_more h.answers stopped.0)) (breaks_then a b c [] waiting (concat h.answers) stopped.0 h.out stopped.2);
  }

module _ {D : Type 0} (stands : D → DeskState) where
  -- all were executed, and the waiting bytes were written
  pub imports_out : (d e : D) (rs all : List Request) (a b c : Option (List ℕ)) (waiting : List ℕ) → rs ≡ all → Imports stands d rs e a b waiting → Passes b c [] waiting → Imports stands d all e a c []
  imports_out d e rs all a b c waiting is h out = record {
    taken = h.taken;
    answers = h.answers;
    picked = h.picked ∙ is;
    answered = h.answered;
    out = passes_out a b c waiting (concat h.answers) h.out out;
  }

  -- the writer stopped after them
  pub import_stopped_out : (d e : D) (all : List Request) (n : ℕ) (a b c : Option (List ℕ)) (waiting : List ℕ) → Imports stands d (take n all) e a b waiting → Breaks b c waiting → ImportStops stands d all e a c
  import_stopped_out d e all n a b c waiting h stopped = record {
    taken = h.taken;
    answers = h.answers;
    picked = (n, h.picked);
    answered = h.answered;
    out = breaks_out a b c waiting (concat h.answers) h.out stopped;
  }

  -- nothing waits after them
  pub import_written : (d e : D) (rs : List Request) (a c : Option (List ℕ)) → Imports stands d rs e a c [] → LinesAnswered (AllRequests rs) (HasImported stands d e) (Appends a c)
  import_written d e rs a c h = out_so (AllRequests rs) (HasImported stands d e) (Passes a c []) (Appends a c) (passes_whole a c) h
