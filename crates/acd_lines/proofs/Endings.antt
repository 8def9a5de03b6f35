-- How answering lines ended, by what was answered.
use Rattle.std.proofs.Common.{◌≡◌, ℕ, Bool, true, List, Result, Ok, Err, IsErrAnd, sym, subst, ◌∙◌, true≢false}
use Rattle.std.specs.Io.KnownBytes.{Appends}
use Rattle.acd_desk.specs.Desks.DeskCalls.{DeskState}
use Rattle.acd_io.specs.SentBytes.{Begins}
use Rattle.acd_lines.specs.declared.fault.LinesFault.{LinesFault}
use Rattle.acd_lines.specs.declared.fault.LinesFault.TheVariants.{Read, Write, NoMemory}
use Rattle.acd_lines.specs.Lines.{LinesAnswered, AllLines, FirstLines, Streams, EndedBy, LinesDone}
use Rattle.acd_lines.proofs.WeakerAnswers.{picked_so, answered_so, all_are_first}

-- `T d e` says how lines were answered from d to e
module _ {D : Type 0} (stands : D → DeskState) (T : D → D → List (List ℕ) → List (List ℕ) → Type 0) (ends : Bool) (io : Streams) (d e : D) where
  -- the whole input was answered
  pub done_whole : LinesAnswered (AllLines io.old_input) (T d e) (Appends io.old_output io.new_output) → LinesDone stands T ends io d e (Ok tt)
  done_whole h = record { all = λ well. h; first = picked_so (AllLines io.old_input) (FirstLines io.old_input) (T d e) (Appends io.old_output io.new_output) (all_are_first io.old_input) h; begun = tt; cause = tt }

  -- the desk failed, which was to end it
  pub done_failed : ends ≡ true → (stands e).failed ≡ true → LinesAnswered (FirstLines io.old_input) (T d e) (Appends io.old_output io.new_output) → LinesDone stands T ends io d e (Ok tt)
  done_failed asked failed h = record { all = λ well. absurd (true≢false (sym failed ∙ well asked)); first = h; begun = tt; cause = tt }

  -- a fault ended it
  pub done_by : (r : Result (Unit {0}) LinesFault) (x given : LinesFault) → IsErrAnd r (λ y. y ≡ x) → x ≡ given → LinesAnswered (FirstLines io.old_input) (T d e) (Begins io.old_output io.new_output) → EndedBy T io d e given → LinesDone stands T ends io d e r
  done_by (Ok u) x given is same h why = absurd is
  done_by (Err y) x given is same h why = record { all = tt; first = tt; begun = h; cause = subst (EndedBy T io d e) (sym (is ∙ same)) why }

  -- less is said of how they were answered
  module _ (U : D → D → List (List ℕ) → List (List ℕ) → Type 0) (so : (lines outs : List (List ℕ)) → T d e lines outs → U d e lines outs) where
    ended_so : (fault : LinesFault) → EndedBy T io d e fault → EndedBy U io d e fault
    ended_so Read h = answered_so _ (T d e) (U d e) _ so h
    ended_so Write h = answered_so _ (T d e) (U d e) _ so h
    ended_so NoMemory h = h

    pub done_so : (r : Result (Unit {0}) LinesFault) → LinesDone stands T ends io d e r → LinesDone stands U ends io d e r
    done_so (Ok u) h = record { all = λ well. answered_so _ (T d e) (U d e) _ so (h.all well); first = answered_so _ (T d e) (U d e) _ so h.first; begun = tt; cause = tt }
    done_so (Err fault) h = record { all = tt; first = tt; begun = answered_so _ (T d e) (U d e) _ so h.begun; cause = ended_so fault h.cause }
