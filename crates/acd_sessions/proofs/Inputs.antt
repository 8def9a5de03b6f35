-- The lines of an input were answered, by the answers over a desk in memory or over a file.
use Rattle.std.proofs.Common.{◌≡◌, inl, inr, ℕ, Bool, true, false, List, Option, Result, Ok, Err, OnOk, sym, subst, true≢false}
use Rattle.std.specs.Io.KnownBytes.{Appends}
use Rattle.acd_book.specs.Content.{Content}
use Rattle.acd_book.specs.State.{unfailing}
use Rattle.acd_desk.specs.declared.desk.Desk.{Desk}
use Rattle.acd_desk.specs.Desks.DeskState.{DeskState, state_of}
use Rattle.acd_terms.proofs.Results.{ok_err, same_error}
use Rattle.acd_lines.specs.Laws.{RequestsRun}
use Rattle.acd_lines.specs.Answers.{Answers}
use Rattle.acd_lines.specs.Input.{line_of}
use Rattle.acd_io.specs.SentBytes.{Begins}
use Rattle.acd_lines.specs.Lines.{LinesAnswered, AllLines, FirstLines, ArrivalsAnswered, RunInTurn, Streams, streams, LinesDone}
use Rattle.acd_lines.specs.Parts.{InTurn}
use Rattle.acd_lines.specs.declared.fault.LinesFault.{LinesFault}
use Rattle.acd_lines.proofs.WeakerAnswers.{answered_so}
use Rattle.acd_sessions.specs.MemoryAnswers.{in_memory, IsNewDesk, AnsweredFromNothing}
use Rattle.acd_sessions.specs.Desks.{OverNewDesk}
use Rattle.acd_sessions.specs.LinesOver.{Whole, LinesInMemory, in_turn}
use Rattle.acd_sessions.specs.DeskAsLeft.{Seen, seen}
use Rattle.acd_sessions.specs.Sessions.{LinesAreFromNothing, memory_lines}
use Rattle.acd_sessions.specs.ToDo.{Ended}
use Rattle.acd_sessions.proofs.LeftDesks.{new_view, new_views, done_seen, seen_new}
use Rattle.acd_sessions.proofs.MemoryDesk.{in_memory_quiet, lines_from_nothing, answers_none}

-- ---- in memory

-- requests alone, to how many lines of the input they are
pub from_nothing : RequestsRun in_memory → (P : List (List ℕ) → Type 0) (W : List ℕ → Type 0) (d e : Desk Content) → IsNewDesk (state_of in_memory d)
    → LinesAnswered P (InTurn line_of (Answers (state_of in_memory)) d e) W → LinesAnswered P (ArrivalsAnswered AnsweredFromNothing) W
from_nothing runs P W d e opened h =
    lines_from_nothing P W (state_of in_memory d) (state_of in_memory e) opened (in_memory_quiet d e)
    (answered_so P (InTurn line_of (Answers (state_of in_memory)) d e) (RunInTurn in_memory d e) W (runs d e) h)

pub lines_are_from_nothing : {R W : Type 0} (remaining : R → Option (List ℕ)) (contents : W → Option (List ℕ)) → RequestsRun in_memory → LinesAreFromNothing remaining contents
lines_are_from_nothing remaining contents runs reader writer (Ok u) (inl none) = absurd (ok_err none.0)
lines_are_from_nothing {R} {W} remaining contents runs reader writer (Err why) (inl none) =
    subst (λ (w : W). LinesAnswered (FirstLines (remaining reader.0)) (ArrivalsAnswered AnsweredFromNothing) (Begins (contents writer.0) (contents w))) (sym none.1.1)
    (answers_none (remaining reader.0) (contents writer.0))
lines_are_from_nothing remaining contents runs reader writer (Ok u) (inr some) =
    from_nothing runs (AllLines (remaining reader.0)) (Appends (contents writer.0) (contents writer.1)) some.first some.final some.opened
    (some.did.all (λ asked. absurd (true≢false (sym asked))))
lines_are_from_nothing remaining contents runs reader writer (Err why) (inr some) =
    from_nothing runs (FirstLines (remaining reader.0)) (Begins (contents writer.0) (contents writer.1)) some.first some.final some.opened some.did.begun

memory_whole : (T : Desk Content → Desk Content → List (List ℕ) → List (List ℕ) → Type 0) (io : Streams) (r : Result (Unit {0}) LinesFault) → LinesInMemory T io r → OnOk r (OverNewDesk (Whole (state_of in_memory) T false io))
memory_whole T io (Err why) h = tt
memory_whole T io (Ok u) (inl none) = absurd (ok_err none.0)
memory_whole T io (Ok u) (inr some) = record {
  first = some.first;
  final = some.final;
  opened = some.opened;
  did = record { answered = some.did.all (λ asked. absurd (true≢false (sym asked))); well = λ asked. absurd (true≢false (sym asked)) };
}

-- all of them were answered or, after a fault, so
memory_ends_by : {R W : Type 0} (remaining : R → Option (List ℕ)) (contents : W → Option (List ℕ)) → LinesAreFromNothing remaining contents → (reads : Bool) (reader : R × R) (writer : W × W) (r : Result (Unit {0}) LinesFault)
    → LinesInMemory (in_turn reads (state_of in_memory)) (streams remaining contents reader writer) r → Ended (memory_lines reads (streams remaining contents reader writer)) r
memory_ends_by remaining contents law reads reader writer (Ok u) h = memory_whole (in_turn reads (state_of in_memory)) (streams remaining contents reader writer) (Ok u) h
memory_ends_by remaining contents law true reader writer (Err why) (inl none) = inl (same_error none.0, none.1)
memory_ends_by remaining contents law true reader writer (Err why) (inr some) =
    inr (seen_new (λ (d e : Desk Content). LinesDone (state_of in_memory) (in_turn true (state_of in_memory)) false (streams remaining contents reader writer) d e (Err why))
    (λ (stands : Seen Content → DeskState) (d e : Seen Content). LinesDone stands (in_turn true stands) false (streams remaining contents reader writer) d e (Err why))
    (λ d e h. (done_seen (state_of in_memory) (seen unfailing) new_view _ new_views d e tt false (streams remaining contents reader writer) (Err why) h).1) some)
memory_ends_by remaining contents law false reader writer (Err why) h = law reader writer (Err why) h

pub memory_ends : {R W : Type 0} (remaining : R → Option (List ℕ)) (contents : W → Option (List ℕ)) → LinesAreFromNothing remaining contents → (reads is_so : Bool) (reader : R × R) (writer : W × W) (r : Result (Unit {0}) LinesFault) → reads ≡ is_so
    → LinesInMemory (in_turn is_so (state_of in_memory)) (streams remaining contents reader writer) r → Ended (memory_lines reads (streams remaining contents reader writer)) r
memory_ends remaining contents law reads is_so reader writer r is h =
    subst (λ (b : Bool). Ended (memory_lines b (streams remaining contents reader writer)) r) (sym is) (memory_ends_by remaining contents law is_so reader writer r h)
