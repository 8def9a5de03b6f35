-- The lines of an input, by what was named.
use Rattle.std.proofs.Common.{◌≡◌, Bool, true, false, Option, Some, None, refl, sym, ap, subst}
use Rattle.std.specs.Io.KnownBytes.{Appends}
use Rattle.sqlite_disk.specs.declared.Disk.{Ghosts}
use Rattle.acd_book.specs.Content.{Content}
use Rattle.acd_book.specs.State.{unfailing}
use Rattle.acd_desk.specs.Desks.DeskState.{DeskState, state_of}
use Rattle.acd_lines.specs.Laws.{RequestsRun}
use Rattle.acd_lines.specs.Lines.{AllLines, Streams, Untouched}
use Rattle.acd_lines.specs.declared.fault.LinesFault.{LinesFault}
use Rattle.acd_sessions.specs.MemoryAnswers.{in_memory}
use Rattle.acd_sessions.specs.LinesOver.{Whole, NewAnswered, in_turn}
use Rattle.acd_sessions.specs.Faults.{lines_fault}
use Rattle.acd_sessions.specs.DeskAsLeft.{Seen, seen}
use Rattle.acd_sessions.specs.Sessions.{MemoryLeft}
use Rattle.acd_program.specs.Commands.Tasks.{MemoryAnswered, FileAnswered, InputAnswered}
use Rattle.acd_program.specs.Commands.TasksEnded.{LeftIn, InputLeft, LinesLeft}
use Rattle.acd_program.specs.declared.fault.Fault.{Fault}
use Rattle.acd_program.specs.declared.fault.Fault.TheVariants as ended_by
use Rattle.acd_sessions.specs.declared.fault.WorkFault.{WorkFault}
use Rattle.acd_program.specs.declared.status.Status.TheVariants.{Success}
use Rattle.acd_sessions.proofs.LeftDesks.{new_view, new_views, whole_seen, seen_new}
use Rattle.acd_sessions.proofs.Inputs.{from_nothing}

memory_answered : RequestsRun in_memory → (reads : Bool) (io : Streams) → NewAnswered reads io → MemoryAnswered reads io
memory_answered runs true io h =
    seen_new (Whole (state_of in_memory) (in_turn true (state_of in_memory)) false io) (λ (stands : Seen Content → DeskState). Whole stands (in_turn true stands) false io)
    (λ d e h. whole_seen (state_of in_memory) (seen unfailing) new_view _ new_views d e tt false io h) h
memory_answered runs false io h = from_nothing runs (AllLines io.old_input) (Appends io.old_output io.new_output) h.first h.final h.opened h.did.answered

-- of an input, by what was named
module _ {Name D : Type 0} (disk : Ghosts D) (IsFresh : Bool → D → Type 0) (named : Option Name) (reads ends : Bool) (io : Streams) where
  pub memory_input : RequestsRun in_memory → named ≡ None → NewAnswered reads io → InputAnswered disk IsFresh named reads ends io Success
  memory_input runs is h = subst (λ (n : Option Name). InputAnswered disk IsFresh n reads ends io Success) (sym is) (memory_answered runs reads io h, refl)

  pub memory_fault : (why : LinesFault) (fault : WorkFault) → named ≡ None → fault ≡ lines_fault why → MemoryLeft reads io why → InputLeft disk IsFresh named reads ends io (ended_by.Work fault)
  memory_fault why fault is same h = subst (λ (n : Option Name). InputLeft disk IsFresh n reads ends io (ended_by.Work fault)) (sym is) (why, ap ended_by.Work same, h)

  pub file_input : (file : Name) → named ≡ Some file → FileAnswered disk IsFresh reads ends io → InputAnswered disk IsFresh named reads ends io Success
  file_input file is h = subst (λ (n : Option Name). InputAnswered disk IsFresh n reads ends io Success) (sym is) (h, refl)

  pub file_fault : (file : Name) (fault : Fault) → named ≡ Some file → LeftIn disk IsFresh (Untouched io) (LinesLeft disk IsFresh reads ends io) fault → InputLeft disk IsFresh named reads ends io fault
  file_fault file fault is h = subst (λ (n : Option Name). InputLeft disk IsFresh n reads ends io fault) (sym is) h
