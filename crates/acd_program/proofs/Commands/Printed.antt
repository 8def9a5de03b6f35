-- What a service and a standby print.
use Rattle.std.proofs.Common.{inl, inr, ℕ, Bool, List, Option}
use Rattle.sqlite_disk.specs.declared.Disk as disk
use Rattle.acd_http.specs.declared.serving.Span.{Span}
use Rattle.acd_sessions.specs.Serving.{PrintsServiceFaults}
use Rattle.acd_program.specs.Commands.Tasks.{ServeDoneIn, StandbyDoneIn}
use Rattle.acd_sessions.proofs.ServeDone.{printed_for}
use Rattle.acd_lines.specs.Lines.{Streams}
use Rattle.acd_command.specs.declared.asked.Address.{Address}

pub file_prints : {D : Type 0} {g : disk.Ghosts D} (IsFresh : Bool → D → Type 0) (span : Span) (a b : Option (List ℕ)) → ServeDoneIn g IsFresh span a b → PrintsServiceFaults a b
file_prints IsFresh span a b h = elim h.answered [
  | inl found ↦ printed_for _ span found.1.first found.1.final a b found.1.did.taken
  | inr made ↦ printed_for _ span made.2.first made.2.final a b made.2.did.taken
]

pub standby_prints : {D : Type 0} {g : disk.Ghosts D} (IsFresh : Bool → D → Type 0) (span : Span) (address : Address) (io : Streams) (a b : Option (List ℕ)) → StandbyDoneIn g IsFresh span address io a b → PrintsServiceFaults a b
standby_prints IsFresh span address io a b h = elim h.answered [
  | inl found ↦ printed_for _ span found.1.did.between found.1.final a b found.1.did.served.taken
  | inr made ↦ printed_for _ span made.2.did.between made.2.final a b made.2.did.served.taken
]
