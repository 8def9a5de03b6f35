-- A desk over a new book in memory is new, and its rows break no rule.
use Rattle.std.proofs.Common.{subst}
use Rattle.acd_book.specs.State.{unfailing}
use Rattle.acd_desk.specs.declared.open_fault.OpenFault.{OpenFault}
use Rattle.acd_desk.specs.Desks.Opening.{Refused}
use Rattle.acd_desk.specs.Desks.DeskCalls.{state_of}
use Rattle.acd_sessions.specs.MemoryAnswers.{in_memory}
use Rattle.acd_sessions.proofs.MemoryDesk.{new_over, new_refused}
use Rattle.acd_sessions.proofs.memory.new_desk.Goals as goal

-- src/memory.rt:21:1
pub returns-in-Ok : goal.returns-in-Ok
returns-in-Ok c = new_over (unfailing c.new.result) (state_of in_memory c.in-Ok.desk) tt tt c.new.ensures c.in-Ok.ensures

-- src/memory.rt:26:41
pub unreachable-requires : goal.unreachable-requires
unreachable-requires c =
    let why = c.in-Err-Rows-default.field-0-0 in
    new_refused (unfailing c.new.result) (unfailing c.in-Err-Rows-default.field-0-1) c.in-Err-Rows-default.field-0-0-0 tt tt c.new.ensures
    (subst (λ (f : OpenFault). Refused (unfailing c.new.result) f (unfailing c.in-Err-Rows-default.field-0-1)) c.in-Err-Rows-default.field-0-0-is c.in-Err-Rows-default.ensures)
