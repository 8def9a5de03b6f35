-- The answer of a desk to an audit with an archive.
use Rattle.std.specs.Prelude.{Result, Ok, Err, IfOk}
use Rattle.acd_book.specs.Content.{Content}
use Rattle.acd_book.specs.Order.{IsOrdered}
use Rattle.acd_book.specs.State.{BookState}
use Rattle.acd_book.specs.declared.fault.BookFault.{BookFault}
use Rattle.acd_book.specs.declared.fault.BookFault.TheVariants as book
use Rattle.acd_desk.specs.declared.audit.ArchiveAudit.{ArchiveAudit}
use Rattle.acd_desk.specs.declared.audit.AuditFault.{AuditFault}
use Rattle.acd_desk.specs.declared.audit.AuditFault.TheVariants.{Desk, Archive}
use Rattle.acd_desk.specs.declared.fault.DeskFault.{DeskFault}
use Rattle.acd_desk.specs.declared.fault.DeskFault.TheVariants as desk
use Rattle.acd_desk.specs.declared.pair.PairFault.{PairFault}
use Rattle.acd_desk.specs.declared.pair.PairFault.TheVariants as pair
use Rattle.acd_desk.specs.declared.working.Working.{Working}
use Rattle.acd_desk.specs.Audits.AuditWith.{StandsInTime, IsAuditWith}
use Rattle.acd_desk.specs.Desks.Faults.{fault_of, left_by}
use Rattle.acd_desk.specs.Audits.Pairs.{by_opening, IfBothOpen}

-- the desk's part: where the archive answered nothing, the desk has read no fault of its store
abbrev pub desk_part : {T : Type 0} → Result T AuditFault → Result T DeskFault
desk_part (Ok found) = Ok found
desk_part (Err (Desk fault)) = Err fault
desk_part (Err (Archive fault)) = Err desk.NoMemory

-- and to the archive
abbrev pub archived_part : {T : Type 0} → Result T AuditFault → Result T BookFault
archived_part (Ok found) = Ok found
archived_part (Err (Desk fault)) = Err book.NoMemory
archived_part {T = T} (Err (Archive fault)) = by_opening {T = T} (Err fault)

-- a fault of either as a fault of the audit, and what it leaves of the desk
abbrev pub pair_fault : PairFault → AuditFault
pair_fault (pair.Current fault) = Desk (fault_of fault)
pair_fault (pair.Archive fault) = Archive fault

abbrev pub left_by_pair : PairFault → Working → Working
left_by_pair (pair.Current fault) w = left_by fault w
left_by_pair (pair.Archive fault) w = w

-- the audit of a content with its archive's: where this one stands in time, and the content in order
abbrev pub AuditsInTime : Content → Content → ArchiveAudit → Type 0
AuditsInTime a c found = StandsInTime a → IsOrdered c → IsAuditWith a c found

-- an answer is the audit of the open book's content, with that of the open archive: an archive that keeps to time, and a content in order
abbrev pub IsAuditedWith : BookState → BookState → BookState → BookState → Result ArchiveAudit AuditFault → Type 0
IsAuditedWith old_archive new_archive old new result = IfBothOpen old_archive new_archive old new (IfOk result (AuditsInTime old_archive.content old.content))
