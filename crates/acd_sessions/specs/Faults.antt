-- Why a desk did not do what it was asked, by why its parts didn't.
use Rattle.std.specs.Prelude.{Bool, true, false, Result, Ok, Err}
use Rattle.acd_book.specs.declared.fault.BookFault.{BookFault}
use Rattle.acd_book.specs.declared.fault.BookFault.TheVariants as book
use Rattle.acd_sql_schema.specs.declared.fault.AdoptFault.{AdoptFault}
use Rattle.acd_sql_schema.specs.declared.fault.AdoptFault.TheVariants as adopt
use Rattle.acd_desk.specs.declared.audit.AuditFault.{AuditFault}
use Rattle.acd_desk.specs.declared.audit.AuditFault.TheVariants as audit
use Rattle.acd_desk.specs.declared.fault.DeskFault.{DeskFault}
use Rattle.acd_desk.specs.declared.fault.DeskFault.TheVariants as desk
use Rattle.acd_desk.specs.declared.open_fault.OpenFault.{OpenFault}
use Rattle.acd_desk.specs.declared.open_fault.OpenFault.TheVariants as opening
use Rattle.acd_lines.specs.declared.fault.LinesFault.{LinesFault}
use Rattle.acd_lines.specs.declared.fault.LinesFault.TheVariants as lines
use Rattle.acd_sessions.specs.declared.fault.WorkFault.{WorkFault}
use Rattle.acd_sessions.specs.declared.fault.WorkFault.TheVariants.{WrongVersion, BadRow, BadRows, NoMemory, Store, Read, Write}

-- of a book
abbrev pub book_fault : BookFault → WorkFault
book_fault book.NoMemory = NoMemory
book_fault book.Store = Store

-- of a book that can't be made, as of one that can't be opened
abbrev pub unmade_fault : BookFault → AdoptFault
unmade_fault book.NoMemory = adopt.NoMemory
unmade_fault book.Store = adopt.Store

-- of the tables that a database holds
abbrev pub adopt_fault : AdoptFault → WorkFault
adopt_fault (adopt.WrongVersion version) = WrongVersion version
adopt_fault (adopt.BadRow table) = BadRow table
adopt_fault adopt.NoMemory = NoMemory
adopt_fault adopt.Store = Store

-- of a book that makes no desk
abbrev pub open_fault : OpenFault → WorkFault
open_fault (opening.Rows rule) = BadRows rule
open_fault opening.NoMemory = NoMemory
open_fault opening.Store = Store

-- of a desk that answers nothing
abbrev pub desk_fault : DeskFault → WorkFault
desk_fault desk.NoMemory = NoMemory
desk_fault desk.StoreFault = Store

-- of an audit with an archive
abbrev pub audit_fault : AuditFault → WorkFault
audit_fault (audit.Desk why) = desk_fault why
audit_fault (audit.Archive why) = open_fault why

-- of lines
abbrev pub lines_fault : LinesFault → WorkFault
lines_fault lines.Read = Read
lines_fault lines.Write = Write
lines_fault lines.NoMemory = NoMemory

-- what a command answers about how its lines ended: that the desk has failed is a fault where that was to end them
abbrev pub command_result : Result (Unit {0}) LinesFault → Bool → Result (Unit {0}) WorkFault
command_result (Err why) failed = Err (lines_fault why)
command_result (Ok done) true = Err Store
command_result (Ok done) false = Ok done

-- of a desk that has failed, or hasn't
abbrev pub desk_result : Bool → Result (Unit {0}) WorkFault
desk_result failed = command_result (Ok tt) failed
