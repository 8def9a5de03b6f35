-- A desk's reaction to a fault of its book.
use Rattle.acd_book.specs.declared.fault.BookFault.{BookFault}
use Rattle.acd_book.specs.declared.fault.BookFault.TheVariants as book
use Rattle.acd_desk.specs.declared.fault.DeskFault.{DeskFault}
use Rattle.acd_desk.specs.declared.fault.DeskFault.TheVariants as desk
use Rattle.acd_desk.specs.declared.taken.Taken.{Taken}
use Rattle.acd_desk.specs.declared.taken.Taken.TheVariants.{NoMemory, StoreFault}
use Rattle.acd_desk.specs.declared.working.Working.{Working}
use Rattle.acd_desk.specs.declared.working.Working.TheVariants.{Failed}

abbrev pub fault_of : BookFault → DeskFault
fault_of book.NoMemory = desk.NoMemory
fault_of book.Store = desk.StoreFault

abbrev pub taken_by : DeskFault → Taken
taken_by desk.NoMemory = NoMemory
taken_by desk.StoreFault = StoreFault

abbrev pub answer_to : BookFault → Taken
answer_to fault = taken_by (fault_of fault)

abbrev pub left_by : BookFault → Working → Working
left_by book.NoMemory w = w
left_by book.Store w = Failed
