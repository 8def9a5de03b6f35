use Rattle.std.proofs.Common.{rules}
use Rattle.acd_book.specs.Memory.{number_of_event}
use Rattle.acd_book.proofs.NumberedLists.{numbered-append}
use Rattle.acd_book.proofs.log.Log.append.Goals as goal

pub invariant_of-self : goal.invariant_of-self
invariant_of-self c = search (rules, numbered-append number_of_event 0)
