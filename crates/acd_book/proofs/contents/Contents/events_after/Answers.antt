use Rattle.std.proofs.Common.{rules}
use Rattle.acd_book.specs.Memory.{number_of_event}
use Rattle.acd_book.proofs.NumberedLists.{above}
use Rattle.acd_book.proofs.contents.Contents.events_after.Goals as goal

pub returns : goal.returns
returns c = search (rules, above number_of_event)
