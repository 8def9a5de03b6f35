use Rattle.std.proofs.Common.{rules}
use Rattle.acd_book.specs.Memory.{stamp_of}
use Rattle.acd_book.proofs.NumberedLists.{above}
use Rattle.acd_book.proofs.contents.Contents.requests_after.Goals as goal

pub returns : goal.returns
returns c = search (rules, above stamp_of)
