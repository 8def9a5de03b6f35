use Rattle.std.proofs.Common.{rules}
use Rattle.acd_book.proofs.ChangeCounters.{last_event-changed_by, changed_by-journal}
use Rattle.acd_book.proofs.ledger.Ledger.append.Goals as goal

pub overflow_add-last_event : goal.overflow_add-last_event
overflow_add-last_event c = search (rules, last_event-changed_by)

pub returns-clause-made : goal.returns-clause-made
returns-clause-made c = search (rules, changed_by-journal)
