use Rattle.std.proofs.Common.{rules}
use Rattle.acd_book.proofs.ChangeCounters.{last_event-changed_by}
use Rattle.acd_book.proofs.ledger.Ledger.counts.Goals as goal

pub returns : goal.returns
returns c = search (rules, last_event-changed_by)
