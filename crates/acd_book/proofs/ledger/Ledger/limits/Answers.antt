use Rattle.std.proofs.Common.{rules}
use Rattle.acd_book.proofs.ledger.Ledger.limits.Goals as goal
use Rattle.acd_lemmas.proofs.Changes.{limits-changed_by}

pub returns : goal.returns
returns c = search (rules, limits-changed_by)
