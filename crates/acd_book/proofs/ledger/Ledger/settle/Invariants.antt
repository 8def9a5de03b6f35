use Rattle.std.proofs.Common.{◌≡◌, ◌≤◌, ◌-◌, vec_len}
use Rattle.acd_book.specs.Ledger.{ledger_rows}
use Rattle.acd_book.proofs.ledger.Ledger.settle.Given as goal

abbrev pub invariant-loop-self : goal.invariant-loop-self
invariant-loop-self l = record {
  same : ledger_rows l.self ≡ ledger_rows l.initial.self;
  no_longer : vec_len l.self.journal ≤ vec_len l.initial.self.journal;
}

abbrev pub decreases-loop-self : goal.decreases-loop-self
decreases-loop-self l = vec_len l.self.journal - l.self.made
