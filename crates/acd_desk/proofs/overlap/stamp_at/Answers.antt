use Rattle.std.proofs.Common.{ℕ, rules}
use Rattle.acd_book.specs.BookReads.{Anything}
use Rattle.acd_book.proofs.ReadsAhead.{known}
use Rattle.acd_desk.proofs.Archives.Overlaps.{read_on, fault_on}
use Rattle.acd_desk.proofs.overlap.stamp_at.Goals as goal

pub loop-init : goal.loop-init
loop-init g c = known {C = Unit {0}} Anything (g.A.Book.state c.args.archive.now) tt (λ a. tt)

pub loop-preserved : goal.loop-preserved
loop-preserved g c = read_on {S = Unit {0}} c.loop.invariant c.in_ok-kept.ensures

pub returns-in_default : goal.returns-in_default
returns-in_default g c = read_on {S = ℕ} c.loop.invariant c.in_ok-kept.ensures

pub returns-in_err-kept : goal.returns-in_err-kept
returns-in_err-kept g c = fault_on {S = ℕ} c.loop.invariant c.in_err-kept.ensures (search rules)
