use Rattle.std.proofs.Common.{ℕ, Option, None}
use Rattle.acd_book.specs.Content.{Content}
use Rattle.acd_book.proofs.ReadsAhead.{known}
use Rattle.acd_desk.proofs.overlap.stamp_of_moment.Goals as goal

pub returns-in-None-clause-read : goal.returns-in-None-clause-read
returns-in-None-clause-read g c = known {C = Option ℕ} (λ (a : Content) (found : Option ℕ). Unit {0}) (g.A.Book.state c.args.archive.now) None (λ a. tt)
