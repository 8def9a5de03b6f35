use Rattle.std.proofs.Common.{◌≡◌, ℕ, Some, refl, subst, arith}
use Rattle.acd_book.specs.Content.{IsKeptAfter}
use Rattle.acd_sqlbook.proofs.RecordsReadAhead.{took}
use Rattle.acd_sqlbook.proofs.ahead.Ahead.next.Goals as goal

pub returns-clause-next : goal.returns-clause-next
returns-clause-next c = λ kept up is.
    let k = c.in_ok-kept.kept in
    let same : c.args.self.now.above ≡ c.args.stamp = omega (arith, c.if-stamp-self.false) in
    subst (λ (n : ℕ). IsKeptAfter kept n (Some k)) same
    (took kept c.args.self.now (record { above = k.stamp; records = c.pop.new.self }) k up is c.in_ok-kept.ensures.items refl).0

pub returns-clause-still : goal.returns-clause-still
returns-clause-still c = λ kept up is.
    let k = c.in_ok-kept.kept in
    (took kept c.args.self.now (record { above = k.stamp; records = c.pop.new.self }) k up is c.in_ok-kept.ensures.items refl).1
