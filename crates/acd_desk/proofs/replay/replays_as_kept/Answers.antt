use Rattle.std.proofs.Common.{rules, false, ◌∙◌}
use Rattle.acd_book.specs.Content.{Content}
use Rattle.acd_desk.specs.Audits.Replay.{DecidesKnown, Matches}
use Rattle.acd_desk.proofs.Replays.RecordComparisons.{matches_decided, other_record}
use Rattle.acd_book.proofs.ReadsAhead.{known, none_alone, read_more}
use Rattle.acd_desk.proofs.replay.replays_as_kept.Goals as goal

pub returns-in_err-prepared-clause-read : goal.returns-in_err-prepared-clause-read
returns-in_err-prepared-clause-read g c =
    none_alone (DecidesKnown c.args.keys.now (c.args.page.now, c.args.page.now) c.args.kept.now (λ (k : Content). Matches k c.args.switch.now c.args.kept.now)) (g.B.Book.state c.args.book.now) c.from_residual.result (search rules)

pub returns-then-not-is_same-clause-read : goal.returns-then-not-is_same-clause-read
returns-then-not-is_same-clause-read g c =
    known (DecidesKnown c.args.keys.now (c.args.page.now, c.args.page.now) c.args.kept.now (λ (k : Content). Matches k c.args.switch.now c.args.kept.now)) (g.B.Book.state c.args.book.now) false
    (λ k knows. other_record k c.args.keys.now c.args.page.now c.args.switch.now c.args.kept.now _ c.is_same.result c.if-not-is_same.true c.is_same.ensures c.in_ok-prepared.ensures.kept_is knows)

pub returns-clause-read : goal.returns-clause-read
returns-clause-read g c =
    read_more (DecidesKnown c.args.keys.now (c.args.page.now, c.is_first_with.new.page) c.args.kept.now (λ (k : Content). Matches k c.args.switch.now c.args.kept.now)) (g.B.Book.state c.args.book.now) (g.B.Book.state c.is_first_with.new.book) c.is_first_with.result c.is_first_with.ensures
    (λ k found holds knows.
    let both = holds knows in
    (both.0, matches_decided k c.args.switch.now c.args.kept.now _ _ _ c.is_same.result found c.if-not-is_same.false c.is_same.ensures both.1 c.in_ok-prepared.ensures.kept_is (c.deref.ensures.value ∙ c.in_ok-prepared.ensures.events_are) (search rules)))
