use Rattle.std.proofs.Common.{rules, false}
use Rattle.acd_desk.specs.Audits.Replay.{DecidesKnown, IsFirstWith}
use Rattle.acd_desk.proofs.Replays.RecordComparisons.{other_key, same_events}
use Rattle.acd_book.proofs.ReadsAhead.{read_ok, read_nothing, read_twice}
use Rattle.acd_desk.proofs.replay.is_first_with.Goals as goal

pub returns-in_err-is_new : goal.returns-in_err-is_new
returns-in_err-is_new g c =
    read_nothing (DecidesKnown c.args.keys.now (c.args.page.now, c.args.page.now) c.args.kept.now (IsFirstWith c.args.kept.now c.args.last c.args.events.now)) (g.B.Book.state c.args.book.now) (g.B.Book.state c.is_new_key.new.book)
    c.in_err-is_new.field-0.0 c.from_residual.result c.in_err-is_new.ensures (search rules)

pub returns-then-not-is_new : goal.returns-then-not-is_new
returns-then-not-is_new g c =
    read_ok (DecidesKnown c.args.keys.now (c.args.page.now, c.args.page.now) c.args.kept.now (IsFirstWith c.args.kept.now c.args.last c.args.events.now)) (g.B.Book.state c.args.book.now) (g.B.Book.state c.is_new_key.new.book)
    c.in_ok-is_new.is_new false c.in_ok-is_new.ensures
    (λ k decides knows. other_key k c.args.keys.now c.args.page.now c.args.kept.now c.args.last c.args.events.now c.in_ok-is_new.is_new c.if-not-is_new.true decides knows)

pub returns : goal.returns
returns g c =
    read_twice (DecidesKnown c.args.keys.now (c.args.page.now, c.has_events.new.page) c.args.kept.now (IsFirstWith c.args.kept.now c.args.last c.args.events.now)) (g.B.Book.state c.args.book.now) (g.B.Book.state c.is_new_key.new.book) (g.B.Book.state c.has_events.new.book)
    c.in_ok-is_new.is_new c.has_events.result c.in_ok-is_new.ensures c.has_events.ensures
    (λ k decides found holds knows. same_events k c.args.keys.now c.args.page.now c.has_events.new.page c.args.kept.now c.args.last c.args.events.now c.in_ok-is_new.is_new found c.if-not-is_new.false decides holds knows)
