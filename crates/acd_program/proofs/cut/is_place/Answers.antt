use Rattle.std.proofs.Common.{Bool, false}
use Rattle.acd_program.specs.Archives.Pruning.{DecidesPlace}
use Rattle.acd_book.proofs.ReadsInTurn.{then_ok, then_read}
use Rattle.acd_program.proofs.Archives.ReadsOn.{no_place, place_decided}
use Rattle.acd_program.proofs.cut.is_place.Goals as goal

pub returns-then-not-is_within : goal.returns-then-not-is_within
returns-then-not-is_within g c =
    then_ok (DecidesPlace c.args.stamp c.args.number) (g.A.Book.state c.args.archive.now) (g.A.Book.state c.rows.new.self) c.in_ok-rows.rows false c.in_ok-rows.ensures
    (λ a is. no_place a c.in_ok-rows.rows c.args.stamp c.args.number c.is_within.result c.if-not-is_within.true c.is_within.ensures is)

pub returns : goal.returns
returns g c =
    then_read {C = Bool} (DecidesPlace c.args.stamp c.args.number) (g.A.Book.state c.args.archive.now) (g.A.Book.state c.rows.new.self) (g.A.Book.state c.is_clean.new.archive) c.in_ok-rows.rows c.is_clean.result
    c.in_ok-rows.ensures c.is_clean.ensures (λ a is found decides. place_decided a c.in_ok-rows.rows c.args.stamp c.args.number found is (c.is_within.ensures.0 c.if-not-is_within.false) decides)
