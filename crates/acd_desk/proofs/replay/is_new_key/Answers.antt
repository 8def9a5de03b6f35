use Rattle.std.proofs.Common.{Bool, true, sym, ◌∙◌, true≢false}
use Rattle.std.specs.Bool.{Decides}
use Rattle.acd_book.specs.Content.{Content}
use Rattle.acd_desk.specs.Audits.Replay.{IsFirstOfKey, FindsFirst}
use Rattle.acd_desk.proofs.Replays.RecordComparisons.{unseen_new}
use Rattle.acd_book.proofs.ReadsAhead.{known, by_read}
use Rattle.acd_desk.proofs.replay.is_new_key.Goals as goal

pub returns-then-not-has : goal.returns-then-not-has
returns-then-not-has g c =
    known (λ (k : Content) (found : Bool). FindsFirst k c.args.keys.now c.args.kept.now → Decides found (IsFirstOfKey k c.args.kept.now)) (g.B.Book.state c.args.book.now) true
    (λ k finds. unseen_new k c.args.keys.now c.args.kept.now (λ seen. true≢false (sym seen ∙ sym c.has.ensures ∙ c.if-not-has.true)) finds)

pub returns : goal.returns
returns g c =
    by_read (λ (k : Content) (found : Bool). FindsFirst k c.args.keys.now c.args.kept.now → Decides found (IsFirstOfKey k c.args.kept.now)) (g.B.Book.state c.args.book.now) (g.B.Book.state c.is_first_of_key.new.book)
    c.is_first_of_key.result c.is_first_of_key.ensures (λ k found decides finds. decides)
