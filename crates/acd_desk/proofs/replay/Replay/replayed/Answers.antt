use Rattle.std.proofs.Common.{rules, Option, None}
use Rattle.acd_book.specs.Content.{Content}
use Rattle.acd_desk.specs.declared.replay.Replay.{Replay}
use Rattle.acd_desk.specs.Audits.Replay.{Knows, IsReplayed}
use Rattle.acd_desk.proofs.Replays.RecordComparisons.{replayed_on, not_replayed}
use Rattle.acd_book.proofs.ReadsAhead.{read_ok, read_nothing}
use Rattle.acd_desk.proofs.replay.Replay.replayed.Goals as goal

pub returns-in_err-matches-clause-read : goal.returns-in_err-matches-clause-read
returns-in_err-matches-clause-read g c =
    read_nothing (λ (k : Content) (found : Option Replay). Knows k c.args.self.keys c.args.self.page c.args.kept.now → IsReplayed k c.args.self c.args.kept.now found) (g.B.Book.state c.args.book.now) (g.B.Book.state c.replays_as_kept.new.book)
    c.in_err-matches.field-0.0 c.from_residual.result c.in_err-matches.ensures.read (search rules)

pub returns-then-not-matches-clause-read : goal.returns-then-not-matches-clause-read
returns-then-not-matches-clause-read g c =
    read_ok (λ (k : Content) (found : Option Replay). Knows k c.args.self.keys c.args.self.page c.args.kept.now → IsReplayed k c.args.self c.args.kept.now found) (g.B.Book.state c.args.book.now) (g.B.Book.state c.replays_as_kept.new.book)
    c.in_ok-matches.matches None c.in_ok-matches.ensures.read (λ k holds knows. not_replayed k c.args.self c.args.kept.now _ c.in_ok-matches.matches (holds knows).1 c.if-not-matches.true (search rules))

pub returns-clause-read : goal.returns-clause-read
returns-clause-read g c =
    read_ok (λ (k : Content) (found : Option Replay). Knows k c.args.self.keys c.args.self.page c.args.kept.now → IsReplayed k c.args.self c.args.kept.now found) (g.B.Book.state c.args.book.now) (g.B.Book.state c.replays_as_kept.new.book)
    c.in_ok-matches.matches _ c.in_ok-matches.ensures.read
    (λ k holds knows.
    let both = holds knows in
    (replayed_on k c.args.self c.args.kept.now _ c.in_ok-matches.matches both.1 c.if-not-matches.false (search rules), record { itself = c.insert.ensures.itself; others = c.insert.ensures.others; page = both.0 }))
