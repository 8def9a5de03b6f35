use Rattle.std.proofs.Common.{refl, rules, string_bytes}
use Rattle.acd_book.proofs.ReadsAhead.{known, read_no_memory}
use Rattle.acd_program.proofs.Archives.Exports.{ends_after, rows_end, rows_on}
use Rattle.acd_program.proofs.export.add_rows.Goals as goal

pub loop-init : goal.loop-init
loop-init g c = known _ (g.B.Book.state c.args.book.now) tt (λ content rise. refl)

pub loop-preserved : goal.loop-preserved
loop-preserved g c =
    rows_on (g.B.Book.state c.args.book.now) (g.B.Book.state c.loop.book) (g.B.Book.state c.add_page.new.book) (string_bytes c.args.text.now) (string_bytes c.loop.text) (string_bytes c.add_page.new.text) c.args.after c.in_ok-next.next
    c.loop.above c.in-Some.last c.loop.invariant c.in_ok-next.ensures c.in-Some.is

pub returns-in_err-next : goal.returns-in_err-next
returns-in_err-next g c =
    ends_after _ (g.B.Book.state c.args.book.now) (g.B.Book.state c.loop.book) (g.B.Book.state c.add_page.new.book) tt c.in_err-next.field-0.0 c.from_residual.result c.loop.invariant c.in_err-next.ensures (search rules)

pub returns-in-None : goal.returns-in-None
returns-in-None g c =
    rows_end (g.B.Book.state c.args.book.now) (g.B.Book.state c.loop.book) (g.B.Book.state c.add_page.new.book) (string_bytes c.args.text.now) (string_bytes c.loop.text) (string_bytes c.add_page.new.text) c.args.after c.in_ok-next.next
    c.loop.above c.loop.invariant c.in_ok-next.ensures c.in-None.is

pub returns : goal.returns
returns g c = read_no_memory _ (g.B.Book.state c.args.book.now) (g.B.Book.state c.loop.book) tt _ c.loop.invariant refl
