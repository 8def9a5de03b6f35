use Rattle.std.proofs.Common.{max, ap, ◌∙◌, rules}
use Rattle.acd_book.proofs.ReadsAhead.{by_read, read_twice}
use Rattle.acd_program.proofs.Archives.Exports.{ends_after, ends_read}
use Rattle.acd_program.proofs.export.add_events.Goals as goal

pub returns-in_err-rows : goal.returns-in_err-rows
returns-in_err-rows g c = ends_read _ (g.B.Book.state c.args.book.now) (g.B.Book.state c.rows.new.self) c.in_err-rows.field-0.0 c.from_residual.result c.in_err-rows.ensures (search rules)

pub returns-in_err-add_rows : goal.returns-in_err-add_rows
returns-in_err-add_rows g c =
    ends_after _ (g.B.Book.state c.args.book.now) (g.B.Book.state c.rows.new.self) (g.B.Book.state c.add_rows.new.book) c.in_ok-rows.rows c.in_err-add_rows.field-0.0 c.from_residual-in_err-add_rows.result
    (by_read _ _ _ _ c.in_ok-rows.ensures (λ content x is. is)) c.in_err-add_rows.ensures (search rules)

pub returns : goal.returns
returns g c =
    read_twice _ (g.B.Book.state c.args.book.now) (g.B.Book.state c.rows.new.self) (g.B.Book.state c.add_rows.new.book) c.in_ok-rows.rows _ (by_read _ _ _ _ c.in_ok-rows.ensures (λ content x is. is)) c.in_ok-add_rows.ensures
    (λ content is done writes ordered. record { rows = writes ordered.events; number = c.max-table.ensures ∙ ap (λ r. max c.args.table.now.last r.last_event) is })
