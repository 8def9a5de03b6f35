use Rattle.acd_desk.proofs.Desks.Openings.{opens, rows_refused}
use Rattle.acd_desk.proofs.desk.Desk.open.Goals as goal

pub returns-in-Ok-from_rows : goal.returns-in-Ok-from_rows
returns-in-Ok-from_rows g c = opens (g.B.Book.state c.args.book) (g.B.Book.state c.rows.new.self) c.in-Ok.rows c.in-Ok-from_rows.loaded.switch.value c.in-Ok.ensures c.in-Ok-from_rows.ensures.ok c.in-Ok-from_rows.ensures.sound

pub returns : goal.returns
returns g c =
    rows_refused (g.B.Book.state c.args.book) (g.B.Book.state c.rows.new.self) c.in-Ok.rows c.in-Err-from_rows.fault c.from-in-Err-from_rows.result c.in-Ok.ensures c.in-Err-from_rows.ensures.err c.from-in-Err-from_rows.ensures
