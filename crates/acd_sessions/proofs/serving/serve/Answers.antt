use Rattle.std.proofs.Common.{inl, refl}
use Rattle.sqlite.specs.Held.{state}
use Rattle.acd_sessions.proofs.ServeDone.{serve_in}
use Rattle.acd_sessions.proofs.serving.serve.Goals as goal

pub returns-in-Err-clause-ended : goal.returns-in-Err-clause-ended
returns-in-Err-clause-ended g c = inl (record { why = c.from.result; ended = refl; unserved = c.in-Err.ensures.unserved; quiet = refl; unsaid = refl })

pub returns-clause-ended : goal.returns-clause-ended
returns-clause-ended g c =
    serve_in c.args.serving.span (g.E.Write.contents c.args.errors.now) (g.E.Write.contents c.serve_book-done.new.errors) c.args.serving.address (g.W.Write.contents c.args.writer.now) (g.W.Write.contents c.serve_book-done.new.writer)
    g.S.Store (state g.S.Store c.args.conn) c.serve_book-done.result.0 c.into_connection.result c.args.makes c.in-Ok.book c.serve_book-done.result.1
    (g.met.S.Store.settled c.args.conn.store) c.in-Ok.ensures.taken c.into_connection.ensures.same c.serve_book-done.ensures
