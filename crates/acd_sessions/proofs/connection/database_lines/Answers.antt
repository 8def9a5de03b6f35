use Rattle.std.proofs.Common.{Bool, sym, subst}
use Rattle.sqlite.specs.Held.{state}
use Rattle.acd_lines.specs.Lines.{streams}
use Rattle.acd_sessions.proofs.LinesOver.{ended_in}
use Rattle.acd_sessions.specs.Sessions.{DatabaseLeaves}
use Rattle.acd_sessions.proofs.connection.database_lines.Goals as goal

pub returns-then-reads-clause-ended : goal.returns-then-reads-clause-ended
returns-then-reads-clause-ended g c =
    let io : _ = streams g.R.Read.remaining g.W.Write.contents (c.args.reader.now, c.with_reads.new.reader) (c.args.writer.now, c.with_reads.new.writer) in
    subst (λ (b : Bool). DatabaseLeaves g.S.Store c.args.makes b c.args.ends io (state g.S.Store c.args.conn) c.with_reads.result.0 c.with_reads.result.1) (sym c.if-reads.true)
    c.with_reads.ensures.ended

pub returns-clause-ended : goal.returns-clause-ended
returns-clause-ended g c =
    let reader : _ = (c.args.reader.now, c.lines_over_connection.new.reader) in
    let writer : _ = (c.args.writer.now, c.lines_over_connection.new.writer) in
    let io : _ = streams g.R.Read.remaining g.W.Write.contents reader writer in
    let result : _ = c.lines_over_connection.result in
    subst (λ (b : Bool). DatabaseLeaves g.S.Store c.args.makes b c.args.ends io (state g.S.Store c.args.conn) result.0 result.1) (sym c.if-reads.false)
    (ended_in g.S.Store c.args.makes c.args.ends io (c.lines_are_sessions.ensures c.args.makes c.args.ends reader writer) c.args.conn result.0 result.1 c.lines_over_connection.ensures.done)
