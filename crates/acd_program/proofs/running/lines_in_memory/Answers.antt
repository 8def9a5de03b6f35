use Rattle.std.proofs.Common.{true, false}
use Rattle.acd_sessions.proofs.Inputs.{memory_ends}
use Rattle.acd_program.proofs.running.lines_in_memory.Goals as goal

pub returns-then-reads : goal.returns-then-reads
returns-then-reads g c =
    memory_ends g.R.Read.remaining g.W.Write.contents c.lines_are_from_nothing.ensures c.args.reads true (c.args.reader.now, c.lines_over_memory.new.reader) (c.args.writer.now, c.lines_over_memory.new.writer)
    c.lines_over_memory.result c.if-reads.true c.lines_over_memory.ensures

pub returns : goal.returns
returns g c =
    memory_ends g.R.Read.remaining g.W.Write.contents c.lines_are_from_nothing.ensures c.args.reads false (c.args.reader.now, c.lines_over_memory-2.new.reader) (c.args.writer.now, c.lines_over_memory-2.new.writer)
    c.lines_over_memory-2.result c.if-reads.false c.lines_over_memory-2.ensures
