use Rattle.sqlite_std_file.specs.File.{IsFresh}
use Rattle.acd_lines.specs.Lines.{streams}
use Rattle.acd_program.proofs.Commands.Inputs.{memory_input, memory_fault, file_input, file_fault}
use Rattle.acd_program.proofs.running.answer_lines.Goals as goal

pub returns-in-Ok : goal.returns-in-Ok
returns-in-Ok g c =
    memory_input _ IsFresh c.args.file c.args.reads c.args.ends (streams g.R.Read.remaining g.W.Write.contents (c.args.reader.now, c.lines_in_memory.new.reader) (c.args.writer.now, c.lines_in_memory.new.writer))
    c.requests_run.ensures c.in-None.is c.in-Ok.ensures

pub returns-in-None : goal.returns-in-None
returns-in-None g c =
    memory_fault _ IsFresh c.args.file c.args.reads c.args.ends (streams g.R.Read.remaining g.W.Write.contents (c.args.reader.now, c.lines_in_memory.new.reader) (c.args.writer.now, c.lines_in_memory.new.writer))
    c.in-Err.fault c.from.result c.in-None.is c.from.ensures c.in-Err.ensures

pub returns-in-Ok-lines_in : goal.returns-in-Ok-lines_in
returns-in-Ok-lines_in g c =
    file_input _ IsFresh c.args.file c.args.reads c.args.ends (streams g.R.Read.remaining g.W.Write.contents (c.args.reader.now, c.lines_in.new.reader) (c.args.writer.now, c.lines_in.new.writer))
    c.in-Some.file c.in-Some.is c.in-Ok-lines_in.ensures

pub returns : goal.returns
returns g c =
    file_fault _ IsFresh c.args.file c.args.reads c.args.ends (streams g.R.Read.remaining g.W.Write.contents (c.args.reader.now, c.lines_in.new.reader) (c.args.writer.now, c.lines_in.new.writer))
    c.in-Some.file c.in-Err-lines_in.fault c.in-Some.is c.in-Err-lines_in.ensures
