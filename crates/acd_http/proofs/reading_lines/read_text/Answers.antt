use Rattle.acd_desk.specs.Desks.DeskCalls.{state_of}
use Rattle.acd_http.proofs.LineReads.{answers_look}
use Rattle.acd_http.proofs.reading_lines.read_text.Goals as goal

pub returns : goal.returns
returns g c =
    answers_look (state_of g.B.Book) c.args.desk.now c.read-found.new.self c.args.moment c.args.question c.is_plain-is_plain.result c.read-found.result c.found_line.result
    c.is_plain-is_plain.ensures c.found_line.ensures c.read-found.ensures
