use Rattle.acd_http.proofs.SmallBodies.{head_seen, few_lines}
use Rattle.acd_http.proofs.head_request.head_asked.Goals as goal

pub returns-in-Some : goal.returns-in-Some
returns-in-Some c = head_seen c.args.head.now c.in-Some.read.0 c.in-Some.read.1 (few_lines c.args.head.now c.lines_in.result c.lines_in.ensures.value c.if-lines_in-gt-LINES.false) c.in-Some.ensures
