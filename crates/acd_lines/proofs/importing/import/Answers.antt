use Rattle.std.proofs.Common.{List, sym, subst, take, ◌+◌}
use Rattle.acd_terms.specs.declared.command.Request.{Request}
use Rattle.acd_desk.specs.Desks.DeskCalls.{state_of}
use Rattle.acd_lines.specs.Answers.{answered_text}
use Rattle.acd_lines.specs.Parts.{Imports}
use Rattle.acd_io.proofs.Sends.{stopped}
use Rattle.acd_lines.proofs.Plans.{take_more, take_whole, imports_none, imports_more, import_stopped, imports_out, import_written, import_stopped_out}
use Rattle.acd_lines.proofs.importing.import.Goals as goal

pub loop-request-init : goal.loop-request-init
loop-request-init g c =
    imports_none (state_of g.B.Book) (λ d x clean sound opened stop. g.met.B.Book.settled d.book x clean sound opened stop)
    c.args.desk.now (g.W.Write.contents c.args.writer.now) c.new_outbox-outbox.result.waiting.items c.new_outbox-outbox.ensures

pub loop-request-preserved : goal.loop-request-preserved
loop-request-preserved g c =
    let first = c.args in
    let before = c.loop-request in
    let i = before.request-index in
    let desk = c.execute-answered.new.desk in
    let old = g.W.Write.contents first.writer.now in
    let new = g.W.Write.contents c.push_answer.new.writer in
    let waiting = c.push_answer.new.outbox.waiting.items in
    let more = take_more i first.requests.now _ _ c.request-item.is c.loop-request-test.true in
    subst (λ (l : List Request). Imports (state_of g.B.Book) first.desk.now l desk old new waiting) (sym more)
    (imports_more (state_of g.B.Book) (λ d x clean sound opened stop. g.met.B.Book.settled d.book x clean sound opened stop)
    first.desk.now before.desk desk (take i first.requests.now) _ old (g.W.Write.contents before.writer) new before.outbox.waiting.items waiting
    before.invariant (answered_text c.execute-answered.result, c.execute-answered.ensures, c.in_ok-push_answer.ensures))

pub returns-in_err-push_answer-clause-answered : goal.returns-in_err-push_answer-clause-answered
returns-in_err-push_answer-clause-answered g c =
    let first = c.args in
    let before = c.loop-request in
    let i = before.request-index in
    let more = take_more i first.requests.now _ _ c.request-item.is c.loop-request-test.true in
    stopped c.from_residual.result _ _ _ c.from_residual.ensures.1
    (import_stopped (state_of g.B.Book) (λ d x clean sound opened stop. g.met.B.Book.settled d.book x clean sound opened stop)
    first.desk.now before.desk c.execute-answered.new.desk first.requests.now (take i first.requests.now) _ (i + 1)
    (g.W.Write.contents first.writer.now) (g.W.Write.contents before.writer) (g.W.Write.contents c.push_answer.new.writer) before.outbox.waiting.items more
    before.invariant (answered_text c.execute-answered.result, c.execute-answered.ensures, c.in_err-push_answer.ensures))

pub returns-in_err-flush-clause-answered : goal.returns-in_err-flush-clause-answered
returns-in_err-flush-clause-answered g c =
    let before = c.loop-request in
    stopped c.from_residual-in_err-flush.result _ _ _ c.from_residual-in_err-flush.ensures.1
    (import_stopped_out (state_of g.B.Book) c.args.desk.now before.desk c.args.requests.now before.request-index
    (g.W.Write.contents c.args.writer.now) (g.W.Write.contents before.writer) (g.W.Write.contents c.flush.new.writer) before.outbox.waiting.items before.invariant c.in_err-flush.ensures)

pub returns-clause-answered : goal.returns-clause-answered
returns-clause-answered g c =
    let before = c.loop-request in
    let requests = c.args.requests.now in
    let old = g.W.Write.contents c.args.writer.now in
    let new = g.W.Write.contents c.flush.new.writer in
    import_written (state_of g.B.Book) c.args.desk.now before.desk requests old new
    (imports_out (state_of g.B.Book) c.args.desk.now before.desk (take before.request-index requests) requests old (g.W.Write.contents before.writer) new before.outbox.waiting.items
    (take_whole before.request-index requests c.loop-request-test.false) before.invariant c.in_ok-flush.ensures.1)
