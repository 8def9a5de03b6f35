use Rattle.std.proofs.Common.{◌+◌, Result, is_none, is_some, refl, subst, sym}
use Rattle.acd_desk.specs.Desks.DeskCalls.{state_of}
use Rattle.acd_io.specs.declared.sending.Stopped.{Stopped}
use Rattle.acd_io.specs.SentBytes.{WasSent}
use Rattle.acd_lines.specs.Lines.{output}
use Rattle.acd_http.specs.Turns.{TurnsTaken, answered}
use Rattle.acd_http.proofs.TurnsInTurn.{turns_none, turns_more}
use Rattle.acd_http.proofs.serving.take_turns.Goals as goal

pub loop-before-init : goal.loop-before-init
loop-before-init g c =
    let a = g.E.Write.contents c.args.errors.now in
    subst (λ (printed : Result (Unit {0}) Stopped). TurnsTaken (state_of g.B.Book) (is_some c.args.span.step) (is_none c.args.span.connections) 0 c.args.desk.now c.args.desk.now (WasSent printed a a))
    (sym c.new-watch.ensures) (turns_none (state_of g.B.Book) (is_some c.args.span.step) (is_none c.args.span.connections) c.args.desk.now a)

pub loop-before-preserved : goal.loop-before-preserved
loop-before-preserved g c =
    let start = g.E.Write.contents c.args.errors.now in
    turns_more (state_of g.B.Book) (is_some c.args.span.step) (is_none c.args.span.connections) c.loop-before.before (c.loop-before.before + 1)
    c.args.desk.now c.next_peer.new.desk c.answer_next-outcome.new.desk (c.next_peer.new.watch.printed, c.print_next-watch.result) start
    (output g.E.Write.contents c.next_peer.new.errors c.print_next-watch.new.errors) (answered c.answer_next-outcome.result)
    refl (c.next_peer.ensures.looks c.args.desk.now start c.loop-before.before c.loop-before.invariant)
    c.in-Some.ensures.goes_on c.answer_next-outcome.ensures c.print_next-watch.ensures
