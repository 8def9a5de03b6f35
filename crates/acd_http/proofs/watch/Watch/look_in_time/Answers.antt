use Rattle.std.proofs.Common.{ap, sym, ◌∙◌}
use Rattle.std.specs.Prelude.{is_some}
use Rattle.std.specs.Option.{is_none}
use Rattle.acd_desk.specs.Desks.DeskCalls.{state_of}
use Rattle.acd_lines.specs.Lines.{output}
use Rattle.acd_http.proofs.TurnsInTurn.{look_more}
use Rattle.acd_http.proofs.watch.Watch.look_in_time.Goals as goal

pub returns : goal.returns
returns g c =
    let done = c.look.ensures in
    look_more (state_of g.B.Book) (is_some c.args.span.step) (is_none c.args.span.connections) c.args.desk.now c.look.new.desk (c.args.self.now.printed, c.look.new.self.printed)
    (output g.E.Write.contents c.args.errors.now c.look.new.errors) done.1 done.3.0 (ap is_some c.in-Some.is)
    (record { moment = done.0; working = sym c.has_failed.ensures ∙ c.if-has_failed.false; looked = done.2 }) done.3.1
