use Rattle.std.proofs.Common.{rules, inl, refl}
use Rattle.acd_desk.specs.Desks.DeskState.{state_of}
use Rattle.acd_io.proofs.Sends.{begins_so}
use Rattle.acd_sessions.specs.Serving.{listening_line}
use Rattle.acd_sessions.proofs.ServeDone.{serve_ended}
use Rattle.acd_sessions.proofs.serving.say_and_answer.Goals as goal

pub returns-in_err-say : goal.returns-in_err-say
returns-in_err-say g c = inl (
  record { why = c.in_err-say.field-0.0; ended = search rules; same = refl; quiet = refl },
  begins_so (g.W.Write.contents c.args.writer.now) (g.W.Write.contents c.say.new.writer) (listening_line c.args.serving.address) c.in_err-say.ensures,
)

pub returns : goal.returns
returns g c =
    serve_ended c.args.serving.span (g.E.Write.contents c.args.errors.now) (g.E.Write.contents c.answer.new.errors) c.args.serving.address (g.W.Write.contents c.args.writer.now) (g.W.Write.contents c.say.new.writer)
    (state_of g.B.Book) c.answer.result c.args.desk.now c.answer.new.desk c.in_ok-say.ensures c.answer.ensures
