use Rattle.std.proofs.Common.{rules, inl, refl}
use Rattle.acd_sessions.specs.Serving.{listening_line}
use Rattle.acd_sessions.proofs.ServeDone.{begins_none}
use Rattle.acd_sessions.proofs.serving.serve_at.Goals as goal

pub returns-in_err-door : goal.returns-in_err-door
returns-in_err-door g c = inl (
  record { why = c.in_err-door.field-0.0; ended = search rules; same = refl; quiet = refl },
  begins_none (g.W.Write.contents c.args.writer.now) (listening_line c.args.serving.address),
)
