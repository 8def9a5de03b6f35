use Rattle.std.proofs.Common.{append_assoc}
use Rattle.acd_http.proofs.reply.push_kind.Goals as goal

pub returns-clause-value : goal.returns-clause-value
returns-clause-value c = rw (c.push-3.ensures, c.push-2.ensures, c.push.ensures, c.kind_text.ensures.value) (simp append_assoc)
