use Rattle.std.proofs.Common.{sym}
use Rattle.acd_codec.proofs.replies.write_reply.Goals as goal

pub returns-in-Refused : goal.returns-in-Refused
returns-in-Refused c = rw (c.in-Refused.is, sym c.code.ensures, sym c.name.ensures) c.write_error.ensures
