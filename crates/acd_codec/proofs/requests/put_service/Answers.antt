use Rattle.std.proofs.Common.{sym}
use Rattle.acd_codec.proofs.requests.put_service.Goals as goal

pub returns : goal.returns
returns c = rw (sym c.name.ensures) c.put_text.ensures
