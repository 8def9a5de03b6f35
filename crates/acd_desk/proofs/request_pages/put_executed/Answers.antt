use Rattle.acd_desk.specs.Reads.RequestPages.{executed_text}
use Rattle.acd_desk.proofs.request_pages.put_executed.Goals as goal

pub returns : goal.returns
unfolding executed_text
returns c = rw (← c.in_ok-request.ensures, ← c.as_str.ensures) c.write.ensures.bytes
