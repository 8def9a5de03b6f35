use Rattle.acd_http.proofs.Asks.{head_unasked, no_head_finds}
use Rattle.acd_http.proofs.web_request.parse.Goals as goal

pub returns-in-Ok-None : goal.returns-in-Ok-None
returns-in-Ok-None g c =
    no_head_finds (g.R.Read.remaining c.args.reader.now) (g.R.Read.remaining c.read_head.new.reader) c.read_head.new.input c.as_slice.result.now c.in-Ok-None.field-0 c.headless.result
    c.in-Ok-None.field-0-is c.as_slice.ensures c.in-Ok-None.ensures c.headless.ensures

pub returns-in-Err : goal.returns-in-Err
returns-in-Err g c = head_unasked (g.R.Read.remaining c.args.reader.now) (g.R.Read.remaining c.read_head.new.reader) c.read_head.new.input c.in-Err.ensures
