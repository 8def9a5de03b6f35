use Rattle.std.proofs.Common.{length, ap, arith}
use Rattle.acd_io.proofs.Sends.{stopped}
use Rattle.acd_http.proofs.Readings.{stops_in_body}
use Rattle.acd_http.proofs.receive.read_up_to.Goals as goal

pub returns-in_err-fill : goal.returns-in_err-fill
returns-in_err-fill g c =
    let loop = c.loop-reader.invariant in
    stopped c.from_residual.result _ _ _ c.from_residual.ensures.1
    (stops_in_body (g.R.Read.remaining c.args.reader.now) (g.R.Read.remaining c.loop-reader.reader) (g.R.Read.remaining c.fill.new.reader) c.args.len c.args.input.now loop.0 c.loop-reader.input c.fill.new.input
    loop.1 loop.2 (omega (arith, c.loop-reader-test.true, ap length c.as_slice.ensures)) c.in_err-fill.ensures.read)
