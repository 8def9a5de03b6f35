use Rattle.std.proofs.Common.{subst}
use Rattle.acd_io.specs.SentBytes.{Breaks}
use Rattle.std.specs.Io.KnownBytes.{Appends}
use Rattle.acd_http.proofs.Exchanges.{in_two}
use Rattle.acd_http.proofs.exchanging.respond.Goals as goal

pub returns-in-Ok-clause-sent : goal.returns-in-Ok-clause-sent
returns-in-Ok-clause-sent g c =
    let is = in_two c.args.bodiless c.args.reply.now c.reply_head-head.result c.body_sent.result.now c.body-body.result.now c.status.result c.reply_head-head.ensures c.status.ensures c.body-body.ensures c.body_sent.ensures in
    subst (λ text. Appends (g.W.Write.contents c.args.writer.now) (g.W.Write.contents c.send_both.new.writer) text) is c.in-Ok.ensures

pub returns-in-Err-clause-sent : goal.returns-in-Err-clause-sent
returns-in-Err-clause-sent g c =
    let is = in_two c.args.bodiless c.args.reply.now c.reply_head-head.result c.body_sent.result.now c.body-body.result.now c.status.result c.reply_head-head.ensures c.status.ensures c.body-body.ensures c.body_sent.ensures in
    subst (λ text. Breaks (g.W.Write.contents c.args.writer.now) (g.W.Write.contents c.send_both.new.writer) text) is c.in-Err.ensures
