use Rattle.std.proofs.Common.{sym, subst}
use Rattle.acd_desk.specs.Desks.DeskCalls.{state_of}
use Rattle.acd_lines.specs.Lines.{streams}
use Rattle.acd_http.specs.Exchange.{Answered}
use Rattle.acd_http.proofs.Exchanges.{reply_sent, unseen_sent}
use Rattle.acd_http.proofs.exchanging.exchange.Goals as goal

pub returns-in-Some : goal.returns-in-Some
returns-in-Some g c =
    reply_sent (state_of g.B.Book) c.args.moment (streams g.R.Read.remaining g.W.Write.contents (c.args.reader.now, c.parse.new.reader) (c.args.writer.now, c.respond.new.writer)) c.args.desk.now c.answered.new.desk
    c.in-Ok-parse.asked c.in-Some.reply c.is_bodiless.result c.respond.result
    c.in-Ok-parse.ensures (subst (λ o. Answered g.B.Book (c.args.moment, c.in-Ok-parse.asked) c.args.desk.now o c.answered.new.desk) c.in-Some.is c.answered.ensures) c.is_bodiless.ensures c.respond.ensures.sent c.respond.ensures.fault

pub returns-in-Err-NoMemory : goal.returns-in-Err-NoMemory
returns-in-Err-NoMemory g c =
    unseen_sent (state_of g.B.Book) c.args.moment (streams g.R.Read.remaining g.W.Write.contents (c.args.reader.now, c.parse.new.reader) (c.args.writer.now, c.respond-in-Err-NoMemory.new.writer)) c.args.desk.now
    c.in-Err-NoMemory.bodiless _ c.fixed.result c.in-Err-NoMemory.field-0 c.respond-in-Err-NoMemory.result
    c.in-Err-NoMemory.field-0-is (sym c.in-Err-NoMemory.bodiless-is) c.in-Err-NoMemory.ensures (c.fixed.ensures c.in-Err-NoMemory.bodiless) c.respond-in-Err-NoMemory.ensures.sent c.respond-in-Err-NoMemory.ensures.fault
