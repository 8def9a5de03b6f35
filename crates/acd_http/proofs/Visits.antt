-- An exchange is a connection's.
use Rattle.std.proofs.Common.{ℕ, Ok, Err}
use Rattle.acd_desk.specs.Desks.DeskCalls.{DeskState}
use Rattle.acd_lines.specs.Lines.{Streams}
use Rattle.acd_http.specs.declared.exchanging.ExchangeFault.TheVariants.{Truncated, Read, Write, NoMemory}
use Rattle.acd_http.specs.Exchange.{ExchangeDone}
use Rattle.acd_http.specs.ConnectionsInTurn.{Outcome, AnsweredOne}

module _ {D : Type 0} (stands : D → DeskState) where
  pub answered_by : (moment : ℕ) (io : Streams) (d e : D) (r : Outcome) → ExchangeDone stands moment io d e r → AnsweredOne stands d r e
  answered_by moment io d e (Ok u) h = let x = h.whole in record { moment = moment; input = x.input; asked = x.asked; reply = x.reply; asks = x.asks; answers = x.answers }
  answered_by moment io d e (Err Write) h = let x = h.cause in record { moment = moment; input = x.input; asked = x.asked; reply = x.reply; asks = x.asks; answers = x.answers }
  answered_by moment io d e (Err Truncated) h = h.cause.2
  answered_by moment io d e (Err Read) h = h.cause.2
  answered_by moment io d e (Err NoMemory) h = h.cause.1
