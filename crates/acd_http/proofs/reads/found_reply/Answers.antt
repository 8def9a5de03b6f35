use Rattle.std.proofs.Common.{ap, ◌∙◌}
use Rattle.acd_desk.specs.Desks.DeskCalls.{state_of}
use Rattle.acd_desk.specs.Reads.AnswerTexts.{seen_text}
use Rattle.acd_desk.specs.Reads.ReadAnswers.{question_read}
use Rattle.acd_desk.proofs.Pages.ReadsDone.{read_seen}
use Rattle.acd_http.specs.declared.reply.Kind.{Kind}
use Rattle.acd_http.specs.Exchange.{found_reply}
use Rattle.acd_http.proofs.reads.found_reply.Goals as goal

pub returns : goal.returns
returns g c bodiless = (
  seen_text c.read-found.result,
  c.reply_to.ensures bodiless ∙ ap (λ (k : Kind). found_reply bodiless k (seen_text c.read-found.result)) c.of-kind.ensures,
  read_seen (state_of g.B.Book c.args.desk.now) (state_of g.B.Book c.read-found.new.self) c.read-found.result (λ k. question_read k c.args.moment c.args.question) c.read-found.ensures,
)
