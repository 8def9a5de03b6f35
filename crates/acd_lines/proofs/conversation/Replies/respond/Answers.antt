use Rattle.acd_lines.specs.Answers.{answered_text}
use Rattle.acd_lines.proofs.conversation.Replies.respond.Goals as goal

pub returns-clause-answered : goal.returns-clause-answered
returns-clause-answered g c = (answered_text c.answer_line-answered.result, c.answer_line-answered.ensures, c.push_answer.ensures)
