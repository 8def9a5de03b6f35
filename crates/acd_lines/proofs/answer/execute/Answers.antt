use Rattle.std.proofs.Common.{ap}
use Rattle.acd_lines.specs.Answers.{line_text}
use Rattle.acd_lines.proofs.answer.execute.Goals as goal

pub returns : goal.returns
returns g c = let taken = c.take_text.ensures in (taken.answer, ap line_text taken.says, taken.took)
