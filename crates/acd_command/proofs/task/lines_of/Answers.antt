use Rattle.std.proofs.Common.{refl, codes, ◌∙◌}
use Rattle.clap.specs.Matches.{found_of}
use Rattle.clap.proofs.WalkLemmas.{first_value-rows}
use Rattle.acd_command.proofs.task.lines_of.Goals as goal

pub returns : goal.returns
returns c = (refl, c.get_str.ensures ∙ first_value-rows (found_of c.args.options.now) (codes "file"), c.is_given.ensures, c.is_given-2.ensures)
