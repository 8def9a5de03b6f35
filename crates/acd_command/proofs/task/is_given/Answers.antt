use Rattle.std.proofs.Common.{◌∙◌}
use Rattle.std.specs.declared.str.ParseBoolError.{ParseBoolError}
use Rattle.clap.specs.Matches.{found_of}
use Rattle.acd_command.proofs.CommandLines.{flag_read}
use Rattle.acd_command.proofs.task.is_given.Goals as goal

pub returns : goal.returns
returns c = c.unwrap_or.ensures ∙ flag_read ParseBoolError (found_of c.args.options.now) c.args.flag.now c.get_one.result c.get_one.ensures.none c.get_one.ensures.value
