use Rattle.std.proofs.Common.{rules, refl, codes}
use Rattle.clap.specs.Matches.{found_of}
use Rattle.clap.specs.Words.{rows_of}
use Rattle.acd_command.proofs.CommandLines.{no_file, text_read, text_unread}
use Rattle.acd_files.proofs.Ends.{match_none}
use Rattle.acd_command.proofs.task.report_of.Goals as goal

pub returns : goal.returns
returns c = (text_read (found_of c.args.options.now) (codes "file") c.in_ok-get_str.field-0 c.in_ok-get_str.ensures, refl)

pub returns-in_err-get_str : goal.returns-in_err-get_str
returns-in_err-get_str c =
    let f = found_of c.args.options.now in
    match_none c.from_residual.result _ _ (search rules)
    (no_file (rows_of f) (λ file text. text_unread f (codes "file") c.in_err-get_str.ensures file text) (codes "report") refl)
