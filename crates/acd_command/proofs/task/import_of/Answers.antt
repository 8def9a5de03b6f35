use Rattle.std.proofs.Common.{rules, refl, codes}
use Rattle.clap.specs.Matches.{found_of}
use Rattle.acd_command.proofs.CommandLines.{no_import, text_read, text_unread}
use Rattle.clap.specs.Words.{rows_of}
use Rattle.acd_files.proofs.Ends.{match_none}
use Rattle.acd_command.proofs.task.import_of.Goals as goal

pub returns : goal.returns
returns c =
    let f = found_of c.args.options.now in
    (refl, text_read f (codes "file") c.in_ok-get_str.field-0 c.in_ok-get_str.ensures, text_read f (codes "plan") c.in_ok-get_str-2.field-0 c.in_ok-get_str-2.ensures)

pub returns-in_err-get_str : goal.returns-in_err-get_str
returns-in_err-get_str c =
    let f = found_of c.args.options.now in
    match_none c.from_residual.result _ _ (search rules) (no_import (rows_of f) (λ file plan text other. text_unread f (codes "file") c.in_err-get_str.ensures file text))

pub returns-in_err-get_str-2 : goal.returns-in_err-get_str-2
returns-in_err-get_str-2 c =
    let f = found_of c.args.options.now in
    match_none c.from_residual-in_err-get_str-2.result _ _ (search rules) (no_import (rows_of f) (λ file plan other text. text_unread f (codes "plan") c.in_err-get_str-2.ensures plan text))
