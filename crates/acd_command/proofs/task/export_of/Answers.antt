use Rattle.std.proofs.Common.{rules, refl, codes}
use Rattle.clap.specs.Matches.{found_of}
use Rattle.clap.specs.Words.{rows_of}
use Rattle.acd_command.proofs.CommandLines.{no_file, text_read, text_unread, texts_read, texts_unread}
use Rattle.acd_files.proofs.Ends.{match_none}
use Rattle.acd_command.proofs.task.export_of.Goals as goal

pub returns-in-Some : goal.returns-in-Some
returns-in-Some c =
    let f = found_of c.args.options.now in (
      refl,
      text_read f (codes "file") c.in_ok-file.file c.in_ok-file.ensures,
      texts_read f (codes "archive") c.in-Some.archives c.in-Some.ensures,
    )

pub returns-in-None : goal.returns-in-None
returns-in-None c =
    let f = found_of c.args.options.now in (
      text_read f (codes "file") c.in_ok-file.file c.in_ok-file.ensures,
      (refl, texts_unread f (codes "archive") c.in-None.ensures),
    )

pub returns-in_err-file : goal.returns-in_err-file
returns-in_err-file c =
    let f = found_of c.args.options.now in
    match_none c.from_residual.result _ _ (search rules) (no_file (rows_of f) (λ file text. text_unread f (codes "file") c.in_err-file.ensures file text) (codes "export") refl)
