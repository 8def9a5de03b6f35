use Rattle.std.proofs.Common.{rules, None, refl, codes}
use Rattle.clap.specs.Matches.{found_of}
use Rattle.clap.specs.Words.{rows_of}
use Rattle.acd_command.proofs.CommandLines.{audit_read, no_file, text_read, text_unread, value_read}
use Rattle.acd_files.proofs.Ends.{match_none}
use Rattle.acd_command.proofs.task.audit_of.Goals as goal

pub returns-in-Some : goal.returns-in-Some
returns-in-Some c = (
  (refl, text_read (found_of c.args.options.now) (codes "file") c.in_ok-file.file c.in_ok-file.ensures, c.is_given-counts.ensures, c.is_given-whole.ensures),
  text_read (found_of c.args.options.now) (codes "archive") c.in-Some.archive c.in-Some.ensures,
)

pub returns-in-None : goal.returns-in-None
returns-in-None c =
    audit_read (rows_of (found_of c.args.options.now)) c.in_ok-file.file c.is_given-counts.result c.is_given-whole.result c.audit_alone.result c.audit_alone.ensures.whole c.audit_alone.ensures.plain
    (text_read (found_of c.args.options.now) (codes "file") c.in_ok-file.file c.in_ok-file.ensures) (value_read (found_of c.args.options.now) (codes "archive") None c.in-None.ensures)
    c.is_given-counts.ensures c.is_given-whole.ensures

pub returns-in_err-file : goal.returns-in_err-file
returns-in_err-file c =
    let f = found_of c.args.options.now in
    match_none c.from_residual.result _ _ (search rules) (no_file (rows_of f) (λ file text. text_unread f (codes "file") c.in_err-file.ensures file text) (codes "audit") refl)
