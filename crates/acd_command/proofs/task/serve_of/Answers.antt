use Rattle.std.proofs.Common.{rules, refl, codes}
use Rattle.clap.specs.Matches.{found_of}
use Rattle.clap.specs.Words.{rows_of}
use Rattle.acd_command.proofs.CommandLines.{no_service, text_read, text_unread}
use Rattle.acd_files.proofs.Ends.{match_none}
use Rattle.acd_command.proofs.task.serve_of.Goals as goal

pub returns-in_err-get_str : goal.returns-in_err-get_str
returns-in_err-get_str c =
    let f = found_of c.args.options.now in
    match_none c.from_residual.result _ _ (search rules) (no_service (rows_of f) (λ file address span text addressed spanned. text_unread f (codes "file") c.in_err-get_str.ensures file text))

pub returns-in_err-address_of : goal.returns-in_err-address_of
returns-in_err-address_of c =
    let f = found_of c.args.options.now in
    match_none c.from_residual-in_err-address_of.result _ _ (search rules) (no_service (rows_of f) (λ file address span text addressed spanned. c.in_err-address_of.ensures address addressed))

pub returns-in_err-span_of : goal.returns-in_err-span_of
returns-in_err-span_of c =
    let f = found_of c.args.options.now in
    match_none c.from_residual-in_err-span_of.result _ _ (search rules) (no_service (rows_of f) (λ file address span text addressed spanned. c.in_err-span_of.ensures span spanned))

pub returns : goal.returns
returns c =
    let f = found_of c.args.options.now in (
      refl,
      text_read f (codes "file") c.in_ok-get_str.field-0 c.in_ok-get_str.ensures,
      c.in_ok-address_of.ensures,
      c.in_ok-span_of.ensures,
    )
