use Rattle.std.proofs.Common.{rules, refl, codes, sym, true≢false, ◌∙◌}
use Rattle.clap.specs.Matches.{found_of}
use Rattle.clap.specs.Words.{rows_of}
use Rattle.acd_command.proofs.CommandLines.{no_standby, text_read, text_unread}
use Rattle.acd_files.proofs.Ends.{match_none}
use Rattle.acd_command.proofs.task.standby_of.Goals as goal

pub returns-then-not-is_given : goal.returns-then-not-is_given
returns-then-not-is_given c = no_standby (rows_of (found_of c.args.options.now)) (λ file address step patience text addressed endless tick patient. true≢false (endless ∙ sym c.is_given.ensures ∙ c.if-not-is_given.true))

pub returns-in_err-get_str : goal.returns-in_err-get_str
returns-in_err-get_str c =
    let f = found_of c.args.options.now in
    match_none c.from_residual.result _ _ (search rules) (no_standby (rows_of f) (λ file address step patience text addressed endless tick patient. text_unread f (codes "file") c.in_err-get_str.ensures file text))

pub returns-in_err-address_of : goal.returns-in_err-address_of
returns-in_err-address_of c =
    let f = found_of c.args.options.now in
    match_none c.from_residual-in_err-address_of.result _ _ (search rules) (no_standby (rows_of f) (λ file address step patience text addressed endless tick patient. c.in_err-address_of.ensures address addressed))

pub returns-in_err-seconds_of : goal.returns-in_err-seconds_of
returns-in_err-seconds_of c =
    let f = found_of c.args.options.now in
    match_none c.from_residual-in_err-seconds_of.result _ _ (search rules) (no_standby (rows_of f) (λ file address step patience text addressed endless tick patient. c.in_err-seconds_of.ensures step tick))

pub returns-in_err-seconds_of-2 : goal.returns-in_err-seconds_of-2
returns-in_err-seconds_of-2 c =
    let f = found_of c.args.options.now in
    match_none c.from_residual-in_err-seconds_of-2.result _ _ (search rules) (no_standby (rows_of f) (λ file address step patience text addressed endless tick patient. c.in_err-seconds_of-2.ensures patience patient))

pub returns : goal.returns
returns c =
    let f = found_of c.args.options.now in (
      refl,
      text_read f (codes "file") c.in_ok-get_str.field-0 c.in_ok-get_str.ensures,
      c.in_ok-address_of.ensures,
      (sym c.if-not-is_given.false ∙ c.is_given.ensures, c.in_ok-seconds_of.ensures, c.in_ok-seconds_of-2.ensures),
    )
