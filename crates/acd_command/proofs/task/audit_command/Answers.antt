use Rattle.std.proofs.Common.{codes}
use Rattle.std.proofs.lemmas.Result.{IfOk-weaker}
use Rattle.clap.specs.Words.{new_app}
use Rattle.acd_command.specs.CommandLine.{HasApp, file_rule}
use Rattle.acd_command.proofs.CommandLines.{app_begun, app_more, rule_required}
use Rattle.acd_command.proofs.task.audit_command.Goals as goal

pub returns : goal.returns
returns c =
    let begun : HasApp (new_app (codes "audit")) c.after_help.result
    = app_begun (codes "audit") c.new.result c.about.result c.after_help.result _ _ c.new.ensures.app c.new.ensures.local c.about.ensures c.after_help.ensures in
    let file = rule_required file_rule c.file_option.result c.required.result c.file_option.ensures c.required.ensures in
    let one = app_more _ _ c.after_help.result c.in_ok-arg.field-0 c.required.result begun file c.in_ok-arg.ensures in
    let two = app_more _ _ c.in_ok-arg.field-0 c.in_ok-arg-2.field-0 c.archive_option.result one c.archive_option.ensures c.in_ok-arg-2.ensures in
    let three = app_more _ _ c.in_ok-arg-2.field-0 c.in_ok-arg-3.field-0 c.flag.result two c.flag.ensures c.in_ok-arg-3.ensures in
    IfOk-weaker c.arg-4.result _ _ (λ new adds. app_more _ _ c.in_ok-arg-3.field-0 new c.flag-2.result three c.flag-2.ensures adds) c.arg-4.ensures
