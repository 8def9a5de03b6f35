use Rattle.std.proofs.Common.{codes}
use Rattle.std.proofs.lemmas.Result.{IfOk-weaker}
use Rattle.clap.specs.Words.{new_app}
use Rattle.acd_command.specs.CommandLine.{HasApp, file_rule}
use Rattle.acd_command.proofs.CommandLines.{app_begun, app_used, app_more, rule_required}
use Rattle.acd_command.proofs.task.standby_command.Goals as goal

pub returns : goal.returns
returns c =
    let begun : HasApp (new_app (codes "standby")) c.after_help.result
    = app_begun (codes "standby") c.new.result c.about.result c.after_help.result _ _ c.new.ensures.app c.new.ensures.local c.about.ensures c.after_help.ensures in
    let used = app_used _ c.after_help.result c.override_usage.result _ begun c.override_usage.ensures in
    let file = rule_required file_rule c.file_option.result c.required.result c.file_option.ensures c.required.ensures in
    let one = app_more _ _ c.override_usage.result c.in_ok-arg.field-0 c.required.result used file c.in_ok-arg.ensures in
    let two = app_more _ _ c.in_ok-arg.field-0 c.in_ok-arg-2.field-0 c.port_option.result one c.port_option.ensures c.in_ok-arg-2.ensures in
    let three = app_more _ _ c.in_ok-arg-2.field-0 c.in_ok-arg-3.field-0 c.socket_option.result two c.socket_option.ensures c.in_ok-arg-3.ensures in
    let four = app_more _ _ c.in_ok-arg-3.field-0 c.in_ok-arg-4.field-0 c.endless_option.result three c.endless_option.ensures c.in_ok-arg-4.ensures in
    let five = app_more _ _ c.in_ok-arg-4.field-0 c.in_ok-arg-5.field-0 c.tick_option.result four c.tick_option.ensures c.in_ok-arg-5.ensures in
    IfOk-weaker c.arg-6.result _ _ (λ new adds. app_more _ _ c.in_ok-arg-5.field-0 new c.patience_option.result five c.patience_option.ensures adds) c.arg-6.ensures
