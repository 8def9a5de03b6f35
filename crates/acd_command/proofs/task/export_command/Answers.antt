use Rattle.std.proofs.Common.{codes}
use Rattle.std.proofs.lemmas.Result.{IfOk-weaker}
use Rattle.clap.specs.Words.{new_app}
use Rattle.acd_command.specs.CommandLine.{HasApp, file_rule}
use Rattle.acd_command.proofs.CommandLines.{app_begun, app_more, rule_required}
use Rattle.acd_command.proofs.task.export_command.Goals as goal

pub returns : goal.returns
returns c =
    let begun : HasApp (new_app (codes "export")) c.after_help.result
    = app_begun (codes "export") c.new.result c.about.result c.after_help.result _ _ c.new.ensures.app c.new.ensures.local c.about.ensures c.after_help.ensures in
    let file = rule_required file_rule c.file_option.result c.required.result c.file_option.ensures c.required.ensures in
    let one = app_more _ _ c.after_help.result c.in_ok-arg.field-0 c.required.result begun file c.in_ok-arg.ensures in
    IfOk-weaker c.arg-2.result _ _ (λ new adds. app_more _ _ c.in_ok-arg.field-0 new c.archives_option.result one c.archives_option.ensures adds) c.arg-2.ensures
