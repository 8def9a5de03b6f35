use Rattle.std.proofs.Common.{codes}
use Rattle.std.proofs.lemmas.Result.{IfOk-weaker}
use Rattle.clap.specs.Words.{new_app}
use Rattle.acd_command.specs.CommandLine.{HasApp, file_rule}
use Rattle.acd_command.proofs.CommandLines.{app_begun, app_more, rule_required}
use Rattle.acd_command.proofs.task.report_command.Goals as goal

pub returns : goal.returns
returns c =
    let begun : HasApp (new_app (codes "report")) c.after_help.result
    = app_begun (codes "report") c.new.result c.about.result c.after_help.result _ _ c.new.ensures.app c.new.ensures.local c.about.ensures c.after_help.ensures in
    let file = rule_required file_rule c.file_option.result c.required.result c.file_option.ensures c.required.ensures in
    IfOk-weaker c.arg.result _ _ (λ new adds. app_more _ _ c.after_help.result new c.required.result begun file adds) c.arg.ensures
