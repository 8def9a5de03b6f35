use Rattle.std.proofs.Common.{codes}
use Rattle.std.proofs.lemmas.Result.{IfOk-weaker}
use Rattle.clap.specs.Words.{new_app}
use Rattle.acd_command.specs.CommandLine.{HasApp}
use Rattle.acd_command.proofs.CommandLines.{app_begun, app_more}
use Rattle.acd_command.proofs.task.lines_command.Goals as goal

pub returns : goal.returns
returns c =
    let begun : HasApp (new_app (codes "lines")) c.after_help.result
    = app_begun (codes "lines") c.new.result c.about.result c.after_help.result _ _ c.new.ensures.app c.new.ensures.local c.about.ensures c.after_help.ensures in
    let one = app_more _ _ c.after_help.result c.in_ok-arg.field-0 c.file_option.result begun c.file_option.ensures c.in_ok-arg.ensures in
    let two = app_more _ _ c.in_ok-arg.field-0 c.in_ok-arg-2.field-0 c.flag.result one c.flag.ensures c.in_ok-arg-2.ensures in
    IfOk-weaker c.arg-3.result _ _ (λ new adds. app_more _ _ c.in_ok-arg-2.field-0 new c.flag-2.result two c.flag-2.ensures adds) c.arg-3.ensures
