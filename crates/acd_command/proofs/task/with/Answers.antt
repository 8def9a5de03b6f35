use Rattle.std.proofs.lemmas.Result.{IfOk-weaker}
use Rattle.acd_command.specs.CommandLine.{HasApp}
use Rattle.acd_command.proofs.CommandLines.{app_with, ok_is}
use Rattle.acd_command.proofs.task.with.Goals as goal

pub returns : goal.returns
returns c above below h k =
    IfOk-weaker c.subcommand.result _ _
    (λ new adds. app_with above below c.in_ok-acd.field-0 c.in_ok-made.field-0 new (ok_is (HasApp above) c.args.acd c.in_ok-acd.field-0 c.in_ok-acd.was h) (ok_is (HasApp below) c.args.made c.in_ok-made.field-0 c.in_ok-made.was k) adds)
    c.subcommand.ensures
