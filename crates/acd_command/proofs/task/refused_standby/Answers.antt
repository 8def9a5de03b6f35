use Rattle.std.proofs.Common.{sym, subst}
use Rattle.std.proofs.lemmas.Result.{IfOk-weaker}
use Rattle.acd_command.specs.CommandLine.{IsHelp}
use Rattle.acd_command.proofs.task.refused_standby.Goals as goal

pub returns : goal.returns
returns c = IfOk-weaker c.error.result _ _ (λ e is. subst (λ k. ¬ IsHelp k) (sym is) c.refusal-kind.ensures) c.error.ensures.kind
