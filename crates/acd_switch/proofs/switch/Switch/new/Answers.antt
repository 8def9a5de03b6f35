use Rattle.std.proofs.Common.{sym, subst}
use Rattle.acd_model.specs.Rules.First.{BreaksNoRule}
use Rattle.acd_switch.proofs.EmptyState.{empty_breaks_none}
use Rattle.acd_switch.proofs.switch.Switch.new.Goals as goal

pub returns-clause-kept : goal.returns-clause-kept
returns-clause-kept c = λ h. subst BreaksNoRule (sym c.new.ensures) (empty_breaks_none c.args.limits h)
