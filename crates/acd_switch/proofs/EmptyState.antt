-- The empty state breaks no rule.
use Rattle.std.proofs.Common.{◌≡◌, true, [], arith}
use Rattle.acd_terms.specs.Limits.{limits_fit}
use Rattle.acd_terms.specs.Rows.{empty_rows}
use Rattle.acd_terms.specs.declared.rows.Limits.{Limits}
use Rattle.acd_model.specs.Run.{run}
use Rattle.acd_model.specs.Rules.First.{BreaksNoRule}
use Rattle.acd_laws.proofs.Rules.RulesAll.{run_keeps_rules}

pub empty_breaks_none : (limits : Limits) → limits_fit limits ≡ true → BreaksNoRule (empty_rows limits)
unfolding run
empty_breaks_none limits h = run_keeps_rules limits [] h (omega arith)
