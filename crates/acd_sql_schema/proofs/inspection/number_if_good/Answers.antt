use Rattle.std.proofs.Common.{sym, ap, ◌∙◌}
use Rattle.acd_sql_schema.specs.Inspection.{number_if_good}
use Rattle.acd_sql_schema.proofs.LogPages.{event_numbered, kept_numbered}
use Rattle.acd_sql_schema.proofs.inspection.number_if_good.Goals as goal

pub returns-in-Events-clause-number : goal.returns-in-Events-clause-number
returns-in-Events-clause-number c = c.event_number.ensures ∙ event_numbered c.args.row.now ∙ ap (λ l. number_if_good l c.args.row.now) (sym c.in-Events.is)

pub returns-in-Ok-clause-number : goal.returns-in-Ok-clause-number
returns-in-Ok-clause-number c = c.in-Ok.ensures ∙ kept_numbered c.args.row.now ∙ ap (λ l. number_if_good l c.args.row.now) (sym c.in-Kept.is)
