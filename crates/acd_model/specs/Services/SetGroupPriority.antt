-- setGroupPriority: a group gets another priority. With the greatest one for a greater number the service keeps the rules for
-- any numbers; a request has none.
use Rattle.std.specs.Prelude.{not, min, [], ◌∷◌}
use Rattle.std.specs.Option.{ok_or}
use Rattle.acd_terms.specs.Results.{◌>>=◌, ◌>>◌}
use Rattle.acd_terms.specs.Limits.{greatest_priority}
use Rattle.acd_terms.specs.Numbers.{Device, Priority}
use Rattle.acd_terms.specs.declared.rows.Rows.{Rows}
use Rattle.acd_terms.specs.declared.answer.Answer.TheVariants.{Nothing}
use Rattle.acd_terms.specs.declared.answer.Refusal.TheVariants.{UnknownDevice, NotGroup}
use Rattle.acd_model.specs.Scans.{group_of, is_planned}
use Rattle.acd_model.specs.Moves.{silent}
use Rattle.acd_model.specs.ServiceAnswers.{Served, refuse_if, gives}
use Rattle.acd_model.specs.declared.moves.Change.TheVariants.{PutGroup}

unfoldable pub set_group_priority : Rows → Device → Priority → Served
set_group_priority s device priority = do
  refuse_if (not (is_planned s device)) UnknownDevice
  g ← ok_or (group_of s device) NotGroup
  gives Nothing (silent (PutGroup (record g { priority = min priority greatest_priority })) ∷ [])
