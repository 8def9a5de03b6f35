-- changeGroup: a planned group gets another name, ring and wrap.
use Rattle.std.specs.Prelude.{ℕ, List, not, [], ◌∷◌}
use Rattle.std.specs.Option.{ok_or}
use Rattle.acd_terms.specs.Results.{◌>>=◌, ◌>>◌}
use Rattle.acd_terms.specs.Numbers.{Device, Seconds}
use Rattle.acd_terms.specs.declared.rows.Rows.{Rows}
use Rattle.acd_terms.specs.declared.answer.Answer.TheVariants.{Nothing}
use Rattle.acd_terms.specs.declared.answer.Refusal.TheVariants.{UnknownDevice, NotGroup}
use Rattle.acd_model.specs.Scans.{group_of, is_planned}
use Rattle.acd_model.specs.Moves.{silent}
use Rattle.acd_model.specs.ServiceAnswers.{Served, refuse_if, gives}
use Rattle.acd_model.specs.declared.moves.Change.TheVariants.{PutGroup}

unfoldable pub change_group : Rows → Device → List ℕ → Seconds → Seconds → Served
change_group s device name ring wrap = do
  refuse_if (not (is_planned s device)) UnknownDevice
  g ← ok_or (group_of s device) NotGroup
  gives Nothing (silent (PutGroup (record g { name = name; ring = ring; wrap = wrap })) ∷ [])
