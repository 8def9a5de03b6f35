-- changeAgent: a planned agent gets another name.
use Rattle.std.specs.Prelude.{ℕ, List, [], ◌∷◌}
use Rattle.std.specs.Option.{ok_or}
use Rattle.acd_terms.specs.Results.{◌>>=◌}
use Rattle.acd_terms.specs.Numbers.{Agent}
use Rattle.acd_terms.specs.declared.rows.Rows.{Rows}
use Rattle.acd_terms.specs.declared.answer.Answer.TheVariants.{Nothing}
use Rattle.acd_terms.specs.declared.answer.Refusal.TheVariants.{UnknownAgent}
use Rattle.acd_model.specs.Scans.{agent_of}
use Rattle.acd_model.specs.Moves.{silent}
use Rattle.acd_model.specs.ServiceAnswers.{Served, gives}
use Rattle.acd_model.specs.declared.moves.Change.TheVariants.{PutAgent}

unfoldable pub change_agent : Rows → Agent → List ℕ → Served
change_agent s agent name = do
  a ← ok_or (agent_of s agent) UnknownAgent
  gives Nothing (silent (PutAgent (record a { name = name })) ∷ [])
