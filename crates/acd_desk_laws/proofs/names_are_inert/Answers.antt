use Rattle.acd_desk_laws.proofs.NamesInert.{content_ignores_names, answers_ignore_names}
use Rattle.acd_desk_laws.proofs.names_are_inert.Goals as goal

pub returns : goal.returns
returns c = record { content = content_ignores_names; answers = answers_ignore_names }
