use Rattle.std.proofs.Common.{refl}
use Rattle.acd_model.proofs.OnLiterals.{switch_on_literals}
use Rattle.acd_model.proofs.examples.releases.Goals as goal

pub returns-clause-released_after_an_answer : goal.returns-clause-released_after_an_answer
unfolding switch_on_literals
returns-clause-released_after_an_answer c = ((refl, refl), (refl, refl), (refl, refl), (refl, refl), (refl, refl))

pub returns-clause-released_unanswered : goal.returns-clause-released_unanswered
unfolding switch_on_literals
returns-clause-released_unanswered c = ((refl, refl), (refl, refl), (refl, refl), (refl, refl), (refl, refl))

pub returns-clause-released_by_no_answer : goal.returns-clause-released_by_no_answer
unfolding switch_on_literals
returns-clause-released_by_no_answer c = ((refl, refl), (refl, refl), (refl, refl), (refl, refl), (refl, refl))
