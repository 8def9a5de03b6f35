-- Changes of rows: what they leave.
use Rattle.std.proofs.Common.{◌≡◌, true, List, [], ◌∷◌, refl, ◌∙◌, ◌≤◌, arith}
use Rattle.std.proofs.lemmas.Bool.Decides.{nat_tests}
use Rattle.acd_terms.specs.Limits.{limits_fit}
use Rattle.acd_lemmas.proofs.Words.{Rows, Limits, Change, changed}
use Rattle.acd_model.specs.declared.moves.Change.TheVariants.{Nothing}
use Rattle.acd_model.specs.Changes.{changed_by}
use Rattle.acd_model.specs.Writes.{with_group, with_station, with_agent, with_call, with_connection, with_monitor, without_call, without_connection, without_monitor}

pub limits-changed : (s : Rows) (one : Change) → (changed s one).limits ≡ s.limits
unfolding with_group with_station with_agent with_call with_connection with_monitor without_call without_connection without_monitor
limits-changed s Nothing = refl
limits-changed s _ = refl

pub limits-changed_by : (s : Rows) (changes : List Change) → (changed_by s changes).limits ≡ s.limits
limits-changed_by s [] = refl
limits-changed_by s (one ∷ changes) = limits-changed_by (changed s one) changes ∙ limits-changed s one

pub requests_few : (l : Limits) → limits_fit l ≡ true → l.requests ≤ 1000000000
unfolding limits_fit
requests_few l h = grind (arith, nat_tests)
