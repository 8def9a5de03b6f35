-- The effect of a step on the counters and the limits.
use Rattle.std.proofs.Common.{◌≡◌, ℕ, ◌+◌, List, [], ◌∷◌, length, refl, sym, ap, ◌∙◌, arith, max}
use Rattle.acd_terms.specs.declared.rows.Rows.{Rows}
use Rattle.acd_terms.specs.declared.command.Command.{Command}
use Rattle.acd_terms.specs.declared.event.Event.{Event}
use Rattle.acd_model.specs.Moves.{changed, moved, events_of}
use Rattle.acd_model.specs.Writes.{with_last}
use Rattle.acd_model.specs.Figures.{with_figures}
use Rattle.acd_model.specs.Services.Serve.{serve}
use Rattle.acd_model.specs.Step.{step, step_at, step_moves, numbered, executed_moment, next_stamp, next_turn, turn_at}
use Rattle.acd_model.specs.declared.moves.Move.{Move}
use Rattle.acd_book.specs.Content.{GoOn}
use Rattle.acd_lemmas.proofs.Changes.{limits-changed}
use Rattle.acd_laws.proofs.StepChanges.ChangedRows.{length-numbered}

moved_limits : (s : Rows) (ms : List Move) → (moved s ms).limits ≡ s.limits
moved_limits s [] = refl
moved_limits s (x ∷ ms) = moved_limits (changed s x.change) ms ∙ limits-changed s x.change

pub step_limits : (s : Rows) (m : ℕ) (c : Command) → (step s m c).rows.limits ≡ s.limits
unfolding step with_last with_figures
step_limits s m c = moved_limits s (step_moves s (executed_moment s m) (serve s (next_turn s m) c))

pub step_stamp : (s : Rows) (m : ℕ) (c : Command) → (step s m c).rows.last_stamp ≡ s.last_stamp + 1
unfolding step with_last
step_stamp s m c = refl

again : (m l : ℕ) → max (max m l) l ≡ max m l
again m l = omega arith

-- at the executed moment the step is the same
pub step_raised : (s : Rows) (m : ℕ) (c : Command) → step s (executed_moment s m) c ≡ step s m c
unfolding step
step_raised s m c = ap (λ (x : ℕ). step_at s (turn_at x (next_stamp s)) (serve s (turn_at x (next_stamp s)) c)) (again m s.last_moment)

pub raised_again : (s : Rows) (m : ℕ) → executed_moment s (executed_moment s m) ≡ executed_moment s m
raised_again s m = again m s.last_moment

numbered_go_on : (n : ℕ) (es : List Event) → GoOn n (numbered n es)
numbered_go_on n [] = tt
numbered_go_on n (e ∷ es) = (refl, numbered_go_on (n + 1) es)

-- the events of a step are numbered on from the last one
pub step_numbers : (s : Rows) (m : ℕ) (c : Command) → GoOn s.last_event (step s m c).events
unfolding step
step_numbers s m c = numbered_go_on s.last_event _

pub step_event : (s : Rows) (m : ℕ) (c : Command) → (step s m c).rows.last_event ≡ s.last_event + length (step s m c).events
unfolding step with_last
step_event s m c = ap (λ (n : ℕ). s.last_event + n) (sym (length-numbered s.last_event (events_of (executed_moment s m) (step_moves s (executed_moment s m) (serve s (next_turn s m) c)))))
