-- The end of a step: from the states and events on the way to those of the definition.
use Rattle.std.proofs.Common.{◌≡◌, ℕ, [], ◌++◌, List, refl, sym, ap, subst, ◌∙◌}
use Rattle.acd_terms.specs.declared.rows.Rows.{Rows}
use Rattle.acd_terms.specs.declared.event.Event.{Event}
use Rattle.acd_terms.specs.declared.command.Command.{Command}
use Rattle.acd_model.specs.declared.moves.Move.{Move}
use Rattle.acd_model.specs.ServiceAnswers.{Served, moves_of, outcome_of}
use Rattle.acd_model.specs.Moves.{moved, events_of}
use Rattle.acd_model.specs.Distribution.{distribution}
use Rattle.acd_model.specs.Step.{Stepped, step, step_at, step_moves, numbered, executed_moment, next_stamp, next_turn, turn_at}
use Rattle.acd_model.specs.Services.Serve.{serve}
use Rattle.acd_switch.specs.Room.{closed}
use Rattle.acd_switch.specs.CarriedOutMoves.{CarriesOut}
use Rattle.acd_switch.specs.declared.journal.Journal.{Journal}
use Rattle.acd_terms.specs.declared.command.Turn.{Turn}
use Rattle.acd_terms.specs.Lists.{IsAscending}
use Rattle.acd_model.specs.Changes.{changes_of, growth, step_changes_by, step_changes}
use Rattle.acd_model.specs.Rules.Plan.{group_order}
use Rattle.acd_model.specs.Rules.First.{BreaksNoRule}
use Rattle.acd_model.specs.declared.moves.Change.{Change}
use Rattle.acd_model.proofs.MoveLemmas.{moved_append, events_of_append}
use Rattle.acd_model.proofs.ChangeLemmas.{changes_of_append}
use Rattle.acd_laws.proofs.Rules.AllRuleTests.{keeps_read}
use Rattle.acd_laws.proofs.StepChanges.ChangedRows.{ascending_moved}

-- the state after the service and the distribution
pub rows_after : (s t u : Rows) (m : ℕ) (v : Served) → t ≡ moved s (moves_of v) → u ≡ moved t (distribution t m) → u ≡ moved s (step_moves s m v)
rows_after s t u m v e f =
    f ∙ ap (λ (x : Rows). moved x (distribution x m)) e ∙ sym (moved_append s (moves_of v) (distribution (moved s (moves_of v)) m))

abbrev Joins : {Y : Type 0} → (List Move → List Y) → Type 0
Joins {Y} list = (ms ns : List Move) → list (ms ++ ns) ≡ list ms ++ list ns

-- what is reported of them, as their events or their changes
listed_after : {Y : Type 0} (list : List Move → List Y) (joined : Joins list) (s t : Rows) (m : ℕ)
    (v : Served) (none es fs : List Y)
    → none ≡ [] → t ≡ moved s (moves_of v) → es ≡ none ++ list (moves_of v) → fs ≡ es ++ list (distribution t m) → fs ≡ list (step_moves s m v)
listed_after list joined s t m v none es fs n e f g =
    g ∙ ap (λ l. l ++ list (distribution t m)) (f ∙ ap (λ l. l ++ list (moves_of v)) n)
    ∙ ap (λ (x : Rows). list (moves_of v) ++ list (distribution x m)) e
    ∙ sym (joined (moves_of v) (distribution (moved s (moves_of v)) m))

-- the turn that the code computes
pub turn_is : (s : Rows) (moment m k : ℕ) → m ≡ executed_moment s moment → k ≡ next_stamp s → turn_at m k ≡ next_turn s moment
turn_is s moment m k e f = rw (e, f) refl

-- the step, from that turn
step_is : (s : Rows) (moment : ℕ) (at : Turn) (command : Command) → at ≡ next_turn s moment → step s moment command ≡ step_at s at (serve s at command)
unfolding step
step_is s moment at command e = rw e refl

-- the code goes from the rows s by the service to t, and by the distribution to u, with its journal blank at first
all_events : (s t u : Rows) (at : Turn) (v : Served) (blank j l : Journal) → blank.events.items ≡ [] → CarriesOut at.moment (moves_of v) s blank t j
    → CarriesOut at.moment (distribution t at.moment) t j u l → l.events.items ≡ events_of at.moment (step_moves s at.moment v)
all_events s t u at v blank j l start service offers =
    listed_after (events_of at.moment) (events_of_append at.moment) s t at.moment v blank.events.items j.events.items l.events.items start service.rows
    service.events offers.events

pub rows_is : (s t u : Rows) (moment : ℕ) (at : Turn) (last : ℕ) (command : Command) (blank j l : Journal) → at ≡ next_turn s moment → last ≡ s.last_event
    → CarriesOut at.moment (moves_of (serve s at command)) s blank t j → CarriesOut at.moment (distribution t at.moment) t j u l
    → blank.events.items ≡ [] → closed u at last l.events.items ≡ (step s moment command).rows
rows_is s t u moment at last command blank j l turn known service offers start =
    let v : Served = serve s at command in
    ap (λ (x : Rows). closed x at last l.events.items) (rows_after s t u at.moment v service.rows offers.rows)
    ∙ ap (λ (es : List Event). closed (moved s (step_moves s at.moment v)) at last es) (all_events s t u at v blank j l start service offers)
    ∙ ap (λ (n : ℕ). closed (moved s (step_moves s at.moment v)) at n (events_of at.moment (step_moves s at.moment v))) known
    ∙ ap (λ (x : Stepped). x.rows) (sym (step_is s moment at command turn))

pub events_is : (s t u : Rows) (moment : ℕ) (at : Turn) (last : ℕ) (command : Command) (blank j l : Journal) → at ≡ next_turn s moment → last ≡ s.last_event
    → CarriesOut at.moment (moves_of (serve s at command)) s blank t j → CarriesOut at.moment (distribution t at.moment) t j u l
    → blank.events.items ≡ [] → numbered last l.events.items ≡ (step s moment command).events
events_is s t u moment at last command blank j l turn known service offers start =
    let v : Served = serve s at command in
    ap (λ (es : List Event). numbered last es) (all_events s t u at v blank j l start service offers)
    ∙ ap (λ (n : ℕ). numbered n (events_of at.moment (step_moves s at.moment v))) known
    ∙ ap (λ (x : Stepped). x.events) (sym (step_is s moment at command turn))

pub outcome_is : (s : Rows) (moment : ℕ) (at : Turn) (command : Command) → at ≡ next_turn s moment
    → outcome_of (serve s at command) ≡ (step s moment command).outcome
outcome_is s moment at command e = ap (λ (x : Stepped). x.outcome) (sym (step_is s moment at command e))

-- the changes, with those of the figures after those of the moves
pub changes_are : (s t u : Rows) (moment : ℕ) (at : Turn) (command : Command) (blank j l : Journal) (all : List Change) → at ≡ next_turn s moment
    → CarriesOut at.moment (moves_of (serve s at command)) s blank t j → CarriesOut at.moment (distribution t at.moment) t j u l
    → (blank.events.items ≡ []) × (blank.changes.items ≡ []) → all ≡ l.changes.items ++ growth u l.events.items → all ≡ step_changes s moment command
unfolding step_changes
changes_are s t u moment at command blank j l all turn service offers start grown =
    let v : Served = serve s at command in
    let m : ℕ = at.moment in
    grown
    ∙ ap (λ cs. cs ++ growth u l.events.items)
    (listed_after changes_of changes_of_append s t m v blank.changes.items j.changes.items l.changes.items start.1 service.rows service.changes offers.changes)
    ∙ ap (λ (x : Rows). changes_of (step_moves s m v) ++ growth x l.events.items) (rows_after s t u m v service.rows offers.rows)
    ∙ ap (λ (es : List Event). changes_of (step_moves s m v) ++ growth (moved s (step_moves s m v)) es) (all_events s t u at v blank j l start.0 service offers)
    ∙ ap (λ (x : Turn). step_changes_by s x.moment (step_moves s x.moment (serve s x command))) turn

-- the groups are still in order then
pub groups_ascend : (s t u : Rows) (m : ℕ) (v : Served) → BreaksNoRule s → t ≡ moved s (moves_of v) → u ≡ moved t (distribution t m)
    → IsAscending group_order u.groups
groups_ascend s t u m v h e f =
    subst (λ (x : Rows). IsAscending group_order x.groups) (sym (rows_after s t u m v e f))
    (ascending_moved s (step_moves s m v) (keeps_read s h).rules.orders.groups)
