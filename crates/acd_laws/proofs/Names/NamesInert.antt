-- Steps and runs over rows without their names: those over the rows, less the names. So names are inert (`names_are_inert`).
use Rattle.std.proofs.Common.{◌≡◌, ◌+◌, List, [], ◌∷◌, refl, sym, ◌∙◌, ap, ap₂, map, length}
use Rattle.std.proofs.lemmas.List.{map-append}
use Rattle.acd_terms.specs.Numbers.{Moment}
use Rattle.acd_terms.specs.declared.command.Turn.{Turn}
use Rattle.acd_terms.specs.declared.answer.Outcome.{Outcome}
use Rattle.acd_lemmas.proofs.Words.{Rows, Command, Event, Move, Served, empty_rows, with_last, moved, events_of}
use Rattle.acd_model.specs.Distribution.{distribution}
use Rattle.acd_model.specs.ServiceAnswers.{outcome_of, moves_of}
use Rattle.acd_model.specs.Services.Serve.{serve}
use Rattle.acd_model.specs.Step.{Stepped, step_moves, counted, step_by, step, next_turn, numbered}
use Rattle.acd_model.specs.Run.{TimedCommand, AfterRun, then_run, run}
use Rattle.acd_laws.specs.NameLaws.{unnamed, unnamed_command, unnamed_timed, NamesAreInert, RunIgnoresNames}
use Rattle.acd_laws.proofs.Names.UnnamedMoves.{unnamed_move, unnamed_moved, unnamed_events, unnamed_figures, unnamed_distribution}
use Rattle.acd_laws.proofs.Names.UnnamedServices.{IsUnnamed, unnamed_serve}

abbrev pub unnamed_step : Stepped → Stepped
unnamed_step one = record one { rows = unnamed one.rows }

abbrev unnamed_run : AfterRun → AfterRun
unnamed_run r = record r { rows = unnamed r.rows }

counted_unnamed : (s : Rows) (turn : Turn) (ms : List Move) → counted (unnamed s) turn (map unnamed_move ms) ≡ unnamed (counted s turn ms)
unfolding unnamed with_last
counted_unnamed s turn ms =
    let es : List Event = events_of turn.moment ms in
    let t : Rows = moved s ms in
    rw (unnamed_events turn.moment ms, unnamed_moved s ms) (ap (λ v. with_last v turn.stamp turn.moment (s.last_event + length es)) (unnamed_figures t es))

step_by_unnamed : (s : Rows) (turn : Turn) (outcome : Outcome) (ms : List Move)
    → step_by (unnamed s) turn outcome (map unnamed_move ms) ≡ unnamed_step (step_by s turn outcome ms)
unfolding unnamed
step_by_unnamed s turn outcome ms =
    ap₂ (λ (t : Rows) (es : List Event). let one : Stepped = record { outcome = outcome; rows = t; events = numbered s.last_event es } in one)
    (counted_unnamed s turn ms) (unnamed_events turn.moment ms)

step_moves_unnamed : (s : Rows) (moment : Moment) (v w : Served) → moves_of v ≡ map unnamed_move (moves_of w)
    → step_moves (unnamed s) moment v ≡ map unnamed_move (step_moves s moment w)
step_moves_unnamed s moment v w e =
    let ms : List Move = moves_of w in
    rw (e, unnamed_moved s ms, unnamed_distribution (moved s ms) moment) (sym (map-append unnamed_move ms (distribution (moved s ms) moment)))

pub step_unnamed : (s : Rows) (moment : Moment) (c : Command) → step (unnamed s) moment (unnamed_command c) ≡ unnamed_step (step s moment c)
unfolding unnamed step
step_unnamed s moment c =
    let turn : Turn = next_turn s moment in
    let w : Served = serve s turn c in
    let v : Served = serve (unnamed s) turn (unnamed_command c) in
    let is : IsUnnamed v w = unnamed_serve s turn c in
    ap₂ (step_by (unnamed s) turn) is.outcome (step_moves_unnamed s turn.moment v w is.moves)
    ∙ step_by_unnamed s turn (outcome_of w) (step_moves s turn.moment w)

run_unnamed : (s : Rows) (cs : List TimedCommand) → run (unnamed s) (map unnamed_timed cs) ≡ unnamed_run (run s cs)
unfolding run
run_unnamed s [] = refl
run_unnamed s (c ∷ cs) =
    let one : Stepped = step s c.moment c.command in
    ap (λ (z : Stepped). then_run z (run z.rows (map unnamed_timed cs))) (step_unnamed s c.moment c.command)
    ∙ ap (then_run (unnamed_step one)) (run_unnamed one.rows cs)

pub names_are_inert : NamesAreInert
names_are_inert s t xs ys rows commands =
    let same : unnamed_run (run s xs) ≡ unnamed_run (run t ys) = sym (run_unnamed s xs) ∙ ap₂ run rows commands ∙ run_unnamed t ys in
    record {
      outcomes = ap (λ (r : AfterRun). r.outcomes) same;
      events = ap (λ (r : AfterRun). r.events) same;
      rows = ap (λ (r : AfterRun). r.rows) same;
    }

pub run_ignores_names : RunIgnoresNames
run_ignores_names limits xs ys commands = names_are_inert (empty_rows limits) (empty_rows limits) xs ys refl commands
