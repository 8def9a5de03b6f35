use Rattle.std.proofs.Common.{◌+◌, sym, ap, subst, arith, ◌∙◌, max, ◌<◌, ◌^◌}
use Rattle.acd_model.specs.Step.{executed_moment, turn_at}
use Rattle.acd_model.specs.Services.Serve.{serve}
use Rattle.acd_switch.specs.Room.{CountersFit}
use Rattle.acd_switch.proofs.StepEnd.{turn_is, rows_is, events_is, outcome_is, changes_are, groups_ascend}
use Rattle.acd_switch.proofs.RoomOfRules.{has_room, fits_after}
use Rattle.acd_laws.proofs.Rules.RulesAll.{step_keeps_rules}
use Rattle.acd_switch.proofs.switch.execute.Goals as goal

pub overflow_add-stamp : goal.overflow_add-stamp
overflow_add-stamp c = let room = has_room c.args.tables.now c.requires.rules c.requires.room in omega (arith, room.stamp, c.last_stamp-stamp.ensures)

pub run_command-requires : goal.run_command-requires
run_command-requires c = has_room c.args.tables.now c.requires.rules c.requires.room

pub close-requires-clause-order : goal.close-requires-clause-order
close-requires-clause-order c =
    groups_ascend c.args.tables.now c.run_command.new.tables c.distribute.new.tables c.max-moment.result
    (serve c.args.tables.now (turn_at c.max-moment.result (c.last_stamp-stamp.result + 1)) c.args.command.now)
    c.requires.rules c.in_ok-outcome.ensures.carried.rows c.in_ok-distribute.ensures.rows

pub close-requires-clause-room : goal.close-requires-clause-room
close-requires-clause-room c =
    let turn =
    turn_is c.args.tables.now c.args.moment c.max-moment.result (c.last_stamp-stamp.result + 1)
    (c.max-moment.ensures ∙ ap (max c.args.moment) c.last_moment.ensures) (omega (arith, c.last_stamp-stamp.ensures)) in
    let small : executed_moment c.args.tables.now c.args.moment < 2 ^ 32 = omega (arith, c.last_moment.ensures) in
    let kept = step_keeps_rules c.args.tables.now c.args.moment c.args.command.now c.requires.rules c.requires.room in
    subst CountersFit
    (sym (rows_is c.args.tables.now c.run_command.new.tables c.distribute.new.tables c.args.moment (turn_at c.max-moment.result (c.last_stamp-stamp.result + 1))
    c.last_event-last.result c.args.command.now _ _ _ turn c.last_event-last.ensures c.in_ok-outcome.ensures.carried c.in_ok-distribute.ensures
    c.in_ok-journal.ensures.events))
    (fits_after c.args.tables.now c.args.moment c.args.command.now c.requires.rules c.requires.room kept small)

pub returns-clause-rows : goal.returns-clause-rows
returns-clause-rows c =
    let turn =
    turn_is c.args.tables.now c.args.moment c.max-moment.result (c.last_stamp-stamp.result + 1)
    (c.max-moment.ensures ∙ ap (max c.args.moment) c.last_moment.ensures) (omega (arith, c.last_stamp-stamp.ensures)) in
    c.in_ok-close.ensures.rows
    ∙ rows_is c.args.tables.now c.run_command.new.tables c.distribute.new.tables c.args.moment (turn_at c.max-moment.result (c.last_stamp-stamp.result + 1))
    c.last_event-last.result c.args.command.now _ _ _ turn c.last_event-last.ensures c.in_ok-outcome.ensures.carried c.in_ok-distribute.ensures
    c.in_ok-journal.ensures.events

pub returns-clause-events : goal.returns-clause-events
returns-clause-events c =
    let turn =
    turn_is c.args.tables.now c.args.moment c.max-moment.result (c.last_stamp-stamp.result + 1)
    (c.max-moment.ensures ∙ ap (max c.args.moment) c.last_moment.ensures) (omega (arith, c.last_stamp-stamp.ensures)) in
    c.in_ok-close.ensures.events
    ∙ events_is c.args.tables.now c.run_command.new.tables c.distribute.new.tables c.args.moment (turn_at c.max-moment.result (c.last_stamp-stamp.result + 1))
    c.last_event-last.result c.args.command.now _ _ _ turn c.last_event-last.ensures c.in_ok-outcome.ensures.carried c.in_ok-distribute.ensures
    c.in_ok-journal.ensures.events

pub returns-clause-changes : goal.returns-clause-changes
returns-clause-changes c =
    let turn =
    turn_is c.args.tables.now c.args.moment c.max-moment.result (c.last_stamp-stamp.result + 1)
    (c.max-moment.ensures ∙ ap (max c.args.moment) c.last_moment.ensures) (omega (arith, c.last_stamp-stamp.ensures)) in
    changes_are c.args.tables.now c.run_command.new.tables c.distribute.new.tables c.args.moment (turn_at c.max-moment.result (c.last_stamp-stamp.result + 1))
    c.args.command.now _ _ _ _ turn c.in_ok-outcome.ensures.carried c.in_ok-distribute.ensures
    (c.in_ok-journal.ensures.events, c.in_ok-journal.ensures.changes) c.in_ok-close.ensures.changes

pub returns-clause-outcome : goal.returns-clause-outcome
returns-clause-outcome c =
    let turn =
    turn_is c.args.tables.now c.args.moment c.max-moment.result (c.last_stamp-stamp.result + 1)
    (c.max-moment.ensures ∙ ap (max c.args.moment) c.last_moment.ensures) (omega (arith, c.last_stamp-stamp.ensures)) in
    c.in_ok-outcome.ensures.outcome
    ∙ outcome_is c.args.tables.now c.args.moment (turn_at c.max-moment.result (c.last_stamp-stamp.result + 1)) c.args.command.now turn
