use Rattle.std.proofs.Common.{◌≤◌, length, arith}
use Rattle.acd_model.specs.Tick.{is_overdue}
use Rattle.acd_switch.proofs.TickLemmas.{gone_through, keeps_one, leaves_one}
use Rattle.acd_switch.proofs.tick.overdue_among.Goals.{then-is_overdue+in_ok-push, else-is_overdue}
use Rattle.acd_switch.proofs.tick.overdue_among.Goals as goal

pub returns : goal.returns
returns c =
    let items = c.args.ringing.now in
    let past : length items ≤ c.loop-connection.connection-index = omega arith in
    gone_through (is_overdue c.args.tables.now c.args.moment) c.loop-connection.overdue.items items c.loop-connection.connection-index past
    c.loop-connection.invariant.done

pub loop-connection-preserved : goal.loop-connection-preserved
loop-connection-preserved c =
    let items = c.args.ringing.now in
    let l = c.loop-connection in
    let new = c.if-is_overdue.overdue.items in
    elim c.if-is_overdue.branch [
      | then-is_overdue+in_ok-push w ↦ record {
        done =
            keeps_one (is_overdue c.args.tables.now c.args.moment) l.overdue.items items new l.connection-index c.loop-connection-test.true l.invariant.done _ _
            c.connection-item.is w.if-is_overdue.ensures (cc (w.in_ok-push.ensures.items));
      }
      | else-is_overdue w ↦ record {
        done =
            leaves_one (is_overdue c.args.tables.now c.args.moment) l.overdue.items items new l.connection-index c.loop-connection-test.true l.invariant.done _
            _ c.connection-item.is w.if-is_overdue.ensures (cc);
      }
    ]
