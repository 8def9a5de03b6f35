use Rattle.std.proofs.Common.{◌≤◌, length, arith}
use Rattle.acd_model.specs.Tick.{is_wrapped_up}
use Rattle.acd_switch.proofs.TickLemmas.{gone_through, keeps_one, leaves_one}
use Rattle.acd_switch.proofs.tick.wrapped_up_among.Goals.{then-is_wrapped_up+in_ok-push, else-is_wrapped_up}
use Rattle.acd_switch.proofs.tick.wrapped_up_among.Goals as goal

pub returns : goal.returns
returns c =
    let items = c.args.working.now in
    let past : length items ≤ c.loop-agent.agent-index = omega arith in
    gone_through (is_wrapped_up c.args.tables.now c.args.moment) c.loop-agent.rested.items items c.loop-agent.agent-index past c.loop-agent.invariant.done

pub loop-agent-preserved : goal.loop-agent-preserved
loop-agent-preserved c =
    let items = c.args.working.now in
    let l = c.loop-agent in
    let new = c.if-is_wrapped_up.rested.items in
    elim c.if-is_wrapped_up.branch [
      | then-is_wrapped_up+in_ok-push w ↦ record {
        done =
            keeps_one (is_wrapped_up c.args.tables.now c.args.moment) l.rested.items items new l.agent-index c.loop-agent-test.true l.invariant.done _ _
            c.agent-item.is w.if-is_wrapped_up.ensures (cc (w.in_ok-push.ensures.items));
      }
      | else-is_wrapped_up w ↦ record {
        done =
            leaves_one (is_wrapped_up c.args.tables.now c.args.moment) l.rested.items items new l.agent-index c.loop-agent-test.true l.invariant.done _ _
            c.agent-item.is w.if-is_wrapped_up.ensures (cc);
      }
    ]
