use Rattle.std.proofs.Common.{sym, ap, ◌∙◌}
use Rattle.acd_sqlbook.specs.Commit.{top_monitor, last_monitor}
use Rattle.acd_sqlbook.proofs.CommitWrites.{monitor_next}
use Rattle.acd_sqlbook.proofs.commit.last_monitor.Goals as goal
use Rattle.std.proofs.lemmas.List.{take_all}

pub loop-change-preserved : goal.loop-change-preserved
loop-change-preserved c =
    record {
      top =
          c.top_monitor-top.ensures ∙ ap (λ n. top_monitor n c.change-item.result) c.loop-change.invariant.top
          ∙ sym (monitor_next c.args.last c.loop-change.change-index c.args.changes.now _ _ c.change-item.is c.loop-change-test.true);
    }

pub returns : goal.returns
returns c = c.loop-change.invariant.top ∙ ap (last_monitor c.args.last) (take_all c.loop-change.change-index c.args.changes.now c.loop-change-test.false)
