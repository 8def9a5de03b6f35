use Rattle.std.proofs.Common.{◌++◌, ◌∷◌, [], List, take, sym, subst, ap, ◌∙◌}
use Rattle.std.proofs.lemmas.List.{take_all}
use Rattle.acd_terms.specs.declared.record.MonitorRecord.{MonitorRecord}
use Rattle.acd_lemmas.proofs.Lists.{take-push}
use Rattle.acd_book.specs.MonitorIndexes.{RecordsThese}
use Rattle.acd_book.proofs.MonitorCounts.{started_on}
use Rattle.acd_book.proofs.monitor_index.MonitorIndex.of_monitors.Goals as goal

pub loop-monitor-preserved : goal.loop-monitor-preserved
loop-monitor-preserved c =
    let i = c.loop-monitor.monitor-index in
    let monitors = c.args.monitors.now in
    let x = c.monitor-item.result in
    let inv = c.loop-monitor.invariant in
    let longer = ap (λ (y : MonitorRecord). take i monitors ++ y ∷ []) c.monitor-item.is ∙ sym (take-push i monitors x c.loop-monitor-test.true) in
    record {
      lists = λ events low. c.start.ensures.lists events low (inv.lists events low);
      kept = c.start.ensures.kept inv.kept;
      recorded =
          subst (λ (l : List MonitorRecord). RecordsThese l c.start.new.self) longer
          (started_on (take i monitors) x c.loop-monitor.watched c.start.new.self inv.recorded c.start.ensures.recorded);
    }

pub returns-clause-recorded : goal.returns-clause-recorded
returns-clause-recorded c =
    subst (λ (l : List MonitorRecord). RecordsThese l c.loop-monitor.watched)
    (take_all c.loop-monitor.monitor-index c.args.monitors.now c.loop-monitor-test.false) c.loop-monitor.invariant.recorded
