use Rattle.std.proofs.Common.{◌++◌, ◌∷◌, [], List, take, sym, subst, ap, ◌∙◌}
use Rattle.std.proofs.lemmas.List.{take_all}
use Rattle.acd_model.specs.declared.moves.Change.{Change}
use Rattle.acd_lemmas.proofs.Lists.{take-push}
use Rattle.acd_book.specs.MonitorIndexes.{RecordsChanges}
use Rattle.acd_book.proofs.MonitorCounts.{recorded_on}
use Rattle.acd_book.proofs.monitor_index.MonitorIndex.change.Goals as goal

pub loop-change-preserved : goal.loop-change-preserved
loop-change-preserved c =
    let i = c.loop-change.change-index in
    let changes = c.args.changes.now in
    let x = c.change-item.result in
    let inv = c.loop-change.invariant in
    let longer = ap (λ (y : Change). take i changes ++ y ∷ []) c.change-item.is ∙ sym (take-push i changes x c.loop-change-test.true) in
    record {
      lists = λ events low h. c.follow.ensures.lists events low (inv.lists events low h);
      kept = λ kept. c.follow.ensures.kept (inv.kept kept);
      recorded =
          subst (λ (l : List Change). RecordsChanges l c.args.self.now c.follow.new.self) longer
          (recorded_on (take i changes) x c.args.self.now c.loop-change.self c.follow.new.self inv.recorded c.follow.ensures.recorded);
    }

pub returns-clause-recorded : goal.returns-clause-recorded
returns-clause-recorded c =
    subst (λ (l : List Change). RecordsChanges l c.args.self.now c.loop-change.self)
    (take_all c.loop-change.change-index c.args.changes.now c.loop-change-test.false) c.loop-change.invariant.recorded
