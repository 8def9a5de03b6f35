use Rattle.std.proofs.Common.{◌++◌, ◌∷◌, [], ◌∙◌, List, take, sym, subst, ap, append_assoc}
use Rattle.acd_terms.specs.declared.event.Event.{Event}
use Rattle.acd_book.specs.MonitorIndexes.{ListsEvents}
use Rattle.acd_book.proofs.monitor_index.MonitorIndex.add_all.Goals as goal
use Rattle.acd_lemmas.proofs.Lists.{take-push}
use Rattle.std.proofs.lemmas.List.{take_all}

pub loop-event-preserved : goal.loop-event-preserved
loop-event-preserved c = record {
  lists = λ events h.
      let i = c.loop-event.event-index in
      let more = c.args.more.now in
      let e = c.event-item.result in
      let longer = append_assoc events (take i more) (e ∷ [])
      ∙ ap (λ (l : List Event). events ++ l) (ap (λ (x : Event). take i more ++ x ∷ []) c.event-item.is ∙ sym (take-push i more e c.loop-event-test.true)) in
      subst (λ (l : List Event). ListsEvents l c.add.new.self) longer (c.add.ensures.lists (events ++ take i more) (c.loop-event.invariant.lists events h));
  kept = λ kept. c.add.ensures.kept (c.loop-event.invariant.kept kept);
  devices = c.add.ensures.devices ∙ c.loop-event.invariant.devices;
}

pub returns-clause-lists : goal.returns-clause-lists
returns-clause-lists c events h =
    subst (λ (l : List Event). ListsEvents (events ++ l) c.loop-event.self) (take_all c.loop-event.event-index c.args.more.now c.loop-event-test.false)
    (c.loop-event.invariant.lists events h)
