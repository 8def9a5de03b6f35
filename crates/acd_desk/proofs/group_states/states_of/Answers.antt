use Rattle.std.proofs.Common.{◌+◌, List, [], ◌∷◌, ◌++◌, drop, get_or, map, ap, sym, ◌∙◌, append_assoc}
use Rattle.std.proofs.lemmas.List.{at_drop_more}
use Rattle.acd_reports.specs.declared.queues.GroupState.{GroupState}
use Rattle.acd_reports.specs.QueueReport.{group_state}
use Rattle.acd_desk.proofs.group_states.states_of.Goals as goal

pub loop-group-preserved : goal.loop-group-preserved
loop-group-preserved c =
    let f = group_state c.args.tables.now in
    let old = c.loop-group.states.items in
    let rest = map f (drop (c.loop-group.group-index + 1) c.args.groups.now) in
    let state = c.in_ok-group_state.ensures ∙ ap f c.group-item.is in
    ap (λ (l : List GroupState). l ++ rest) (c.in_ok-push.ensures.items ∙ ap (λ (s : GroupState). old ++ s ∷ []) state) ∙ append_assoc old (f (get_or c.args.groups.now c.loop-group.group-index c.group-item.result) ∷ []) rest
    ∙ ap (λ (l : List GroupState). old ++ l) (sym (at_drop_more (map f) c.args.groups.now c.loop-group.group-index c.group-item.result c.loop-group-test.true)) ∙ c.loop-group.invariant
