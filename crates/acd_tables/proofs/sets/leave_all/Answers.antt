use Rattle.std.proofs.Common.{Some, ℕ, take, ◌++◌, [], ◌∷◌, ap, sym, subst, ◌∙◌, List}
use Rattle.std.proofs.lemmas.List.{take_more}
use Rattle.acd_tables.specs.Swaps.{Leaves}
use Rattle.acd_tables.proofs.Entries.{leaves_more}
use Rattle.acd_tables.proofs.sets.leave_all.Goals as goal

pub loop-group-preserved : goal.loop-group-preserved
loop-group-preserved g c =
    let i = c.loop-group.group-index in
    let more = take_more c.args.groups.now i c.group-item.result c.loop-group-test.true in
    let step = leaves_more g.E.Ord.cmp c.args.sets.now c.loop-group.sets c.leave.new.sets _ _ c.args.member c.loop-group.invariant c.leave.ensures in
    subst (λ (l : List ℕ). Leaves g.E.Ord.cmp c.args.sets.now c.leave.new.sets (Some (l, c.args.member)))
    (sym (more ∙ ap (λ (v : ℕ). take i c.args.groups.now ++ v ∷ []) (sym c.group-item.is))) step
