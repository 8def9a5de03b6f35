use Rattle.std.proofs.Common.{Some, ℕ, take, ◌++◌, [], ◌∷◌, ap, sym, subst, ◌∙◌, List}
use Rattle.std.proofs.lemmas.List.{take_more}
use Rattle.acd_tables.specs.Swaps.{Enters, Undoes, Leaves}
use Rattle.acd_tables.proofs.Entries.{enters_more, undoes_more, all_undone, no_longer}
use Rattle.acd_tables.proofs.sets.enter_all.Goals as goal

pub loop-group-preserved : goal.loop-group-preserved
loop-group-preserved g c =
    let i = c.loop-group.group-index in
    let more = take_more c.args.groups.now i c.group-item.result c.loop-group-test.true in
    let made = c.in-Ok.ensures.ok in
    let step = enters_more g.E.Ord.cmp c.args.sets.now c.loop-group.sets c.enter.new.sets _ _ c.args.member c.loop-group.invariant.enters made in
    record {
      enters =
          subst (λ (l : List ℕ). Enters g.E.Ord.cmp c.args.sets.now c.enter.new.sets (Some (l, c.args.member)))
          (sym (more ∙ ap (λ (v : ℕ). take i c.args.groups.now ++ v ∷ []) (sym c.group-item.is))) step;
      undoes = subst (λ (l : List ℕ). Undoes g.E.Ord.cmp c.args.sets.now c.enter.new.sets (Some (l, c.args.member))) (sym c.push_if.ensures)
          (undoes_more g.E.Ord.cmp c.args.sets.now c.loop-group.sets c.enter.new.sets c.loop-group.entered _ c.args.member c.in-Ok.new g.met.E.Ord.total
          c.loop-group.invariant.undoes c.in-Ok.ensures.added made);
      few = no_longer c.in-Ok.new _ _ _ _ c.push_if.ensures c.loop-group.invariant.few;
    }

pub returns-in-Err-clause-err : goal.returns-in-Err-clause-err
returns-in-Err-clause-err g c =
    all_undone g.E.Ord.cmp c.args.sets.now c.loop-group.sets c.enter.new.sets c.leave_all.new.sets _ c.loop-group.entered c.args.member
    c.loop-group.invariant.enters c.loop-group.invariant.undoes c.in-Err.ensures.err
    (subst (λ (l : List ℕ). Leaves g.E.Ord.cmp c.enter.new.sets c.leave_all.new.sets (Some (l, c.args.member))) c.as_slice.ensures.value c.leave_all.ensures)
