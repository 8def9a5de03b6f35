use Rattle.std.proofs.Common.{List, ℕ, Some, None, cond, ap, sym, subst, ◌∙◌}
use Rattle.acd_tables.specs.Swaps.{Enters, Undoes}
use Rattle.acd_tables.proofs.Entries.{enters_one, undoes_one}
use Rattle.acd_tables.proofs.indexes.enter_alone.Goals as goal

pub returns-in_ok-new-in-Some-clause-ok : goal.returns-in_ok-new-in-Some-clause-ok
returns-in_ok-new-in-Some-clause-ok g c =
    let entry = ap (λ (gs : List ℕ). Some (gs, c.in-Some.member)) c.group.ensures in
    subst (Enters g.E.Ord.cmp c.args.sets.now c.enter.new.sets) (sym (c.in-Some.is ∙ entry))
    (enters_one g.E.Ord.cmp c.args.sets.now c.enter.new.sets c.group.result c.in-Some.member c.in_ok-new-in-Some.ensures.ok)

pub returns-in_ok-new-in-Some-clause-undo : goal.returns-in_ok-new-in-Some-clause-undo
returns-in_ok-new-in-Some-clause-undo g c =
    let entry = ap (λ (gs : List ℕ). Some (gs, c.in-Some.member)) c.group.ensures in
    subst (Undoes g.E.Ord.cmp c.args.sets.now c.enter.new.sets) (sym (c.only.ensures ∙ ap (λ o. cond c.in_ok-new-in-Some.new o None) (c.in-Some.is ∙ entry)))
    (undoes_one g.E.Ord.cmp c.args.sets.now c.enter.new.sets c.group.result c.in-Some.member c.in_ok-new-in-Some.new g.met.E.Ord.total
    c.in_ok-new-in-Some.ensures.added c.in_ok-new-in-Some.ensures.ok)
