use Rattle.std.proofs.Common.{List, ℕ, Some, ap, sym, subst, ◌∙◌}
use Rattle.acd_tables.specs.Swaps.{Leaves}
use Rattle.acd_tables.proofs.Entries.{leaves_one}
use Rattle.acd_tables.proofs.indexes.leave_alone.Goals as goal

pub returns-in-Some : goal.returns-in-Some
returns-in-Some g c =
    let entry = ap (λ (gs : List ℕ). Some (gs, c.in-Some.member)) c.group.ensures in
    subst (Leaves g.E.Ord.cmp c.args.sets.now c.leave.new.sets) (sym (c.in-Some.is ∙ entry))
    (leaves_one g.E.Ord.cmp c.args.sets.now c.leave.new.sets c.group.result c.in-Some.member c.leave.ensures)
