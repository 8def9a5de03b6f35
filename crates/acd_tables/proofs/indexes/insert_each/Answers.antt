use Rattle.std.proofs.Common.{ℕ, ◌≡◌, take, length, ap, subst, ◌∙◌, arith}
use Rattle.std.proofs.Math.Seq.{take-length}
use Rattle.acd_tables.specs.Swaps.{ListsGroups}
use Rattle.acd_tables.proofs.indexes.insert_each.Goals as goal

pub returns-clause-ok : goal.returns-clause-ok
returns-clause-ok c =
    let gs = c.args.groups.now in
    let ends : c.loop-group.group-index ≡ length gs = omega (arith, c.loop-group.auto.group-index-end, c.loop-group-test.false) in
    subst (ListsGroups c.args.records.now c.loop-group.offering) (ap (λ (n : ℕ). take n gs) ends ∙ take-length gs) c.loop-group.invariant.listed
