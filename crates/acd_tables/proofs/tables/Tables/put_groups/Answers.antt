use Rattle.std.proofs.Common.{◌<◌, ◌≤◌, length, ap, ◌∙◌, arith}
use Rattle.std.proofs.lemmas.List.{take_all}
use Rattle.acd_model.specs.Writes.{with_group}
use Rattle.acd_tables.proofs.FillLemmas.{filled_group}
use Rattle.acd_tables.proofs.tables.Tables.put_groups.Goals as goal

pub loop-group-init : goal.loop-group-init
loop-group-init c = ap (λ l. record c.args.self.now { groups = l }) c.requires.none

pub loop-group-preserved : goal.loop-group-preserved
loop-group-preserved c =
    let inside : c.loop-group.group-index < length c.args.groups.now = omega arith in
    c.in_ok-put_group.ensures.ok
    ∙ ap (λ s. with_group s c.group-item.result) c.loop-group.invariant
    ∙ filled_group c.args.self.now c.args.groups.now c.loop-group.group-index c.group-item.result c.requires.order inside c.group-item.is

pub returns : goal.returns
returns c =
    let past : length c.args.groups.now ≤ c.loop-group.group-index = omega arith in
    c.loop-group.invariant ∙ ap (λ l. record c.args.self.now { groups = l }) (take_all c.loop-group.group-index c.args.groups.now past)
