use Rattle.std.proofs.Common.{◌≡◌, ◌++◌, [], append-nil, sym, ap, ◌∙◌, rules}
use Rattle.std.proofs.lemmas.Cmp.{on_total}
use Rattle.std.specs.declared.cmp.Ordering.{Ordering}
use Rattle.acd_sql_differences.specs.DifferenceSteps.{merged, differences}
use Rattle.acd_sql_differences.proofs.Differences.{are_steps}
use Rattle.acd_sql_differences.proofs.difference.row_changes.Goals as goal

pub returns : goal.returns
returns g c =
    let cmp : g.row.R.Denot → g.row.R.Denot → Ordering = λ x y. g.R.Key.Ord.cmp (g.R.Keyed.key_of x) (g.R.Keyed.key_of y) in
    let total = on_total g.R.Keyed.key_of g.met.R.Key.Ord.total in
    let ended : differences cmp g.R.PartialEq.eq g.R.TableRecord.changes.gone g.R.TableRecord.changes.put c.loop-change.left.now c.loop-change.rest.now ≡ [] =
    search rules in
    let exact = sym (append-nil c.loop-change.changes.items) ∙ ap (λ l. c.loop-change.changes.items ++ l) (sym ended) ∙ c.loop-change.invariant in (
      exact,
      λ up next.
          (merged cmp g.R.PartialEq.eq c.args.held.now c.args.new.now, are_steps cmp total g.R.PartialEq.eq c.args.held.now c.args.new.now up next, exact),
    )
