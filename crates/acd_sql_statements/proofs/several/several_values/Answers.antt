use Rattle.std.proofs.Common.{◌++◌, ap, sym, ◌∙◌, arith}
use Rattle.sqlite_value.specs.Order.{Row}
use Rattle.acd_sql_columns.specs.Tables.{events}
use Rattle.acd_sql_statements.proofs.SeveralValues.{values_next}
use Rattle.acd_sql_statements.proofs.several.several_values.Goals as goal

pub loop-item-preserved : goal.loop-item-preserved
loop-item-preserved c =
    let inv = c.loop-item.invariant in
    let e = c.fill-end.ensures in
    record {
      end = omega (arith, e.end, inv.end);
      room = e.length ∙ inv.room;
      filled = e.filled ∙ ap (λ (l : Row). l ++ events.values c.item-item.result) inv.filled
          ∙ sym (values_next c.args.items.now c.loop-item.item-index c.item-item.result _ c.item-item.is c.loop-item-test.true);
    }
