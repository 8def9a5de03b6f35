use Rattle.std.proofs.Common.{◌≡◌, ◌*◌, length, take}
use Rattle.sqlite.specs.Values.{bound}
use Rattle.acd_sql_statements.specs.SeveralEvents.{several_values}
use Rattle.acd_sql_statements.proofs.several.several_values.Given as goal

abbrev pub invariant-loop-item : goal.invariant-loop-item
invariant-loop-item l = record {
  end : l.end ≡ l.item-index * 10;
  room : length l.values ≡ 40;
  filled : bound (take l.end l.values) ≡ several_values (take l.item-index l.items);
}
