use Rattle.std.proofs.Common.{sym, subst}
use Rattle.std.proofs.lemmas.List.Kept.{IsStrictlySortedBy-filter}
use Rattle.std.specs.BTreeMap.Range.{range_contains}
use Rattle.std.specs.List.Sorted.{IsStrictlySortedBy}
use Rattle.acd_terms.specs.Lists.{Among}
use Rattle.acd_tables.specs.IndexedRows.{pair_cmp}
use Rattle.acd_tables.proofs.DeviceLines.{lines-forward, lines-among}
use Rattle.acd_tables.proofs.lines.lines_at.Goals as goal

pub range-requires : goal.range-requires
range-requires c = lines-forward c.args.device c.first_line.result c.past_lines.result c.first_line.ensures c.past_lines.ensures

pub returns-clause-listed : goal.returns-clause-listed
returns-clause-listed c = λ k e. subst (Among (c.args.device, k)) (sym (c.range.ensures.between tt))
    (lines-among c.args.lines.now c.args.device k c.first_line.result c.past_lines.result c.first_line.ensures c.past_lines.ensures e)

pub returns-clause-sorted : goal.returns-clause-sorted
returns-clause-sorted c = subst (IsStrictlySortedBy pair_cmp) (sym (c.range.ensures.between tt))
    (IsStrictlySortedBy-filter pair_cmp (range_contains pair_cmp c.first_line.result c.past_lines.result) c.args.lines.now.keys c.range.ensures.ordered)
