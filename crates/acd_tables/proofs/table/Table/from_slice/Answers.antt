use Rattle.std.proofs.Common.{◌<◌, ◌∙◌, sym, length, arith}
use Rattle.std.proofs.lemmas.Cmp.{on_total}
use Rattle.acd_lemmas.proofs.RuleTests.{ascending_from}
use Rattle.acd_tables.proofs.ListLemmas.{put_by-next}
use Rattle.acd_tables.proofs.table.Table.from_slice.Goals as goal

pub loop-record-preserved : goal.loop-record-preserved
loop-record-preserved g c =
    let total = on_total g.R.Keyed.key_of g.met.R.Key.Ord.total in
    let ascending = ascending_from _ total c.args.records.now (sym c.ascends.ensures ∙ c.if-not-ascends.false) in
    let inside : c.loop-record.record-index < length c.args.records.now = omega arith in
    let next = put_by-next _ total c.args.records.now c.loop-record.record-index c.record-item.result ascending inside in
    c.in_ok-put.ensures.ok
    ∙ rw (c.loop-record.invariant, c.record-item.is) next
