use Rattle.std.proofs.Common.{◌∙◌, ap}
use Rattle.std.specs.Prelude.{filter}
use Rattle.std.specs.List.{filter_map}
use Rattle.std.specs.BTreeMap.Range.{range_contains}
use Rattle.std.proofs.lemmas.List.Kept.{IsStrictlySortedBy-filter}
use Rattle.acd_lemmas.proofs.Lists.{among-filter}
use Rattle.acd_tables.specs.IndexedRows.{pair_cmp}
use Rattle.acd_tables.specs.Near.{of_key}
use Rattle.acd_tables.proofs.NearLemmas.{near-forward, near-itself}
use Rattle.acd_tables.proofs.ScansByIndex.{contained, exact_pair}
use Rattle.acd_tables.proofs.KeyLemmas.{picks-of}
use Rattle.acd_tables.proofs.connections.Connections.near.Goals as goal

pub range-requires : goal.range-requires
range-requires c =
    rw (c.start.ensures, c.end.ensures) (near-forward c.args.call c.args.device)

pub returns : goal.returns
returns c =
    let keys = c.self.inside.keys in
    let bounds = range_contains pair_cmp c.start.result c.end.result in
    ap (filter_map (of_key c.args.self.now c.args.call)) (c.range.ensures.between tt)
    ∙ rw (← c.self.view_is) (picks-of c.self.inside.records c.args.call c.self.invariant.ascending (filter bounds keys.keys)
    (λ d e. among-filter bounds keys.keys (c.args.call, d) (contained pair_cmp exact_pair keys (c.args.call, d) (c.self.invariant.index (c.args.call, d) ∙ e))
    (rw (c.start.ensures, c.end.ensures) (near-itself c.args.call c.args.device d)))
    (IsStrictlySortedBy-filter pair_cmp bounds keys.keys c.range.ensures.ordered))
