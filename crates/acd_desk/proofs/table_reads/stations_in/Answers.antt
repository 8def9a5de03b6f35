use Rattle.std.proofs.Common.{◌+◌, List, [], ◌∷◌, ◌++◌, drop, get_or, map, ap, sym, ◌∙◌, append_assoc}
use Rattle.std.proofs.lemmas.List.{at_drop_more}
use Rattle.acd_terms.specs.declared.record.StationRecord.{StationRecord}
use Rattle.acd_codec.specs.declared.read_texts.PlannedStation.{PlannedStation}
use Rattle.acd_desk.specs.Reads.ReadAnswers.{station_at}
use Rattle.acd_desk.proofs.table_reads.stations_in.Goals as goal

pub loop-station-preserved : goal.loop-station-preserved
loop-station-preserved c =
    let f = λ (t : StationRecord). station_at c.args.tables.now t.device in
    let old = c.loop-station.seen.items in
    let rest = map f (drop (c.loop-station.station-index + 1) c.args.stations.now) in
    let station = c.in_ok-station_at.ensures ∙ ap f c.station-item.is in
    ap (λ (l : List PlannedStation). l ++ rest) (c.in_ok-push.ensures.items ∙ ap (λ (s : PlannedStation). old ++ s ∷ []) station)
    ∙ append_assoc old (f (get_or c.args.stations.now c.loop-station.station-index c.station-item.result) ∷ []) rest
    ∙ ap (λ (l : List PlannedStation). old ++ l) (sym (at_drop_more (map f) c.args.stations.now c.loop-station.station-index c.station-item.result c.loop-station-test.true)) ∙ c.loop-station.invariant
