use Rattle.std.proofs.Common.{◌≡◌, ◌++◌, map, drop}
use Rattle.acd_desk.specs.Reads.ReadAnswers.{station_at}
use Rattle.acd_desk.proofs.table_reads.stations_in.Given as goal

abbrev pub invariant-loop-station : goal.invariant-loop-station
invariant-loop-station l = l.seen.items ++ map (λ t. station_at l.tables t.device) (drop l.station-index l.stations) ≡ map (λ t. station_at l.tables t.device) l.stations
