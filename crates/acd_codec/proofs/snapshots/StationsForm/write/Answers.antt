use Rattle.json.specs.Token.{begin_object, end_object}
use Rattle.acd_codec.specs.ReadTexts.{station_parts}
use Rattle.acd_codec.proofs.TokensInTurn.{wrote, wrote_ok, object_added}
use Rattle.acd_codec.proofs.snapshots.StationsForm.write.Goals as goal

pub returns : goal.returns
returns c =
    object_added c.end_object.result c.args.out.now c.begin_object.new.self c.put_station_members.new.out c.end_object.new.self (station_parts c.args.station.now)
    (wrote_ok _ c.args.out.now c.begin_object.new.self begin_object c.in_ok-begin_object.ensures)
    c.in_ok-put_station_members.ensures
    (wrote c.end_object.result c.put_station_members.new.out c.end_object.new.self end_object c.end_object.ensures)
