use Rattle.std.proofs.Common.{◌∙◌}
use Rattle.std.proofs.lemmas.Result.{IfOk-weaker}
use Rattle.acd_codec.specs.ReadTexts.{station_parts, station_text}
use Rattle.acd_codec.proofs.TokensInTurn.{printed_object}
use Rattle.acd_codec.proofs.read_texts.station_text.Goals as goal

pub returns : goal.returns
unfolding station_text
returns c =
    let printed = printed_object c.in_ok-out.out c.put_station_members.new.out (station_parts c.args.station.now) c.in_ok-out.ensures c.in_ok-put_station_members.ensures in
    IfOk-weaker c.ended.result _ _ (λ s h. h ∙ printed) c.ended.ensures
