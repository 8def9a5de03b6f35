use Rattle.std.proofs.Common.{◌∙◌}
use Rattle.std.proofs.lemmas.Result.{IfOk-weaker}
use Rattle.acd_codec.specs.SnapshotTexts.{snapshot_parts, snapshot_text}
use Rattle.acd_codec.proofs.TokensInTurn.{printed_object}
use Rattle.acd_codec.proofs.snapshots.snapshot_text.Goals as goal

pub returns : goal.returns
unfolding snapshot_text
returns c =
    let printed = printed_object c.in_ok-out.out c.put_snapshot.new.out (snapshot_parts c.args.snapshot.now) c.in_ok-out.ensures c.in_ok-put_snapshot.ensures in
    IfOk-weaker c.ended.result _ _ (λ s h. h ∙ printed) c.ended.ensures
