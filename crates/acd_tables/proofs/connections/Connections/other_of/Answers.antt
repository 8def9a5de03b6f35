use Rattle.std.proofs.Common.{◌∙◌, ap}
use Rattle.std.specs.Prelude.{find, not, ◌==◌}
use Rattle.std.specs.List.{filter_map}
use Rattle.acd_terms.specs.declared.record.ConnectionRecord.{ConnectionRecord}
use Rattle.acd_tables.specs.Near.{of_key}
use Rattle.acd_tables.proofs.KeyLemmas.{find-both}
use Rattle.acd_tables.proofs.connections.Connections.other_of.Goals as goal

pub loop-key-init : goal.loop-key-init
loop-key-init c =
    let x = c.args.connection.now in
    ap (λ keys. find (λ (y : ConnectionRecord). not (y.device == x.device)) (filter_map (of_key c.args.self.now x.call) keys))
    c.into_iter-key-iterator.ensures.into_iter_gives
    ∙ ap (find (λ (y : ConnectionRecord). not (y.device == x.device))) c.near-key-items.ensures
    ∙ find-both (λ (y : ConnectionRecord). y.call == x.call) (λ y. not (y.device == x.device)) c.args.self.now
