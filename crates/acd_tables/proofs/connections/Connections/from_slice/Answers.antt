use Rattle.std.proofs.Common.{◌<◌, ◌∙◌, sym, length, arith}
use Rattle.acd_model.specs.Rules.Plan.{connection_order}
use Rattle.acd_lemmas.proofs.RuleTests.{ascending_from}
use Rattle.acd_lemmas.proofs.State.{connections_total}
use Rattle.acd_tables.proofs.ListLemmas.{put_by-next}
use Rattle.acd_tables.proofs.connections.Connections.from_slice.Goals as goal

pub loop-connection-preserved : goal.loop-connection-preserved
loop-connection-preserved c =
    let all = c.args.connections.now in
    let ascending = ascending_from connection_order connections_total all (sym c.ascends.ensures ∙ c.if-not-ascends.false) in
    let inside : c.loop-connection.connection-index < length all = omega arith in
    let next = put_by-next connection_order connections_total all c.loop-connection.connection-index c.connection-item.result ascending inside in
    c.in_ok-put.ensures.ok
    ∙ rw (c.loop-connection.invariant, c.connection-item.is) next
