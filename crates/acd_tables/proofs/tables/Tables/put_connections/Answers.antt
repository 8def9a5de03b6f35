use Rattle.std.proofs.Common.{◌<◌, ◌≤◌, length, ap, ◌∙◌, arith}
use Rattle.std.proofs.lemmas.List.{take_all}
use Rattle.acd_model.specs.Writes.{with_connection}
use Rattle.acd_tables.proofs.FillLemmas.{filled_connection}
use Rattle.acd_tables.proofs.tables.Tables.put_connections.Goals as goal

pub loop-connection-init : goal.loop-connection-init
loop-connection-init c = ap (λ l. record c.args.self.now { connections = l }) c.requires.none

pub loop-connection-preserved : goal.loop-connection-preserved
loop-connection-preserved c =
    let inside : c.loop-connection.connection-index < length c.args.connections.now = omega arith in
    c.in_ok-put_connection.ensures.ok
    ∙ ap (λ s. with_connection s c.connection-item.result) c.loop-connection.invariant
    ∙ filled_connection c.args.self.now c.args.connections.now c.loop-connection.connection-index c.connection-item.result c.requires.order inside
    c.connection-item.is

pub returns : goal.returns
returns c =
    let past : length c.args.connections.now ≤ c.loop-connection.connection-index = omega arith in
    c.loop-connection.invariant ∙ ap (λ l. record c.args.self.now { connections = l }) (take_all c.loop-connection.connection-index c.args.connections.now past)
