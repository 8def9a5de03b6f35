use Rattle.sqlite.specs.Held.{state}
use Rattle.acd_sqlbook.specs.Commit.{applied}
use Rattle.acd_sql_columns.specs.Relations.{with_group_parts}
use Rattle.acd_model.specs.declared.moves.Change.TheVariants.{PutGroup, PutStation, PutAgent, PutCall, PutConnection, PutMonitor, RemoveCall, RemoveConnection, RemoveMonitor}
use Rattle.acd_sqlbook.proofs.WritesInTurn.{leaving, named, applying, group_applied, station_applied, call_applied, connection_applied, monitor_applied, call_gone, monitor_gone, connection_gone}
use Rattle.std.proofs.Common.{[], ◌∷◌, inl, inr, IsTrue, rules}
use Rattle.acd_sql_columns.specs.Rows.{connection_values}
use Rattle.acd_sql_columns.specs.Tables.{stations, calls, monitors}
use Rattle.acd_sql_columns.specs.Values.{id_value}
use Rattle.acd_sql_columns.specs.declared.texts.TheConstants.{DELETE_CALL, DELETE_CONNECTION, DELETE_MONITOR, INSERT_CONNECTION, UPDATE_CALL, UPDATE_MONITOR}
use Rattle.acd_sql_statements.specs.WriteRefusals.{RefusesOn, RefusesPut, RefusesPutConnection, RefusesGroup, RefusesAgent}
use Rattle.acd_sqlbook.proofs.PartCauses.{by_change}
use Rattle.acd_sqlbook.proofs.commit.make_change.Goals as goal

pub returns-in-PutGroup-clause-put : goal.returns-in-PutGroup-clause-put
returns-in-PutGroup-clause-put g c clean =
    let old = state g.S.Store c.args.tx.now.conn.now in
    let new = state g.S.Store c.put_group.new.tx.conn.now in
    let group = c.in-PutGroup.group in
    named old new c.put_group.result c.args.change.now (PutGroup group) c.in-PutGroup.is
    (leaving old new c.put_group.result (with_group_parts group) (λ x. applied x (PutGroup group)) (group_applied group old) (c.put_group.ensures.put clean))

pub returns-in-PutStation-clause-put : goal.returns-in-PutStation-clause-put
returns-in-PutStation-clause-put g c clean =
    applying (state g.S.Store c.args.tx.now.conn.now) (state g.S.Store c.insert.new.tx.conn.now) c.insert.result c.args.change.now _ _ c.in-PutStation.is
    (station_applied c.in-PutStation.station) (c.insert.ensures.put clean)

pub returns-in-PutAgent-clause-put : goal.returns-in-PutAgent-clause-put
returns-in-PutAgent-clause-put g c clean =
    named (state g.S.Store c.args.tx.now.conn.now) (state g.S.Store c.write_agent.new.tx.conn.now) c.write_agent.result c.args.change.now
    (PutAgent c.in-PutAgent.agent) c.in-PutAgent.is (c.write_agent.ensures.put clean)

pub returns-in-PutCall-clause-put : goal.returns-in-PutCall-clause-put
returns-in-PutCall-clause-put g c clean =
    applying (state g.S.Store c.args.tx.now.conn.now) (state g.S.Store c.insert-in-PutCall.new.tx.conn.now) c.insert-in-PutCall.result c.args.change.now _ _
    c.in-PutCall.is (call_applied c.in-PutCall.call) (c.insert-in-PutCall.ensures.put clean)

pub returns-in-PutCall-2-clause-put : goal.returns-in-PutCall-2-clause-put
returns-in-PutCall-2-clause-put g c clean =
    applying (state g.S.Store c.args.tx.now.conn.now) (state g.S.Store c.put.new.tx.conn.now) c.put.result c.args.change.now _ _ c.in-PutCall-2.is
    (call_applied c.in-PutCall-2.call) (c.put.ensures.put clean)

pub returns-in-PutConnection-clause-put : goal.returns-in-PutConnection-clause-put
returns-in-PutConnection-clause-put g c clean =
    applying (state g.S.Store c.args.tx.now.conn.now) (state g.S.Store c.insert_connection.new.tx.conn.now) c.insert_connection.result c.args.change.now _ _
    c.in-PutConnection.is (connection_applied c.in-PutConnection.connection) (c.insert_connection.ensures.put clean)

pub returns-in-PutConnection-2-clause-put : goal.returns-in-PutConnection-2-clause-put
returns-in-PutConnection-2-clause-put g c clean =
    applying (state g.S.Store c.args.tx.now.conn.now) (state g.S.Store c.put_connection.new.tx.conn.now) c.put_connection.result c.args.change.now _ _
    c.in-PutConnection-2.is (connection_applied c.in-PutConnection-2.connection) (c.put_connection.ensures.put clean)

pub returns-in-PutMonitor-clause-put : goal.returns-in-PutMonitor-clause-put
returns-in-PutMonitor-clause-put g c clean =
    applying (state g.S.Store c.args.tx.now.conn.now) (state g.S.Store c.put-in-PutMonitor.new.tx.conn.now) c.put-in-PutMonitor.result c.args.change.now _ _
    c.in-PutMonitor.is (monitor_applied c.in-PutMonitor.monitor) (c.put-in-PutMonitor.ensures.put clean)

pub returns-in-RemoveCall-clause-put : goal.returns-in-RemoveCall-clause-put
returns-in-RemoveCall-clause-put g c clean =
    applying (state g.S.Store c.args.tx.now.conn.now) (state g.S.Store c.remove.new.tx.conn.now) c.remove.result c.args.change.now _ _ c.in-RemoveCall.is
    (call_gone c.in-RemoveCall.call) (c.remove.ensures.put clean)

pub returns-in-RemoveMonitor-clause-put : goal.returns-in-RemoveMonitor-clause-put
returns-in-RemoveMonitor-clause-put g c clean =
    applying (state g.S.Store c.args.tx.now.conn.now) (state g.S.Store c.remove-in-RemoveMonitor.new.tx.conn.now) c.remove-in-RemoveMonitor.result
    c.args.change.now _ _ c.in-RemoveMonitor.is (monitor_gone c.in-RemoveMonitor.monitor) (c.remove-in-RemoveMonitor.ensures.put clean)

pub returns-in-RemoveConnection-clause-put : goal.returns-in-RemoveConnection-clause-put
returns-in-RemoveConnection-clause-put g c clean =
    applying (state g.S.Store c.args.tx.now.conn.now) (state g.S.Store c.drop_connection.new.tx.conn.now) c.drop_connection.result c.args.change.now _ _
    c.in-RemoveConnection.is
    (connection_gone c.in-RemoveConnection.call c.in-RemoveConnection.device) (c.drop_connection.ensures.put clean)

pub returns-in-PutGroup-clause-failed : goal.returns-in-PutGroup-clause-failed
returns-in-PutGroup-clause-failed g c =
    by_change (state g.S.Store c.args.tx.now.conn.now) (state g.S.Store c.put_group.new.tx.conn.now) c.requires.free c.put_group.result (IsTrue c.args.is_new)
    c.args.change.now (PutGroup c.in-PutGroup.group) c.in-PutGroup.is (RefusesGroup c.in-PutGroup.group) (λ r h. h) c.put_group.ensures.failed

pub returns-in-PutStation-clause-failed : goal.returns-in-PutStation-clause-failed
returns-in-PutStation-clause-failed g c =
    by_change (state g.S.Store c.args.tx.now.conn.now) (state g.S.Store c.insert.new.tx.conn.now) c.requires.free c.insert.result (IsTrue c.args.is_new)
    c.args.change.now (PutStation c.in-PutStation.station) c.in-PutStation.is (RefusesOn stations.insert (stations.values c.in-PutStation.station))
    (λ r h. h) c.insert.ensures.failed

pub returns-in-PutAgent-clause-failed : goal.returns-in-PutAgent-clause-failed
returns-in-PutAgent-clause-failed g c =
    by_change (state g.S.Store c.args.tx.now.conn.now) (state g.S.Store c.write_agent.new.tx.conn.now) c.requires.free c.write_agent.result
    (IsTrue c.args.is_new) c.args.change.now (PutAgent c.in-PutAgent.agent) c.in-PutAgent.is (RefusesAgent c.in-PutAgent.agent) (λ r h. h)
    c.write_agent.ensures.failed

pub returns-in-PutCall-clause-failed : goal.returns-in-PutCall-clause-failed
returns-in-PutCall-clause-failed g c =
    by_change (state g.S.Store c.args.tx.now.conn.now) (state g.S.Store c.insert-in-PutCall.new.tx.conn.now) c.requires.free c.insert-in-PutCall.result
    (IsTrue c.args.is_new) c.args.change.now (PutCall c.in-PutCall.call) c.in-PutCall.is (RefusesOn calls.insert (calls.values c.in-PutCall.call))
    (λ r h. inr (search rules, h)) c.insert-in-PutCall.ensures.failed

pub returns-in-PutCall-2-clause-failed : goal.returns-in-PutCall-2-clause-failed
returns-in-PutCall-2-clause-failed g c =
    by_change (state g.S.Store c.args.tx.now.conn.now) (state g.S.Store c.put.new.tx.conn.now) c.requires.free c.put.result (IsTrue c.args.is_new)
    c.args.change.now (PutCall c.in-PutCall-2.call) c.in-PutCall-2.is (RefusesPut calls UPDATE_CALL.now c.in-PutCall-2.call) (λ r h. inl h)
    c.put.ensures.failed

pub returns-in-PutConnection-clause-failed : goal.returns-in-PutConnection-clause-failed
returns-in-PutConnection-clause-failed g c =
    by_change (state g.S.Store c.args.tx.now.conn.now) (state g.S.Store c.insert_connection.new.tx.conn.now) c.requires.free c.insert_connection.result
    (IsTrue c.args.is_new) c.args.change.now (PutConnection c.in-PutConnection.connection) c.in-PutConnection.is
    (RefusesOn INSERT_CONNECTION.now (connection_values c.in-PutConnection.connection)) (λ r h. inr (search rules, h)) c.insert_connection.ensures.failed

pub returns-in-PutConnection-2-clause-failed : goal.returns-in-PutConnection-2-clause-failed
returns-in-PutConnection-2-clause-failed g c =
    by_change (state g.S.Store c.args.tx.now.conn.now) (state g.S.Store c.put_connection.new.tx.conn.now) c.requires.free c.put_connection.result
    (IsTrue c.args.is_new) c.args.change.now (PutConnection c.in-PutConnection-2.connection) c.in-PutConnection-2.is
    (RefusesPutConnection c.in-PutConnection-2.connection) (λ r h. inl h) c.put_connection.ensures.failed

pub returns-in-PutMonitor-clause-failed : goal.returns-in-PutMonitor-clause-failed
returns-in-PutMonitor-clause-failed g c =
    by_change (state g.S.Store c.args.tx.now.conn.now) (state g.S.Store c.put-in-PutMonitor.new.tx.conn.now) c.requires.free c.put-in-PutMonitor.result
    (IsTrue c.args.is_new) c.args.change.now (PutMonitor c.in-PutMonitor.monitor) c.in-PutMonitor.is
    (RefusesPut monitors UPDATE_MONITOR.now c.in-PutMonitor.monitor) (λ r h. h) c.put-in-PutMonitor.ensures.failed

pub returns-in-RemoveCall-clause-failed : goal.returns-in-RemoveCall-clause-failed
returns-in-RemoveCall-clause-failed g c =
    by_change (state g.S.Store c.args.tx.now.conn.now) (state g.S.Store c.remove.new.tx.conn.now) c.requires.free c.remove.result (IsTrue c.args.is_new)
    c.args.change.now (RemoveCall c.in-RemoveCall.call) c.in-RemoveCall.is (RefusesOn DELETE_CALL.now (id_value c.in-RemoveCall.call ∷ [])) (λ r h. h)
    c.remove.ensures.failed

pub returns-in-RemoveMonitor-clause-failed : goal.returns-in-RemoveMonitor-clause-failed
returns-in-RemoveMonitor-clause-failed g c =
    by_change (state g.S.Store c.args.tx.now.conn.now) (state g.S.Store c.remove-in-RemoveMonitor.new.tx.conn.now) c.requires.free
    c.remove-in-RemoveMonitor.result (IsTrue c.args.is_new) c.args.change.now (RemoveMonitor c.in-RemoveMonitor.monitor) c.in-RemoveMonitor.is
    (RefusesOn DELETE_MONITOR.now (id_value c.in-RemoveMonitor.monitor ∷ [])) (λ r h. h) c.remove-in-RemoveMonitor.ensures.failed

pub returns-in-RemoveConnection-clause-failed : goal.returns-in-RemoveConnection-clause-failed
returns-in-RemoveConnection-clause-failed g c =
    by_change (state g.S.Store c.args.tx.now.conn.now) (state g.S.Store c.drop_connection.new.tx.conn.now) c.requires.free c.drop_connection.result
    (IsTrue c.args.is_new) c.args.change.now (RemoveConnection c.in-RemoveConnection.call c.in-RemoveConnection.device) c.in-RemoveConnection.is
    (RefusesOn DELETE_CONNECTION.now (id_value c.in-RemoveConnection.call ∷ id_value c.in-RemoveConnection.device ∷ [])) (λ r h. h)
    c.drop_connection.ensures.failed
