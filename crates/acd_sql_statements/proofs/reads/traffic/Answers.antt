use Rattle.std.proofs.Common.{◌≡◌, Err, rules, subst, sym, Ok, refl}
use Rattle.std.specs.Prelude.{Vec}
use Rattle.std.specs.declared.alloc.Global.{Global}
use Rattle.sqlite.specs.Held.{state}
use Rattle.acd_terms.specs.declared.record.CallRecord.{CallRecord}
use Rattle.acd_terms.specs.declared.record.ConnectionRecord.{ConnectionRecord}
use Rattle.acd_terms.specs.declared.record.MonitorRecord.{MonitorRecord}
use Rattle.acd_book.specs.Content.{Content}
use Rattle.acd_sql_statements.proofs.ReadsInTurn.{chained, broken}
use Rattle.acd_sql_columns.proofs.Rows.RecordsOfRows.{found_none}
use Rattle.acd_sql_columns.specs.ReadResults.{Finds}
use Rattle.acd_sql_statements.proofs.ReadTexts.{calls_answered, monitors_answered}
use Rattle.acd_sql_statements.proofs.ReadCauses.{cause_as, cause_after, cause_done}
use Rattle.acd_sql_statements.proofs.reads.traffic.Goals as goal

pub returns-in_err-calls : goal.returns-in_err-calls
returns-in_err-calls g c = record {
  found =
      let is : c.from_residual.result ≡ Err c.in_err-calls.field-0.0 = search rules in
      subst
      (λ r. Finds (state g.S.Store c.args.conn.now) (state g.S.Store c.records.new.conn) r
      (λ (x : Content) (t : Vec CallRecord Global × Vec ConnectionRecord Global × Vec MonitorRecord Global). (t.0.items ≡ x.rows.calls)
      × (t.1.items ≡ x.rows.connections) × (t.2.items ≡ x.rows.monitors)))
      (sym is)
      (found_none (state g.S.Store c.args.conn.now) (state g.S.Store c.records.new.conn) c.in_err-calls.field-0.0 _
      (λ (x : Content) (t : Vec CallRecord Global × Vec ConnectionRecord Global × Vec MonitorRecord Global). (t.0.items ≡ x.rows.calls)
      × (t.1.items ≡ x.rows.connections) × (t.2.items ≡ x.rows.monitors))
      c.in_err-calls.ensures.found);
  cause =
      cause_as (state g.S.Store c.args.conn.now) (state g.S.Store c.records.new.conn) c.in_err-calls.field-0.0 c.from_residual.result (search rules)
      (c.in_err-calls.ensures.cause calls_answered (λ x. refl));
}

pub returns-in_err-connections : goal.returns-in_err-connections
returns-in_err-connections g c = record {
  found =
      let is : c.from_residual-in_err-connections.result ≡ Err c.in_err-connections.field-0.0 = search rules in
      subst
      (λ r. Finds (state g.S.Store c.args.conn.now) (state g.S.Store c.connections.new.conn) r
      (λ (x : Content) (t : Vec CallRecord Global × Vec ConnectionRecord Global × Vec MonitorRecord Global). (t.0.items ≡ x.rows.calls)
      × (t.1.items ≡ x.rows.connections) × (t.2.items ≡ x.rows.monitors)))
      (sym is)
      (broken (state g.S.Store c.args.conn.now) (state g.S.Store c.records.new.conn) (state g.S.Store c.connections.new.conn) c.in_ok-calls.calls _ _
      c.in_ok-calls.ensures.found c.in_err-connections.field-0.0
      (λ (x : Content) (t : Vec CallRecord Global × Vec ConnectionRecord Global × Vec MonitorRecord Global). (t.0.items ≡ x.rows.calls)
      × (t.1.items ≡ x.rows.connections) × (t.2.items ≡ x.rows.monitors))
      c.in_err-connections.ensures.found);
  cause =
      cause_as (state g.S.Store c.args.conn.now) (state g.S.Store c.connections.new.conn) c.in_err-connections.field-0.0
      c.from_residual-in_err-connections.result (search rules)
      (cause_after (state g.S.Store c.args.conn.now) (state g.S.Store c.records.new.conn) (state g.S.Store c.connections.new.conn) c.in_ok-calls.calls
      (Err c.in_err-connections.field-0.0) (c.in_ok-calls.ensures.cause calls_answered (λ x. refl)) c.in_ok-calls.ensures.found.quiet
      c.in_ok-calls.ensures.found.up c.in_err-connections.ensures.found.quiet.clean
      c.in_err-connections.ensures.cause);
}

pub returns-in_err-monitors : goal.returns-in_err-monitors
returns-in_err-monitors g c = record {
  found =
      let is : c.from_residual-in_err-monitors.result ≡ Err c.in_err-monitors.field-0.0 = search rules in
      subst
      (λ r. Finds (state g.S.Store c.args.conn.now) (state g.S.Store c.records-2.new.conn) r
      (λ (x : Content) (t : Vec CallRecord Global × Vec ConnectionRecord Global × Vec MonitorRecord Global). (t.0.items ≡ x.rows.calls)
      × (t.1.items ≡ x.rows.connections) × (t.2.items ≡ x.rows.monitors)))
      (sym is)
      (broken (state g.S.Store c.args.conn.now) (state g.S.Store c.connections.new.conn) (state g.S.Store c.records-2.new.conn)
      (c.in_ok-calls.calls, c.in_ok-connections.connections)
      (λ (x : Content) (t : Vec CallRecord Global × Vec ConnectionRecord Global). (t.0.items ≡ x.rows.calls) × (t.1.items ≡ x.rows.connections)) _
      (chained (state g.S.Store c.args.conn.now) (state g.S.Store c.records.new.conn) (state g.S.Store c.connections.new.conn) c.in_ok-calls.calls _ _
      c.in_ok-calls.ensures.found c.in_ok-connections.connections (c.in_ok-calls.calls, c.in_ok-connections.connections)
      (λ (x : Content) (t : Vec CallRecord Global × Vec ConnectionRecord Global). (t.0.items ≡ x.rows.calls) × (t.1.items ≡ x.rows.connections))
      (λ x p q. (p, q)) c.in_ok-connections.ensures.found)
      c.in_err-monitors.field-0.0
      (λ (x : Content) (t : Vec CallRecord Global × Vec ConnectionRecord Global × Vec MonitorRecord Global). (t.0.items ≡ x.rows.calls)
      × (t.1.items ≡ x.rows.connections) × (t.2.items ≡ x.rows.monitors))
      c.in_err-monitors.ensures.found);
  cause =
      cause_as (state g.S.Store c.args.conn.now) (state g.S.Store c.records-2.new.conn) c.in_err-monitors.field-0.0 c.from_residual-in_err-monitors.result
      (search rules)
      (cause_after (state g.S.Store c.args.conn.now) (state g.S.Store c.records.new.conn) (state g.S.Store c.records-2.new.conn) c.in_ok-calls.calls
      (Err c.in_err-monitors.field-0.0) (c.in_ok-calls.ensures.cause calls_answered (λ x. refl)) c.in_ok-calls.ensures.found.quiet
      c.in_ok-calls.ensures.found.up (λ k. c.in_ok-connections.ensures.found.quiet.clean (c.in_err-monitors.ensures.found.quiet.clean k))
      (cause_after (state g.S.Store c.records.new.conn) (state g.S.Store c.connections.new.conn) (state g.S.Store c.records-2.new.conn)
      c.in_ok-connections.connections (Err c.in_err-monitors.field-0.0) c.in_ok-connections.ensures.cause c.in_ok-connections.ensures.found.quiet
      c.in_ok-connections.ensures.found.up c.in_err-monitors.ensures.found.quiet.clean
      (c.in_err-monitors.ensures.cause monitors_answered (λ x. refl))));
}

pub returns : goal.returns
returns g c = record {
  found =
      chained (state g.S.Store c.args.conn.now) (state g.S.Store c.connections.new.conn) (state g.S.Store c.records-2.new.conn)
      (c.in_ok-calls.calls, c.in_ok-connections.connections)
      (λ (x : Content) (t : Vec CallRecord Global × Vec ConnectionRecord Global). (t.0.items ≡ x.rows.calls) × (t.1.items ≡ x.rows.connections)) _
      (chained (state g.S.Store c.args.conn.now) (state g.S.Store c.records.new.conn) (state g.S.Store c.connections.new.conn) c.in_ok-calls.calls _ _
      c.in_ok-calls.ensures.found c.in_ok-connections.connections (c.in_ok-calls.calls, c.in_ok-connections.connections)
      (λ (x : Content) (t : Vec CallRecord Global × Vec ConnectionRecord Global). (t.0.items ≡ x.rows.calls) × (t.1.items ≡ x.rows.connections))
      (λ x p q. (p, q)) c.in_ok-connections.ensures.found)
      c.in_ok-monitors.monitors (c.in_ok-calls.calls, c.in_ok-connections.connections, c.in_ok-monitors.monitors)
      (λ (x : Content) (t : Vec CallRecord Global × Vec ConnectionRecord Global × Vec MonitorRecord Global). (t.0.items ≡ x.rows.calls)
      × (t.1.items ≡ x.rows.connections) × (t.2.items ≡ x.rows.monitors))
      (λ x p q. (p.0, p.1, q)) c.in_ok-monitors.ensures.found;
  cause =
      cause_done (state g.S.Store c.args.conn.now) (state g.S.Store c.records-2.new.conn) c.in_ok-monitors.monitors _
      (cause_after (state g.S.Store c.args.conn.now) (state g.S.Store c.records.new.conn) (state g.S.Store c.records-2.new.conn) c.in_ok-calls.calls
      (Ok c.in_ok-monitors.monitors) (c.in_ok-calls.ensures.cause calls_answered (λ x. refl)) c.in_ok-calls.ensures.found.quiet
      c.in_ok-calls.ensures.found.up (λ k. c.in_ok-connections.ensures.found.quiet.clean (c.in_ok-monitors.ensures.found.quiet.clean k))
      (cause_after (state g.S.Store c.records.new.conn) (state g.S.Store c.connections.new.conn) (state g.S.Store c.records-2.new.conn)
      c.in_ok-connections.connections (Ok c.in_ok-monitors.monitors) c.in_ok-connections.ensures.cause c.in_ok-connections.ensures.found.quiet
      c.in_ok-connections.ensures.found.up c.in_ok-monitors.ensures.found.quiet.clean
      (c.in_ok-monitors.ensures.cause monitors_answered (λ x. refl))));
}
