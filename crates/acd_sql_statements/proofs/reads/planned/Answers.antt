use Rattle.std.proofs.Common.{◌≡◌, Err, rules, subst, sym, Ok, refl}
use Rattle.std.specs.Prelude.{Vec}
use Rattle.std.specs.declared.alloc.Global.{Global}
use Rattle.sqlite.specs.Held.{state}
use Rattle.acd_terms.specs.declared.record.GroupRecord.{GroupRecord}
use Rattle.acd_terms.specs.declared.record.StationRecord.{StationRecord}
use Rattle.acd_terms.specs.declared.record.AgentRecord.{AgentRecord}
use Rattle.acd_book.specs.Content.{Content}
use Rattle.acd_sql_statements.proofs.ReadsInTurn.{chained, broken}
use Rattle.acd_sql_columns.proofs.Rows.RecordsOfRows.{found_none}
use Rattle.acd_sql_columns.specs.ReadResults.{Finds}
use Rattle.acd_sql_statements.proofs.ReadTexts.{stations_answered}
use Rattle.acd_sql_statements.proofs.ReadCauses.{cause_as, cause_after, cause_done}
use Rattle.acd_sql_statements.proofs.reads.planned.Goals as goal

pub returns-in_err-groups : goal.returns-in_err-groups
returns-in_err-groups g c = record {
  found =
      let is : c.from_residual.result ≡ Err c.in_err-groups.field-0.0 = search rules in
      subst
      (λ r. Finds (state g.S.Store c.args.conn.now) (state g.S.Store c.groups.new.conn) r
      (λ (x : Content) (t : Vec GroupRecord Global × Vec StationRecord Global × Vec AgentRecord Global). (t.0.items ≡ x.rows.groups)
      × (t.1.items ≡ x.rows.stations) × (t.2.items ≡ x.rows.agents)))
      (sym is)
      (found_none (state g.S.Store c.args.conn.now) (state g.S.Store c.groups.new.conn) c.in_err-groups.field-0.0 _
      (λ (x : Content) (t : Vec GroupRecord Global × Vec StationRecord Global × Vec AgentRecord Global). (t.0.items ≡ x.rows.groups)
      × (t.1.items ≡ x.rows.stations) × (t.2.items ≡ x.rows.agents))
      c.in_err-groups.ensures.found);
  cause =
      cause_as (state g.S.Store c.args.conn.now) (state g.S.Store c.groups.new.conn) c.in_err-groups.field-0.0 c.from_residual.result (search rules)
      c.in_err-groups.ensures.cause;
}

pub returns-in_err-stations : goal.returns-in_err-stations
returns-in_err-stations g c = record {
  found =
      let is : c.from_residual-in_err-stations.result ≡ Err c.in_err-stations.field-0.0 = search rules in
      subst
      (λ r. Finds (state g.S.Store c.args.conn.now) (state g.S.Store c.records.new.conn) r
      (λ (x : Content) (t : Vec GroupRecord Global × Vec StationRecord Global × Vec AgentRecord Global). (t.0.items ≡ x.rows.groups)
      × (t.1.items ≡ x.rows.stations) × (t.2.items ≡ x.rows.agents)))
      (sym is)
      (broken (state g.S.Store c.args.conn.now) (state g.S.Store c.groups.new.conn) (state g.S.Store c.records.new.conn) c.in_ok-groups.groups _ _
      c.in_ok-groups.ensures.found c.in_err-stations.field-0.0
      (λ (x : Content) (t : Vec GroupRecord Global × Vec StationRecord Global × Vec AgentRecord Global). (t.0.items ≡ x.rows.groups)
      × (t.1.items ≡ x.rows.stations) × (t.2.items ≡ x.rows.agents))
      c.in_err-stations.ensures.found);
  cause =
      cause_as (state g.S.Store c.args.conn.now) (state g.S.Store c.records.new.conn) c.in_err-stations.field-0.0 c.from_residual-in_err-stations.result
      (search rules)
      (cause_after (state g.S.Store c.args.conn.now) (state g.S.Store c.groups.new.conn) (state g.S.Store c.records.new.conn) c.in_ok-groups.groups
      (Err c.in_err-stations.field-0.0) c.in_ok-groups.ensures.cause c.in_ok-groups.ensures.found.quiet c.in_ok-groups.ensures.found.up
      c.in_err-stations.ensures.found.quiet.clean
      (c.in_err-stations.ensures.cause stations_answered (λ x. refl)));
}

pub returns-in_err-agents : goal.returns-in_err-agents
returns-in_err-agents g c = record {
  found =
      let is : c.from_residual-in_err-agents.result ≡ Err c.in_err-agents.field-0.0 = search rules in
      subst
      (λ r. Finds (state g.S.Store c.args.conn.now) (state g.S.Store c.agents.new.conn) r
      (λ (x : Content) (t : Vec GroupRecord Global × Vec StationRecord Global × Vec AgentRecord Global). (t.0.items ≡ x.rows.groups)
      × (t.1.items ≡ x.rows.stations) × (t.2.items ≡ x.rows.agents)))
      (sym is)
      (broken (state g.S.Store c.args.conn.now) (state g.S.Store c.records.new.conn) (state g.S.Store c.agents.new.conn)
      (c.in_ok-groups.groups, c.in_ok-stations.stations)
      (λ (x : Content) (t : Vec GroupRecord Global × Vec StationRecord Global). (t.0.items ≡ x.rows.groups) × (t.1.items ≡ x.rows.stations)) _
      (chained (state g.S.Store c.args.conn.now) (state g.S.Store c.groups.new.conn) (state g.S.Store c.records.new.conn) c.in_ok-groups.groups _ _
      c.in_ok-groups.ensures.found c.in_ok-stations.stations (c.in_ok-groups.groups, c.in_ok-stations.stations)
      (λ (x : Content) (t : Vec GroupRecord Global × Vec StationRecord Global). (t.0.items ≡ x.rows.groups) × (t.1.items ≡ x.rows.stations))
      (λ x p q. (p, q)) c.in_ok-stations.ensures.found)
      c.in_err-agents.field-0.0
      (λ (x : Content) (t : Vec GroupRecord Global × Vec StationRecord Global × Vec AgentRecord Global). (t.0.items ≡ x.rows.groups)
      × (t.1.items ≡ x.rows.stations) × (t.2.items ≡ x.rows.agents))
      c.in_err-agents.ensures.found);
  cause =
      cause_as (state g.S.Store c.args.conn.now) (state g.S.Store c.agents.new.conn) c.in_err-agents.field-0.0 c.from_residual-in_err-agents.result
      (search rules)
      (cause_after (state g.S.Store c.args.conn.now) (state g.S.Store c.groups.new.conn) (state g.S.Store c.agents.new.conn) c.in_ok-groups.groups
      (Err c.in_err-agents.field-0.0) c.in_ok-groups.ensures.cause c.in_ok-groups.ensures.found.quiet c.in_ok-groups.ensures.found.up
      (λ k. c.in_ok-stations.ensures.found.quiet.clean (c.in_err-agents.ensures.found.quiet.clean k))
      (cause_after (state g.S.Store c.groups.new.conn) (state g.S.Store c.records.new.conn) (state g.S.Store c.agents.new.conn) c.in_ok-stations.stations
      (Err c.in_err-agents.field-0.0) (c.in_ok-stations.ensures.cause stations_answered (λ x. refl)) c.in_ok-stations.ensures.found.quiet
      c.in_ok-stations.ensures.found.up c.in_err-agents.ensures.found.quiet.clean
      c.in_err-agents.ensures.cause));
}

pub returns : goal.returns
returns g c = record {
  found =
      chained (state g.S.Store c.args.conn.now) (state g.S.Store c.records.new.conn) (state g.S.Store c.agents.new.conn)
      (c.in_ok-groups.groups, c.in_ok-stations.stations)
      (λ (x : Content) (t : Vec GroupRecord Global × Vec StationRecord Global). (t.0.items ≡ x.rows.groups) × (t.1.items ≡ x.rows.stations)) _
      (chained (state g.S.Store c.args.conn.now) (state g.S.Store c.groups.new.conn) (state g.S.Store c.records.new.conn) c.in_ok-groups.groups _ _
      c.in_ok-groups.ensures.found c.in_ok-stations.stations (c.in_ok-groups.groups, c.in_ok-stations.stations)
      (λ (x : Content) (t : Vec GroupRecord Global × Vec StationRecord Global). (t.0.items ≡ x.rows.groups) × (t.1.items ≡ x.rows.stations))
      (λ x p q. (p, q)) c.in_ok-stations.ensures.found)
      c.in_ok-agents.agents (c.in_ok-groups.groups, c.in_ok-stations.stations, c.in_ok-agents.agents)
      (λ (x : Content) (t : Vec GroupRecord Global × Vec StationRecord Global × Vec AgentRecord Global). (t.0.items ≡ x.rows.groups)
      × (t.1.items ≡ x.rows.stations) × (t.2.items ≡ x.rows.agents))
      (λ x p q. (p.0, p.1, q)) c.in_ok-agents.ensures.found;
  cause =
      cause_done (state g.S.Store c.args.conn.now) (state g.S.Store c.agents.new.conn) c.in_ok-agents.agents _
      (cause_after (state g.S.Store c.args.conn.now) (state g.S.Store c.groups.new.conn) (state g.S.Store c.agents.new.conn) c.in_ok-groups.groups
      (Ok c.in_ok-agents.agents) c.in_ok-groups.ensures.cause c.in_ok-groups.ensures.found.quiet c.in_ok-groups.ensures.found.up
      (λ k. c.in_ok-stations.ensures.found.quiet.clean (c.in_ok-agents.ensures.found.quiet.clean k))
      (cause_after (state g.S.Store c.groups.new.conn) (state g.S.Store c.records.new.conn) (state g.S.Store c.agents.new.conn) c.in_ok-stations.stations
      (Ok c.in_ok-agents.agents) (c.in_ok-stations.ensures.cause stations_answered (λ x. refl)) c.in_ok-stations.ensures.found.quiet
      c.in_ok-stations.ensures.found.up c.in_ok-agents.ensures.found.quiet.clean
      c.in_ok-agents.ensures.cause));
}
