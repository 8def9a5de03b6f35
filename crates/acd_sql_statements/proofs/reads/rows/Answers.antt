use Rattle.std.proofs.Common.{◌≡◌, Err, rules, subst, sym, ◌∙◌, Ok}
use Rattle.std.specs.Prelude.{Vec}
use Rattle.std.specs.declared.alloc.Global.{Global}
use Rattle.sqlite.specs.Held.{state}
use Rattle.acd_terms.specs.declared.record.GroupRecord.{GroupRecord}
use Rattle.acd_terms.specs.declared.record.StationRecord.{StationRecord}
use Rattle.acd_terms.specs.declared.record.AgentRecord.{AgentRecord}
use Rattle.acd_terms.specs.declared.rows.Rows.{Rows}
use Rattle.acd_book.specs.Content.{Content}
use Rattle.acd_sql_columns.specs.Relations.{meta_of}
use Rattle.acd_sql_columns.specs.declared.meta.Meta.{Meta}
use Rattle.acd_sql_statements.proofs.ReadsInTurn.{chained, broken, joined_is}
use Rattle.acd_sql_columns.proofs.Rows.RecordsOfRows.{found_none}
use Rattle.acd_sql_columns.specs.ReadResults.{Finds}
use Rattle.acd_sql_statements.proofs.ReadCauses.{cause_as, cause_after, cause_done}
use Rattle.acd_sql_statements.proofs.reads.rows.Goals as goal

pub returns-in_err-meta : goal.returns-in_err-meta
returns-in_err-meta g c = record {
  found =
      let is : c.from_residual.result ≡ Err c.in_err-meta.field-0.0 = search rules in
      subst (λ r. Finds (state g.S.Store c.args.conn.now) (state g.S.Store c.read_meta.new.conn) r (λ (x : Content) (s : Rows). s ≡ x.rows)) (sym is)
      (found_none (state g.S.Store c.args.conn.now) (state g.S.Store c.read_meta.new.conn) c.in_err-meta.field-0.0 _ (λ (x : Content) (s : Rows). s ≡ x.rows)
      c.in_err-meta.ensures.found);
  cause =
      cause_as (state g.S.Store c.args.conn.now) (state g.S.Store c.read_meta.new.conn) c.in_err-meta.field-0.0 c.from_residual.result (search rules)
      c.in_err-meta.ensures.cause;
}

pub returns-in_err-planned : goal.returns-in_err-planned
returns-in_err-planned g c = record {
  found =
      let is : c.from_residual-in_err-planned.result ≡ Err c.in_err-planned.field-0.0 = search rules in
      subst (λ r. Finds (state g.S.Store c.args.conn.now) (state g.S.Store c.planned.new.conn) r (λ (x : Content) (s : Rows). s ≡ x.rows)) (sym is)
      (broken (state g.S.Store c.args.conn.now) (state g.S.Store c.read_meta.new.conn) (state g.S.Store c.planned.new.conn) c.in_ok-meta.meta _ _
      c.in_ok-meta.ensures.found c.in_err-planned.field-0.0 (λ (x : Content) (s : Rows). s ≡ x.rows) c.in_err-planned.ensures.found);
  cause =
      cause_as (state g.S.Store c.args.conn.now) (state g.S.Store c.planned.new.conn) c.in_err-planned.field-0.0 c.from_residual-in_err-planned.result
      (search rules)
      (cause_after (state g.S.Store c.args.conn.now) (state g.S.Store c.read_meta.new.conn) (state g.S.Store c.planned.new.conn) c.in_ok-meta.meta
      (Err c.in_err-planned.field-0.0) c.in_ok-meta.ensures.cause c.in_ok-meta.ensures.found.quiet c.in_ok-meta.ensures.found.up
      c.in_err-planned.ensures.found.quiet.clean
      c.in_err-planned.ensures.cause);
}

pub returns-in_err-live : goal.returns-in_err-live
returns-in_err-live g c = record {
  found =
      let is : c.from_residual-in_err-live.result ≡ Err c.in_err-live.field-0.0 = search rules in
      subst (λ r. Finds (state g.S.Store c.args.conn.now) (state g.S.Store c.traffic.new.conn) r (λ (x : Content) (s : Rows). s ≡ x.rows)) (sym is)
      (broken (state g.S.Store c.args.conn.now) (state g.S.Store c.planned.new.conn) (state g.S.Store c.traffic.new.conn)
      (c.in_ok-meta.meta, c.in_ok-planned.planned)
      (λ (x : Content) (t : Meta × (Vec GroupRecord Global × Vec StationRecord Global × Vec AgentRecord Global)). (t.0 ≡ meta_of x.rows)
      × ((t.1.0.items ≡ x.rows.groups) × (t.1.1.items ≡ x.rows.stations) × (t.1.2.items ≡ x.rows.agents)))
      _
      (chained (state g.S.Store c.args.conn.now) (state g.S.Store c.read_meta.new.conn) (state g.S.Store c.planned.new.conn) c.in_ok-meta.meta _ _
      c.in_ok-meta.ensures.found c.in_ok-planned.planned (c.in_ok-meta.meta, c.in_ok-planned.planned)
      (λ (x : Content) (t : Meta × (Vec GroupRecord Global × Vec StationRecord Global × Vec AgentRecord Global)). (t.0 ≡ meta_of x.rows)
      × ((t.1.0.items ≡ x.rows.groups) × (t.1.1.items ≡ x.rows.stations) × (t.1.2.items ≡ x.rows.agents)))
      (λ x p q. (p, q)) c.in_ok-planned.ensures.found)
      c.in_err-live.field-0.0 (λ (x : Content) (s : Rows). s ≡ x.rows) c.in_err-live.ensures.found);
  cause =
      cause_as (state g.S.Store c.args.conn.now) (state g.S.Store c.traffic.new.conn) c.in_err-live.field-0.0 c.from_residual-in_err-live.result (search rules)
      (cause_after (state g.S.Store c.args.conn.now) (state g.S.Store c.read_meta.new.conn) (state g.S.Store c.traffic.new.conn) c.in_ok-meta.meta
      (Err c.in_err-live.field-0.0) c.in_ok-meta.ensures.cause c.in_ok-meta.ensures.found.quiet c.in_ok-meta.ensures.found.up
      (λ k. c.in_ok-planned.ensures.found.quiet.clean (c.in_err-live.ensures.found.quiet.clean k))
      (cause_after (state g.S.Store c.read_meta.new.conn) (state g.S.Store c.planned.new.conn) (state g.S.Store c.traffic.new.conn) c.in_ok-planned.planned
      (Err c.in_err-live.field-0.0) c.in_ok-planned.ensures.cause c.in_ok-planned.ensures.found.quiet c.in_ok-planned.ensures.found.up
      c.in_err-live.ensures.found.quiet.clean
      c.in_err-live.ensures.cause));
}

pub returns : goal.returns
returns g c = record {
  found =
      chained (state g.S.Store c.args.conn.now) (state g.S.Store c.planned.new.conn) (state g.S.Store c.traffic.new.conn)
      (c.in_ok-meta.meta, c.in_ok-planned.planned)
      (λ (x : Content) (t : Meta × (Vec GroupRecord Global × Vec StationRecord Global × Vec AgentRecord Global)). (t.0 ≡ meta_of x.rows)
      × ((t.1.0.items ≡ x.rows.groups) × (t.1.1.items ≡ x.rows.stations) × (t.1.2.items ≡ x.rows.agents)))
      _
      (chained (state g.S.Store c.args.conn.now) (state g.S.Store c.read_meta.new.conn) (state g.S.Store c.planned.new.conn) c.in_ok-meta.meta _ _
      c.in_ok-meta.ensures.found c.in_ok-planned.planned (c.in_ok-meta.meta, c.in_ok-planned.planned)
      (λ (x : Content) (t : Meta × (Vec GroupRecord Global × Vec StationRecord Global × Vec AgentRecord Global)). (t.0 ≡ meta_of x.rows)
      × ((t.1.0.items ≡ x.rows.groups) × (t.1.1.items ≡ x.rows.stations) × (t.1.2.items ≡ x.rows.agents)))
      (λ x p q. (p, q)) c.in_ok-planned.ensures.found)
      c.in_ok-live.live c.joined.result (λ (x : Content) (s : Rows). s ≡ x.rows)
      (λ x p q. c.joined.ensures ∙ joined_is x.rows _ _ _ _ _ _ _ p.0 p.1.0 p.1.1 p.1.2 q.0 q.1 q.2) c.in_ok-live.ensures.found;
  cause =
      cause_done (state g.S.Store c.args.conn.now) (state g.S.Store c.traffic.new.conn) c.in_ok-live.live _
      (cause_after (state g.S.Store c.args.conn.now) (state g.S.Store c.read_meta.new.conn) (state g.S.Store c.traffic.new.conn) c.in_ok-meta.meta
      (Ok c.in_ok-live.live) c.in_ok-meta.ensures.cause c.in_ok-meta.ensures.found.quiet c.in_ok-meta.ensures.found.up
      (λ k. c.in_ok-planned.ensures.found.quiet.clean (c.in_ok-live.ensures.found.quiet.clean k))
      (cause_after (state g.S.Store c.read_meta.new.conn) (state g.S.Store c.planned.new.conn) (state g.S.Store c.traffic.new.conn) c.in_ok-planned.planned
      (Ok c.in_ok-live.live) c.in_ok-planned.ensures.cause c.in_ok-planned.ensures.found.quiet c.in_ok-planned.ensures.found.up
      c.in_ok-live.ensures.found.quiet.clean
      c.in_ok-live.ensures.cause));
}
