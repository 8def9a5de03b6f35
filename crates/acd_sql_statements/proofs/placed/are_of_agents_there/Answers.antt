use Rattle.std.proofs.Common.{◌≡◌, [], ◌∷◌, Bool, map, rules}
use Rattle.acd_sql_columns.specs.AnyRows.{rows_in}
use Rattle.acd_sql_columns.specs.declared.tables.Table.TheVariants as table
use Rattle.acd_sql_columns.specs.Decoding.{as_agent}
use Rattle.acd_sql_columns.specs.Relations.{are_after}
use Rattle.sqlite.specs.Held.{state}
use Rattle.acd_sql_statements.proofs.RowsInAnyOrder.{agents_seen}
use Rattle.acd_sql_columns.specs.Schema.{tables_1, BeginsSchema}
use Rattle.acd_sql_statements.proofs.ReadTexts.{agents_over}
use Rattle.acd_sql_statements.specs.Looks.{HasGood}
use Rattle.acd_sql_statements.proofs.LookCauses.{looks_done, looks_as, sees_as}
use Rattle.acd_sql_statements.proofs.placed.are_of_agents_there.Goals as goal

pub returns-clause-looks : goal.returns-clause-looks
returns-clause-looks g c = record {
  seen = λ d is.
      agents_seen d (state g.S.Store c.args.conn.now) (state g.S.Store c.records.new.conn) c.in_ok-agents.agents c.args.pairs.now c.are_after.result
      (rw c.deref.ensures.value at c.are_after.ensures) (c.in_ok-agents.ensures.seen d is);
}

pub returns-in_err-agents-clause-looks : goal.returns-in_err-agents-clause-looks
returns-in_err-agents-clause-looks g c = record {
  seen =
      λ d is. sees_as d (state g.S.Store c.args.conn.now) (state g.S.Store c.records.new.conn) c.in_err-agents.field-0.0 c.from_residual.result (search rules) _
      (λ (placed : Bool). placed ≡ are_after (map as_agent (rows_in table.Agents d.trees)) c.args.pairs.now) (c.in_err-agents.ensures.seen d is);
}

pub returns-clause-looked : goal.returns-clause-looked
returns-clause-looked g c =
    looks_done (HasGood (BeginsSchema tables_1) (table.Agents ∷ [])) (HasGood (BeginsSchema tables_1) (table.Agents ∷ [])) (λ d h. h) (state g.S.Store c.args.conn.now)
    (state g.S.Store c.records.new.conn) c.in_ok-agents.agents c.are_after.result (c.in_ok-agents.ensures.looked agents_over)

pub returns-in_err-agents-clause-looked : goal.returns-in_err-agents-clause-looked
returns-in_err-agents-clause-looked g c =
    looks_as (HasGood (BeginsSchema tables_1) (table.Agents ∷ [])) (HasGood (BeginsSchema tables_1) (table.Agents ∷ [])) (λ d h. h) (state g.S.Store c.args.conn.now)
    (state g.S.Store c.records.new.conn) c.in_err-agents.field-0.0 c.from_residual.result (search rules) (c.in_err-agents.ensures.looked agents_over)
