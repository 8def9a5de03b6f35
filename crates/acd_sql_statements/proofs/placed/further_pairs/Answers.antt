use Rattle.std.proofs.Common.{ℕ, [], ◌∷◌, map, refl, rules}
use Rattle.std.specs.Prelude.{Vec, IsPermutation}
use Rattle.std.specs.declared.alloc.Global.{Global}
use Rattle.acd_sql_columns.specs.declared.tables.Table.TheVariants as table
use Rattle.acd_sql_columns.specs.AnyRows.{rows_in}
use Rattle.acd_sql_columns.specs.Decoding.{as_further}
use Rattle.sqlite.specs.Held.{state}
use Rattle.acd_sql_statements.proofs.RowsInAnyOrder.{pairs_seen}
use Rattle.acd_sql_columns.specs.Ranges.{further_of_row}
use Rattle.acd_sql_statements.specs.ReadsBetween.{IsBookSchema}
use Rattle.acd_sql_statements.specs.Looks.{HasGood}
use Rattle.acd_sql_statements.proofs.LookCauses.{looks_decoded, looks_as, sees_as}
use Rattle.acd_sql_statements.proofs.placed.further_pairs.Goals as goal

pub returns-clause-looks : goal.returns-clause-looks
returns-clause-looks g c = record {
  seen = λ d is.
      pairs_seen d (state g.S.Store c.args.conn.now) (state g.S.Store c.further_rows.new.conn) c.in_ok-rows.rows c.records.result
      (rw c.deref.ensures.value at c.records.ensures.records) (c.in_ok-rows.ensures.looks.seen d is);
}

pub returns-in_err-rows-clause-looks : goal.returns-in_err-rows-clause-looks
returns-in_err-rows-clause-looks g c = record {
  seen = λ d is.
      sees_as d (state g.S.Store c.args.conn.now) (state g.S.Store c.further_rows.new.conn) c.in_err-rows.field-0.0 c.from_residual.result (search rules) _
      (λ (pairs : Vec (ℕ × ℕ) Global). IsPermutation (map as_further (rows_in table.AgentGroups d.trees)) pairs.items)
      (c.in_err-rows.ensures.looks.seen d is);
}

pub returns-clause-looked : goal.returns-clause-looked
returns-clause-looked g c =
    looks_decoded further_of_row table.AgentGroups (λ row. refl) (HasGood IsBookSchema (table.AgentGroups ∷ [])) (HasGood IsBookSchema [])
    (state g.S.Store c.args.conn.now) (state g.S.Store c.further_rows.new.conn) c.in_ok-rows.rows c.records.result (λ d h. h.1.0)
    c.in_ok-rows.ensures.looked (λ d h. c.in_ok-rows.ensures.looks.seen d h.0) (rw c.deref.ensures.value at c.records.ensures.bad)

pub returns-in_err-rows-clause-looked : goal.returns-in_err-rows-clause-looked
returns-in_err-rows-clause-looked g c =
    looks_as (HasGood IsBookSchema (table.AgentGroups ∷ [])) (HasGood IsBookSchema []) (λ d h. (h.0, tt)) (state g.S.Store c.args.conn.now)
    (state g.S.Store c.further_rows.new.conn) c.in_err-rows.field-0.0 c.from_residual.result (search rules) c.in_err-rows.ensures.looked
