use Rattle.std.proofs.Common.{◌≡◌, [], ◌∷◌, Bool, map, rules}
use Rattle.acd_sql_columns.specs.AnyRows.{rows_in}
use Rattle.acd_sql_columns.specs.declared.tables.Table.TheVariants as table
use Rattle.acd_sql_columns.specs.Decoding.{as_group}
use Rattle.acd_sql_columns.specs.Relations.{are_of_groups}
use Rattle.sqlite.specs.Held.{state}
use Rattle.acd_sql_statements.proofs.RowsInAnyOrder.{groups_seen}
use Rattle.acd_sql_columns.specs.Schema.{tables_1, BeginsSchema}
use Rattle.acd_sql_statements.proofs.ReadTexts.{groups_over}
use Rattle.acd_sql_statements.specs.Looks.{HasGood}
use Rattle.acd_sql_statements.proofs.LookCauses.{looks_done, looks_as, sees_as}
use Rattle.acd_sql_statements.proofs.placed.are_of_groups_there.Goals as goal

pub returns-clause-looks : goal.returns-clause-looks
returns-clause-looks g c = record {
  seen = λ d is.
      groups_seen d (state g.S.Store c.args.conn.now) (state g.S.Store c.records.new.conn) c.in_ok-groups.groups c.args.priorities.now c.are_of_groups.result
      (rw c.deref.ensures.value at c.are_of_groups.ensures) (c.in_ok-groups.ensures.seen d is);
}

pub returns-in_err-groups-clause-looks : goal.returns-in_err-groups-clause-looks
returns-in_err-groups-clause-looks g c = record {
  seen =
      λ d is. sees_as d (state g.S.Store c.args.conn.now) (state g.S.Store c.records.new.conn) c.in_err-groups.field-0.0 c.from_residual.result (search rules) _
      (λ (placed : Bool). placed ≡ are_of_groups (map as_group (rows_in table.Groups d.trees)) c.args.priorities.now) (c.in_err-groups.ensures.seen d is);
}

pub returns-clause-looked : goal.returns-clause-looked
returns-clause-looked g c =
    looks_done (HasGood (BeginsSchema tables_1) (table.Groups ∷ [])) (HasGood (BeginsSchema tables_1) (table.Groups ∷ [])) (λ d h. h) (state g.S.Store c.args.conn.now)
    (state g.S.Store c.records.new.conn) c.in_ok-groups.groups c.are_of_groups.result (c.in_ok-groups.ensures.looked groups_over)

pub returns-in_err-groups-clause-looked : goal.returns-in_err-groups-clause-looked
returns-in_err-groups-clause-looked g c =
    looks_as (HasGood (BeginsSchema tables_1) (table.Groups ∷ [])) (HasGood (BeginsSchema tables_1) (table.Groups ∷ [])) (λ d h. h) (state g.S.Store c.args.conn.now)
    (state g.S.Store c.records.new.conn) c.in_err-groups.field-0.0 c.from_residual.result (search rules) (c.in_err-groups.ensures.looked groups_over)
