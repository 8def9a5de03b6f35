use Rattle.std.proofs.Common.{◌≡◌, [], ◌∷◌, ◌++◌, map, Bool, rules}
use Rattle.acd_sql_columns.specs.AnyRows.{is_ranked, rows_in}
use Rattle.sqlite.specs.Held.{state}
use Rattle.acd_sql_columns.proofs.OneTable.Listings.{book_begins, whole_begins}
use Rattle.acd_sql_statements.proofs.RowsInAnyOrder.{priorities_seen}
use Rattle.std.specs.Prelude.{Vec, IsPermutation}
use Rattle.std.specs.declared.alloc.Global.{Global}
use Rattle.sqlite.specs.Effect.{Database}
use Rattle.acd_sql_columns.specs.declared.relations.GroupPriority.{GroupPriority}
use Rattle.acd_sql_columns.specs.declared.tables.Table.TheVariants as table
use Rattle.acd_sql_columns.specs.Decoding.{as_group}
use Rattle.acd_sql_columns.specs.Relations.{are_of_groups}
use Rattle.acd_sql_columns.specs.Rows.{priority_values}
use Rattle.acd_sql_columns.specs.Schema.{tables_1, added_in_2, BeginsSchema}
use Rattle.acd_sql_statements.specs.ReadsBetween.{IsBookSchema}
use Rattle.acd_sql_statements.proofs.ReadTexts.{priorities_over}
use Rattle.acd_sql_statements.specs.Looks.{HasGood}
use Rattle.acd_sql_statements.proofs.LookCauses.{looks_then, looks_as, sees_as}
use Rattle.acd_sql_statements.proofs.placed.are_priorities_placed.Goals as goal

pub returns-clause-looks : goal.returns-clause-looks
returns-clause-looks g c = record {
  seen = λ d is.
      priorities_seen d (state g.S.Store c.args.conn.now) (state g.S.Store c.records.new.conn) (state g.S.Store c.are_of_groups_there.new.conn)
      c.in_ok-priorities.priorities c.deref.result.now c.are_of_groups_there.result c.deref.ensures.value
      (c.in_ok-priorities.ensures.seen d (whole_begins d.schema is)) (c.are_of_groups_there.ensures.looks.seen d (book_begins d.schema is));
}

pub returns-in_err-priorities-clause-looks : goal.returns-in_err-priorities-clause-looks
returns-in_err-priorities-clause-looks g c = record {
  seen =
      λ d is. sees_as d (state g.S.Store c.args.conn.now) (state g.S.Store c.records.new.conn) c.in_err-priorities.field-0.0 c.from_residual.result
      (search rules) _ (λ (placed : Bool). placed ≡ is_ranked d.trees) (c.in_err-priorities.ensures.seen d (whole_begins d.schema is));
}

pub returns-clause-looked : goal.returns-clause-looked
returns-clause-looked g c =
    looks_then (HasGood IsBookSchema (table.GroupPriority ∷ table.Groups ∷ [])) (HasGood (BeginsSchema (tables_1 ++ added_in_2)) (table.GroupPriority ∷ []))
    (HasGood (BeginsSchema tables_1) (table.Groups ∷ []))
    (λ (d : Database) (found : Vec GroupPriority Global). IsPermutation (rows_in table.GroupPriority d.trees) (map priority_values found.items))
    (λ (d : Database) (placed : Bool). placed ≡ are_of_groups (map as_group (rows_in table.Groups d.trees)) c.deref.result.now)
    (state g.S.Store c.args.conn.now) (state g.S.Store c.records.new.conn) (state g.S.Store c.are_of_groups_there.new.conn) c.in_ok-priorities.priorities
    c.are_of_groups_there.result (λ d h. (whole_begins d.schema h.0, (h.1.0, tt))) (c.in_ok-priorities.ensures.looked priorities_over)
    (λ d h. c.in_ok-priorities.ensures.seen d (whole_begins d.schema h.0)) (λ d h p. (book_begins d.schema h.0, (h.1.1.0, tt)))
    (λ d h. c.are_of_groups_there.ensures.looks.seen d (book_begins d.schema h.0)) c.are_of_groups_there.ensures.looked

pub returns-in_err-priorities-clause-looked : goal.returns-in_err-priorities-clause-looked
returns-in_err-priorities-clause-looked g c =
    looks_as (HasGood IsBookSchema (table.GroupPriority ∷ table.Groups ∷ [])) (HasGood (BeginsSchema (tables_1 ++ added_in_2)) (table.GroupPriority ∷ []))
    (λ d h. (whole_begins d.schema h.0, (h.1.0, tt))) (state g.S.Store c.args.conn.now) (state g.S.Store c.records.new.conn) c.in_err-priorities.field-0.0
    c.from_residual.result (search rules) (c.in_err-priorities.ensures.looked priorities_over)
