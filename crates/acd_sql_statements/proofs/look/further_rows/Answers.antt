use Rattle.std.proofs.Common.{◌++◌, []}
use Rattle.sqlite.specs.Held.{state}
use Rattle.acd_sql_columns.specs.declared.tables.Table.TheVariants as table
use Rattle.acd_sql_columns.specs.declared.texts.TheConstants.{SELECT_STANDING_AGENT_GROUPS}
use Rattle.acd_sql_columns.specs.Schema.{tables_1, added_in_2}
use Rattle.acd_sql_columns.proofs.FileTables.SecondVersionQueries.{further_listing, asks_further}
use Rattle.acd_sql_columns.proofs.OneTable.Listings.{plain_of, whole_begins}
use Rattle.acd_sql_columns.proofs.Results.WholeTableQueries.{sees_all}
use Rattle.acd_sql_statements.specs.ReadsBetween.{IsBookSchema}
use Rattle.acd_sql_statements.specs.Looks.{HasGood}
use Rattle.acd_sql_statements.specs.ReadFailures.{RefusesToShow}
use Rattle.acd_sql_statements.proofs.ReadTexts.{standing_further_over}
use Rattle.acd_sql_statements.proofs.LookCauses.{looks_so}
use Rattle.acd_sql_statements.proofs.look.further_rows.Goals as goal

pub returns-clause-looks : goal.returns-clause-looks
returns-clause-looks g c = record {
  seen = λ d is.
      let whole = whole_begins d.schema is in
      sees_all d (state g.S.Store c.args.conn.now) (state g.S.Store c.read.new.conn) c.read.result table.AgentGroups (tables_1 ++ added_in_2)
      SELECT_STANDING_AGENT_GROUPS.now further_listing asks_further whole
      (c.read.ensures.seen d (plain_of (tables_1 ++ added_in_2) SELECT_STANDING_AGENT_GROUPS.now further_listing d.schema whole));
}

pub returns-clause-looked : goal.returns-clause-looked
returns-clause-looked g c =
    looks_so (HasGood IsBookSchema []) (λ d. ¬ (RefusesToShow d SELECT_STANDING_AGENT_GROUPS.now []))
    (λ d h. standing_further_over d (whole_begins d.schema h.0)) (state g.S.Store c.args.conn.now) (state g.S.Store c.read.new.conn) c.read.result
    c.read.ensures.looked
