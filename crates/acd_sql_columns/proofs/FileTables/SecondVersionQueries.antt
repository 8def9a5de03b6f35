-- The queries of the tables of version 2 show all their rows.
use Rattle.std.proofs.Common.{◌++◌, [], length, refl}
use Rattle.sqlite.specs.Listing.{understood}
use Rattle.sqlite_tied.specs.Compute.{everything}
use Rattle.acd_sql_columns.specs.declared.tables.Table.TheVariants as table
use Rattle.acd_sql_columns.specs.declared.texts.TheConstants.{SELECT_STANDING_AGENT_GROUPS}
use Rattle.acd_sql_columns.specs.Schema.{tables_1, added_in_2, names_of}
use Rattle.acd_sql_columns.specs.Schema as schema
use Rattle.acd_sql_columns.proofs.Results.QueryAnswers.{columns, no_limit}
use Rattle.acd_sql_columns.proofs.OneTable.Listings.{Listing}
use Rattle.acd_sql_columns.proofs.Results.WholeTableQueries.{AsksAll}

unfoldable pub further_listing : Listing (tables_1 ++ added_in_2) SELECT_STANDING_AGENT_GROUPS.now
unfolding understood everything
further_listing = record {
  tree = schema.agent_groups_layout.tree;
  terms = [];
  project = columns 1 (length schema.agent_groups_layout.columns);
  order = [];
  limit = no_limit;
  names = names_of schema.agent_groups_layout;
  command = λ rest s. refl;
  plain = λ rest s. (refl, refl);
  unlisted = λ rest s. refl;
}

pub asks_further : AsksAll table.AgentGroups (tables_1 ++ added_in_2) SELECT_STANDING_AGENT_GROUPS.now further_listing
unfolding further_listing
asks_further = record { tree = refl; all = refl; unlimited = refl; shows = λ r. refl }
