use Rattle.std.proofs.Common.{sym, subst, [], ◌++◌}
use Rattle.sqlite.specs.Held.{state}
use Rattle.acd_sql_columns.specs.AnyRows.{Covers, FindsGood}
use Rattle.acd_sql_columns.specs.DatabaseView.{Sees}
use Rattle.acd_sql_columns.proofs.OneTable.Listings.{whole_begins}
use Rattle.acd_sql_columns.specs.Schema.{tables_1, added_in_2, BeginsSchema}
use Rattle.acd_sql_statements.specs.ReadsBetween.{IsBookSchema}
use Rattle.acd_sql_schema.specs.Inspection.{HasCanonical}
use Rattle.acd_sql_statements.proofs.ReadTexts.{groups_over, stations_over, agents_over, calls_over, monitors_over, priorities_over}
use Rattle.acd_sql_statements.specs.Looks.{HasGood}
use Rattle.acd_sql_statements.proofs.LookCauses.{looks_so}
use Rattle.acd_sql_schema.proofs.inspection.is_good_table.Goals as goal

pub returns-in-Meta-clause-seen : goal.returns-in-Meta-clause-seen
returns-in-Meta-clause-seen g c d is =
    subst (λ t. Sees d (state g.S.Store c.args.conn.now) (state g.S.Store c.is_good_meta.new.conn) c.is_good_meta.result (λ good. FindsGood t d.trees good))
    (sym c.in-Meta.is) (c.is_good_meta.ensures.seen d (subst (Covers d.schema) c.in-Meta.is is))

pub returns-in-Groups-clause-seen : goal.returns-in-Groups-clause-seen
returns-in-Groups-clause-seen g c d is =
    subst (λ t. Sees d (state g.S.Store c.args.conn.now) (state g.S.Store c.is_good.new.conn) c.is_good.result (λ good. FindsGood t d.trees good))
    (sym c.in-Groups.is) (c.is_good.ensures.looks.seen d (subst (Covers d.schema) c.in-Groups.is is))

pub returns-in-Stations-clause-seen : goal.returns-in-Stations-clause-seen
returns-in-Stations-clause-seen g c d is =
    subst
    (λ t. Sees d (state g.S.Store c.args.conn.now) (state g.S.Store c.is_good-in-Stations.new.conn) c.is_good-in-Stations.result
    (λ good. FindsGood t d.trees good))
    (sym c.in-Stations.is) (c.is_good-in-Stations.ensures.looks.seen d (subst (Covers d.schema) c.in-Stations.is is))

pub returns-in-Agents-clause-seen : goal.returns-in-Agents-clause-seen
returns-in-Agents-clause-seen g c d is =
    subst
    (λ t. Sees d (state g.S.Store c.args.conn.now) (state g.S.Store c.is_good-in-Agents.new.conn) c.is_good-in-Agents.result
    (λ good. FindsGood t d.trees good))
    (sym c.in-Agents.is) (c.is_good-in-Agents.ensures.looks.seen d (subst (Covers d.schema) c.in-Agents.is is))

pub returns-in-Calls-clause-seen : goal.returns-in-Calls-clause-seen
returns-in-Calls-clause-seen g c d is =
    subst
    (λ t. Sees d (state g.S.Store c.args.conn.now) (state g.S.Store c.is_good-in-Calls.new.conn) c.is_good-in-Calls.result
    (λ good. FindsGood t d.trees good))
    (sym c.in-Calls.is) (c.is_good-in-Calls.ensures.looks.seen d (subst (Covers d.schema) c.in-Calls.is is))

pub returns-in-Connections-clause-seen : goal.returns-in-Connections-clause-seen
returns-in-Connections-clause-seen g c d is =
    subst
    (λ t. Sees d (state g.S.Store c.args.conn.now) (state g.S.Store c.are_good_connections.new.conn) c.are_good_connections.result
    (λ good. FindsGood t d.trees good))
    (sym c.in-Connections.is) (c.are_good_connections.ensures.seen d (subst (Covers d.schema) c.in-Connections.is is))

pub returns-in-Monitors-clause-seen : goal.returns-in-Monitors-clause-seen
returns-in-Monitors-clause-seen g c d is =
    subst
    (λ t. Sees d (state g.S.Store c.args.conn.now) (state g.S.Store c.is_good-in-Monitors.new.conn) c.is_good-in-Monitors.result
    (λ good. FindsGood t d.trees good))
    (sym c.in-Monitors.is) (c.is_good-in-Monitors.ensures.looks.seen d (subst (Covers d.schema) c.in-Monitors.is is))

pub returns-in-Events-clause-seen : goal.returns-in-Events-clause-seen
returns-in-Events-clause-seen g c d is =
    subst (λ t. Sees d (state g.S.Store c.args.conn.now) (state g.S.Store c.is_good_log.new.conn) c.is_good_log.result (λ good. FindsGood t d.trees good))
    (sym c.in-Events.is) (c.is_good_log.ensures.seen d (subst (Covers d.schema) c.in-Events.is is))

pub returns-in-Kept-clause-seen : goal.returns-in-Kept-clause-seen
returns-in-Kept-clause-seen g c d is =
    subst
    (λ t. Sees d (state g.S.Store c.args.conn.now) (state g.S.Store c.is_good_log-in-Kept.new.conn) c.is_good_log-in-Kept.result
    (λ good. FindsGood t d.trees good))
    (sym c.in-Kept.is) (c.is_good_log-in-Kept.ensures.seen d (subst (Covers d.schema) c.in-Kept.is is))

pub returns-in-AgentGroups-clause-seen : goal.returns-in-AgentGroups-clause-seen
returns-in-AgentGroups-clause-seen g c d is =
    subst
    (λ t. Sees d (state g.S.Store c.args.conn.now) (state g.S.Store c.are_good_further.new.conn) c.are_good_further.result
    (λ good. FindsGood t d.trees good))
    (sym c.in-AgentGroups.is) (c.are_good_further.ensures.seen d (subst (Covers d.schema) c.in-AgentGroups.is is))

pub returns-in-GroupPriority-clause-seen : goal.returns-in-GroupPriority-clause-seen
returns-in-GroupPriority-clause-seen g c d is =
    subst
    (λ t. Sees d (state g.S.Store c.args.conn.now) (state g.S.Store c.is_good-in-GroupPriority.new.conn) c.is_good-in-GroupPriority.result
    (λ good. FindsGood t d.trees good))
    (sym c.in-GroupPriority.is) (c.is_good-in-GroupPriority.ensures.looks.seen d (whole_begins d.schema (subst (Covers d.schema) c.in-GroupPriority.is is)))

pub returns-in-Meta-clause-looked : goal.returns-in-Meta-clause-looked
returns-in-Meta-clause-looked g c =
    looks_so (HasCanonical (λ s. Covers s c.args.table)) (HasGood (BeginsSchema tables_1) []) (λ d h. ((subst (Covers d.schema) c.in-Meta.is h.0), tt))
    (state g.S.Store c.args.conn.now) (state g.S.Store c.is_good_meta.new.conn) c.is_good_meta.result c.is_good_meta.ensures.looked

pub returns-in-Groups-clause-looked : goal.returns-in-Groups-clause-looked
returns-in-Groups-clause-looked g c =
    looks_so (HasCanonical (λ s. Covers s c.args.table)) (HasGood (BeginsSchema tables_1) []) (λ d h. ((subst (Covers d.schema) c.in-Groups.is h.0), tt))
    (state g.S.Store c.args.conn.now) (state g.S.Store c.is_good.new.conn) c.is_good.result (c.is_good.ensures.looked groups_over)

pub returns-in-Stations-clause-looked : goal.returns-in-Stations-clause-looked
returns-in-Stations-clause-looked g c =
    looks_so (HasCanonical (λ s. Covers s c.args.table)) (HasGood (BeginsSchema tables_1) []) (λ d h. ((subst (Covers d.schema) c.in-Stations.is h.0), tt))
    (state g.S.Store c.args.conn.now) (state g.S.Store c.is_good-in-Stations.new.conn) c.is_good-in-Stations.result
    (c.is_good-in-Stations.ensures.looked stations_over)

pub returns-in-Agents-clause-looked : goal.returns-in-Agents-clause-looked
returns-in-Agents-clause-looked g c =
    looks_so (HasCanonical (λ s. Covers s c.args.table)) (HasGood (BeginsSchema tables_1) []) (λ d h. ((subst (Covers d.schema) c.in-Agents.is h.0), tt))
    (state g.S.Store c.args.conn.now) (state g.S.Store c.is_good-in-Agents.new.conn) c.is_good-in-Agents.result
    (c.is_good-in-Agents.ensures.looked agents_over)

pub returns-in-Calls-clause-looked : goal.returns-in-Calls-clause-looked
returns-in-Calls-clause-looked g c =
    looks_so (HasCanonical (λ s. Covers s c.args.table)) (HasGood (BeginsSchema tables_1) []) (λ d h. ((subst (Covers d.schema) c.in-Calls.is h.0), tt))
    (state g.S.Store c.args.conn.now) (state g.S.Store c.is_good-in-Calls.new.conn) c.is_good-in-Calls.result (c.is_good-in-Calls.ensures.looked calls_over)

pub returns-in-Connections-clause-looked : goal.returns-in-Connections-clause-looked
returns-in-Connections-clause-looked g c =
    looks_so (HasCanonical (λ s. Covers s c.args.table)) (HasGood (BeginsSchema tables_1) []) (λ d h. ((subst (Covers d.schema) c.in-Connections.is h.0), tt))
    (state g.S.Store c.args.conn.now) (state g.S.Store c.are_good_connections.new.conn) c.are_good_connections.result c.are_good_connections.ensures.looked

pub returns-in-Monitors-clause-looked : goal.returns-in-Monitors-clause-looked
returns-in-Monitors-clause-looked g c =
    looks_so (HasCanonical (λ s. Covers s c.args.table)) (HasGood (BeginsSchema tables_1) []) (λ d h. ((subst (Covers d.schema) c.in-Monitors.is h.0), tt))
    (state g.S.Store c.args.conn.now) (state g.S.Store c.is_good-in-Monitors.new.conn) c.is_good-in-Monitors.result
    (c.is_good-in-Monitors.ensures.looked monitors_over)

pub returns-in-Events-clause-looked : goal.returns-in-Events-clause-looked
returns-in-Events-clause-looked g c =
    looks_so (HasCanonical (λ s. Covers s c.args.table)) (HasCanonical (BeginsSchema tables_1)) (λ d h. ((subst (Covers d.schema) c.in-Events.is h.0), h.1))
    (state g.S.Store c.args.conn.now) (state g.S.Store c.is_good_log.new.conn) c.is_good_log.result c.is_good_log.ensures.looked

pub returns-in-Kept-clause-looked : goal.returns-in-Kept-clause-looked
returns-in-Kept-clause-looked g c =
    looks_so (HasCanonical (λ s. Covers s c.args.table)) (HasCanonical (BeginsSchema tables_1)) (λ d h. ((subst (Covers d.schema) c.in-Kept.is h.0), h.1))
    (state g.S.Store c.args.conn.now) (state g.S.Store c.is_good_log-in-Kept.new.conn) c.is_good_log-in-Kept.result c.is_good_log-in-Kept.ensures.looked

pub returns-in-AgentGroups-clause-looked : goal.returns-in-AgentGroups-clause-looked
returns-in-AgentGroups-clause-looked g c =
    looks_so (HasCanonical (λ s. Covers s c.args.table)) (HasGood IsBookSchema []) (λ d h. ((subst (Covers d.schema) c.in-AgentGroups.is h.0), tt))
    (state g.S.Store c.args.conn.now) (state g.S.Store c.are_good_further.new.conn) c.are_good_further.result c.are_good_further.ensures.looked

pub returns-in-GroupPriority-clause-looked : goal.returns-in-GroupPriority-clause-looked
returns-in-GroupPriority-clause-looked g c =
    looks_so (HasCanonical (λ s. Covers s c.args.table)) (HasGood (BeginsSchema (tables_1 ++ added_in_2)) [])
    (λ d h. ((whole_begins d.schema (subst (Covers d.schema) c.in-GroupPriority.is h.0)), tt)) (state g.S.Store c.args.conn.now)
    (state g.S.Store c.is_good-in-GroupPriority.new.conn) c.is_good-in-GroupPriority.result (c.is_good-in-GroupPriority.ensures.looked priorities_over)
