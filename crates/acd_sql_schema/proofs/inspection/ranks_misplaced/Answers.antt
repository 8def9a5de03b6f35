use Rattle.std.proofs.Common.{[], ◌∷◌, rules}
use Rattle.acd_sql_columns.specs.declared.tables.Table.TheVariants as table
use Rattle.acd_sql_columns.specs.declared.tables.Version.TheVariants as version
use Rattle.sqlite.specs.Held.{state}
use Rattle.acd_sql_schema.proofs.InspectionReads.{IsRankFound, ranks_right, ranks_wrong}
use Rattle.acd_sql_statements.specs.ReadsBetween.{IsBookSchema}
use Rattle.acd_sql_schema.specs.Inspection.{HasGoodTables}
use Rattle.acd_sql_statements.specs.Looks.{HasGood}
use Rattle.acd_sql_statements.proofs.LookCauses.{looks_done, looks_as, sees_as}
use Rattle.acd_sql_schema.proofs.inspection.ranks_misplaced.Goals as goal

pub returns-then-placed-clause-seen : goal.returns-then-placed-clause-seen
returns-then-placed-clause-seen g c d is =
    ranks_right d (state g.S.Store c.args.conn.now) (state g.S.Store c.are_priorities_placed.new.conn) is
    (rw c.if-placed.true at (c.in_ok-placed.ensures.looks.seen d is))

pub returns-clause-seen : goal.returns-clause-seen
returns-clause-seen g c d is =
    ranks_wrong d (state g.S.Store c.args.conn.now) (state g.S.Store c.are_priorities_placed.new.conn) is
    (rw c.if-placed.false at (c.in_ok-placed.ensures.looks.seen d is))

pub returns-in_err-placed-clause-seen : goal.returns-in_err-placed-clause-seen
returns-in_err-placed-clause-seen g c d is =
    sees_as d (state g.S.Store c.args.conn.now) (state g.S.Store c.are_priorities_placed.new.conn) c.in_err-placed.field-0.0 c.from_residual.result
    (search rules) _ (λ f. IsRankFound d f) (c.in_err-placed.ensures.looks.seen d is)

pub returns-then-placed-clause-looked : goal.returns-then-placed-clause-looked
returns-then-placed-clause-looked g c =
    looks_done (HasGoodTables version.Second) (HasGood IsBookSchema (table.GroupPriority ∷ table.Groups ∷ []))
    (λ d h. (h.0, (h.1 table.GroupPriority tt, (h.1 table.Groups tt, tt)))) (state g.S.Store c.args.conn.now)
    (state g.S.Store c.are_priorities_placed.new.conn) c.in_ok-placed.placed _ c.in_ok-placed.ensures.looked

pub returns-clause-looked : goal.returns-clause-looked
returns-clause-looked g c =
    looks_done (HasGoodTables version.Second) (HasGood IsBookSchema (table.GroupPriority ∷ table.Groups ∷ []))
    (λ d h. (h.0, (h.1 table.GroupPriority tt, (h.1 table.Groups tt, tt)))) (state g.S.Store c.args.conn.now)
    (state g.S.Store c.are_priorities_placed.new.conn) c.in_ok-placed.placed _ c.in_ok-placed.ensures.looked

pub returns-in_err-placed-clause-looked : goal.returns-in_err-placed-clause-looked
returns-in_err-placed-clause-looked g c =
    looks_as (HasGoodTables version.Second) (HasGood IsBookSchema (table.GroupPriority ∷ table.Groups ∷ []))
    (λ d h. (h.0, (h.1 table.GroupPriority tt, (h.1 table.Groups tt, tt)))) (state g.S.Store c.args.conn.now)
    (state g.S.Store c.are_priorities_placed.new.conn) c.in_err-placed.field-0.0 c.from_residual.result (search rules) c.in_err-placed.ensures.looked
