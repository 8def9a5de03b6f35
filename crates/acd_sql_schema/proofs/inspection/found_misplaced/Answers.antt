use Rattle.std.proofs.Common.{◌≡◌, [], ◌∷◌, Bool, true, Option, rules}
use Rattle.sqlite.specs.Effect.{Database}
use Rattle.acd_sql_columns.specs.declared.tables.Table.TheVariants as table
use Rattle.sqlite.specs.Held.{state}
use Rattle.acd_sql_columns.specs.declared.tables.Version.TheVariants as version
use Rattle.acd_sql_schema.specs.Inspection.{IsPlaceFound, HasGoodTables}
use Rattle.acd_sql_schema.proofs.InspectionReads.{further_right, further_wrong, IsRankFound}
use Rattle.acd_sql_columns.specs.AnyRows.{is_beside}
use Rattle.acd_sql_schema.specs.declared.fault.AdoptFault.{AdoptFault}
use Rattle.acd_sql_statements.specs.ReadsBetween.{IsBookSchema}
use Rattle.acd_sql_statements.specs.Looks.{HasGood}
use Rattle.acd_sql_statements.proofs.LookCauses.{looks_done, looks_as, looks_then, sees_as}
use Rattle.acd_sql_schema.proofs.inspection.found_misplaced.Goals as goal

pub returns-then-placed-clause-seen : goal.returns-then-placed-clause-seen
returns-then-placed-clause-seen g c d is =
    further_right d (state g.S.Store c.args.conn.now) (state g.S.Store c.are_further_placed.new.conn) is (state g.S.Store c.ranks_misplaced.new.conn)
    c.ranks_misplaced.result (rw c.if-placed.true at (c.in_ok-placed.ensures.looks.seen d is)) (c.ranks_misplaced.ensures.seen d is)

pub returns-clause-seen : goal.returns-clause-seen
returns-clause-seen g c d is =
    further_wrong d (state g.S.Store c.args.conn.now) (state g.S.Store c.are_further_placed.new.conn) is
    (rw c.if-placed.false at (c.in_ok-placed.ensures.looks.seen d is))

pub returns-in_err-placed-clause-seen : goal.returns-in_err-placed-clause-seen
returns-in_err-placed-clause-seen g c d is =
    sees_as d (state g.S.Store c.args.conn.now) (state g.S.Store c.are_further_placed.new.conn) c.in_err-placed.field-0.0 c.from_residual.result (search rules)
    _ (λ f. IsPlaceFound version.Second d f) (c.in_err-placed.ensures.looks.seen d is)

pub returns-then-placed-clause-looked : goal.returns-then-placed-clause-looked
returns-then-placed-clause-looked g c =
    looks_then (HasGoodTables version.Second) (HasGood IsBookSchema (table.AgentGroups ∷ table.Agents ∷ [])) (HasGoodTables version.Second)
    (λ (d : Database) (placed : Bool). placed ≡ is_beside d.trees) (λ (d : Database) (f : Option AdoptFault). IsRankFound d f)
    (state g.S.Store c.args.conn.now) (state g.S.Store c.are_further_placed.new.conn) (state g.S.Store c.ranks_misplaced.new.conn) true
    c.ranks_misplaced.result (λ d h. (h.0, (h.1 table.AgentGroups tt, (h.1 table.Agents tt, tt))))
    (rw c.if-placed.true at c.in_ok-placed.ensures.looked) (λ d h. rw c.if-placed.true at (c.in_ok-placed.ensures.looks.seen d h.0)) (λ d h p. h)
    (λ d h. c.ranks_misplaced.ensures.seen d h.0) c.ranks_misplaced.ensures.looked

pub returns-clause-looked : goal.returns-clause-looked
returns-clause-looked g c =
    looks_done (HasGoodTables version.Second) (HasGood IsBookSchema (table.AgentGroups ∷ table.Agents ∷ []))
    (λ d h. (h.0, (h.1 table.AgentGroups tt, (h.1 table.Agents tt, tt)))) (state g.S.Store c.args.conn.now) (state g.S.Store c.are_further_placed.new.conn)
    c.in_ok-placed.placed _ c.in_ok-placed.ensures.looked

pub returns-in_err-placed-clause-looked : goal.returns-in_err-placed-clause-looked
returns-in_err-placed-clause-looked g c =
    looks_as (HasGoodTables version.Second) (HasGood IsBookSchema (table.AgentGroups ∷ table.Agents ∷ []))
    (λ d h. (h.0, (h.1 table.AgentGroups tt, (h.1 table.Agents tt, tt)))) (state g.S.Store c.args.conn.now) (state g.S.Store c.are_further_placed.new.conn)
    c.in_err-placed.field-0.0 c.from_residual.result (search rules) c.in_err-placed.ensures.looked
