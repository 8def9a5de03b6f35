use Rattle.std.proofs.Common.{◌≡◌, ◌≢◌, rules, true, false, sym, ap, ◌∙◌, codes}
use Rattle.std.specs.Prelude.{is_some}
use Rattle.sqlite_schema.specs.Names.{table_named}
use Rattle.sqlite_schema.specs.declared.schema.Schema.{Schema}
use Rattle.sqlite.specs.Held.{state}
use Rattle.acd_sql_columns.specs.Schema.{old_schema}
use Rattle.acd_sql_schema.specs.Inspection.{IsAdoptStoreFault}
use Rattle.acd_sessions.proofs.Archives.{adopted_untouched, not_old, refused_untouched}
use Rattle.acd_sessions.proofs.BooksOfConnections.{adopted_taken}
use Rattle.acd_sessions.proofs.connection.archive_over.Goals as goal

pub returns-then-is_some-clause-taken : goal.returns-then-is_some-clause-taken
returns-then-is_some-clause-taken g c =
    adopted_taken g.S.Store false (state g.S.Store c.args.conn) c.adopt.result c.adopt.ensures.adopted c.adopt.ensures.blank c.adopt.ensures.counted c.adopt.ensures.clean

pub returns-then-is_some-clause-untouched : goal.returns-then-is_some-clause-untouched
returns-then-is_some-clause-untouched g c =
    let there : is_some (table_named c.schema.result.now (codes "agent_groups")) ≡ true = search rules in
    let other : (state g.S.Store c.args.conn).now.schema ≢ old_schema
    = not_old (state g.S.Store c.args.conn).now.schema (ap (λ (x : Schema). is_some (table_named x (codes "agent_groups"))) (sym c.schema.ensures.value) ∙ there) in
    adopted_untouched g.S.Store (state g.S.Store c.args.conn) c.adopt.result other c.adopt.ensures.adopted c.adopt.ensures.untouched

pub returns-then-is_some-clause-refused : goal.returns-then-is_some-clause-refused
returns-then-is_some-clause-refused g c =
    let there : is_some (table_named c.schema.result.now (codes "agent_groups")) ≡ true = search rules in
    let other : (state g.S.Store c.args.conn).now.schema ≢ old_schema
    = not_old (state g.S.Store c.args.conn).now.schema (ap (λ (x : Schema). is_some (table_named x (codes "agent_groups"))) (sym c.schema.ensures.value) ∙ there) in
    refused_untouched g.S.Store (state g.S.Store c.args.conn) c.adopt.result (λ fault. ¬ IsAdoptStoreFault fault) other c.adopt.ensures.left_alone
