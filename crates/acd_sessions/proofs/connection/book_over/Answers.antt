use Rattle.std.proofs.Common.{refl, sym, ◌∙◌}
use Rattle.sqlite.specs.Held.{state}
use Rattle.acd_sqlbook.specs.Caches.{followed}
use Rattle.acd_sqlbook.specs.State.{book_state}
use Rattle.acd_sessions.proofs.BooksOfConnections.{adopted_taken, made_taken, none_made, none_adopted}
use Rattle.acd_sessions.proofs.connection.book_over.Goals as goal

pub returns-clause-taken : goal.returns-clause-taken
returns-clause-taken g c =
    adopted_taken g.S.Store c.args.makes (state g.S.Store c.args.conn) c.adopt.result c.adopt.ensures.adopted c.adopt.ensures.blank c.adopt.ensures.counted c.adopt.ensures.clean

pub returns-clause-unserved : goal.returns-clause-unserved
returns-clause-unserved g c = none_adopted c.adopt.result (λ e. state g.S.Store e.1) c.args.makes (state g.S.Store c.args.conn) c.adopt.ensures.leaves_refused

pub returns-then-has_no_tables-clause-taken : goal.returns-then-has_no_tables-clause-taken
returns-then-has_no_tables-clause-taken g c =
    made_taken c.create.result (λ b. followed b.cache (book_state (state g.S.Store b.conn) b.failures)) c.args.makes (state g.S.Store c.args.conn) c.if-makes.true (sym c.schema.ensures.value ∙ c.if-has_no_tables.ensures.0 refl) c.create.ensures.made

pub returns-then-has_no_tables-clause-unserved : goal.returns-then-has_no_tables-clause-unserved
returns-then-has_no_tables-clause-unserved g c =
    none_made c.create.result (λ e. state g.S.Store e.1) c.args.makes (state g.S.Store c.args.conn) c.if-makes.true (sym c.schema.ensures.value ∙ c.if-has_no_tables.ensures.0 refl) c.create.ensures.stops
