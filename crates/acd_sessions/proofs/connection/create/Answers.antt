use Rattle.sqlite.specs.Held.{state}
use Rattle.acd_sessions.proofs.BooksOfConnections.{of_unmade}
use Rattle.acd_sessions.proofs.connection.create.Goals as goal

pub returns-in-Ok-clause-made : goal.returns-in-Ok-clause-made
returns-in-Ok-clause-made g c = of_unmade (state g.S.Store c.args.conn) (state g.S.Store c.in-Ok.book.conn) c.in-Ok.book.cache c.in-Ok.book.failures c.in-Ok.ensures.made c.in-Ok.ensures.blank c.in-Ok.ensures.counted c.in-Ok.ensures.clean
