use Rattle.acd_desk.specs.Desks.DeskCalls.{state_of}
use Rattle.acd_http.proofs.TurnsInTurn.{serves_all}
use Rattle.acd_http.proofs.listening.serve_on.Goals as goal

pub returns-clause-answered : goal.returns-clause-answered
returns-clause-answered g c = λ routed.
    serves_all (state_of g.B.Book) _ _ c.args.desk.now c.serve.new.desk _ c.args.connections
    c.new-span.ensures.step c.new-span.ensures.connections (c.serve.ensures.answered routed)
