use Rattle.acd_desk.specs.Desks.DeskCalls.{state_of}
use Rattle.acd_http.proofs.TurnsInTurn.{serves_until}
use Rattle.acd_http.proofs.listening.serve_until_failed.Goals as goal

pub returns-clause-answered : goal.returns-clause-answered
returns-clause-answered g c = λ routed.
    serves_until (state_of g.B.Book) _ _ c.args.desk.now c.serve.new.desk _
    c.new-span.ensures.step c.new-span.ensures.connections (c.serve.ensures.answered routed)
