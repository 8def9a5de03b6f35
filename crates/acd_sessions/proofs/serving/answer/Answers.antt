use Rattle.std.proofs.Common.{◌≢◌, ◌∙◌, inl, inr, Err, refl, ap, sym}
use Rattle.acd_desk.specs.Desks.DeskState.{state_of}
use Rattle.acd_http.specs.declared.serving.ServeFault.TheVariants.{NoMemory}
use Rattle.acd_sessions.proofs.ServeDone.{begins_turns}
use Rattle.acd_sessions.proofs.serving.answer.Goals as goal

pub returns-in-Ok : goal.returns-in-Ok
returns-in-Ok g c =
    let some : c.serve.result ≢ Err NoMemory = λ e. cc (sym c.in-Ok.is ∙ e) in
    inr (record {
      taken = begins_turns (state_of g.B.Book) c.args.span c.args.desk.now c.serve.new.desk c.serve.result (g.E.Write.contents c.args.errors.now) (g.E.Write.contents c.serve.new.errors)
          (c.serve.ensures.answered some);
      ended = c.unless_endless.ensures;
    })

pub returns-in-Err-Write : goal.returns-in-Err-Write
returns-in-Err-Write g c =
    let some : c.serve.result ≢ Err NoMemory = λ e. cc (sym (c.in-Err-Write.is ∙ ap Err c.in-Err-Write.field-0-is) ∙ e) in
    inr (record {
      taken = begins_turns (state_of g.B.Book) c.args.span c.args.desk.now c.serve.new.desk c.serve.result (g.E.Write.contents c.args.errors.now) (g.E.Write.contents c.serve.new.errors)
          (c.serve.ensures.answered some);
      ended = c.unless_endless-in-Err-Write.ensures;
    })

pub returns-in-Err-NoMemory : goal.returns-in-Err-NoMemory
returns-in-Err-NoMemory g c =
    let none = c.serve.ensures.memory (c.in-Err-NoMemory.is ∙ ap Err c.in-Err-NoMemory.field-0-is) in
    inl (record { why = _; ended = refl; same = none.0; quiet = ap g.E.Write.contents none.1 })
