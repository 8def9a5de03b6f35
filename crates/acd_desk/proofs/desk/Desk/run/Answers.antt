use Rattle.std.proofs.Common.{rules, ◌≡◌, ◌<◌, ◌+◌, ◌∙◌, ℕ, length, take, get_or, List, [], ◌∷◌, ◌++◌, ap, sym, subst, arith, refl}
use Rattle.std.proofs.lemmas.Grind.{common_steps}
use Rattle.acd_terms.specs.declared.command.Arrival.{Arrival}
use Rattle.acd_desk.specs.declared.taken.Taken.{Taken}
use Rattle.acd_desk.specs.Desks.DeskState.{DeskState, state_of}
use Rattle.acd_terms.specs.Lists.{Every}
use Rattle.acd_desk.specs.Desks.DeskCalls.{Ran, EndsIn, IsStoreFault}
use Rattle.acd_desk.proofs.Desks.CallsInTurn.{Settles, ran_nothing, ran_more, later_push, every_push}
use Rattle.acd_desk.proofs.desk.Desk.run.Goals as goal

take-push : (i : ℕ) (l : List Arrival) (d : Arrival) → i < length l → take (i + 1) l ≡ take i l ++ get_or l i d ∷ []
take-push i l d h = grind (arith, common_steps)

more : (s n : DeskState) (l l' : List Arrival) (ts ts' : List Taken) → l' ≡ l → ts' ≡ ts → Ran s l ts n → Ran s l' ts' n
more s n l l' ts ts' e f ran = subst (λ (x : List Arrival). Ran s x ts' n) (sym e) (subst (λ (y : List Taken). Ran s l y n) (sym f) ran)

pub loop-i-preserved : goal.loop-i-preserved
loop-i-preserved g c =
    let inv = c.loop-i.invariant in
    let old : DeskState = state_of g.B.Book c.args.self.now in
    let mid : DeskState = state_of g.B.Book c.loop-i.self in
    let new : DeskState = state_of g.B.Book c.take-answer.new.self in
    let a : Arrival = c.index-arrivals-i.result in
    let l : List Arrival = take c.loop-i.i c.args.arrivals.now in
    let ts : List Taken = c.loop-i.answers.items in
    let t : Taken = c.take-answer.result in
    let longer : take (c.loop-i.i + 1) c.args.arrivals.now ≡ l ++ a ∷ []
    = take-push c.loop-i.i c.args.arrivals.now a c.loop-i-test.true ∙ ap (λ (x : Arrival). l ++ x ∷ []) (sym c.index-arrivals-i.is) in
    let settles : Settles new = λ x clean sound opened stop. g.met.B.Book.settled c.take-answer.new.self.book x clean sound opened stop in
    record {
      count = search rules;
      room = search rules;
      later = subst (EndsIn IsStoreFault) (sym c.in_ok-push.ensures.items) (later_push IsStoreFault ts t inv.later (λ found. c.take-answer.ensures.shut (inv.ran.desk.shuts found)));
      shut = λ failed. subst (Every IsStoreFault) (sym c.in_ok-push.ensures.items) (every_push IsStoreFault ts t (inv.shut failed) (c.take-answer.ensures.shut (inv.ran.desk.lasts failed)));
      ran = more old new (l ++ a ∷ []) (take (c.loop-i.i + 1) c.args.arrivals.now) (ts ++ t ∷ []) c.push.new.self.items longer c.in_ok-push.ensures.items
          (ran_more old mid new l ts a t settles inv.ran c.take-answer.ensures.took);
    }

pub loop-i-init : goal.loop-i-init
loop-i-init g c =
    let old : DeskState = state_of g.B.Book c.args.self.now in
    record {
      count = search rules;
      room = search rules;
      later = subst (EndsIn IsStoreFault) (sym c.in_ok-answers.ensures.items) tt;
      shut = λ failed. subst (Every IsStoreFault) (sym c.in_ok-answers.ensures.items) tt;
      ran = more old old [] [] [] c.in_ok-answers.answers.items refl c.in_ok-answers.ensures.items
          (ran_nothing old (λ x clean sound opened stop. g.met.B.Book.settled c.args.self.now.book x clean sound opened stop));
    }
