use Rattle.std.proofs.Common.{rules, ◌≡◌, ◌∙◌, List, ap, Vec, Global}
use Rattle.acd_terms.specs.declared.event.Event.{Event}
use Rattle.acd_book.specs.Content.{Content, events_after}
use Rattle.acd_desk.specs.Reads.Pages.{IsPageOf}
use Rattle.acd_book.proofs.ReadsAhead.{read_ok, read_nothing, read_no_memory}
use Rattle.acd_desk.proofs.page.Page+Event.events_after.Goals as goal

pub returns-in_err-reach : goal.returns-in_err-reach
returns-in_err-reach g c =
    read_nothing (λ (k : Content) (found : Vec Event Global). IsPageOf k c.args.self.now → (found.items ≡ events_after k.events c.args.number c.args.count) × IsPageOf k c.reach.new.self) (g.B.Book.state c.args.book.now) (g.B.Book.state c.reach.new.book)
    c.in_err-reach.field-0.0 c.from_residual.result c.in_err-reach.ensures (search rules)

pub returns-in_err-first_after : goal.returns-in_err-first_after
returns-in_err-first_after g c =
    read_no_memory (λ (k : Content) (found : Vec Event Global). IsPageOf k c.args.self.now → (found.items ≡ events_after k.events c.args.number c.args.count) × IsPageOf k c.reach.new.self) (g.B.Book.state c.args.book.now) (g.B.Book.state c.reach.new.book)
    tt c.from_residual-in_err-first_after.result c.in_ok-reach.ensures (search rules)

pub returns : goal.returns
returns g c =
    let p = c.reach.new.self in
    let n = c.args.number in
    let count = c.args.count in
    let found = c.in_ok-first_after.field-0 in
    let is : found.items ≡ events_after p.items.items n count = c.in_ok-first_after.ensures ∙ ap (λ (l : List Event). events_after l n count) c.deref.ensures.value in
    read_ok (λ (k : Content) (found : Vec Event Global). IsPageOf k c.args.self.now → (found.items ≡ events_after k.events n count) × IsPageOf k p) (g.B.Book.state c.args.book.now) (g.B.Book.state c.reach.new.book) tt found c.in_ok-reach.ensures
    (λ k has page. let both = has page in (is ∙ both.1, both.0))
