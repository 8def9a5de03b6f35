use Rattle.std.proofs.Common.{rules, ◌≡◌, ◌≤◌, Ok}
use Rattle.acd_book.specs.Content.{Content}
use Rattle.acd_desk.specs.Reads.Pages.{Has, IsPage, Reaches}
use Rattle.acd_desk.specs.declared.page.Page.{Page}
use Rattle.acd_desk.proofs.Replays.EventsAhead.{on_page, on_next_page}
use Rattle.acd_book.proofs.ReadsAhead.{known, by_read, read_ok, read_nothing}
use Rattle.acd_desk.proofs.page.Page.reach.Goals as goal

pub returns-then-reaches : goal.returns-then-reaches
returns-then-reaches g c =
    let kind = g.T.Placed.kind in
    let p = c.args.self.now in
    let n = c.args.above in
    let count = c.args.count in
    let reaches : Reaches kind p n count = c.reaches.ensures (search rules) in
    known (λ (k : Content) (u : Unit {0}). IsPage kind k p → Has kind k p n count) (g.B.Book.state c.args.book.now) tt (λ k is. (is, on_page kind k p n count is reaches))

pub returns-in_err-self : goal.returns-in_err-self
returns-in_err-self g c =
    let kind = g.T.Placed.kind in
    read_nothing (λ (k : Content) (u : Unit {0}). IsPage kind k c.args.self.now → Has kind k c.args.self.now c.args.above c.args.count) (g.B.Book.state c.args.book.now) (g.B.Book.state c.read_page.new.book) c.in_err-self.field-0.0 c.from_residual.result
    (by_read _ _ _ _ c.in_err-self.ensures.page (λ k x is. is)) (search rules)

pub returns : goal.returns
returns g c =
    let kind = g.T.Placed.kind in
    let p = c.in_ok-self.field-0 in
    let n = c.args.above in
    let count = c.args.count in
    let above : p.above ≡ n = search rules in
    let room : count ≤ p.limit = search rules in
    read_ok (λ (k : Content) (u : Unit {0}). IsPage kind k c.args.self.now → Has kind k p n count) (g.B.Book.state c.args.book.now) (g.B.Book.state c.read_page.new.book) p tt
    (by_read (λ (k : Content) (x : Page _). IsPage kind k x) (g.B.Book.state c.args.book.now) (g.B.Book.state c.read_page.new.book) (Ok p) c.in_ok-self.ensures.page (λ k x is. is))
    (λ k is old. (is, on_next_page kind k p n count is above room))
