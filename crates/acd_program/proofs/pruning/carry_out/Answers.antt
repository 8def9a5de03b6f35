use Rattle.std.proofs.Common.{Ok, refl, sym, subst}
use Rattle.acd_sqlbook.specs.View.{book_seen}
use Rattle.acd_program.specs.Archives.Pruning.{CarriesOut}
use Rattle.acd_program.proofs.Archives.ReadsOn.{left_alone}
use Rattle.acd_program.proofs.pruning.carry_out.Goals as goal

pub returns-in-Refused : goal.returns-in-Refused
returns-in-Refused g c =
    subst (λ (p : _). CarriesOut (book_seen g.C.Store c.args.book.now) (book_seen g.C.Store c.args.book.now) (Ok tt) p) (sym c.in-Refused.is) (left_alone (book_seen g.C.Store c.args.book.now), refl)

pub returns-in-Nothing : goal.returns-in-Nothing
returns-in-Nothing g c =
    subst (λ (p : _). CarriesOut (book_seen g.C.Store c.args.book.now) (book_seen g.C.Store c.args.book.now) (Ok tt) p) (sym c.in-Nothing.is) (left_alone (book_seen g.C.Store c.args.book.now), refl)
