use Rattle.std.proofs.Common.{Some, List, ℕ, sym, subst}
use Rattle.acd_tables.specs.Swaps.{LeavesBut}
use Rattle.acd_tables.proofs.SwapLemmas.{left_but}
use Rattle.acd_tables.proofs.indexes.leaving_but.Goals as goal

pub returns-in-Some : goal.returns-in-Some
returns-in-Some g c =
    subst (λ b. LeavesBut g.E.Ord.cmp b c.args.after.now (Some (c.left_of.result, c.in-Some.member))) (sym c.in-Some.is)
    (subst (λ (gs : List ℕ). LeavesBut g.E.Ord.cmp (Some (c.in-Some.groups, c.in-Some.member)) c.args.after.now (Some (gs, c.in-Some.member)))
    (sym c.left_of.ensures)
    (left_but g.E.Ord.cmp g.met.E.Ord.total c.in-Some.groups c.in-Some.member c.args.after.now))
