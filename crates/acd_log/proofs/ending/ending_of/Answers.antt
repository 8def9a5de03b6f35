use Rattle.std.proofs.Common.{ℕ, refl, sym, subst}
use Rattle.acd_log.specs.Ending.{IsReadableLog}
use Rattle.acd_log.proofs.Heads.{found_in, found_without}
use Rattle.acd_log.proofs.ending.ending_of.Goals as goal

pub returns-in-Some : goal.returns-in-Some
returns-in-Some c =
    found_in c.bytes.result c.args.log.now c.ending_in.result (subst (λ (page : ℕ). IsReadableLog page c.args.log.now) (sym c.bytes.ensures.value) c.in-Some.ensures.some)
    c.ending_in.ensures.early c.ending_in.ensures.head

pub returns-in-None : goal.returns-in-None
returns-in-None c = found_without c.args.log.now c.ending_without_head.result (c.in-None.ensures.none refl) c.ending_without_head.ensures.headless c.ending_without_head.ensures.early
