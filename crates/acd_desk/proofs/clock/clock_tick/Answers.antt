use Rattle.std.proofs.Common.{is_some, sym, ap, ◌∙◌, arith}
use Rattle.acd_terms.specs.declared.command.Command.TheVariants.{Tick}
use Rattle.acd_terms.proofs.ReadBack.{number_again}
use Rattle.acd_lemmas.proofs.Lists.{some_is}
use Rattle.acd_desk.proofs.clock.clock_tick.Goals as goal

pub unwrap-requires : goal.unwrap-requires
unwrap-requires c = ap is_some (c.new.ensures ∙ number_again 1 999999999 1 (omega arith, omega arith))

pub returns : goal.returns
returns c =
    let one = some_is c.unwrap.result 1 (sym c.unwrap.ensures ∙ c.new.ensures ∙ number_again 1 999999999 1 (omega arith, omega arith)) in
    λ i. record { requester = c.clock_requester.ensures i; invoke = one i; command = Tick }
