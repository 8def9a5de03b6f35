use Rattle.std.proofs.Common.{rules, arith, ◌≡◌, ◌-◌, ◌+◌, suc, Some, None}
use Rattle.acd_model.specs.Choice.{offer_of}
use Rattle.acd_switch.proofs.MovesInTurn.{offers_left, offer_carried, without_offer, after_most}
use Rattle.acd_switch.proofs.distribution.distribute.Goals as goal

pub returns-in_default : goal.returns-in_default
returns-in_default c =
    let most = c.queued_count-most.result in
    let none : offer_of c.loop-round.tables ≡ None = search rules in
    without_offer (most - c.loop-round.round) most none c.loop-round.invariant.most_is c.loop-round.invariant.left

pub returns : goal.returns
returns c =
    let most = c.queued_count-most.result in
    let none : most - c.loop-round.round ≡ 0 = omega arith in
    after_most (most - c.loop-round.round) most none c.loop-round.invariant.most_is c.loop-round.invariant.left

pub loop-round-init : goal.loop-round-init
loop-round-init c =
    let most = c.queued_count-most.result in
    let whole : most - 0 ≡ most = omega arith in
    record { left = offers_left (most - 0) most whole; most_is = c.queued_count-most.ensures }

pub loop-round-preserved : goal.loop-round-preserved
loop-round-preserved c =
    let most = c.queued_count-most.result in
    let some : offer_of c.loop-round.tables ≡ Some c.in-Some.offer = search rules in
    let one_less : most - c.loop-round.round ≡ suc (most - (c.loop-round.round + 1)) = omega arith in
    record {
      left =
          offer_carried (most - c.loop-round.round) (most - (c.loop-round.round + 1)) c.in-Some.offer one_less some c.loop-round.invariant.left
          c.in_ok-make_offer.ensures;
      most_is = c.loop-round.invariant.most_is;
    }
