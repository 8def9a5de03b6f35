use Rattle.std.proofs.Common.{◌≡◌, ◌+◌, ◌≤◌, ◌∷◌, drop, length, arith}
use Rattle.std.proofs.lemmas.Grind.{common_steps}
use Rattle.acd_switch.proofs.MovesInTurn.{all_left, move_carried, moves_carried}
use Rattle.acd_switch.proofs.journal.Journal.make_all.Goals as goal

pub loop-one-init : goal.loop-one-init
loop-one-init c = all_left c.args.moment c.args.moves.now c.args.tables.now c.args.self.now

pub loop-one-preserved : goal.loop-one-preserved
loop-one-preserved c =
    let moves = c.args.moves.now in
    let i = c.loop-one.one-index in
    let parts : drop i moves ≡ c.one-item.result ∷ drop (i + 1) moves = grind (arith, common_steps) in
    move_carried c.one-item.result (drop i moves) (drop (i + 1) moves) parts c.loop-one.invariant c.in_ok-make.ensures

pub returns : goal.returns
returns c =
    let past : length c.args.moves.now ≤ c.loop-one.one-index = omega arith in
    moves_carried c.args.moves.now c.loop-one.one-index past c.loop-one.invariant
