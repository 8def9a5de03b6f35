use Rattle.std.proofs.Common.{◌≤◌, ◌++◌, length, sym, ap, ◌∙◌, arith}
use Rattle.std.proofs.lemmas.List.{append-nil, drop_all}
use Rattle.acd_model.specs.Moves.{moved, events_of}
use Rattle.acd_services.proofs.make.make_all.Goals as goal

pub returns : goal.returns
returns c =
    let past : length c.args.moves.now ≤ c.loop-one.one-index = omega arith in
    let rest = sym (drop_all c.loop-one.one-index c.args.moves.now past) in
    record {
      rows = ap (moved c.loop-one.tables) rest ∙ c.loop-one.invariant.rows;
      events = sym (append-nil c.loop-one.events.items) ∙ ap (λ l. c.loop-one.events.items ++ events_of c.args.moment l) rest ∙ c.loop-one.invariant.reported;
    }
