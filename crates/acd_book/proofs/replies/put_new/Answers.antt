use Rattle.std.proofs.Common.{rules, ◌≡◌, Some, cond}
use Rattle.std.specs.HashMap.{get}
use Rattle.acd_book.specs.Memory.{same_key}
use Rattle.acd_book.specs.declared.key.Key.{Key}
use Rattle.acd_book.proofs.Places.{put_back, has_place, went}
use Rattle.acd_book.proofs.replies.put_new.Goals as goal

pub returns-in_default-clause-ok : goal.returns-in_default-clause-ok
unfolding same_key
returns-in_default-clause-ok c = record {
  unplaced = search rules;
  placed = λ k. search (rules, c.in_ok-old.ensures.updates.0 k);
}

pub returns-clause-err : goal.returns-clause-err
unfolding same_key
returns-clause-err c =
    let first = c.args.places.now in
    let mid = c.insert.new.self in
    let key = c.args.key.now in
    let there : get same_key first key ≡ Some c.in-Some.old = search rules in
    let put : (k : Key) → get same_key mid k ≡ cond (same_key key k) (Some c.args.place) (get same_key first k) = c.in_ok-old.ensures.updates.0 in
    let back = went c.insert-2.result _ _ c.insert-2.ensures.updates c.insert-2.ensures.absent (has_place first mid key c.args.place put) in
    put_back first mid c.insert-2.new.self key c.in-Some.old c.args.place there put back.0
