use Rattle.std.proofs.Common.{rules, ◌≡◌, ◌++◌, ◌∷◌, ◌+◌, [], length, sym, subst, true}
use Rattle.acd_book.specs.Memory.{is_numbered, stamp_of, key_of, HasPlaces, IsPlacedNew}
use Rattle.acd_book.proofs.NumberedLists.{numbered-push}
use Rattle.acd_book.proofs.Places.{placed_push, unkept}
use Rattle.acd_book.proofs.replies.Replies.push.Goals as goal

pub invariant_of-self-2-clause-numbered : goal.invariant_of-self-2-clause-numbered
invariant_of-self-2-clause-numbered c =
    let s = c.args.self.now in
    let next : c.args.kept.stamp ≡ length s.records.items + 1 = search rules in
    let items : c.push.new.self.items ≡ s.records.items ++ c.args.kept ∷ [] = search rules in
    subst (λ l. is_numbered stamp_of 0 l ≡ true) (sym items) (numbered-push stamp_of s.records.items c.args.kept s.numbered next)

pub invariant_of-self-2-clause-placed : goal.invariant_of-self-2-clause-placed
invariant_of-self-2-clause-placed c =
    let s = c.args.self.now in
    let kept = c.args.kept in
    let new : IsPlacedNew s.places c.put_new.new.places (key_of kept) (length s.records.items) = search rules in
    let items : c.push.new.self.items ≡ s.records.items ++ kept ∷ [] = search rules in
    let unkept = unkept s.places s.records.items kept.request.requester kept.request.invoke s.placed new.unplaced in
    subst (HasPlaces c.put_new.new.places) (sym items) (placed_push s.places c.put_new.new.places s.records.items kept s.placed unkept new.placed)
