use Rattle.std.proofs.Common.{rules, inl, [], ◌≡◌, ◌∷◌, ◌∙◌, ap, sym}
use Rattle.acd_book.proofs.SharedLists.{cons_not_nil}
use Rattle.acd_desk.specs.Reads.Kinds.{listed}
use Rattle.acd_desk.proofs.Archives.Overlaps.{firsts_differ}
use Rattle.acd_desk.proofs.overlap.next_of.Goals as goal

pub returns-then-is_same : goal.returns-then-is_same
returns-then-is_same g c =
    let both = c.in-Some-Some in
    let archived : listed c.args.archived ≡ both.item.now ∷ [] = search rules in
    let current : listed c.args.current ≡ both.other.now ∷ [] = search rules in
    (both.item.now, [], [], archived, current ∙ ap (λ x. x ∷ []) (sym (c.is_same.ensures.0 c.if-is_same.true)), c.place.ensures)

pub returns-after-place : goal.returns-after-place
returns-after-place g c =
    let both = c.in-Some-Some in
    let archived : listed c.args.archived ≡ both.item.now ∷ [] = search rules in
    let current : listed c.args.current ≡ both.other.now ∷ [] = search rules in
    inl (both.item.now, [], archived, firsts_differ both.item.now both.other.now _ _ c.is_same.result archived current c.is_same.ensures c.if-is_same.false)

pub returns-in-Some-None : goal.returns-in-Some-None
returns-in-Some-None g c =
    let archived : listed c.args.archived ≡ c.in-Some-None.item.now ∷ [] = search rules in
    let current : listed c.args.current ≡ [] = search rules in
    inl (c.in-Some-None.item.now, [], archived, λ is. cons_not_nil c.in-Some-None.item.now [] (sym archived ∙ sym is ∙ current))
