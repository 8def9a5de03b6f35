-- Those above a place, found in a page that was read ahead.
use Rattle.std.proofs.Common.{◌≡◌, ℕ, ◌<◌, ◌≤◌, zero, suc, Bool, true, List, [], ◌∷◌, ◌++◌, inl, inr, refl, ap, sym, ◌∙◌, subst, take, drop, filter, length, arith, take-append-drop}
use Rattle.std.specs.Prelude.{◌⊎◌, nat_lt}
use Rattle.std.proofs.lemmas.Grind.{common_steps}
use Rattle.std.proofs.lemmas.List.{take-append-le}
use Rattle.std.proofs.lemmas.List.Elements.{filter-append}
use Rattle.acd_terms.specs.Lists.{Every}
use Rattle.acd_book.specs.Content.{Content}
use Rattle.acd_desk.specs.Reads.Kinds.{Kind, all_above, first_above, page_above}
use Rattle.acd_desk.specs.declared.page.Page.{Page}
use Rattle.acd_desk.specs.Reads.Pages.{IsPage, Reaches}
use Rattle.acd_desk.proofs.Pages.PageLemmas.{above_again}
use Rattle.acd_lemmas.proofs.Lists.{filter_all, filter_among, every_among, every_from, every-take}

take_short : {T : Type 0} (n : ℕ) (xs : List T) → length (take n xs) < n → take n xs ≡ xs
take_short n xs h = grind (arith, common_steps)

take_less : {T : Type 0} (m n : ℕ) (xs : List T) → m ≤ n → take m (take n xs) ≡ take m xs
take_less zero n xs h = refl
take_less (suc m) zero xs h = absurd (omega (arith, h))
take_less (suc m) (suc n) [] h = refl
take_less (suc m) (suc n) (x ∷ xs) h = ap (λ l. x ∷ l) (take_less m n xs (omega (arith, h)))

-- a page that reaches so far has the first above a place
by_reach : {T : Type 0} (f : T → ℕ) (n count limit : ℕ) (all page : List T) → page ≡ take limit all → (length page < limit) ⊎ (count ≤ length (all_above f n page)) → first_above f n count page ≡ first_above f n count all
by_reach {T = T} f n count limit all page is (inl short) =
    ap (first_above f n count) (is ∙ take_short limit all (subst (λ (l : List T). length l < limit) is short))
by_reach {T = T} f n count limit all page is (inr there) =
    sym (take-append-le count (all_above f n page) (all_above f n (drop limit all)) there)
    ∙ ap (take count)
    (sym (filter-append (λ (x : T). nat_lt n (f x)) page (drop limit all)) ∙ ap (all_above f n) (ap (λ l. l ++ drop limit all) is ∙ take-append-drop limit all))

pub on_page : {T : Type 0} (kind : Kind T) (c : Content) (p : Page T) (n count : ℕ) → IsPage kind c p → Reaches kind p n count → first_above kind.place n count p.items.items ≡ page_above kind n count c
on_page kind c p n count is reaches =
    by_reach kind.place n count p.limit (all_above kind.place p.above (kind.all c)) p.items.items is reaches.1 ∙ ap (take count) (above_again kind.place p.above n (kind.all c) reaches.0)

-- those above a place are above it
still_above : {T : Type 0} (f : T → ℕ) (n : ℕ) (xs : List T) (k : ℕ) → all_above f n (first_above f n k xs) ≡ first_above f n k xs
still_above {T = T} f n xs k =
    let p : T → Bool = λ (x : T). nat_lt n (f x) in
    let above : Every (λ (x : T). p x ≡ true) (first_above f n k xs)
    = every-take (λ (x : T). p x ≡ true) k (filter p xs) (every_from (λ (x : T). p x ≡ true) (filter p xs) (λ x at. (filter_among p xs x at).1)) in
    filter_all p (first_above f n k xs) (λ x. every_among (λ (x : T). p x ≡ true) (first_above f n k xs) x above)

-- a page that begins after the place has the first of so many
pub on_next_page : {T : Type 0} (kind : Kind T) (c : Content) (p : Page T) (n count : ℕ) → IsPage kind c p → p.above ≡ n → count ≤ p.limit → first_above kind.place n count p.items.items ≡ page_above kind n count c
on_next_page {T = T} kind c p n count is at room =
    let is : p.items.items ≡ first_above kind.place n p.limit (kind.all c) = is ∙ ap (λ (m : ℕ). first_above kind.place m p.limit (kind.all c)) at in
    ap (first_above kind.place n count) is ∙ ap (take count) (still_above kind.place n (kind.all c) p.limit) ∙ take_less count p.limit (all_above kind.place n (kind.all c)) room
