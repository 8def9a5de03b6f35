-- A step of the comparison of two lists, of which one begins with what the other one has above a number.
use Rattle.std.proofs.Common.{◌≡◌, ℕ, ◌+◌, ◌<◌, ◌≤◌, List, [], ◌∷◌, ◌++◌, take, inl, inr, sym, ap, subst, ◌∙◌, arith}
use Rattle.acd_book.specs.Order.{Rises}
use Rattle.acd_book.specs.ListOverlap.{BeginsWithin}
use Rattle.acd_desk.specs.declared.overlap.Next.TheVariants.{Same, Over}
use Rattle.acd_desk.specs.Reads.Kinds.{first_above}
use Rattle.acd_desk.specs.Audits.Overlap.{Differ, IsNextOf}
use Rattle.acd_book.proofs.SharedLists.{Shares, archived_left, begins_left, current_left, first_is, none_first, not_both, other_next, same_next, shares_all}

abbrev pub next_above : {T : Type 0} → (T → ℕ) → ℕ → List T → List T
next_above f n xs = first_above f n 1 xs

pub next_shares : {T : Type 0} (f : T → ℕ) (cut n last count place : ℕ) (archived current : List T) → Shares f cut n archived current → count ≤ n
    → IsNextOf (f, last) (next_above f n archived) (next_above f n current) (Same place)
    → Shares f cut place archived current × (count + 1 ≤ place)
next_shares {T = T} f cut n last count place archived current s le next =
    let x : T = next.0 in
    let left = first_is x s.left next.1 (sym (archived_left f cut n archived current s) ∙ next.3) in
    let high : Rises f n (x ∷ left.0) = subst (Rises f n) left.1 s.left_high in
    let is : f x ≡ place = sym next.5 in (
      subst (λ (m : ℕ). Shares f cut m archived current) is (same_next f cut n archived current s x next.1 next.2 next.3 next.4),
      more count n (f x) place le high.0 is,
    )
  where
    more : (count n k place : ℕ) → count ≤ n → n < k → k ≡ place → count + 1 ≤ place
    more count n k place le lt is = omega (arith, le, lt, is)

-- nothing is left of the other one
left_empty : {T : Type 0} (f : T → ℕ) (cut n : ℕ) (archived current : List T) (s : Shares f cut n archived current) → next_above f n archived ≡ [] → s.left ≡ []
left_empty f cut n archived current s none = none_first s.left (sym (archived_left f cut n archived current s) ∙ none)

-- and what is left of this one is above the last number
pub over_shares : {T : Type 0} (f : T → ℕ) (cut n last : ℕ) (archived current : List T) → Shares f cut n archived current
    → IsNextOf (f, last) (next_above f n archived) (next_above f n current) Over → BeginsWithin f cut last archived current
over_shares {T = T} f cut n last archived current s next =
    let newer : (l : List T) → next_above f n current ≡ take 1 l → Rises f n l → Rises f last l
    = λ l. elim l as (λ l. next_above f n current ≡ take 1 l → Rises f n l → Rises f last l) [
      | [] ↦ λ is up. tt
      | x ∷ xs ↦ λ is up. (next.1 x [] is, up.1)
    ] in
    shares_all f cut n last archived current s (left_empty f cut n archived current s next.0)
    (newer s.rest (current_left f cut n archived current s) s.rest_high)

pub other_shares : {T : Type 0} (f : T → ℕ) (cut n last : ℕ) (archived current : List T) → Shares f cut n archived current
    → Differ (f, last) (next_above f n archived) (next_above f n current) → ¬ BeginsWithin f cut last archived current
other_shares f cut n last archived current s (inl next) = other_next f cut n last archived current s next.0 next.1 next.2 next.3
other_shares {T = T} f cut n last archived current s (inr next) =
    λ b.
    let rest : s.rest ≡ b.rest
    = begins_left f cut n last archived current s b ∙ ap (λ (l : List T). l ++ b.rest) (left_empty f cut n archived current s next.0) in
    let mine = first_is next.1 s.rest next.2 (sym (current_left f cut n archived current s) ∙ next.3) in
    let up : Rises f last (next.1 ∷ mine.0) = subst (Rises f last) (sym rest ∙ mine.1) b.newer in
    not_both last (f next.1) up.0 next.4
