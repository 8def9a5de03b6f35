-- Look-ups by a number of the records.
use Rattle.std.proofs.Common.{◌≡◌, ℕ, List, [], ◌∷◌, subst}
use Rattle.std.specs.Borrow.{Bor}
use Rattle.std.specs.Fn.{Called, Mut, AlwaysReturns}
use Rattle.std.proofs.lemmas.Fn.{always_returns_same}
use Rattle.acd_rules.specs.declared.grouped.Grouped.{Grouped}
use Rattle.acd_rules.specs.Groups.{HasAllWith}
use Rattle.acd_rules.specs.SortedRecords.{IsGrouped, LooksUp}

-- each call gives the key
abbrev pub GivesKey : {T F : Type 0} → Mut F (Bor T × Unit {0}) ℕ → F → (T → ℕ) → Type 0
GivesKey {T} {F} g f key = (a : Bor T × Unit {0}) (r : ℕ) (f' : F) → Called g f a r f' → (r ≡ key a.0.now) × (f' ≡ f)

-- those of a number, where each call gives the number by which the records are sorted
pub looked_up : {T F : Type 0} (g : Mut F (Bor T × Unit {0}) ℕ) (f : F) (key : T → ℕ) (m n : ℕ) (part xs : List T) (grouped : Grouped T)
    → LooksUp g f m grouped part → m ≡ n → IsGrouped key xs grouped
    → GivesKey g f key → HasAllWith key n part xs
looked_up g f key m n part xs grouped found same there gives =
    subst (λ k. HasAllWith key k part xs) same (found.has key xs (always_returns_same _ _ _ gives) there)

-- a call gives what each call gives
pub given : {F X R : Type 0} (g : Mut F X R) (P : X → R → Type 0) (f f' : F) (a : X) (r : R) → AlwaysReturns g P f → Called g f a r f' → P a r
given g P f f' a r always call = (always.at (a ∷ []) r f' call).0
