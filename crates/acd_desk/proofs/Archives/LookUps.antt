-- A key is looked up in one list of records after another.
use Rattle.std.proofs.Common.{◌≡◌, ℕ, List, ◌∷◌, ◌++◌, Bool, cond, Option, Some, None, refl, sym, ap, ◌∙◌}
use Rattle.std.specs.Option.{option_or}
use Rattle.std.proofs.lemmas.List.Folds.{find-append}
use Rattle.acd_book.specs.declared.kept.Kept.{Kept}
use Rattle.acd_book.specs.Content.{kept_of, is_key}
use Rattle.acd_book.proofs.Keys.{key_itself}
use Rattle.acd_desk.proofs.Desks.Commits.{some_none}

first_none : (x y : Option Kept) → option_or x y ≡ None → x ≡ None
first_none None y h = refl
first_none (Some k) y h = absurd (some_none k h)

second_none : (x y : Option Kept) → option_or x y ≡ None → y ≡ None
second_none None y h = h
second_none (Some k) y h = absurd (some_none k h)

-- it is looked up in the front, and then in the rest
pub looked_up : (xs ys : List Kept) (p : List ℕ) (q : ℕ) → kept_of (xs ++ ys) p q ≡ option_or (kept_of xs p q) (kept_of ys p q)
looked_up xs ys p q = find-append (λ (k : Kept). is_key p q k.request) xs ys

pub none_front : (xs ys : List Kept) (p : List ℕ) (q : ℕ) → kept_of (xs ++ ys) p q ≡ None → kept_of xs p q ≡ None
none_front xs ys p q none = first_none (kept_of xs p q) (kept_of ys p q) (sym (looked_up xs ys p q) ∙ none)

pub none_rest : (xs ys : List Kept) (p : List ℕ) (q : ℕ) → kept_of (xs ++ ys) p q ≡ None → kept_of ys p q ≡ None
none_rest xs ys p q none = second_none (kept_of xs p q) (kept_of ys p q) (sym (looked_up xs ys p q) ∙ none)

pub none_in_both : (xs ys : List Kept) (p : List ℕ) (q : ℕ) → kept_of xs p q ≡ None → kept_of ys p q ≡ None → kept_of (xs ++ ys) p q ≡ None
none_in_both xs ys p q none no_more = looked_up xs ys p q ∙ ap (λ (o : Option Kept). option_or o (kept_of ys p q)) none ∙ no_more

or_none : (x : Option Kept) → option_or x None ≡ x
or_none None = refl
or_none (Some k) = refl

-- where the rest has none, what the front has
pub only_front : (xs ys : List Kept) (p : List ℕ) (q : ℕ) → kept_of ys p q ≡ None → kept_of (xs ++ ys) p q ≡ kept_of xs p q
only_front xs ys p q none = looked_up xs ys p q ∙ ap (option_or (kept_of xs p q)) none ∙ or_none (kept_of xs p q)

-- the record of a key that nothing before it has
pub first_record : (xs ys : List Kept) (k : Kept) → kept_of xs k.request.requester k.request.invoke ≡ None
    → kept_of (xs ++ k ∷ ys) k.request.requester k.request.invoke ≡ Some k
first_record xs ys k none =
    looked_up xs (k ∷ ys) k.request.requester k.request.invoke
    ∙ ap (λ (o : Option Kept). option_or o (kept_of (k ∷ ys) k.request.requester k.request.invoke)) none
    ∙ ap (λ (b : Bool). cond b (Some k) (kept_of ys k.request.requester k.request.invoke)) (key_itself k.request)
