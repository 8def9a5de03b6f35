-- Keys of kept records.
use Rattle.std.proofs.Common.{◌≡◌, ℕ, Bool, true, false, ◌&&◌, ◌==◌, List, [], ◌∷◌, refl, ap, ap₂, ◌∙◌, sym, subst, eqb-true, eq-eqb}
use Rattle.std.specs.Str.{bytes_eq}
use Rattle.std.specs.Cmp.Lexicographic.{same_text}
use Rattle.std.proofs.lemmas.Bool.{and_from, and_parts}
use Rattle.acd_terms.specs.declared.command.Request.{Request}
use Rattle.acd_book.specs.Content.{is_key}
use Rattle.acd_book.specs.Memory.{key_of, is_kept_under, same_key}
use Rattle.acd_book.specs.declared.kept.Kept.{Kept}
use Rattle.acd_book.specs.declared.key.Key.{Key}

-- a request has the key of one that has it
pub key_same : (p : List ℕ) (q : ℕ) (r : Request) → is_key p q r ≡ true → (r.requester ≡ p) × (r.invoke ≡ q)
key_same p q r h =
    let parts = and_parts (bytes_eq r.requester p) (r.invoke == q) h in
    (same_text r.requester p (sym parts.0), eqb-true r.invoke q parts.1)

text_itself : (t : List ℕ) → bytes_eq t t ≡ true
text_itself [] = refl
text_itself (x ∷ t) = ap (λ (b : Bool). b && bytes_eq t t) (eq-eqb x x refl) ∙ text_itself t

pub key_itself : (r : Request) → is_key r.requester r.invoke r ≡ true
key_itself r = and_from (bytes_eq r.requester r.requester) (r.invoke == r.invoke) (text_itself r.requester) (eq-eqb r.invoke r.invoke refl)

abbrev pub key : List ℕ → ℕ → Key
key p q = record { requester = p; invoke = q }

-- keys that compare equal are equal
pub same_is : (a b : Key) → same_key a b ≡ true → a ≡ b
unfolding same_key
same_is a b h =
    let parts = and_parts (bytes_eq a.requester b.requester) (a.invoke == b.invoke) h in
    ap₂ (λ (p : List ℕ) (q : ℕ). record { requester = p; invoke = q }) (same_text a.requester b.requester (sym parts.0)) (eqb-true a.invoke b.invoke parts.1)

pub same_itself : (a : Key) → same_key a a ≡ true
unfolding same_key
same_itself a = and_from (bytes_eq a.requester a.requester) (a.invoke == a.invoke) (text_itself a.requester) (eq-eqb a.invoke a.invoke refl)

-- the two tests of a key agree
agree : (p q : Bool) → (p ≡ true → q ≡ true) → (q ≡ true → p ≡ true) → p ≡ q
agree true q h g = sym (h refl)
agree false true h g = g refl
agree false false h g = refl

pub same_kept : (x : Kept) (k : Key) → same_key (key_of x) k ≡ is_kept_under k x
same_kept x k = agree (same_key (key_of x) k) (is_kept_under k x)
    (λ h. subst (λ (k : Key). is_kept_under k x ≡ true) (same_is (key_of x) k h) (key_itself x.request))
    (λ h. let parts = key_same k.requester k.invoke x.request h in
    subst (λ (k : Key). same_key (key_of x) k ≡ true) (ap₂ (λ (p : List ℕ) (q : ℕ). record { requester = p; invoke = q }) parts.0 parts.1)
    (same_itself (key_of x)))
