-- Kept records that were read ahead, one after the other.
use Rattle.std.proofs.Common.{◌≡◌, ℕ, zero, suc, ◌<◌, ◌≤◌, nat_lt, List, [], ◌∷◌, ◌++◌, length, filter, find, take, Bool, true, false, cond, Option, Some, None, Ok, IsTrue, IfSome, inl, refl, sym, ap, ap₂, subst, ◌∙◌, arith, length-append}
use Rattle.std.specs.Prelude.{Vec, reverse}
use Rattle.std.specs.declared.alloc.Global.{Global}
use Rattle.std.specs.Ordering.{nat_cmp}
use Rattle.std.proofs.lemmas.Bool.Decides.{nat_tests}
use Rattle.std.proofs.lemmas.List.{reverse-reverse, reverse-append, length-reverse}
use Rattle.sqlite.specs.State.{State, HasCleanDisk}
use Rattle.acd_terms.specs.Lists.{Every, AllAfter}
use Rattle.acd_terms.proofs.Numbers.{less_is, no_less}
use Rattle.acd_lemmas.proofs.Lists.{head_is, tail_is}
use Rattle.acd_lemmas.proofs.Numbers.{below_is}
use Rattle.acd_book.specs.Content.{Content, IsKeptAfter, records_after}
use Rattle.acd_book.specs.declared.kept.Kept.{Kept}
use Rattle.acd_book.proofs.NumberedLists.{kept_after_more}
use Rattle.acd_sql_columns.specs.Transactions.{HoldsContent}
use Rattle.acd_sql_columns.specs.declared.tables.Table.TheVariants as table
use Rattle.acd_sqlbook.specs.RecordsAhead.{Ascend, IsAhead}
use Rattle.acd_sqlbook.specs.Calls.{HasRead}
use Rattle.acd_sql_statements.proofs.ReadsInTurn.{quiet_still}
use Rattle.acd_sqlbook.specs.declared.ahead.Ahead.{Ahead}

pub ascending : (s : State) (c : Content) → HoldsContent s c → Ascend c.kept
ascending s c held = (held.encodes table.Kept).0.ascending

pub none_ahead : (a : Ahead) (kept : List Kept) → a.records.items ≡ [] → IsAhead a kept
none_ahead a kept none = ap reverse none ∙ sym (ap (λ (l : List Kept). records_after kept a.above (length l)) none)

-- ---- those above a stamp, in ascending order

abbrev above : ℕ → List Kept → List Kept
above stamp kept = filter (λ (k : Kept). nat_lt stamp k.stamp) kept

all_above : (stamp : ℕ) (k : Kept) (kept : List Kept) → AllAfter (λ (a b : Kept). nat_cmp a.stamp b.stamp) k kept
    → Every (λ (other : Kept). stamp < other.stamp → k.stamp ≤ other.stamp) kept
all_above stamp k [] h = tt
all_above stamp k (x ∷ kept) h = ((λ above. let low = less_is k.stamp x.stamp h.0 in omega (arith, low)), all_above stamp k kept h.1)

no_greater : (a : ℕ) → a ≤ a
no_greater a = omega arith

-- the first one above a stamp is the one of the least stamp
after_found : (stamp : ℕ) (kept : List Kept) → Ascend kept → IsKeptAfter kept stamp (find (λ (k : Kept). nat_lt stamp k.stamp) kept)
after_found stamp [] h = tt
after_found stamp (k ∷ kept) h =
    (elim (nat_lt stamp k.stamp) as (λ t. nat_lt stamp k.stamp ≡ t
    → IsKeptAfter (k ∷ kept) stamp (cond t (Some k) (find (λ (k : Kept). nat_lt stamp k.stamp) kept))) [
      | true ↦ λ e. (inl refl, below_is stamp k.stamp e, ((λ above. no_greater k.stamp), all_above stamp k kept h.0))
      | false ↦ λ e. kept_after_more k kept stamp (find (λ (k : Kept). nat_lt stamp k.stamp) kept) (no_less stamp k.stamp e) (after_found stamp kept h.1)
    ]) refl

module _ {X : Type 0} (p : X → Bool) where
  found_head : (xs : List X) (y : X) (ys : List X) → filter p xs ≡ y ∷ ys → find p xs ≡ Some y
  found_head [] y ys e = absurd (cc e)
  found_head (x ∷ xs) y ys e = (elim (p x) as (λ t. cond t (x ∷ filter p xs) (filter p xs) ≡ y ∷ ys → cond t (Some x) (find p xs) ≡ Some y) [
    | true ↦ λ e. ap Some (head_is x y (filter p xs) ys e)
    | false ↦ λ e. found_head xs y ys e
  ]) e

  found_nothing : (xs : List X) → filter p xs ≡ [] → find p xs ≡ None
  found_nothing [] e = refl
  found_nothing (x ∷ xs) e = (elim (p x) as (λ t. cond t (x ∷ filter p xs) (filter p xs) ≡ [] → cond t (Some x) (find p xs) ≡ None) [
    | true ↦ λ e. absurd (cc e)
    | false ↦ λ e. found_nothing xs e
  ]) e

all_pass : (n : ℕ) (k : Kept) (kept : List Kept) → n ≤ k.stamp → AllAfter (λ (a b : Kept). nat_cmp a.stamp b.stamp) k kept → above n kept ≡ kept
all_pass n k [] low h = refl
all_pass n k (x ∷ kept) low h =
    let more : k.stamp < x.stamp = less_is k.stamp x.stamp h.0 in
    let passes : nat_lt n x.stamp ≡ true = grind (arith, nat_tests) in
    rw passes (ap (λ l. x ∷ l) (all_pass n k kept low h.1))

-- after the first of those above a stamp come the others
after_first : (n : ℕ) (kept : List Kept) (x : Kept) (rest : List Kept) → Ascend kept → above n kept ≡ x ∷ rest → (n < x.stamp) × (above x.stamp kept ≡ rest)
after_first n [] x rest h e = absurd (cc e)
after_first n (k ∷ kept) x rest h e =
    (elim (nat_lt n k.stamp) as (λ t. nat_lt n k.stamp ≡ t → cond t (k ∷ above n kept) (above n kept) ≡ x ∷ rest
    → (n < x.stamp) × (above x.stamp (k ∷ kept) ≡ rest)) [
      | true ↦ λ p e.
          let low : n < k.stamp = below_is n k.stamp p in
          let itself : nat_lt k.stamp k.stamp ≡ false = grind (arith, nat_tests) in
          let all : above k.stamp (k ∷ kept) ≡ rest =
          rw itself
          (all_pass k.stamp k kept (no_greater k.stamp) h.0 ∙ sym (all_pass n k kept (omega (arith, low)) h.0) ∙ tail_is k x (above n kept) rest e) in
          subst (λ (y : Kept). (n < y.stamp) × (above y.stamp (k ∷ kept) ≡ rest)) (head_is k x (above n kept) rest e) (low, all)
      | false ↦ λ p e.
          let more = after_first n kept x rest h.1 e in
          let under : k.stamp ≤ n = no_less n k.stamp p in
          let low : n < x.stamp = more.0 in
          let over : nat_lt x.stamp k.stamp ≡ false = grind (arith, nat_tests) in
          (low, rw over more.1)
    ]) refl e

-- ---- the next one

module _ (stamp : ℕ) (kept : List Kept) (h : Ascend kept) where
  first_of : (x : Kept) (more : List Kept) (n : ℕ) (all : List Kept) → above stamp kept ≡ all → x ∷ more ≡ take (suc n) all
      → IsKeptAfter kept stamp (Some x) × (more ≡ take n (above x.stamp kept))
  first_of x more n [] is e = absurd (cc e)
  first_of x more n (y ∷ all) is e =
      let same : y ≡ x = sym (head_is x y more (take n all) e) in
      let here = subst (λ (z : Kept). above stamp kept ≡ z ∷ all) same is in (
        subst (IsKeptAfter kept stamp) (found_head (λ (k : Kept). nat_lt stamp k.stamp) kept x all here) (after_found stamp kept h),
        tail_is x y more (take n all) e ∙ sym (ap (take n) (after_first stamp kept x all h here).1),
      )

  pub no_more : (n : ℕ) → take (suc n) (above stamp kept) ≡ [] → IsKeptAfter kept stamp None
  no_more n = none (above stamp kept) refl
    where
      none : (all : List Kept) → above stamp kept ≡ all → take (suc n) all ≡ [] → IsKeptAfter kept stamp None
      none [] is e = subst (IsKeptAfter kept stamp) (found_nothing (λ (k : Kept). nat_lt stamp k.stamp) kept is) (after_found stamp kept h)
      none (x ∷ all) is e = absurd (cc e)

-- it is removed from the records read ahead
pub took : (kept : List Kept) (a b : Ahead) (x : Kept) → Ascend kept → IsAhead a kept → a.records.items ≡ b.records.items ++ x ∷ [] → b.above ≡ x.stamp
    → IsKeptAfter kept a.above (Some x) × IsAhead b kept
took kept a b x h is parts next =
    let rest = b.records.items in
    let turned : reverse a.records.items ≡ x ∷ reverse rest = ap reverse parts ∙ reverse-append rest (x ∷ []) in
    let size : length a.records.items ≡ suc (length rest) = omega (arith, ap length parts, length-append rest (x ∷ [])) in
    let two = first_of a.above kept h x (reverse rest) (length rest) (above a.above kept) refl (sym turned ∙ is ∙ ap (λ n. take n (above a.above kept)) size) in
    (two.0, two.1 ∙ ap (λ n. take (length rest) (above n kept)) (sym next))

-- ---- a page that was read

take_again : {X : Type 0} (n : ℕ) (xs : List X) → take (length (take n xs)) xs ≡ take n xs
take_again zero xs = refl
take_again (suc n) [] = refl
take_again (suc n) (x ∷ xs) = ap (λ l. x ∷ l) (take_again n xs)

pub page_ahead : (kept page : List Kept) (stamp limit : ℕ) (a : Ahead) → page ≡ records_after kept stamp limit → a.above ≡ stamp
    → a.records.items ≡ reverse page → IsAhead a kept
page_ahead kept page stamp limit a is at turned =
    let back : reverse a.records.items ≡ page = ap reverse turned ∙ reverse-reverse page in
    let size : length a.records.items ≡ length (take limit (above stamp kept)) = ap length turned ∙ length-reverse page ∙ ap length is in
    back ∙ is ∙ sym (take_again limit (above stamp kept)) ∙ ap₂ (λ n m. take n (above m kept)) (sym size) (sym at)

-- the first of it, or none where there is none
pub first_of_page : (kept page : List Kept) (stamp n : ℕ) (r : Option Kept) → Ascend kept → page ≡ records_after kept stamp (suc n)
    → IfSome r (λ k. IsKeptAfter kept stamp (Some k)) → (r ≡ None → reverse page ≡ []) → IsKeptAfter kept stamp r
first_of_page kept page stamp n (Some k) h is some none = some
first_of_page kept page stamp n None h is some none =
    no_more stamp kept h n (sym is ∙ sym (reverse-reverse page) ∙ ap reverse (none refl))

-- ---- over a connection

-- it was read ahead, and nothing is asked
pub ahead_read : (s : State) (k : Kept) (a : Ahead) (stamp : ℕ) → (HasCleanDisk s → IsTrue s.is_open)
    → ((kept : List Kept) → Ascend kept → IsAhead a kept → IsKeptAfter kept stamp (Some k))
    → HasRead s s (Ok (Some k)) (λ c found. IsAhead a c.kept → IsKeptAfter c.kept stamp found)
ahead_read s k a stamp live next = record {
  quiet = quiet_still s;
  up = live;
  stops = λ clean shows db left. left;
  value = λ clean c held of. next c.kept (ascending s c held) of;
}

-- a page is read, and its first record handed out
module _ (old new : State) (page : Vec Kept Global) (stamp : ℕ) (b : Ahead) (at : b.above ≡ stamp) (turned : b.records.items ≡ reverse page.items)
    (read : HasRead old new (Ok page) (λ c found. found.items ≡ records_after c.kept stamp 100)) where
  pub page_is : HasCleanDisk new → (c : Content) → HoldsContent old c → IsAhead b c.kept
  page_is clean c held = page_ahead c.kept page.items stamp 100 b (read.value clean c held) at turned

  pub page_read : (a : Ahead) (r : Option Kept) → ((kept : List Kept) → Ascend kept → IsAhead b kept → IfSome r (λ k. IsKeptAfter kept stamp (Some k)))
      → (r ≡ None → b.above ≡ stamp → b.records.items ≡ [])
      → HasRead old new (Ok r) (λ c found. IsAhead a c.kept → IsKeptAfter c.kept stamp found)
  page_read a r next none = record {
    quiet = read.quiet;
    up = read.up;
    stops = read.stops;
    value = λ clean c held of.
        first_of_page c.kept page.items stamp 99 r (ascending old c held) (read.value clean c held) (next c.kept (ascending old c held) (page_is clean c held))
        (λ is. sym turned ∙ none is at);
  }
