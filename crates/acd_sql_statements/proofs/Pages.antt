-- A page that was asked for by numbers that a column can hold is the one that was meant.
use Rattle.std.proofs.Common.{◌≡◌, ◌⊎◌, inl, inr, ℕ, zero, suc, ◌-◌, ◌^◌, ◌<◌, ◌≤◌, min, nat_lt, length, List, [], ◌∷◌, map, filter, take, Bool, true, false, cond, Option, Result, Ok, Err, IfOk, OnOk, refl, sym, ap, ap₂, subst, ◌∙◌, arith}
use Rattle.std.specs.Prelude.{Vec}
use Rattle.std.specs.declared.alloc.Global.{Global}
use Rattle.std.proofs.Math.Nat.{min-eq_left, min-le_left}
use Rattle.std.proofs.lemmas.Bool.{cases_Bool, and_parts, and_from}
use Rattle.std.proofs.lemmas.Bool.Decides.{nat_tests}
use Rattle.std.proofs.lemmas.List.{take_all, length-take-le, length-map}
use Rattle.sqlite_value.specs.Order.{Row}
use Rattle.sqlite.specs.declared.error.Error.{Error}
use Rattle.sqlite.specs.State.{State}
use Rattle.acd_terms.specs.declared.event.Event.{Event}
use Rattle.acd_book.specs.Content.{Content, is_at, is_at_after}
use Rattle.acd_sql_columns.specs.Transactions.{Fits}
use Rattle.acd_sql_columns.specs.ReadResults.{Finds}
use Rattle.acd_lemmas.proofs.Numbers.{still_below}

abbrev pub greatest : ℕ
greatest = 2 ^ 63 - 1

fits_or_not : (n : ℕ) → Fits n ⊎ ¬ (Fits n)
fits_or_not n = elim (cases_Bool (nat_lt n (2 ^ 63))) [ inl below ↦ inl (grind (arith, nat_tests)) | inr over ↦ inr (λ fits. grind (arith, nat_tests)) ]

pub least_of_large : (n : ℕ) → ¬ (Fits n) → min n greatest ≡ greatest
least_of_large n large = elim (cases_Bool (nat_lt n (2 ^ 63))) [ inl below ↦ absurd (large (grind (arith, nat_tests))) | inr over ↦ grind (arith, nat_tests) ]

least_of_fit : (n : ℕ) → Fits n → min n greatest ≡ n
least_of_fit n fits = min-eq_left {n = n} {m = greatest} (omega (arith, fits))

at_greatest : (n : ℕ) → ¬ (Fits n) → greatest ≤ n
at_greatest n large = elim (cases_Bool (nat_lt n (2 ^ 63))) [ inl below ↦ absurd (large (grind (arith, nat_tests))) | inr over ↦ grind (arith, nat_tests) ]

-- ---- lists

empty_parts : {X : Type 0} (p : X → Bool) (x : X) (xs : List X) → filter p (x ∷ xs) ≡ [] → (p x ≡ false) × (filter p xs ≡ [])
empty_parts p x xs =
    elim (p x) as (λ t. cond t (x ∷ filter p xs) (filter p xs) ≡ [] → (t ≡ false) × (filter p xs ≡ [])) [ true ↦ λ h. absurd (cc h) | false ↦ λ h. (refl, h) ]

take_none : {X : Type 0} (n : ℕ) (xs : List X) → take n xs ≡ [] → (n ≡ 0) ⊎ (xs ≡ [])
take_none zero xs h = inl refl
take_none (suc n) [] h = inr refl
take_none (suc n) (x ∷ xs) h = absurd (cc h)

map_none : {X Y : Type 0} (f : X → Y) (xs : List X) → map f xs ≡ [] → xs ≡ []
map_none f [] h = refl
map_none f (x ∷ xs) h = absurd (cc h)

under : {X : Type 0} (n m : ℕ) (xs : List X) → length (take n xs) < n → n ≤ m → take n xs ≡ take m xs
under n m xs few low = elim (cases_Bool (nat_lt (length xs) n)) [
  | inl below ↦ take_all n xs (grind (arith, nat_tests)) ∙ sym (take_all m xs (grind (arith, nat_tests)))
  | inr over ↦
      let long : n ≤ length xs = grind (arith, nat_tests) in
      absurd (omega (arith, few, length-take-le n xs long))
]

same_limit : {X : Type 0} (xs : List X) (limit : ℕ) → (¬ (Fits limit) → length (take (min limit greatest) xs) < greatest)
    → take (min limit greatest) xs ≡ take limit xs
same_limit xs limit fewer = elim (fits_or_not limit) [
  | inl fits ↦ ap (λ n. take n xs) (least_of_fit limit fits)
  | inr large ↦
      let is = least_of_large limit large in
      ap (λ n. take n xs) is ∙ under greatest limit xs (subst (λ n. length (take n xs) < greatest) is (fewer large)) (at_greatest limit large)
]

-- the rows of a page by such numbers are those of the page that was meant
pub record IsMeant (number limit : ℕ) (rows : Vec Row Global) (r : Result (Vec Row Global) Error) : Type 0 where
  pub same : IfOk r (λ page. page ≡ rows)
  pub none : OnOk r (¬ (Fits number) → rows.items ≡ [])
  pub fewer : OnOk r (¬ (Fits limit) → length rows.items < greatest)

-- ---- where a greater number leaves less

module _ {X : Type 0} (test : ℕ → X → Bool) (falls : (a b : ℕ) (x : X) → a ≤ b → test b x ≡ true → test a x ≡ true) where
  none_above : (a b : ℕ) (xs : List X) → a ≤ b → filter (test a) xs ≡ [] → filter (test b) xs ≡ []
  none_above a b [] low h = refl
  none_above a b (x ∷ xs) low h =
      let parts = empty_parts (test a) x xs h in
      (elim (test b x) as (λ t. (t ≡ true → test a x ≡ true) → cond t (x ∷ filter (test b) xs) (filter (test b) xs) ≡ []) [
        | true ↦ λ up. absurd (cc (up refl, parts.0))
        | false ↦ λ up. none_above a b xs low parts.1
      ]) (falls a b x low)

  same_above : (n a b : ℕ) (xs : List X) → a ≤ b → take n (filter (test a) xs) ≡ [] → take n (filter (test a) xs) ≡ take n (filter (test b) xs)
  same_above n a b xs low h = elim (take_none n (filter (test a) xs) h) [
    | inl none ↦ ap (λ k. take k (filter (test a) xs)) none ∙ sym (ap (λ k. take k (filter (test b) xs)) none)
    | inr none ↦ ap (take n) (none ∙ sym (none_above a b xs low none))
  ]

  module _ (values : X → Row) (number limit : ℕ) where
    above : (xs : List X) (rows : List Row) → rows ≡ map values (take (min limit greatest) (filter (test (min number greatest)) xs))
        → (¬ (Fits number) → rows ≡ [])
        → take (min limit greatest) (filter (test (min number greatest)) xs) ≡ take (min limit greatest) (filter (test number) xs)
    above xs rows is none = elim (fits_or_not number) [
      | inl fits ↦ ap (λ n. take (min limit greatest) (filter (test n) xs)) (least_of_fit number fits)
      | inr large ↦ same_above (min limit greatest) (min number greatest) number xs (min-le_left number greatest) (map_none values _ (sym is ∙ none large))
    ]

    page_is : (xs : List X) (rows : List Row) → rows ≡ map values (take (min limit greatest) (filter (test (min number greatest)) xs))
        → (¬ (Fits number) → rows ≡ []) → (¬ (Fits limit) → length rows < greatest)
        → rows ≡ map values (take limit (filter (test number) xs))
    page_is xs rows is none fewer =
        let here = is ∙ ap (map values) (above xs rows is none) in
        let long = ap length here ∙ length-map (take (min limit greatest) (filter (test number) xs)) values in
        here ∙ ap (map values) (same_limit (filter (test number) xs) limit (λ large. subst (λ n. n < greatest) long (fewer large)))

    pub paged : (part : Content → List X) (old new : State) (rows : Vec Row Global) (r : Result (Vec Row Global) Error) (least page : ℕ)
        → least ≡ min number greatest → page ≡ min limit greatest
        → Finds {E = Error} old new (Ok rows) (λ c rows. rows.items ≡ map values (take page (filter (test least) (part c))))
        → IsMeant number limit rows r
        → Finds old new r (λ c rows. rows.items ≡ map values (take limit (filter (test number) (part c))))
    paged part old new rows (Err e) least page low short h m = record { up = λ k. tt; quiet = h.quiet; stops = h.stops; answer = λ k. tt }
    paged part old new rows (Ok found) least page low short h m = record {
      up = h.up;
      quiet = h.quiet;
      stops = h.stops;
      answer =
          λ k c held. ap (λ (v : Vec Row Global). v.items) m.same
          ∙ page_is (part c) rows.items (h.answer k c held ∙ ap₂ (λ l n. map values (take l (filter (test n) (part c)))) short low) m.none m.fewer;
    }

-- ---- tests of a number

pub falls_at_after : (device : Option ℕ) (a b : ℕ) (e : Event) → a ≤ b → is_at_after device b e ≡ true → is_at_after device a e ≡ true
falls_at_after device a b e low h =
    let both = and_parts (is_at device e) (nat_lt b e.number) h in and_from (is_at device e) (nat_lt a e.number) both.0 (still_below a b e.number low both.1)
