-- The bytes read of the input, and the head in it.
use Rattle.std.proofs.Common.{◌≡◌, ℕ, zero, suc, ◌+◌, ◌<◌, ◌≤◌, ◌==◌, Bool, true, false, List, [], ◌∷◌, ◌++◌, length, take, Option, Some, None, option_map, refl, sym, ap, ◌∙◌, arith, subst, length-append}
use Rattle.std.specs.Option.{MatchOption}
use Rattle.std.proofs.lemmas.List.{length-take, take-append-le}
use Rattle.std.specs.Bool.{if◌then◌else◌}
use Rattle.std.specs.Io.KnownBytes.{Consumes, Keeps}
use Rattle.std.proofs.KnownBytes.{Consumes-kept}
use Rattle.acd_http.specs.ReceivedBytes.{Found, StopsInHead, StopsInBody}
use Rattle.acd_http.specs.declared.head.Place.{Place}
use Rattle.acd_http.specs.declared.head.Place.TheVariants.{Start}
use Rattle.acd_http.specs.Head.{head_from, head_len, is_empty_at, head_place_after}

pub short : (now old buf : List ℕ) (n : ℕ) → now ≡ old → length old ≤ 12288 → length buf ≤ 4096 → length now + length (take n buf) ≤ 16384
short now old buf n e h k = omega (arith, ap length e, length-take n buf)

-- a head stays the head, whatever follows
mapped : (o p : Option ℕ) → MatchOption o (Unit {0}) (λ n. p ≡ Some n) → MatchOption (option_map suc o) (Unit {0}) (λ n. option_map suc p ≡ Some n)
mapped None p h = tt
mapped (Some n) p h = ap (option_map suc) h

pub head_kept : (some : Bool) (place : Place) (xs ys : List ℕ) → MatchOption (head_from some place xs) (Unit {0}) (λ n. head_from some place (xs ++ ys) ≡ Some n)
unfolding head_from
head_kept some place [] ys = tt
head_kept some place (x ∷ xs) ys =
    elim (x == 10) as (λ b. MatchOption {T = ℕ} (if b then (if is_empty_at place then (if some then Some 1 else option_map suc (head_from false Start xs)) else option_map suc (head_from true Start xs)) else option_map suc (head_from some (head_place_after place x) xs)) (Unit {0})
    (λ (n : ℕ). (if b then (if is_empty_at place then (if some then Some 1 else option_map suc (head_from false Start (xs ++ ys))) else option_map suc (head_from true Start (xs ++ ys))) else option_map suc (head_from some (head_place_after place x) (xs ++ ys))) ≡ Some n)) [
      | false ↦ mapped (head_from some (head_place_after place x) xs) (head_from some (head_place_after place x) (xs ++ ys)) (head_kept some (head_place_after place x) xs ys)
      | true ↦ elim (is_empty_at place) as (λ b. MatchOption {T = ℕ} (if b then (if some then Some 1 else option_map suc (head_from false Start xs)) else option_map suc (head_from true Start xs)) (Unit {0})
          (λ (n : ℕ). (if b then (if some then Some 1 else option_map suc (head_from false Start (xs ++ ys))) else option_map suc (head_from true Start (xs ++ ys))) ≡ Some n)) [
            | false ↦ mapped (head_from true Start xs) (head_from true Start (xs ++ ys)) (head_kept true Start xs ys)
            | true ↦ elim some as (λ b. MatchOption {T = ℕ} (if b then Some 1 else option_map suc (head_from false Start xs)) (Unit {0}) (λ (n : ℕ). (if b then Some 1 else option_map suc (head_from false Start (xs ++ ys))) ≡ Some n)) [
              | true ↦ refl
              | false ↦ mapped (head_from false Start xs) (head_from false Start (xs ++ ys)) (head_kept false Start xs ys)
            ]
          ]
    ]

-- the head is no longer than what it is in
longer : (o : Option ℕ) (xs : List ℕ) (x : ℕ) → MatchOption o (Unit {0}) (λ n. n ≤ length xs) → MatchOption (option_map suc o) (Unit {0}) (λ n. n ≤ length (x ∷ xs))
longer None xs x h = tt
longer (Some n) xs x h = omega arith

pub head_fits : (some : Bool) (place : Place) (xs : List ℕ) → MatchOption (head_from some place xs) (Unit {0}) (λ n. n ≤ length xs)
unfolding head_from
head_fits some place [] = tt
head_fits some place (x ∷ xs) =
    elim (x == 10) as (λ b. MatchOption {T = ℕ} (if b then (if is_empty_at place then (if some then Some 1 else option_map suc (head_from false Start xs)) else option_map suc (head_from true Start xs)) else option_map suc (head_from some (head_place_after place x) xs)) (Unit {0}) (λ (n : ℕ). n ≤ length (x ∷ xs))) [
      | false ↦ longer (head_from some (head_place_after place x) xs) xs x (head_fits some (head_place_after place x) xs)
      | true ↦ elim (is_empty_at place) as (λ b. MatchOption {T = ℕ} (if b then (if some then Some 1 else option_map suc (head_from false Start xs)) else option_map suc (head_from true Start xs)) (Unit {0}) (λ (n : ℕ). n ≤ length (x ∷ xs))) [
        | false ↦ longer (head_from true Start xs) xs x (head_fits true Start xs)
        | true ↦ elim some as (λ b. MatchOption {T = ℕ} (if b then Some 1 else option_map suc (head_from false Start xs)) (Unit {0}) (λ (n : ℕ). n ≤ length (x ∷ xs))) [
          | true ↦ omega arith
          | false ↦ longer (head_from false Start xs) xs x (head_fits false Start xs)
        ]
      ]
    ]

at_some : (o : Option ℕ) (P : ℕ → Type 0) (n : ℕ) → o ≡ Some n → MatchOption o (Unit {0}) P → P n
at_some o P n e h = let F : Option ℕ → Type 0 = λ p. MatchOption p (Unit {0}) P in subst F e h

front_of : (room : ℕ) (now more : List ℕ) → (rest : List ℕ) × (take room (now ++ more) ≡ take room now ++ rest)
front_of zero now more = ([], refl)
front_of (suc room) [] more = (take (suc room) more, refl)
front_of (suc room) (x ∷ now) more = let r = front_of room now more in (r.0, ap (λ (l : List ℕ). x ∷ l) r.1)

-- a head in what was read is the head of the input
pub head_is : (room n : ℕ) (now more : List ℕ) → head_len (take room now) ≡ Some n → (head_len (take room (now ++ more)) ≡ Some n) × (take n now ≡ take n (now ++ more)) × (n ≤ length now)
head_is room n now more e =
    let front = front_of room now more in
    let kept = at_some (head_len (take room now)) (λ m. head_len (take room now ++ front.0) ≡ Some m) n e (head_kept false Start (take room now) front.0) in
    let fits = at_some (head_len (take room now)) (λ m. m ≤ length (take room now)) n e (head_fits false Start (take room now)) in
    let within : n ≤ length now = omega (arith, length-take room now) in
    (ap head_len front.1 ∙ kept, sym (take-append-le n now more within), within)

pub no_head_is : (room : ℕ) (now more : List ℕ) → room ≤ length now → head_len (take room now) ≡ None → (head_len (take room (now ++ more)) ≡ None) × (room ≤ length (now ++ more))
no_head_is room now more full e = (ap head_len (take-append-le room now more full) ∙ e, omega (arith, length-append now more))

pub head_bounds : (n : ℕ) (now : List ℕ) → head_len (take 8192 now) ≡ Some n → (n ≤ 8192) × (n ≤ length now)
head_bounds n now e =
    let fits = at_some (head_len (take 8192 now)) (λ m. m ≤ length (take 8192 now)) n e (head_fits false Start (take 8192 now)) in
    (omega (arith, fits, length-take 8192 now), omega (arith, fits, length-take 8192 now))

-- ---- what reading comes to

-- so much was read as a head may have
pub found_whole : (found : Option ℕ) (now : List ℕ) (old new : Option (List ℕ)) → Consumes old new now → found ≡ head_len (take 8192 now) → 8192 ≤ length now → Found found now old new
found_whole None now old new read is full = record { read = read; head = (sym is, λ short. absurd (omega (arith, short, full))) }
found_whole (Some n) now old new read is full = let bounds = head_bounds n now (sym is) in record { read = read; head = (sym is, bounds.0, bounds.1) }

-- reading stopped within a head
pub stops_in_head : (a b c : Option (List ℕ)) (seen now : List ℕ) → Consumes a b seen → head_len (take 8192 seen) ≡ None → length seen < 8192 → (now ≡ seen) × Keeps b c → StopsInHead now a c
stops_in_head a b c seen now read none short still = record {
  read = subst (Consumes a c) (sym still.0) (Consumes-kept a b c seen read still.1);
  none = ap (λ (l : List ℕ). head_len (take 8192 l)) still.0 ∙ none;
  short = omega (arith, short, ap length still.0);
}

-- reading stopped within a body
pub stops_in_body : (a b c : Option (List ℕ)) (len : ℕ) (was more seen now : List ℕ) → Consumes a b more → seen ≡ was ++ more → length seen < len → (now ≡ seen) × Keeps b c → StopsInBody len (was, now) (a, c)
stops_in_body a b c len was more seen now read grown short still = record {
  more = more;
  read = Consumes-kept a b c more read still.1;
  grown = still.0 ∙ grown;
  short = omega (arith, short, ap length still.0);
}
