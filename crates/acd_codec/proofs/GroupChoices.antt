-- Groups that are chosen out of a list, one device after the other.
use Rattle.std.proofs.Common.{◌≡◌, ℕ, suc, ◌+◌, ◌<◌, ◌≤◌, ◌==◌, nat_le, Bool, true, false, not, ◌&&◌, ◌||◌, cond, List, [], ◌∷◌, length, Option, Some, None, option_and_then, refl, sym, ap, ◌∙◌, arith, zero-add, true≢false}
use Rattle.std.specs.Ordering.{nat_cmp, match_ordering}
use Rattle.std.specs.declared.cmp.Ordering.{Ordering}
use Rattle.std.specs.declared.cmp.Ordering.TheVariants.{Less, Equal, Greater}
use Rattle.std.proofs.lemmas.Bool.{and_parts}
use Rattle.std.proofs.Math.Bool.{and-true}
use Rattle.std.proofs.lemmas.Bool.Decides.{nat_tests}
use Rattle.json.specs.declared.value.Value.{Value}
use Rattle.acd_terms.specs.Lists.{is_less, ascends, put_by}
use Rattle.acd_terms.proofs.Numbers.{cmp_equal, less_is, eqb_self, eqb_swap, tail_ascends}
use Rattle.acd_terms.specs.Groups.{most_groups, is_one_of, are_groups, is_choice, with_one_more, with_all, some_of}
use Rattle.acd_codec.specs.MemberReading.{devices_named, are_distinct, ascending, choice_of}

-- these groups, with those that the items name
abbrev pub with_named : {A : Type 0} → List ℕ → List (Value A) → Option (List ℕ)
with_named gs vs = option_and_then (with_all gs) (devices_named vs)

-- a device in its place among others
abbrev placed : ℕ → List ℕ → List ℕ
placed d xs = put_by (nat_cmp d) xs d

-- ---- what is put into a list of groups

greater : (x y : ℕ) → nat_cmp x y ≡ Greater → y < x
greater x y e = grind (arith, nat_tests)

or_again : (a b : Bool) → (a || b) ≡ (a || (a || b))
or_again true b = refl
or_again false b = refl

or_turned : (a b c : Bool) → (a || (b || c)) ≡ (b || (a || c))
or_turned true true c = refl
or_turned true false c = refl
or_turned false true c = refl
or_turned false false c = refl

-- it is one of them, and so are the others
among_placed : (d e : ℕ) (xs : List ℕ) → is_one_of (placed d xs) e ≡ ((d == e) || is_one_of xs e)
among_placed d e [] = refl
among_placed d e (x ∷ xs) = by (nat_cmp d x) refl (among_placed d e xs)
  where
    by : (o : Ordering) → nat_cmp d x ≡ o → is_one_of (placed d xs) e ≡ ((d == e) || is_one_of xs e)
        → is_one_of (match_ordering o (d ∷ x ∷ xs) (d ∷ xs) (x ∷ placed d xs)) e ≡ ((d == e) || ((x == e) || is_one_of xs e))
    by Less q h = refl
    by Equal q h = or_again (d == e) (is_one_of xs e) ∙ ap (λ (y : ℕ). (d == e) || ((y == e) || is_one_of xs e)) (cmp_equal d x q)
    by Greater q h = ap (λ (b : Bool). (x == e) || b) h ∙ or_turned (x == e) (d == e) (is_one_of xs e)

-- where it wasn't there, there is one more
one_longer : (d : ℕ) (xs : List ℕ) → is_one_of xs d ≡ false → length (placed d xs) ≡ suc (length xs)
one_longer d [] h = refl
one_longer d (x ∷ xs) h = by (nat_cmp d x) refl (x == d) refl h (one_longer d xs)
  where
    by : (o : Ordering) → nat_cmp d x ≡ o → (b : Bool) → (x == d) ≡ b → (b || is_one_of xs d) ≡ false → (is_one_of xs d ≡ false → length (placed d xs) ≡ suc (length xs))
        → length (match_ordering o (d ∷ x ∷ xs) (d ∷ xs) (x ∷ placed d xs)) ≡ suc (suc (length xs))
    by o q true p h more = absurd (true≢false h)
    by Less q false p h more = refl
    by Equal q false p h more = absurd (true≢false (sym (eqb_self x) ∙ ap (λ (y : ℕ). x == y) (sym (cmp_equal d x q)) ∙ p))
    by Greater q false p h more = ap suc (more h)

-- ---- which is put first doesn't matter

later_placed : (a b : ℕ) (l : a < b) (xs : List ℕ) → placed a (placed b xs) ≡ placed b (placed a xs)
later_placed a b l [] = let p : nat_cmp a b ≡ Less = grind (arith, nat_tests) in let q : nat_cmp b a ≡ Greater = grind (arith, nat_tests) in rw (p, q) refl
later_placed a b l (x ∷ xs) = by (nat_cmp a x) (nat_cmp b x) refl refl (later_placed a b l xs)
  where
    before : nat_cmp a b ≡ Less
    before = grind (arith, nat_tests)

    after : nat_cmp b a ≡ Greater
    after = grind (arith, nat_tests)

    by : (o r : Ordering) → nat_cmp a x ≡ o → nat_cmp b x ≡ r → placed a (placed b xs) ≡ placed b (placed a xs)
        → placed a (match_ordering r (b ∷ x ∷ xs) (b ∷ xs) (x ∷ placed b xs)) ≡ placed b (match_ordering o (a ∷ x ∷ xs) (a ∷ xs) (x ∷ placed a xs))
    by Less Less q p h = rw (before, after, p) refl
    by Less Equal q p h = rw (before, after, p) refl
    by Less Greater q p h = rw (q, after, p) refl
    by Equal Greater q p h = rw (q, after) refl
    by Greater Greater q p h = rw (q, p) (ap (λ (ys : List ℕ). x ∷ ys) h)
    by Equal Less q p h = absurd (omega (arith, cmp_equal a x q, less_is b x p))
    by Equal Equal q p h = absurd (omega (arith, cmp_equal a x q, cmp_equal b x p))
    by Greater Less q p h = absurd (omega (arith, greater a x q, less_is b x p))
    by Greater Equal q p h = absurd (omega (arith, greater a x q, cmp_equal b x p))

placed_twice : (a b : ℕ) (xs : List ℕ) → placed a (placed b xs) ≡ placed b (placed a xs)
placed_twice a b xs = by (nat_cmp a b) refl
  where
    by : (o : Ordering) → nat_cmp a b ≡ o → placed a (placed b xs) ≡ placed b (placed a xs)
    by Less q = later_placed a b (less_is a b q) xs
    by Equal q = rw (cmp_equal a b q) refl
    by Greater q = sym (later_placed b a (greater a b q) xs)

-- these groups, and the others put one after the other
abbrev all_placed : List ℕ → List ℕ → List ℕ
all_placed xs [] = xs
all_placed xs (d ∷ ds) = all_placed (placed d xs) ds

placed_last : (d : ℕ) (xs ds : List ℕ) → all_placed (placed d xs) ds ≡ placed d (all_placed xs ds)
placed_last d xs [] = refl
placed_last d xs (e ∷ es) = ap (λ (ys : List ℕ). all_placed ys es) (placed_twice e d xs) ∙ placed_last d (placed e xs) es

all_ascending : (ds : List ℕ) → all_placed [] ds ≡ ascending ds
all_ascending [] = refl
all_ascending (d ∷ ds) = placed_last d [] ds ∙ ap (placed d) (all_ascending ds)

-- ---- all are put just where they are few and distinct

-- none of the second is one of the first
abbrev apart : List ℕ → List ℕ → Bool
apart xs [] = true
apart xs (d ∷ ds) = not (is_one_of xs d) && apart xs ds

none_apart : (ds : List ℕ) → apart [] ds ≡ true
none_apart [] = refl
none_apart (d ∷ ds) = none_apart ds

nots : (a b c w : Bool) → (not (a || b) && (not c && w)) ≡ (not (a || c) && (not b && w))
nots true b c w = refl
nots false true true w = refl
nots false true false w = refl
nots false false true w = refl
nots false false false w = refl

apart_placed : (d : ℕ) (xs ds : List ℕ) → apart (placed d xs) ds ≡ (not (is_one_of ds d) && apart xs ds)
apart_placed d xs [] = refl
apart_placed d xs (e ∷ es) =
    ap (λ (b : Bool). not b && apart (placed d xs) es) (among_placed d e xs)
    ∙ ap (λ (b : Bool). not ((d == e) || is_one_of xs e) && b) (apart_placed d xs es)
    ∙ nots (d == e) (is_one_of xs e) (is_one_of es d) (apart xs es)
    ∙ ap (λ (b : Bool). not (b || is_one_of es d) && (not (is_one_of xs e) && apart xs es)) (eqb_swap d e)

-- there is room for them, and none would occur twice
abbrev fits : List ℕ → List ℕ → Bool
fits xs ds = nat_le (length xs + length ds) 8 && apart xs ds && are_distinct ds

abbrev placed_if : Bool → List ℕ → List ℕ → Option (List ℕ)
placed_if b xs ds = cond b (Some (all_placed xs ds)) None

and_false : (a b : Bool) → (a && false && b) ≡ false
and_false true b = refl
and_false false b = refl

ands : (n q w t : Bool) → (n && (q && w) && t) ≡ (n && w && (q && t))
ands true true true t = refl
ands true true false t = refl
ands true false true t = refl
ands true false false t = refl
ands false q w t = refl

too_many : (n k : ℕ) → nat_le 8 n ≡ true → nat_le (n + suc k) 8 ≡ false
too_many n k h = grind (arith, nat_tests)

fit_placed : (d : ℕ) (xs ds : List ℕ) → is_one_of xs d ≡ false → fits (placed d xs) ds ≡ fits xs (d ∷ ds)
fit_placed d xs ds h =
    let size : length (placed d xs) + length ds ≡ length xs + suc (length ds) = omega (arith, one_longer d xs h) in
    ap (λ (n : ℕ). nat_le n 8 && apart (placed d xs) ds && are_distinct ds) size
    ∙ ap (λ (b : Bool). nat_le (length xs + suc (length ds)) 8 && b && are_distinct ds) (apart_placed d xs ds)
    ∙ ands (nat_le (length xs + suc (length ds)) 8) (not (is_one_of ds d)) (apart xs ds) (are_distinct ds)
    ∙ ap (λ (b : Bool). nat_le (length xs + suc (length ds)) 8 && (not b && apart xs ds) && (not (is_one_of ds d) && are_distinct ds)) (sym h)

has_room : (n : ℕ) → nat_le 8 n ≡ false → suc n ≤ 8
has_room n h = grind (arith, nat_tests)

all_put : (xs ds : List ℕ) → length xs ≤ 8 → with_all xs ds ≡ placed_if (fits xs ds) xs ds
unfolding with_one_more
all_put xs [] l = let few : nat_le (length xs + 0) 8 ≡ true = grind (arith, nat_tests) in rw few refl
all_put xs (d ∷ ds) l = by (nat_le most_groups (length xs)) (is_one_of xs d) refl refl (all_put (placed d xs) ds)
  where
    by : (full there : Bool) → nat_le most_groups (length xs) ≡ full → is_one_of xs d ≡ there
        → (length (placed d xs) ≤ 8 → with_all (placed d xs) ds ≡ placed_if (fits (placed d xs) ds) (placed d xs) ds)
        → option_and_then (λ (more : List ℕ). with_all more ds) (cond (full || there) None (Some (placed d xs))) ≡ placed_if (fits xs (d ∷ ds)) xs (d ∷ ds)
    by true there p q h = rw (too_many (length xs) (length ds) p) refl
    by false true p q h = rw (q, and_false (nat_le (length xs + suc (length ds)) 8) (not (is_one_of ds d) && are_distinct ds)) refl
    by false false p q h = h (omega (arith, one_longer d xs q, has_room (length xs) p)) ∙ ap (λ (b : Bool). placed_if b (placed d xs) ds) (fit_placed d xs ds q)

some_placed : (d : ℕ) (xs : List ℕ) → some_of (placed d xs) ≡ Some (placed d xs)
some_placed d [] = refl
some_placed d (x ∷ xs) = by (nat_cmp d x)
  where
    by : (o : Ordering) → some_of (match_ordering o (d ∷ x ∷ xs) (d ∷ xs) (x ∷ placed d xs)) ≡ Some (match_ordering o (d ∷ x ∷ xs) (d ∷ xs) (x ∷ placed d xs))
    by Less = refl
    by Equal = refl
    by Greater = refl

if_fit : (b : Bool) (gs : List ℕ) → some_of gs ≡ Some gs → option_and_then some_of (cond b (Some gs) None) ≡ cond b (Some gs) None
if_fit true gs h = h
if_fit false gs h = refl

-- a list that isn't empty is a choice
abbrev is_fit : List ℕ → Bool
is_fit ds = nat_le 1 (length ds) && nat_le (length ds) most_groups && are_distinct ds

fit : (d : ℕ) (ds : List ℕ) → fits [] (d ∷ ds) ≡ is_fit (d ∷ ds)
fit d ds =
    let one : nat_le 1 (suc (length ds)) ≡ true = grind (arith, nat_tests) in
    ap (λ (n : ℕ). nat_le n 8 && apart [] (d ∷ ds) && are_distinct (d ∷ ds)) (zero-add (suc (length ds)))
    ∙ ap (λ (b : Bool). nat_le (suc (length ds)) 8 && b && are_distinct (d ∷ ds)) (none_apart (d ∷ ds))
    ∙ ap (λ (b : Bool). b && are_distinct (d ∷ ds)) (and-true (nat_le (suc (length ds)) 8))
    ∙ ap (λ (b : Bool). b && nat_le (suc (length ds)) 8 && are_distinct (d ∷ ds)) (sym one)

-- a choice is what is there when all are put
choice_is : (ds : List ℕ) → choice_of ds ≡ option_and_then some_of (with_all [] ds)
choice_is [] = refl
choice_is (d ∷ ds) = sym (
    ap (option_and_then some_of) (all_put [] (d ∷ ds) (omega arith))
    ∙ ap (λ (b : Bool). option_and_then some_of (placed_if b [] (d ∷ ds))) (fit d ds)
    ∙ ap (λ (gs : List ℕ). option_and_then some_of (cond (is_fit (d ∷ ds)) (Some gs) None)) (all_ascending (d ∷ ds))
    ∙ if_fit (is_fit (d ∷ ds)) (ascending (d ∷ ds)) (some_placed d (ascending ds)))

-- the same, where the devices were read before
pub chosen : (o r : Option (List ℕ)) → r ≡ option_and_then (with_all []) o → option_and_then some_of r ≡ option_and_then choice_of o
chosen None r e = ap (option_and_then some_of) e
chosen (Some ds) r e = ap (option_and_then some_of) e ∙ sym (choice_is ds)

-- ---- groups in ascending number are chosen as they are

other : (x y : ℕ) → x < y → (y == x) ≡ false
other x y l = grind (arith, nat_tests)

before : (x y : ℕ) → is_less (nat_cmp x y) ≡ true → nat_cmp x y ≡ Less
before x y h = by (nat_cmp x y) h
  where
    by : (o : Ordering) → is_less o ≡ true → o ≡ Less
    by Less h = refl
    by Equal h = absurd (true≢false (sym h))
    by Greater h = absurd (true≢false (sym h))

not_after : (x g : ℕ) (gs : List ℕ) → x ≤ g → ascends nat_cmp (g ∷ gs) ≡ true → is_one_of gs x ≡ false
not_after x g [] l a = refl
not_after x g (h ∷ hs) l a =
    let both = and_parts (is_less (nat_cmp g h)) (ascends nat_cmp (h ∷ hs)) a in
    let step : g < h = less_is g h (before g h both.0) in
    rw (other x h (omega arith)) (not_after x h hs (omega arith) both.1)

all_distinct : (gs : List ℕ) → ascends nat_cmp gs ≡ true → are_distinct gs ≡ true
all_distinct [] a = refl
all_distinct (g ∷ gs) a = rw (not_after g g gs (omega arith) a) (all_distinct gs (tail_ascends g gs a))

placed_first : (g : ℕ) (gs : List ℕ) → ascends nat_cmp (g ∷ gs) ≡ true → placed g gs ≡ g ∷ gs
placed_first g [] a = refl
placed_first g (h ∷ hs) a = rw (before g h (and_parts (is_less (nat_cmp g h)) (ascends nat_cmp (h ∷ hs)) a).0) refl

in_order : (gs : List ℕ) → ascends nat_cmp gs ≡ true → ascending gs ≡ gs
in_order [] a = refl
in_order (g ∷ gs) a = ap (placed g) (in_order gs (tail_ascends g gs a)) ∙ placed_first g gs a

pub choice_again : (gs : List ℕ) → is_choice gs ≡ true → choice_of gs ≡ Some gs
choice_again gs h =
    let some = and_parts (nat_le 1 (length gs)) (are_groups gs) h in
    let few = and_parts (nat_le (length gs) most_groups) (ascends nat_cmp gs) some.1 in
    rw (some.0, few.0, all_distinct gs few.1, in_order gs few.1) refl
