-- Bytes that are given on, one after the other.
use Rattle.std.proofs.Common.{◌≡◌, ◌==◌, ℕ, ◌+◌, ◌<◌, Bool, true, false, ◌&&◌, if◌then◌else◌, List, [], ◌∷◌, ◌++◌, Option, Some, None, option_map, IfSome, length, take, drop, get_or, refl, sym, ap, ◌∙◌, subst, append_assoc, append-nil, add-one, arith, ◌≤◌}
use Rattle.std.proofs.lemmas.Bool.{true≢false}
use Rattle.std.proofs.lemmas.List.{length-take, nil_from_length}
use Rattle.std.proofs.Math.Nat.{min-eq_left}
use Rattle.std.proofs.Math.Seq.{take-suc, drop-cons, drop-nil}
use Rattle.std.specs.Io.KnownBytes.{Consumes, Keeps, IsAtEnd}
use lib.Seq.{take-append_seam}
use Rattle.acd_io.specs.Order.{begins_order, before_order, has_order, is_held, mark, marked_from, PassesOrder}
use Rattle.acd_io.proofs.Orders.{order_more, not_stopped}

-- the first byte comes before the order
pub marked_passed : (starts : Bool) (x : ℕ) (xs : List ℕ) → (starts && begins_order (x ∷ xs)) ≡ false → marked_from starts (x ∷ xs) ≡ x ∷ marked_from (x == 10) xs
unfolding before_order has_order
marked_passed starts x xs h =
    let F : Bool → List ℕ = λ b. (if b then [] else x ∷ before_order (x == 10) xs) ++ (if (if b then true else has_order (x == 10) xs) then mark else []) in
    ap F h

-- the order is first
pub marked_stopped : (starts : Bool) (xs : List ℕ) → (starts && begins_order xs) ≡ true → marked_from starts xs ≡ mark
unfolding before_order has_order
marked_stopped starts [] h = elim starts as (λ b. (b && begins_order []) ≡ true → marked_from b [] ≡ mark) [
  | false ↦ λ h. absurd (true≢false (sym h))
  | true ↦ λ h. absurd (true≢false (sym h))
] h
marked_stopped starts (x ∷ xs) h =
    let F : Bool → List ℕ = λ b. (if b then [] else x ∷ before_order (x == 10) xs) ++ (if (if b then true else has_order (x == 10) xs) then mark else []) in
    ap F h

pub stopped_more : (starts : Bool) (w xs : List ℕ) → (starts && begins_order w) ≡ true → (starts && begins_order (w ++ xs)) ≡ true
stopped_more false w xs h = absurd (true≢false (sym h))
stopped_more true w xs h = order_more w xs h

-- so many bytes were given on, and then one more
pub passes_more : (ended starts line : Bool) (bytes : List ℕ) (i : ℕ) → i < length bytes → (line && is_held ended (drop i bytes)) ≡ false → PassesOrder ended starts bytes (i, line) → PassesOrder ended starts bytes (i + 1, get_or bytes i 0 == 10)
passes_more ended starts line bytes i inside free before xs none =
    let x : ℕ = get_or bytes i 0 in
    let rest : List ℕ = drop (i + 1) bytes in
    let cut : drop i bytes ≡ x ∷ rest = rw add-one (drop-cons bytes i 0 inside) in
    let one : (line && begins_order (x ∷ (rest ++ xs))) ≡ false = subst (λ (l : List ℕ). (line && begins_order (l ++ xs)) ≡ false) cut (not_stopped line ended (drop i bytes) xs none free) in
    let given : take (i + 1) bytes ≡ take i bytes ++ x ∷ [] = rw add-one (take-suc bytes i 0 inside) in
    before xs none ∙ ap (λ (l : List ℕ). take i bytes ++ marked_from line (l ++ xs)) cut ∙ ap (λ (l : List ℕ). take i bytes ++ l) (marked_passed line x (rest ++ xs) one)
    ∙ sym (append_assoc (take i bytes) (x ∷ []) (marked_from (x == 10) (rest ++ xs))) ∙ ap (λ (l : List ℕ). l ++ marked_from (x == 10) (rest ++ xs)) (sym given)

-- no byte was given on
pub passes_none : (ended starts : Bool) (bytes : List ℕ) → PassesOrder ended starts bytes (0, starts)
passes_none ended starts bytes xs none = refl

-- ---- a reader that has stopped at the order

pub told_left : (ended starts : Bool) (pending : List ℕ) (known : Option (List ℕ)) → (starts && begins_order pending) ≡ true
    → IfSome (if ended then Some (marked_from starts pending) else option_map (λ xs. marked_from starts (pending ++ xs)) known) (λ xs. xs ≡ mark)
told_left true starts pending known h = marked_stopped starts pending h
told_left false starts pending None h = tt
told_left false starts pending (Some xs) h = marked_stopped starts (pending ++ xs) (stopped_more starts pending xs h)

-- ---- a read

-- what it has left, by whether the reader below it has ended
abbrev pub left_by : Bool → Bool → List ℕ → Option (List ℕ) → Option (List ℕ)
left_by ended starts pending known = if ended then Some (marked_from starts pending) else option_map (λ xs. marked_from starts (pending ++ xs)) known

gives : (ended starts next : Bool) (pending : List ℕ) (count : ℕ) (known : Option (List ℕ)) → PassesOrder ended starts pending (count, next)
    → Consumes (left_by ended starts pending known) (left_by ended next (drop count pending) known) (take count pending)
gives true starts next pending count known h =
    let F : List ℕ → List ℕ = λ l. take count pending ++ marked_from next l in
    ap (marked_from starts) (sym (append-nil pending)) ∙ h [] (λ _. refl) ∙ ap F (append-nil (drop count pending))
gives false starts next pending count None h = tt
gives false starts next pending count (Some xs) h = h xs (λ e. absurd (true≢false (sym e)))

then_kept : (a b c : Option (List ℕ)) (bs : List ℕ) → Keeps a b → Consumes b c bs → Consumes a c bs
then_kept None b c bs h k = tt
then_kept (Some xs) None c bs h k = absurd h
then_kept (Some xs) (Some ys) None bs h k = k
then_kept (Some xs) (Some ys) (Some zs) bs h k = sym h ∙ k

-- so many pending bytes were copied to the front of a buffer
copied : (pending bytes rest : List ℕ) (count : ℕ) → count ≤ length pending → bytes ≡ take count pending → take count (bytes ++ rest) ≡ take count pending
copied pending bytes rest count few is =
    let long : length bytes ≡ count = ap length is ∙ length-take count pending ∙ min-eq_left few in
    ap (λ (n : ℕ). take n (bytes ++ rest)) (sym long) ∙ take-append_seam bytes rest ∙ is

pub read_given : (old : Option (List ℕ)) (ended starts next : Bool) (pending left bytes rest : List ℕ) (count : ℕ) (known : Option (List ℕ)) → Keeps old (left_by ended starts pending known) → PassesOrder ended starts pending (count, next)
    → count ≤ length pending → bytes ≡ take count pending → left ≡ drop count pending → Consumes old (left_by ended next left known) (take count (bytes ++ rest))
read_given old ended starts next pending left bytes rest count known kept passes few is removed =
    let so = then_kept old (left_by ended starts pending known) (left_by ended next (drop count pending) known) (take count pending) kept (gives ended starts next pending count known passes) in
    let to = subst (λ (l : List ℕ). Consumes old (left_by ended next l known) (take count pending)) (sym removed) so in
    subst (Consumes old (left_by ended next left known)) (sym (copied pending bytes rest count few is)) to

marked_nothing : (starts : Bool) → marked_from starts [] ≡ []
unfolding before_order has_order
marked_nothing starts = refl

pub read_nothing : (ended next : Bool) (pending left : List ℕ) (count : ℕ) (known : Option (List ℕ)) → length pending ≡ 0 → (ended ≡ false → 0 < length pending) → left ≡ drop count pending → IsAtEnd (left_by ended next left known)
read_nothing true next pending left count known none some removed =
    let empty : left ≡ [] = removed ∙ ap (drop count) (nil_from_length pending none) ∙ drop-nil count in
    ap (marked_from next) empty ∙ marked_nothing next
read_nothing false next pending left count known none some removed = let more : 0 < length pending = some refl in absurd (omega arith)
