-- The run over the first arrivals, and one arrival more.
use Rattle.std.proofs.Common.{◌≡◌, ℕ, ◌+◌, ◌<◌, ◌≤◌, List, [], ◌∷◌, ◌++◌, length, take, drop, refl, sym, ap, subst, ◌∙◌, arith, append_assoc, append-nil, Bool, true, false, cond, ◌||◌, nat_lt, Option, Some, None, is_some, take-append-drop, take_all, lt-ltb, ltb-true, ltb-false}
use Rattle.std.specs.List.{list_any}
use Rattle.std.specs.Option.{option_or}
use Rattle.std.proofs.Math.Bool.{or_assoc}
use Rattle.std.proofs.lemmas.List.{take-append-le}
use Rattle.std.proofs.lemmas.List.Folds.{list_any-append, find-append}
use Rattle.std.proofs.lemmas.Grind.{common_steps}
use Rattle.acd_terms.specs.declared.rows.Limits.{Limits}
use Rattle.acd_terms.specs.declared.command.Request.{Request}
use Rattle.acd_terms.specs.declared.command.Arrival.{Arrival}
use Rattle.acd_book.specs.declared.kept.Kept.{Kept}
use Rattle.acd_book.specs.Content.{Content, empty_content, is_key, kept_of}
use Rattle.acd_desk.specs.declared.taken.Taken.TheVariants.{Reply, InvokeReused}
use Rattle.acd_desk.specs.Contents.AbstractDesk.{has_key, distinct_from, firsts, record_of, executed, run_from, desk_run}
use Rattle.acd_desk.specs.Contents.Replies.{answer_of, answer_in, after}
use Rattle.acd_desk.proofs.Contents.Steps.{step_limits, step_stamp}
use Rattle.acd_desk.proofs.Contents.Keys.{same_itself}
use Rattle.acd_book.proofs.Keys.{key_same, key_itself}
use Rattle.acd_lemmas.proofs.Bools.{or_no}
use Rattle.acd_lemmas.proofs.Lists.{any-find}

-- ---- those whose key is new ----

-- one more at the end
pub distinct-push : (l seen : List Arrival) (a : Arrival)
    → distinct_from seen (l ++ a ∷ []) ≡ distinct_from seen l ++ cond (has_key (seen ++ l) a.request.requester a.request.invoke) [] (a ∷ [])
distinct-push [] seen a =
    append-nil (cond (has_key seen a.request.requester a.request.invoke) [] (a ∷ []))
    ∙ ap (λ (s : List Arrival). cond (has_key s a.request.requester a.request.invoke) [] (a ∷ [])) (sym (append-nil seen))
distinct-push (x ∷ l) seen a =
    let head : List Arrival = cond (has_key seen x.request.requester x.request.invoke) [] (x ∷ []) in
    ap (λ (t : List Arrival). head ++ t) (distinct-push l (seen ++ x ∷ []) a)
    ∙ sym (append_assoc head (distinct_from (seen ++ x ∷ []) l) (cond (has_key ((seen ++ x ∷ []) ++ l) a.request.requester a.request.invoke) [] (a ∷ [])))
    ∙ ap (λ (s : List Arrival). (head ++ distinct_from (seen ++ x ∷ []) l) ++ cond (has_key s a.request.requester a.request.invoke) [] (a ∷ [])) (append_assoc seen (x ∷ []) l)

either_way : (s k d rest sa : Bool) → (k ≡ true → sa ≡ s) → (((s || k) || d) ≡ ((s || k) || rest)) → ((s || (cond sa false k || d)) ≡ (s || (k || rest)))
either_way true k d rest sa same e = refl
either_way false true d rest sa same e = ap (λ (b : Bool). cond b false true || d) (same refl)
either_way false false d rest true same e = e
either_way false false d rest false same e = e

pub has-push : (seen : List Arrival) (x : Arrival) (p : List ℕ) (q : ℕ) → has_key (seen ++ x ∷ []) p q ≡ (has_key seen p q || is_key p q x.request)
has-push seen x p q = list_any-append (λ (a : Arrival). is_key p q a.request) seen (x ∷ []) ∙ ap (λ (b : Bool). has_key seen p q || b) (or_no (is_key p q x.request))

cond_has : (b : Bool) (x : Arrival) (p : List ℕ) (q : ℕ) → has_key (cond b [] (x ∷ [])) p q ≡ cond b false (is_key p q x.request)
cond_has true x p q = refl
cond_has false x p q = or_no (is_key p q x.request)

-- the rest has every key
pub has-distinct : (l seen : List Arrival) (p : List ℕ) (q : ℕ) → (has_key seen p q || has_key (distinct_from seen l) p q) ≡ (has_key seen p q || has_key l p q)
has-distinct [] seen p q = refl
has-distinct (x ∷ l) seen p q =
    let again : ((has_key seen p q || is_key p q x.request) || has_key (distinct_from (seen ++ x ∷ []) l) p q) ≡ ((has_key seen p q || is_key p q x.request) || has_key l p q)
    = subst (λ (b : Bool). (b || has_key (distinct_from (seen ++ x ∷ []) l) p q) ≡ (b || has_key l p q)) (has-push seen x p q) (has-distinct l (seen ++ x ∷ []) p q) in
    ap (λ (b : Bool). has_key seen p q || b)
    (list_any-append (λ (a : Arrival). is_key p q a.request) (cond (has_key seen x.request.requester x.request.invoke) [] (x ∷ [])) (distinct_from (seen ++ x ∷ []) l)
    ∙ ap (λ (b : Bool). b || has_key (distinct_from (seen ++ x ∷ []) l) p q) (cond_has (has_key seen x.request.requester x.request.invoke) x p q))
    ∙ either_way (has_key seen p q) (is_key p q x.request) (has_key (distinct_from (seen ++ x ∷ []) l) p q) (has_key l p q) (has_key seen x.request.requester x.request.invoke)
    (λ same. let both : (x.request.requester ≡ p) × (x.request.invoke ≡ q) = key_same p q x.request same in ap (λ (n : List ℕ). has_key seen n x.request.invoke) both.0 ∙ ap (λ (n : ℕ). has_key seen p n) both.1)
    again

-- ---- the run ----

-- in two parts
pub run_in_two : (c : Content) (l m : List Arrival) → run_from c (l ++ m) ≡ run_from (run_from c l) m
run_in_two c [] m = refl
run_in_two c (a ∷ l) m = run_in_two (executed c a) l m

pub run-limits : (l : List Arrival) (c : Content) → (run_from c l).rows.limits ≡ c.rows.limits
run-limits [] c = refl
run-limits (x ∷ l) c = run-limits l (executed c x) ∙ step_limits c.rows x.moment x.request.command

pub run-stamp : (l : List Arrival) (c : Content) → (run_from c l).rows.last_stamp ≡ c.rows.last_stamp + length l
run-stamp [] c = omega arith
run-stamp (x ∷ l) c =
    let e = run-stamp l (executed c x) in
    let s = step_stamp c.rows x.moment x.request.command in
    omega (arith, e, s)

-- the records have the keys of the arrivals
run_any : (l : List Arrival) (c : Content) (p : List ℕ) (q : ℕ) → list_any (λ (k : Kept). is_key p q k.request) (run_from c l).kept ≡ (list_any (λ (k : Kept). is_key p q k.request) c.kept || has_key l p q)
run_any [] c p q = sym (or_no (list_any (λ (k : Kept). is_key p q k.request) c.kept))
run_any (x ∷ l) c p q =
    run_any l (executed c x) p q
    ∙ ap (λ (b : Bool). b || has_key l p q) (list_any-append (λ (k : Kept). is_key p q k.request) c.kept (record_of c.rows x ∷ []) ∙ ap (λ (b : Bool). list_any (λ (k : Kept). is_key p q k.request) c.kept || b) (or_no (is_key p q x.request)))
    ∙ or_assoc (list_any (λ (k : Kept). is_key p q k.request) c.kept) (is_key p q x.request) (has_key l p q)

pub run-found : (n : Limits) (l : List Arrival) (p : List ℕ) (q : ℕ) → is_some (kept_of (run_from (empty_content n) l).kept p q) ≡ has_key l p q
run-found n l p q = sym (any-find (λ (k : Kept). is_key p q k.request) (run_from (empty_content n) l).kept) ∙ run_any l (empty_content n) p q

-- ---- one more arrival ----

has-firsts : (n : ℕ) (l : List Arrival) (p : List ℕ) (q : ℕ) → has_key (firsts n l) p q ≡ true → has_key l p q ≡ true
has-firsts n l p q h =
    sym (has-distinct l [] p q)
    ∙ ap (λ (s : List Arrival). has_key s p q) (sym (take-append-drop n (distinct_from [] l)))
    ∙ list_any-append (λ (a : Arrival). is_key p q a.request) (firsts n l) (drop n (distinct_from [] l))
    ∙ ap (λ (b : Bool). b || has_key (drop n (distinct_from [] l)) p q) h

-- where there is room, none was cut off
pub firsts-room : (n : ℕ) (l : List Arrival) → length (firsts n l) < n → firsts n l ≡ distinct_from [] l
firsts-room n l h = grind (arith, common_steps)

firsts-push : (n : ℕ) (l : List Arrival) (a : Arrival)
    → firsts n (l ++ a ∷ []) ≡ take n (distinct_from [] l ++ cond (has_key l a.request.requester a.request.invoke) [] (a ∷ []))
firsts-push n l a = ap (take n) (distinct-push l [] a)

-- the three cases
known : (n : ℕ) (l : List Arrival) (a : Arrival) → has_key (firsts n l) a.request.requester a.request.invoke ≡ true → firsts n (l ++ a ∷ []) ≡ firsts n l
known n l a h =
    firsts-push n l a
    ∙ ap (λ (b : Bool). take n (distinct_from [] l ++ cond b [] (a ∷ []))) (has-firsts n l a.request.requester a.request.invoke h)
    ∙ ap (take n) (append-nil (distinct_from [] l))

full : (n : ℕ) (l : List Arrival) (a : Arrival) → n ≤ length (firsts n l) → firsts n (l ++ a ∷ []) ≡ firsts n l
full n l a h =
    let e : length (take n (distinct_from [] l)) ≤ length (distinct_from [] l) = grind (arith, common_steps) in
    firsts-push n l a ∙ take-append-le n (distinct_from [] l) (cond (has_key l a.request.requester a.request.invoke) [] (a ∷ [])) (omega (arith, e, h))

new_key : (n : ℕ) (l : List Arrival) (a : Arrival) → length (firsts n l) < n → has_key (firsts n l) a.request.requester a.request.invoke ≡ false → firsts n (l ++ a ∷ []) ≡ firsts n l ++ a ∷ []
new_key n l a room new =
    let whole : firsts n l ≡ distinct_from [] l = firsts-room n l room in
    let none : has_key l a.request.requester a.request.invoke ≡ false
    = sym (has-distinct l [] a.request.requester a.request.invoke) ∙ ap (λ (s : List Arrival). has_key s a.request.requester a.request.invoke) (sym whole) ∙ new in
    let short : length (distinct_from [] l ++ a ∷ []) ≤ n = subst (λ (s : List Arrival). length (s ++ a ∷ []) ≤ n) whole (grind (arith, common_steps)) in
    firsts-push n l a
    ∙ ap (λ (b : Bool). take n (distinct_from [] l ++ cond b [] (a ∷ []))) none
    ∙ take_all n (distinct_from [] l ++ a ∷ []) short
    ∙ ap (λ (s : List Arrival). s ++ a ∷ []) (sym whole)

-- a desk does with an arrival what the abstract switch does with the list that it ends
pub after_firsts : (n : Limits) (l : List Arrival) (a : Arrival) → after (desk_run n l) a ≡ desk_run n (l ++ a ∷ [])
after_firsts n l a =
    let f : List Arrival = firsts n.requests l in
    let c : Content = desk_run n l in
    let p : List ℕ = a.request.requester in
    let q : ℕ = a.request.invoke in
    let found : is_some (kept_of c.kept p q) ≡ has_key f p q = run-found n f p q in
    let stamp : c.rows.last_stamp ≡ 0 + length f = run-stamp f (empty_content n) in
    let limit : c.rows.limits.requests ≡ n.requests = ap (λ (x : Limits). x.requests) (run-limits f (empty_content n)) in
    let P : Bool → Bool → Type 0 = λ x y. cond x c (cond y (executed c a) c) ≡ desk_run n (l ++ a ∷ []) in
    let cases : (x y : Bool) → is_some (kept_of c.kept p q) ≡ x → nat_lt c.rows.last_stamp c.rows.limits.requests ≡ y → P x y
    = λ x. elim x as (λ x. (y : Bool) → is_some (kept_of c.kept p q) ≡ x → nat_lt c.rows.last_stamp c.rows.limits.requests ≡ y → P x y) [
      | true ↦ λ y old room. ap (run_from (empty_content n)) (sym (known n.requests l a (sym found ∙ old)))
      | false ↦ λ y. elim y as (λ y. is_some (kept_of c.kept p q) ≡ false → nat_lt c.rows.last_stamp c.rows.limits.requests ≡ y → P false y) [
        | true ↦ λ new room. let lt : c.rows.last_stamp < c.rows.limits.requests = ltb-true c.rows.last_stamp c.rows.limits.requests room in sym (run_in_two (empty_content n) f (a ∷ [])) ∙ ap (run_from (empty_content n)) (sym (new_key n.requests l a (omega (arith, lt, stamp, limit)) (sym found ∙ new)))
        | false ↦ λ new room. let le : c.rows.limits.requests ≤ c.rows.last_stamp = ltb-false c.rows.last_stamp c.rows.limits.requests room in ap (run_from (empty_content n)) (sym (full n.requests l a (omega (arith, le, stamp, limit))))
      ]
    ] in
    cases (is_some (kept_of c.kept p q)) (nat_lt c.rows.last_stamp c.rows.limits.requests) refl refl

-- an arrival that is executed
pub executes : (c : Content) (a : Arrival) → kept_of c.kept a.request.requester a.request.invoke ≡ None → c.rows.last_stamp < c.rows.limits.requests → after c a ≡ executed c a
executes c a new room =
    ap (λ (o : Option Kept). cond (is_some o) c (cond (nat_lt c.rows.last_stamp c.rows.limits.requests) (executed c a) c)) new
    ∙ ap (λ (b : Bool). cond b (executed c a) c) (lt-ltb c.rows.last_stamp c.rows.limits.requests room)

-- its answer is its record's
pub answers_new : (c : Content) (a : Arrival) → kept_of c.kept a.request.requester a.request.invoke ≡ None
    → answer_in (executed c a) a.request ≡ Reply (record_of c.rows a).status (record_of c.rows a).body
answers_new c a new =
    let r : Request = a.request in
    let k : Kept = record_of c.rows a in
    ap (λ (o : Option Kept). answer_of o r) (find-append (λ (k : Kept). is_key r.requester r.invoke k.request) c.kept (k ∷ []) ∙ ap (λ (o : Option Kept). option_or o (cond (is_key r.requester r.invoke r) (Some k) None)) new ∙ ap (λ (b : Bool). cond b (Some k) None) (key_itself r))
    ∙ ap (λ (b : Bool). cond b (Reply k.status k.body) InvokeReused) (same_itself r)
