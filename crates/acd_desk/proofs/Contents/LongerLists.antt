-- A longer list: the replies stay, and what one more answer adds to a run of the desk.
use Rattle.std.proofs.Common.{◌≡◌, ℕ, ◌+◌, ◌<◌, List, [], ◌∷◌, ◌++◌, length, map, refl, sym, ap, subst, ◌∙◌, arith, append_assoc, append-nil, Bool, true, false, cond, not, ◌||◌, nat_lt, Option, Some, None, is_some, inl, inr, ltb-true, true≢false}
use Rattle.std.specs.Option.{option_or}
use Rattle.std.proofs.lemmas.List.{map-append}
use Rattle.std.proofs.lemmas.List.Folds.{list_any-append, find-append}
use Rattle.std.specs.List.{Contains}
use Rattle.std.proofs.lemmas.List.Elements.{Contains-push, Contains-append_left, Contains-append_right, Contains-append_cases}
use Rattle.acd_terms.specs.declared.rows.Limits.{Limits}
use Rattle.acd_terms.specs.declared.command.Request.{Request}
use Rattle.acd_terms.specs.declared.command.Arrival.{Arrival}
use Rattle.acd_book.specs.declared.kept.Kept.{Kept}
use Rattle.acd_book.specs.Content.{Content, empty_content, is_key, kept_of}
use Rattle.acd_desk.specs.declared.taken.Taken.{Taken}
use Rattle.acd_desk.specs.Contents.AbstractDesk.{has_key, firsts, record_of, executed, desk_run}
use Rattle.acd_desk.specs.Contents.Replies.{answer_of, answer_in, reply_to, after}
use Rattle.acd_desk.specs.declared.taken.Taken.TheVariants.{Reply, InvokeReused, DeskFull, NoMemory, StoreFault}
use Rattle.acd_desk.specs.Contents.AcceptedArrivals.{is_fault, accepted, answers_sent, has_accepted, maybe_last}
use Rattle.acd_desk.specs.Contents.SoundContent.{arrivals_of, IsSound, ran_after, replies}
use Rattle.acd_desk.proofs.Contents.Runs.{run-stamp, run-limits, run-found, firsts-room, has-distinct, after_firsts}
use Rattle.acd_book.proofs.Keys.{key_itself}
use Rattle.acd_lemmas.proofs.Bools.{or_no, or_yes}

-- ---- a reply stays ----

option_or-some : (o u : Option Kept) → is_some o ≡ true → option_or o u ≡ o
option_or-some None u h = absurd (true≢false (sym h))
option_or-some (Some k) u h = refl

find_stays : (c : Content) (a : Arrival) (p : List ℕ) (q : ℕ) → ((c.rows.last_stamp < c.rows.limits.requests) → is_some (kept_of c.kept p q) ≡ true) → kept_of (after c a).kept p q ≡ kept_of c.kept p q
find_stays c a p q there =
    let P : Bool → Bool → Type 0 = λ x y. kept_of (cond x c (cond y (executed c a) c)).kept p q ≡ kept_of c.kept p q in
    let cases : (x y : Bool) → nat_lt c.rows.last_stamp c.rows.limits.requests ≡ y → P x y
    = λ x. elim x as (λ x. (y : Bool) → nat_lt c.rows.last_stamp c.rows.limits.requests ≡ y → P x y) [
      | true ↦ λ y room. refl
      | false ↦ λ y. elim y as (λ y. nat_lt c.rows.last_stamp c.rows.limits.requests ≡ y → P false y) [
        | true ↦ λ room. find-append (λ (k : Kept). is_key p q k.request) c.kept (record_of c.rows a ∷ []) ∙ option_or-some (kept_of c.kept p q) (kept_of (record_of c.rows a ∷ []) p q) (there (ltb-true c.rows.last_stamp c.rows.limits.requests room))
        | false ↦ λ room. refl
      ]
    ] in
    cases (is_some (kept_of c.kept a.request.requester a.request.invoke)) (nat_lt c.rows.last_stamp c.rows.limits.requests) refl

-- a key of the list is in its run, where that isn't full
pub known_in_run : (n : Limits) (l : List Arrival) (p : List ℕ) (q : ℕ) → has_key l p q ≡ true → (desk_run n l).rows.last_stamp < (desk_run n l).rows.limits.requests → is_some (kept_of (desk_run n l).kept p q) ≡ true
known_in_run n l p q there room =
    let f : List Arrival = firsts n.requests l in
    let stamp : (desk_run n l).rows.last_stamp ≡ 0 + length f = run-stamp f (empty_content n) in
    let limit : (desk_run n l).rows.limits.requests ≡ n.requests = ap (λ (x : Limits). x.requests) (run-limits f (empty_content n)) in
    let short : length f < n.requests = omega (arith, room, stamp, limit) in
    run-found n f p q ∙ ap (λ (s : List Arrival). has_key s p q) (firsts-room n.requests l short) ∙ has-distinct l [] p q ∙ there

pub reply_stays : (n : Limits) (l : List Arrival) (a : Arrival) (r : Request) → has_key l r.requester r.invoke ≡ true → reply_to n (l ++ a ∷ []) r ≡ reply_to n l r
reply_stays n l a r there =
    ap (λ (x : Content). answer_in x r) (sym (after_firsts n l a))
    ∙ ap (λ (o : Option Kept). answer_of o r) (find_stays (desk_run n l) a r.requester r.invoke (known_in_run n l r.requester r.invoke there))

pub has_within : (pre post : List Arrival) (a : Arrival) → has_key (pre ++ a ∷ post) a.request.requester a.request.invoke ≡ true
has_within pre post a =
    list_any-append (λ (x : Arrival). is_key a.request.requester a.request.invoke x.request) pre (a ∷ post)
    ∙ ap (λ (b : Bool). has_key pre a.request.requester a.request.invoke || (b || has_key post a.request.requester a.request.invoke)) (key_itself a.request)
    ∙ or_yes (has_key pre a.request.requester a.request.invoke)

replies_stay : (n : Limits) (x : Arrival) (l pre : List Arrival)
    → map (λ (a : Arrival). reply_to n ((pre ++ l) ++ x ∷ []) a.request) l ≡ map (λ (a : Arrival). reply_to n (pre ++ l) a.request) l
replies_stay n x [] pre = refl
replies_stay n x (b ∷ l) pre =
    let rest : map (λ (a : Arrival). reply_to n ((pre ++ b ∷ l) ++ x ∷ []) a.request) l ≡ map (λ (a : Arrival). reply_to n (pre ++ b ∷ l) a.request) l
    = subst (λ (s : List Arrival). map (λ (a : Arrival). reply_to n (s ++ x ∷ []) a.request) l ≡ map (λ (a : Arrival). reply_to n s a.request) l) (append_assoc pre (b ∷ []) l) (replies_stay n x l (pre ++ b ∷ [])) in
    ap (λ (t : Taken). t ∷ map (λ (a : Arrival). reply_to n ((pre ++ b ∷ l) ++ x ∷ []) a.request) l) (reply_stays n (pre ++ b ∷ l) x b.request (has_within pre l b))
    ∙ ap (λ (ts : List Taken). reply_to n (pre ++ b ∷ l) b.request ∷ ts) rest

-- ---- the run of a desk ----

pub ran_none : (start : Content) → IsSound start → start ≡ ran_after start []
ran_none start sound =
    sound.replays ∙ ap (desk_run start.rows.limits) (sym (append-nil (arrivals_of start.kept)))

pub ran_push : (start : Content) (l : List Arrival) (a : Arrival) → after (ran_after start l) a ≡ ran_after start (l ++ a ∷ [])
ran_push start l a =
    after_firsts start.rows.limits (arrivals_of start.kept ++ l) a
    ∙ ap (desk_run start.rows.limits) (append_assoc (arrivals_of start.kept) l (a ∷ []))

pub replies_push : (start : Content) (l : List Arrival) (a : Arrival)
    → replies start l ++ answer_in (after (ran_after start l) a) a.request ∷ [] ≡ replies start (l ++ a ∷ [])
replies_push start l a =
    let n : Limits = start.rows.limits in
    let k : List Arrival = arrivals_of start.kept in
    ap (λ (ts : List Taken). ts ++ answer_in (after (ran_after start l) a) a.request ∷ []) (sym (replies_stay n a l k))
    ∙ ap (λ (c : Content). map (λ (x : Arrival). reply_to n ((k ++ l) ++ a ∷ []) x.request) l ++ answer_in c a.request ∷ []) (after_firsts n (k ++ l) a)
    ∙ sym (map-append (λ (x : Arrival). reply_to n ((k ++ l) ++ a ∷ []) x.request) l (a ∷ []))
    ∙ ap (λ (s : List Arrival). map (λ (x : Arrival). reply_to n s x.request) (l ++ a ∷ [])) (append_assoc k l (a ∷ []))

pub accepted-push : (l : List Arrival) (ts : List Taken) (a : Arrival) (t : Taken) → length l ≡ length ts → accepted (l ++ a ∷ []) (ts ++ t ∷ []) ≡ accepted l ts ++ cond (is_fault t) [] (a ∷ [])
accepted-push [] [] a t same = append-nil (cond (is_fault t) [] (a ∷ []))
accepted-push [] (u ∷ ts) a t same = absurd (omega arith)
accepted-push (b ∷ l) [] a t same = absurd (omega arith)
accepted-push (b ∷ l) (u ∷ ts) a t same =
    let less : length l ≡ length ts = omega arith in
    ap (λ (s : List Arrival). cond (is_fault u) [] (b ∷ []) ++ s) (accepted-push l ts a t less) ∙ sym (append_assoc (cond (is_fault u) [] (b ∷ [])) (accepted l ts) (cond (is_fault t) [] (a ∷ [])))

has_accepted-push : (ts : List Taken) (t : Taken) → is_fault t ≡ true → has_accepted (ts ++ t ∷ []) ≡ has_accepted ts
has_accepted-push ts t bad =
    list_any-append (λ (u : Taken). not (is_fault u)) ts (t ∷ []) ∙ ap (λ (b : Bool). has_accepted ts || (not b || false)) bad ∙ or_no (has_accepted ts)

-- an arrival that may be the last stays so after a fault
pub maybe_stays : (l : List Arrival) (ts : List Taken) (a : Arrival) (t : Taken) → is_fault t ≡ true
    → (x : Arrival) → Contains (maybe_last l ts) x → Contains (maybe_last (l ++ a ∷ []) (ts ++ t ∷ [])) x
maybe_stays [] ts a t bad x h = absurd (omega (arith, h.1))
maybe_stays (b ∷ l) [] a t bad x h = absurd (omega (arith, h.1))
maybe_stays (b ∷ l) (Reply status body ∷ ts) a t bad x h = maybe_stays l ts a t bad x h
maybe_stays (b ∷ l) (InvokeReused ∷ ts) a t bad x h = maybe_stays l ts a t bad x h
maybe_stays (b ∷ l) (DeskFull ∷ ts) a t bad x h = maybe_stays l ts a t bad x h
maybe_stays (b ∷ l) (NoMemory ∷ ts) a t bad x h =
    let one : List Arrival = cond (has_accepted ts) [] (b ∷ []) in
    let more : List Arrival = maybe_last (l ++ a ∷ []) (ts ++ t ∷ []) in
    subst (λ (c : Bool). Contains (cond c [] (b ∷ []) ++ more) x) (sym (has_accepted-push ts t bad))
    (elim (Contains-append_cases one (maybe_last l ts) x h) [
      | inl now ↦ Contains-append_left one more x now
      | inr rest ↦ Contains-append_right one more x (maybe_stays l ts a t bad x rest)
    ])
maybe_stays (b ∷ l) (StoreFault ∷ ts) a t bad x h = h

one_less : (b : Arrival) (u : Taken) (l : List Arrival) (ts : List Taken) → length (b ∷ l) ≡ length (u ∷ ts) → length l ≡ length ts
one_less b u l ts same = omega (arith, same)

-- and so may be the one at the end, which was answered by a fault, where none before it was answered storeFault
pub maybe_this : (l : List Arrival) (ts : List Taken) (a : Arrival) (t : Taken) → length l ≡ length ts → ¬ (Contains ts StoreFault) → is_fault t ≡ true
    → Contains (maybe_last (l ++ a ∷ []) (ts ++ t ∷ [])) a
maybe_this [] [] a (Reply status body) same none h = absurd (true≢false (sym h))
maybe_this [] [] a InvokeReused same none h = absurd (true≢false (sym h))
maybe_this [] [] a DeskFull same none h = absurd (true≢false (sym h))
maybe_this [] [] a NoMemory same none h = Contains-push [] a
maybe_this [] [] a StoreFault same none h = Contains-push [] a
maybe_this [] (u ∷ ts) a t same none h = absurd (omega arith)
maybe_this (b ∷ l) [] a t same none h = absurd (omega arith)
maybe_this (b ∷ l) (Reply status body ∷ ts) a t same none h = maybe_this l ts a t (one_less b (Reply status body) l ts same) (λ found. none (Contains-append_right (Reply status body ∷ []) ts StoreFault found)) h
maybe_this (b ∷ l) (InvokeReused ∷ ts) a t same none h = maybe_this l ts a t (one_less b InvokeReused l ts same) (λ found. none (Contains-append_right (InvokeReused ∷ []) ts StoreFault found)) h
maybe_this (b ∷ l) (DeskFull ∷ ts) a t same none h = maybe_this l ts a t (one_less b DeskFull l ts same) (λ found. none (Contains-append_right (DeskFull ∷ []) ts StoreFault found)) h
maybe_this (b ∷ l) (NoMemory ∷ ts) a t same none h = Contains-append_right (cond (has_accepted (ts ++ t ∷ [])) [] (b ∷ [])) (maybe_last (l ++ a ∷ []) (ts ++ t ∷ [])) a (maybe_this l ts a t (one_less b NoMemory l ts same) (λ found. none (Contains-append_right (NoMemory ∷ []) ts StoreFault found)) h)
maybe_this (b ∷ l) (StoreFault ∷ ts) a t same none h = absurd (none (Contains-append_left (StoreFault ∷ []) ts StoreFault (Contains-push [] StoreFault)))

cond-not : (b : Bool) (t : Taken) → cond (not b) (t ∷ []) [] ≡ cond b [] (t ∷ [])
cond-not true t = refl
cond-not false t = refl

pub sent-push : (ts : List Taken) (t : Taken) → answers_sent (ts ++ t ∷ []) ≡ answers_sent ts ++ cond (is_fault t) [] (t ∷ [])
sent-push [] t = cond-not (is_fault t) t
sent-push (u ∷ ts) t = elim (not (is_fault u)) as (λ b. cond b (u ∷ answers_sent (ts ++ t ∷ [])) (answers_sent (ts ++ t ∷ [])) ≡ cond b (u ∷ answers_sent ts) (answers_sent ts) ++ cond (is_fault t) [] (t ∷ [])) [
  | true ↦ ap (λ (s : List Taken). u ∷ s) (sent-push ts t)
  | false ↦ sent-push ts t
]
