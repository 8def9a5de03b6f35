-- Feeding a part of a log again changes nothing.
use Rattle.std.proofs.Common.{◌≡◌, ◌⊎◌, ℕ, zero, suc, ◌+◌, ◌-◌, ◌<◌, ◌≤◌, max, List, [], ◌∷◌, ◌++◌, length, take, drop, refl, sym, ap, ap₂, subst, ◌∙◌, arith, append_assoc, append-nil, length-append, Bool, true, false, cond, ◌||◌, inl, inr}
use Rattle.std.proofs.lemmas.List.{drop-drop}
use Rattle.std.proofs.lemmas.List.Folds.{list_any-append}
use Rattle.std.proofs.Math.Seq.{take-add, take-append-add}
use Rattle.acd_terms.specs.Lists.{Among}
use Rattle.acd_terms.specs.declared.rows.Limits.{Limits}
use Rattle.acd_terms.specs.declared.command.Arrival.{Arrival}
use Rattle.acd_terms.specs.declared.command.Request.{Request}
use Rattle.acd_book.specs.Content.{Content, is_key, empty_content}
use Rattle.acd_desk.specs.Contents.AbstractDesk.{has_key, distinct_from, firsts, desk_run, run_from}
use Rattle.acd_desk.specs.Contents.Replies.{answer_in, reply_to}
use Rattle.acd_desk_laws.specs.Feeding.{IsFed, nothing, part}
use Rattle.acd_desk.proofs.Contents.Runs.{distinct-push, has-push}
use Rattle.acd_desk.proofs.Contents.LongerLists.{reply_stays, has_within}
use Rattle.acd_lemmas.proofs.Bools.{or_yes}
use Rattle.acd_book.proofs.Keys.{key_same, key_itself}

-- two lists with the same first arrivals and the same keys
record Alike (x y : List Arrival) : Type 0 where
  pub same : distinct_from [] x ≡ distinct_from [] y
  pub keys : (p : List ℕ) (q : ℕ) → has_key x p q ≡ has_key y p q

itself : (x : List Arrival) → Alike x x
itself x = record { same = refl; keys = λ p q. refl }

followed : (x y z : List Arrival) → Alike x y → Alike y z → Alike x z
followed x y z f s = record { same = f.same ∙ s.same; keys = λ p q. f.keys p q ∙ s.keys p q }

alike_push : (x y : List Arrival) (a : Arrival) → Alike x y → Alike (x ++ a ∷ []) (y ++ a ∷ [])
alike_push x y a h = record {
  same = distinct-push x [] a
      ∙ ap₂ (λ (s : List Arrival) (b : Bool). s ++ cond b [] (a ∷ [])) h.same (h.keys a.request.requester a.request.invoke)
      ∙ sym (distinct-push y [] a);
  keys = λ p q. has-push x a p q ∙ ap (λ (b : Bool). b || is_key p q a.request) (h.keys p q) ∙ sym (has-push y a p q);
}

-- whatever follows
alike_more : (c x y : List Arrival) → Alike x y → Alike (x ++ c) (y ++ c)
alike_more [] x y h = subst (λ (s : List Arrival). Alike s (y ++ [])) (sym (append-nil x)) (subst (Alike x) (sym (append-nil y)) h)
alike_more (a ∷ c) x y h =
    subst (λ (s : List Arrival). Alike s (y ++ a ∷ c)) (append_assoc x (a ∷ []) c)
    (subst (Alike ((x ++ a ∷ []) ++ c)) (append_assoc y (a ∷ []) c) (alike_more c (x ++ a ∷ []) (y ++ a ∷ []) (alike_push x y a h)))

known_or : (b k : Bool) → (k ≡ true → b ≡ true) → (b || k) ≡ b
known_or true k h = refl
known_or false true h = sym (h refl)
known_or false false h = refl

-- one whose key is there adds nothing
alike_known : (x : List Arrival) (a : Arrival) → has_key x a.request.requester a.request.invoke ≡ true → Alike (x ++ a ∷ []) x
alike_known x a known = record {
  same = distinct-push x [] a ∙ ap (λ (b : Bool). distinct_from [] x ++ cond b [] (a ∷ [])) known ∙ append-nil (distinct_from [] x);
  keys = λ p q.
      has-push x a p q ∙ known_or (has_key x p q) (is_key p q a.request) (λ same.
      let both : (a.request.requester ≡ p) × (a.request.invoke ≡ q) = key_same p q a.request same in
      sym (ap (λ (n : List ℕ). has_key x n a.request.invoke) both.0 ∙ ap (λ (n : ℕ). has_key x p n) both.1) ∙ known);
}

abbrev HaveKeys : List Arrival → List Arrival → Type 0
HaveKeys x b = (a : Arrival) → Among a b → has_key x a.request.requester a.request.invoke ≡ true

-- nor do many
alike_again : (b x : List Arrival) → HaveKeys x b → Alike (x ++ b) x
alike_again [] x known = subst (λ (s : List Arrival). Alike s x) (sym (append-nil x)) (itself x)
alike_again (a ∷ b) x known =
    let one : Alike (x ++ a ∷ []) x = alike_known x a (known a (inl refl)) in
    followed (x ++ a ∷ b) (x ++ a ∷ []) x
    (subst (λ (s : List Arrival). Alike s (x ++ a ∷ [])) (append_assoc x (a ∷ []) b)
    (alike_again b (x ++ a ∷ []) (λ c there. one.keys c.request.requester c.request.invoke ∙ known c (inr there))))
    one

-- a list has the keys of its members
has_itself : (b : List Arrival) → HaveKeys b b
has_itself [] a there = absurd there
has_itself (c ∷ b) a there = elim there [
  | inl same ↦ ap (λ (r : Bool). r || has_key b a.request.requester a.request.invoke) (ap (λ (x : Arrival). is_key a.request.requester a.request.invoke x.request) (sym same) ∙ key_itself a.request)
  | inr rest ↦ ap (λ (r : Bool). is_key a.request.requester a.request.invoke c.request || r) (has_itself b a rest) ∙ or_yes (is_key a.request.requester a.request.invoke c.request)
]

-- and of those of its parts
has_rest : (x b : List Arrival) → HaveKeys (x ++ b) b
has_rest x b a there =
    list_any-append (λ (c : Arrival). is_key a.request.requester a.request.invoke c.request) x b
    ∙ ap (λ (r : Bool). has_key x a.request.requester a.request.invoke || r) (has_itself b a there)
    ∙ or_yes (has_key x a.request.requester a.request.invoke)

has_more : (x y b : List Arrival) → HaveKeys x b → HaveKeys (x ++ y) b
has_more x y b known a there =
    list_any-append (λ (c : Arrival). is_key a.request.requester a.request.invoke c.request) x y
    ∙ ap (λ (r : Bool). r || has_key y a.request.requester a.request.invoke) (known a there)

pub again_adds_nothing : (limit : ℕ) (a b c : List Arrival) → firsts limit (a ++ b ++ b ++ c) ≡ firsts limit (a ++ b ++ c)
again_adds_nothing limit a b c = ap (take limit) (alike_more c (a ++ b ++ b) (a ++ b) (alike_again b (a ++ b) (has_rest a b))).same

-- ---- a log ----

-- how one number relates to another
either_more : (a b : ℕ) → ((k : ℕ) × (b ≡ a + k)) ⊎ ((k : ℕ) × (a ≡ b + k))
either_more zero b = inl (b, omega arith)
either_more (suc a) zero = inr (suc a, omega arith)
either_more (suc a) (suc b) = elim (either_more a b) [
  | inl more ↦ inl (more.0, omega (arith, more.1))
  | inr more ↦ inr (more.0, omega (arith, more.1))
]

-- a part up to a place that was reached
part_within : (log : List Arrival) (place count more : ℕ) → Alike (take (place + count + more) log ++ take count (drop place log)) (take (place + count + more) log)
part_within log place count more =
    let whole : take (place + count + more) log ≡ take (place + count) log ++ take more (drop (place + count) log) = take-add (place + count) more log in
    let front : take (place + count) log ≡ take place log ++ take count (drop place log) = take-add place count log in
    alike_again (take count (drop place log)) (take (place + count + more) log)
    (subst (λ (s : List Arrival). HaveKeys s (take count (drop place log))) (sym whole)
    (has_more (take (place + count) log) (take more (drop (place + count) log)) (take count (drop place log))
    (subst (λ (s : List Arrival). HaveKeys s (take count (drop place log))) (sym front) (has_rest (take place log) (take count (drop place log))))))

-- a part beyond it
part_beyond : (log : List Arrival) (place count more : ℕ) → Alike (take (place + count) log ++ take (count + more) (drop place log)) (take (place + count + more) log)
part_beyond log place count more =
    let within : Alike (take (place + count) log ++ take count (drop place log)) (take (place + count) log)
    = subst (λ (n : ℕ). Alike (take n log ++ take count (drop place log)) (take n log)) (omega arith) (part_within log place count 0) in
    let rest : List Arrival = take more (drop (place + count) log) in
    subst (λ (s : List Arrival). Alike (take (place + count) log ++ s) (take (place + count + more) log))
    (sym (take-add count more (drop place log) ∙ ap (λ (s : List Arrival). take count (drop place log) ++ take more s) (drop-drop count place log)))
    (subst (λ (s : List Arrival). Alike s (take (place + count + more) log)) (append_assoc (take (place + count) log) (take count (drop place log)) rest)
    (subst (Alike ((take (place + count) log ++ take count (drop place log)) ++ rest)) (sym (take-add (place + count) more log))
    (alike_more rest (take (place + count) log ++ take count (drop place log)) (take (place + count) log) within)))

one_part : (log : List Arrival) (reached place count : ℕ) → place ≤ reached → Alike (take reached log ++ take count (drop place log)) (take (max reached (place + count)) log)
one_part log reached place count before = elim (either_more (place + count) reached) [
  | inl more ↦ subst (λ (n : ℕ). Alike (take reached log ++ take count (drop place log)) (take n log)) (omega (arith, more.1))
      (subst (λ (n : ℕ). Alike (take n log ++ take count (drop place log)) (take n log)) (sym more.1) (part_within log place count more.0))
  | inr more ↦
      let old_count : ℕ = reached - place in
      let there : place + old_count ≡ reached = omega (arith, before) in
      let all : old_count + more.0 ≡ count = omega (arith, more.1, before) in
      subst (λ (n : ℕ). Alike (take reached log ++ take count (drop place log)) (take n log)) (omega (arith, more.1, before))
      (subst (λ (n : ℕ). Alike (take n log ++ take count (drop place log)) (take (n + more.0) log)) there
      (subst (λ (n : ℕ). Alike (take (place + old_count) log ++ take n (drop place log)) (take (place + old_count + more.0) log)) all (part_beyond log place old_count more.0)))
]

alike_fed : (log : List Arrival) (reached : ℕ) (fed : List Arrival) → IsFed log reached fed → Alike fed (take reached log)
alike_fed log _ _ nothing = itself []
alike_fed log _ _ (part reached fed before place count back) =
    followed (fed ++ take count (drop place log)) (take reached log ++ take count (drop place log)) (take (max reached (place + count)) log)
    (alike_more (take count (drop place log)) fed (take reached log) (alike_fed log reached fed before))
    (one_part log reached place count back)

pub fed_holds_the_log : (limits : Limits) (log : List Arrival) (reached : ℕ) (fed : List Arrival) → IsFed log reached fed → desk_run limits fed ≡ desk_run limits (take reached log)
fed_holds_the_log limits log reached fed h = ap (λ (s : List Arrival). run_from (empty_content limits) (take limits.requests s)) (alike_fed log reached fed h).same

-- ---- answers ----

-- an answer stays the same, whatever is fed after it
stays : (n : Limits) (more list : List Arrival) (r : Request) → has_key list r.requester r.invoke ≡ true → reply_to n (list ++ more) r ≡ reply_to n list r
stays n [] list r known = ap (λ (s : List Arrival). reply_to n s r) (append-nil list)
stays n (a ∷ more) list r known =
    ap (λ (s : List Arrival). reply_to n s r) (sym (append_assoc list (a ∷ []) more))
    ∙ stays n more (list ++ a ∷ []) r (has-push list a r.requester r.invoke ∙ ap (λ (b : Bool). b || is_key r.requester r.invoke a.request) known)
    ∙ reply_stays n list a r known

-- the answer at a place of the log, by the arrivals before it
answer_at : (limits : Limits) (log : List Arrival) (reached : ℕ) (fed : List Arrival) → IsFed log reached fed
    → (before : List Arrival) (a : Arrival) (rest : List Arrival) → log ≡ before ++ a ∷ rest → length before < reached
    → reply_to limits fed a.request ≡ reply_to limits (before ++ a ∷ []) a.request
answer_at limits log reached fed h before a rest e there =
    let more : ℕ = reached - (length before + 1) in
    let size : length (before ++ a ∷ []) + more ≡ reached = omega (arith, there, length-append before (a ∷ [])) in
    let front : take reached log ≡ (before ++ a ∷ []) ++ take more rest
    = ap (λ (s : List Arrival). take reached s) (e ∙ sym (append_assoc before (a ∷ []) rest))
    ∙ ap (λ (n : ℕ). take n ((before ++ a ∷ []) ++ rest)) (sym size)
    ∙ take-append-add (before ++ a ∷ []) rest more in
    ap (λ (c : Content). answer_in c a.request) (fed_holds_the_log limits log reached fed h)
    ∙ ap (λ (s : List Arrival). reply_to limits s a.request) front
    ∙ stays limits (take more rest) (before ++ a ∷ []) a.request (has_within before [] a)

pub desks_agree : (limits : Limits) (log : List Arrival) (here there : ℕ) (mine yours : List Arrival) → IsFed log here mine → IsFed log there yours
    → (before : List Arrival) (a : Arrival) (rest : List Arrival) → log ≡ before ++ a ∷ rest → length before < here → length before < there
    → reply_to limits mine a.request ≡ reply_to limits yours a.request
desks_agree limits log here there mine yours f s before a rest e h t =
    answer_at limits log here mine f before a rest e h ∙ sym (answer_at limits log there yours s before a rest e t)
