-- The look-up by key answers what the table by place says.
use Rattle.std.proofs.Common.{◌≡◌, ◌≢◌, ◌⊎◌, inl, inr, ℕ, zero, suc, take, find, Bool, true, false, cond, ◌||◌, List, [], ◌∷◌, ◌++◌, Option, Some, None, refl, sym, ap, subst, ◌∙◌, append-nil, append_assoc, true≢false}
use Rattle.std.specs.Option.{option_or}
use Rattle.std.proofs.lemmas.List.Folds.{find-append}
use Rattle.acd_terms.specs.Lists.{Among}
use Rattle.acd_terms.specs.declared.rows.Limits.{Limits}
use Rattle.acd_terms.specs.declared.command.Request.{Request}
use Rattle.acd_terms.specs.declared.command.Arrival.{Arrival}
use Rattle.acd_book.specs.declared.kept.Kept.{Kept}
use Rattle.acd_book.specs.Content.{Content, empty_content, is_key, kept_of}
use Rattle.acd_desk.specs.declared.taken.Taken.{Taken}
use Rattle.acd_desk.specs.declared.taken.Taken.TheVariants.{Reply, InvokeReused}
use Rattle.acd_desk.specs.Contents.AbstractDesk.{has_key, distinct_from, firsts, record_of, executed, run_from, desk_run}
use Rattle.acd_desk.specs.Contents.Replies.{same_request, answer_of, reply_to, StandTogether, StandsFirst, IsEarlier, IsReplyAt, first_arrival, repeat, reused, full}
use Rattle.acd_desk.proofs.Contents.Keys.{same_itself}
use Rattle.acd_desk.proofs.Contents.Runs.{has-push}
use Rattle.acd_desk.proofs.Contents.SoundRuns.{New, distinct-new}
use Rattle.acd_desk.proofs.Contents.SameRequests.{same_true}
use Rattle.acd_book.proofs.Keys.{key_same, key_itself}
use Rattle.acd_lemmas.proofs.Lists.{some_is}

-- the records that a run keeps of each arrival in turn
abbrev records : Content → List Arrival → List Kept
records c [] = []
records c (a ∷ l) = record_of c.rows a ∷ records (executed c a) l

kept_records : (l : List Arrival) (c : Content) → (run_from c l).kept ≡ c.kept ++ records c l
kept_records [] c = sym (append-nil c.kept)
kept_records (a ∷ l) c = kept_records l (executed c a) ∙ append_assoc c.kept (record_of c.rows a ∷ []) (records (executed c a) l)

-- an arrival and its record, found by the key
record Found (l : List Arrival) (c : Content) (p : List ℕ) (q : ℕ) : Type 0 where
  first : Arrival
  kept : Kept
  there : kept_of (records c l) p q ≡ Some kept
  together : StandTogether l (records c l) first kept
  same : kept.request ≡ first.request
  key : is_key p q first.request ≡ true

found_or_not : (l : List Arrival) (c : Content) (p : List ℕ) (q : ℕ) → Found l c p q ⊎ ((kept_of (records c l) p q ≡ None) × (has_key l p q ≡ false))
found_or_not [] c p q = inr (refl, refl)
found_or_not (a ∷ l) c p q =
    let P : Bool → Type 0 = λ b. is_key p q a.request ≡ b → Found (a ∷ l) c p q ⊎ ((kept_of (records c (a ∷ l)) p q ≡ None) × (has_key (a ∷ l) p q ≡ false)) in
    let cases : (b : Bool) → P b
    = elim [
      | true ↦ λ e. inl (record {
        first = a;
        kept = record_of c.rows a;
        there = ap (λ (b : Bool). cond b (Some (record_of c.rows a)) (kept_of (records (executed c a) l) p q)) e;
        together = inl (refl, refl);
        same = refl;
        key = e;
      })
      | false ↦ λ e. elim (found_or_not l (executed c a) p q) [
        | inl f ↦ inl (record {
          first = f.first;
          kept = f.kept;
          there = ap (λ (b : Bool). cond b (Some (record_of c.rows a)) (kept_of (records (executed c a) l) p q)) e ∙ f.there;
          together = inr f.together;
          same = f.same;
          key = f.key;
        })
        | inr none ↦ inr (ap (λ (b : Bool). cond b (Some (record_of c.rows a)) (kept_of (records (executed c a) l) p q)) e ∙ none.0, ap (λ (b : Bool). b || has_key l p q) e ∙ none.1)
      ]
    ] in
    cases (is_key p q a.request) refl

none_some : {T : Type 0} (x : T) → None ≡ Some x → ⊥
none_some x h = cc

other_false : (a b : Request) → a ≢ b → same_request a b ≡ false
other_false a b h =
    let cases : (x : Bool) → same_request a b ≡ x → x ≡ false
    = elim [ true ↦ λ e. absurd (h (same_true a b e)) | false ↦ λ e. refl ] in
    cases (same_request a b) refl

-- ---- the first of a key ----

abbrev has_its_key : List ℕ → ℕ → Arrival → Bool
has_its_key p q x = is_key p q x.request

together_among : (l : List Arrival) (ks : List Kept) (x : Arrival) (k : Kept) → StandTogether l ks x k → Among x l
together_among [] ks x k h = absurd h
together_among (a ∷ l) [] x k h = absurd h
together_among (a ∷ l) (r ∷ ks) x k h = elim h [
  | inl here ↦ inl here.0
  | inr there ↦ inr (together_among l ks x k there)
]

among_take : (n : ℕ) (l : List Arrival) (x : Arrival) → Among x (take n l) → Among x l
among_take zero l x h = absurd h
among_take (suc n) [] x h = absurd h
among_take (suc n) (a ∷ l) x h = elim h [
  | inl here ↦ inl here
  | inr there ↦ inr (among_take n l x there)
]

neither : (a b : Bool) → (a || b) ≡ false → (a ≡ false) × (b ≡ false)
neither true b h = absurd (true≢false h)
neither false b h = (refl, h)

-- none of a list of new keys has a key that was seen
unseen : (l seen : List Arrival) (x : Arrival) → New seen l → Among x l → has_key seen x.request.requester x.request.invoke ≡ false
unseen [] seen x new h = absurd h
unseen (a ∷ l) seen x new h = elim h [
  | inl here ↦ subst (λ (y : Arrival). has_key seen y.request.requester y.request.invoke ≡ false) (sym here) new.0
  | inr there ↦ (neither (has_key seen x.request.requester x.request.invoke) (is_key x.request.requester x.request.invoke a.request)
      (sym (has-push seen a x.request.requester x.request.invoke) ∙ unseen l (seen ++ a ∷ []) x new.1 there)).0
]

-- one of those with new keys is the first of its key
first_of_key : (l seen : List Arrival) (x : Arrival) (p : List ℕ) (q : ℕ) → is_key p q x.request ≡ true → Among x (distinct_from seen l) → find (has_its_key p q) l ≡ Some x
first_of_key [] seen x p q key h = absurd h
first_of_key (a ∷ l) seen x p q key h =
    let same : (x.request.requester ≡ p) × (x.request.invoke ≡ q) = key_same p q x.request key in
    let rest : List Arrival = distinct_from (seen ++ a ∷ []) l in
    let in_rest : Among x rest → find (has_its_key p q) (a ∷ l) ≡ Some x
    = λ there.
    let other : is_key x.request.requester x.request.invoke a.request ≡ false
    = (neither (has_key seen x.request.requester x.request.invoke) (is_key x.request.requester x.request.invoke a.request)
    (sym (has-push seen a x.request.requester x.request.invoke) ∙ unseen rest (seen ++ a ∷ []) x (distinct-new l (seen ++ a ∷ []) (seen ++ a ∷ []) (λ r i. refl)) there)).1 in
    let others : is_key p q a.request ≡ false
    = subst (λ (r : List ℕ). is_key r q a.request ≡ false) same.0 (subst (λ (i : ℕ). is_key x.request.requester i a.request ≡ false) same.1 other) in
    ap (λ (b : Bool). cond b (Some a) (find (has_its_key p q) l)) others ∙ first_of_key l (seen ++ a ∷ []) x p q key there in
    let here : x ≡ a → find (has_its_key p q) (a ∷ l) ≡ Some x
    = λ is. ap (λ (b : Bool). cond b (Some a) (find (has_its_key p q) l)) (subst (λ (y : Arrival). is_key p q y.request ≡ true) is key) ∙ ap Some (sym is) in
    let P : Bool → Type 0 = λ b. Among x (cond b [] (a ∷ []) ++ rest) → find (has_its_key p q) (a ∷ l) ≡ Some x in
    let cases : (b : Bool) → P b
    = elim [
      | true ↦ in_rest
      | false ↦ λ at. elim at [ inl is ↦ here is | inr there ↦ in_rest there ]
    ] in
    cases (has_key seen a.request.requester a.request.invoke) h

found_among : (l : List Arrival) (x : Arrival) (p : List ℕ) (q : ℕ) → find (has_its_key p q) l ≡ Some x → Among x l × (is_key p q x.request ≡ true)
found_among [] x p q h = absurd (none_some x h)
found_among (a ∷ l) x p q h =
    let cases : (b : Bool) → is_key p q a.request ≡ b → cond b (Some a) (find (has_its_key p q) l) ≡ Some x → Among x (a ∷ l) × (is_key p q x.request ≡ true)
    = λ b. elim b as (λ b. is_key p q a.request ≡ b → cond b (Some a) (find (has_its_key p q) l) ≡ Some x → Among x (a ∷ l) × (is_key p q x.request ≡ true)) [
      | true ↦ λ e is. (inl (sym (some_is a x is)), subst (λ (y : Arrival). is_key p q y.request ≡ true) (some_is a x is) e)
      | false ↦ λ e is. let rest = found_among l x p q is in (inr rest.0, rest.1)
    ] in
    cases (is_key p q a.request) refl h

none_has : (l : List Arrival) (p : List ℕ) (q : ℕ) → find (has_its_key p q) l ≡ None → has_key l p q ≡ false
none_has [] p q h = refl
none_has (a ∷ l) p q h =
    let cases : (b : Bool) → cond b (Some a) (find (has_its_key p q) l) ≡ None → (b || has_key l p q) ≡ false
    = elim [ true ↦ λ is. absurd (none_some a (sym is)) | false ↦ λ is. none_has l p q is ] in
    cases (is_key p q a.request) h

-- ---- the table ----

-- the first arrival of a key of the list, and its record
pub record FirstOf (limits : Limits) (list : List Arrival) (r : Request) (o : Option Kept) (x : Arrival) (k : Kept) : Type 0 where
  pub there : o ≡ Some k
  pub stands : StandsFirst limits list x k
  pub same : k.request ≡ x.request
  pub first : find (has_its_key r.requester r.invoke) list ≡ Some x

same_answer : (k : Kept) (r : Request) → k.request ≡ r → answer_of (Some k) r ≡ Reply k.status k.body
same_answer k r e = ap (λ (b : Bool). cond b (Reply k.status k.body) InvokeReused) (ap (λ (s : Request). same_request s r) e ∙ same_itself r)

other_answer : (k : Kept) (r : Request) → k.request ≢ r → answer_of (Some k) r ≡ InvokeReused
other_answer k r e = ap (λ (b : Bool). cond b (Reply k.status k.body) InvokeReused) (other_false k.request r e)

-- where the first arrival of its key was found
by_place : (limits : Limits) (before : List Arrival) (a : Arrival) (rest : List Arrival) (o : Option Kept) (x : Arrival) (k : Kept)
    → FirstOf limits (before ++ a ∷ rest) a.request o x k → IsReplyAt limits before a rest (answer_of o a.request)
by_place limits before a rest o x k f =
    let p : List ℕ = a.request.requester in
    let q : ℕ = a.request.invoke in
    let R : Taken → Type 0 = IsReplyAt limits before a rest in
    let list : List Arrival = before ++ a ∷ rest in
    let split : option_or (find (has_its_key p q) before) (find (has_its_key p q) (a ∷ rest)) ≡ Some x = sym (find-append (has_its_key p q) before (a ∷ rest)) ∙ f.first in
    let mine : find (has_its_key p q) (a ∷ rest) ≡ Some a = ap (λ (b : Bool). cond b (Some a) (find (has_its_key p q) rest)) (key_itself a.request) in
    let looked : (t : Taken) → answer_of (Some k) a.request ≡ t → R t → R (answer_of o a.request) = λ t e r. subst R (sym (ap (λ (o : Option Kept). answer_of o a.request) f.there ∙ e)) r in
    let cases : (u : Option Arrival) → find (has_its_key p q) before ≡ u → R (answer_of o a.request)
    = λ u. elim u as (λ u. find (has_its_key p q) before ≡ u → R (answer_of o a.request)) [
      | None ↦ λ e.
          let is : a ≡ x = some_is a x (sym mine ∙ ap (λ (u : Option Arrival). option_or u (find (has_its_key p q) (a ∷ rest))) (sym e) ∙ split) in
          looked (Reply k.status k.body) (same_answer k a.request (f.same ∙ ap (λ (y : Arrival). y.request) (sym is)))
          (first_arrival k (none_has before p q e) (subst (λ (y : Arrival). StandsFirst limits list y k) (sym is) f.stands))
      | Some y ↦ λ e.
          let is : y ≡ x = some_is y x (ap (λ (u : Option Arrival). option_or u (find (has_its_key p q) (a ∷ rest))) (sym e) ∙ split) in
          let there = found_among before y p q e in
          let earlier : IsEarlier before a x = subst (IsEarlier before a) is (record { stands = there.0; key = there.1 }) in
          let same : (b : Bool) → same_request x.request a.request ≡ b → R (answer_of o a.request)
          = λ b. elim b as (λ b. same_request x.request a.request ≡ b → R (answer_of o a.request)) [
            | true ↦ λ h. let one : x.request ≡ a.request = same_true x.request a.request h in
                looked (Reply k.status k.body) (same_answer k a.request (f.same ∙ one)) (repeat x k earlier f.stands one)
            | false ↦ λ h. let two : x.request ≢ a.request = λ one. true≢false (sym (ap (λ (s : Request). same_request s a.request) one ∙ same_itself a.request) ∙ h) in
                looked InvokeReused (other_answer k a.request (λ one. two (sym f.same ∙ one))) (reused x k earlier f.stands two)
          ] in
          same (same_request x.request a.request) refl
    ] in
    cases (find (has_its_key p q) before) refl

pub reply_by_place : (limits : Limits) (before : List Arrival) (a : Arrival) (rest : List Arrival) → IsReplyAt limits before a rest (reply_to limits (before ++ a ∷ rest) a.request)
reply_by_place limits before a rest =
    let p : List ℕ = a.request.requester in
    let q : ℕ = a.request.invoke in
    let list : List Arrival = before ++ a ∷ rest in
    let f : List Arrival = firsts limits.requests list in
    let kept : (desk_run limits list).kept ≡ records (empty_content limits) f = kept_records f (empty_content limits) in
    elim (found_or_not f (empty_content limits) p q) [
      | inl x ↦ by_place limits before a rest (kept_of (desk_run limits list).kept p q) x.first x.kept (record {
        there = ap (λ (ks : List Kept). kept_of ks p q) kept ∙ x.there;
        stands = subst (λ (ks : List Kept). StandTogether f ks x.first x.kept) (sym kept) x.together;
        same = x.same;
        first = first_of_key list [] x.first p q x.key (among_take limits.requests (distinct_from [] list) x.first (together_among f (records (empty_content limits) f) x.first x.kept x.together));
      })
      | inr none ↦ subst (IsReplyAt limits before a rest) (sym (ap (λ (ks : List Kept). answer_of (kept_of ks p q) a.request) kept ∙ ap (λ (o : Option Kept). answer_of o a.request) none.0)) (full none.1)
    ]
