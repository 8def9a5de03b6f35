-- A desk over any content: one answer more, and what that is from a sound one.
use Rattle.std.proofs.Common.{◌≡◌, List, [], ◌∷◌, ◌++◌, refl, sym, ap, ap₂, subst, ◌∙◌, append_assoc, append-nil, Bool, true, false, cond, inl, inr, ◌⊎◌}
use Rattle.std.specs.List.{Contains}
use Rattle.acd_terms.specs.declared.command.Arrival.{Arrival}
use Rattle.acd_book.specs.Content.{Content}
use Rattle.acd_desk.specs.declared.taken.Taken.{Taken}
use Rattle.acd_desk.specs.Contents.Replies.{answer_in, after}
use Rattle.acd_desk.specs.Contents.AcceptedArrivals.{is_fault, answers_sent}
use Rattle.acd_desk.specs.Contents.SoundContent.{IsSound, ran_after, replies, StopsAt}
use Rattle.acd_desk.specs.Contents.AnyContent.{led, answers_to, StopsFrom}
use Rattle.acd_desk.proofs.Contents.LongerLists.{ran_none, ran_push, replies_push, sent-push}

-- ---- one more ----

pub led_push : (c : Content) (l : List Arrival) (a : Arrival) → after (led c l) a ≡ led c (l ++ a ∷ [])
led_push c [] a = refl
led_push c (x ∷ l) a = led_push (after c x) l a

answers_push : (c : Content) (l : List Arrival) (a : Arrival) → answers_to c l ++ answer_in (after (led c l) a) a.request ∷ [] ≡ answers_to c (l ++ a ∷ [])
answers_push c [] a = refl
answers_push c (x ∷ l) a = ap (λ (ts : List Taken). answer_in (after c x) x.request ∷ ts) (answers_push (after c x) l a)

pub one_said : (start : Content) (l : List Arrival) (ts : List Taken) (a : Arrival) (t : Taken) → answers_sent ts ≡ answers_to start l
    → (is_fault t ≡ false → t ≡ answer_in (after (led start l) a) a.request) → answers_sent (ts ++ t ∷ []) ≡ answers_to start (l ++ cond (is_fault t) [] (a ∷ []))
one_said start l ts a t so_far says =
    let P : Bool → Type 0 = λ b. answers_to start l ++ cond b [] (t ∷ []) ≡ answers_to start (l ++ cond b [] (a ∷ [])) in
    let cases : (b : Bool) → is_fault t ≡ b → P b
    = λ b. elim b as (λ b. is_fault t ≡ b → P b) [
      | true ↦ λ e. append-nil (answers_to start l) ∙ ap (answers_to start) (sym (append-nil l))
      | false ↦ λ e. ap (λ (u : Taken). answers_to start l ++ u ∷ []) (says e) ∙ answers_push start l a
    ] in
    sent-push ts t ∙ ap (λ (s : List Taken). s ++ cond (is_fault t) [] (t ∷ [])) so_far ∙ cases (is_fault t) refl

pub one_content : (start : Content) (l : List Arrival) (a : Arrival) (t : Taken) (new : Content)
    → (is_fault t ≡ false → new ≡ after (led start l) a) → (is_fault t ≡ true → new ≡ led start l) → new ≡ led start (l ++ cond (is_fault t) [] (a ∷ []))
one_content start l a t new good bad =
    let P : Bool → Type 0 = λ b. new ≡ led start (l ++ cond b [] (a ∷ [])) in
    let cases : (b : Bool) → is_fault t ≡ b → P b
    = λ b. elim b as (λ b. is_fault t ≡ b → P b) [
      | true ↦ λ e. bad e ∙ ap (led start) (sym (append-nil l))
      | false ↦ λ e. good e ∙ led_push start l a
    ] in
    cases (is_fault t) refl

pub one_stop : (start : Content) (l u v : List Arrival) (a : Arrival) (t : Taken) (c : Content) → (is_fault t ≡ true → (x : Arrival) → Contains u x → Contains v x)
    → (is_fault t ≡ false → c ≡ after (led start l) a) → (is_fault t ≡ true → StopsFrom start l u c ⊎ (Contains v a × (c ≡ after (led start l) a)))
    → StopsFrom start (l ++ cond (is_fault t) [] (a ∷ [])) v c
one_stop start l u v a t c stay good bad =
    let P : Bool → Type 0 = λ b. StopsFrom start (l ++ cond b [] (a ∷ [])) v c in
    let cases : (b : Bool) → is_fault t ≡ b → P b
    = λ b. elim b as (λ b. is_fault t ≡ b → P b) [
      | true ↦ λ e. subst (λ (s : List Arrival). StopsFrom start s v c) (sym (append-nil l))
          (elim (bad e) [
            | inl old ↦ elim old [
              | inl same ↦ inl same
              | inr more ↦ inr (more.0, stay e more.0 more.1, more.2)
            ]
            | inr made ↦ inr (a, made.0, made.1 ∙ led_push start l a)
          ])
      | false ↦ λ e. inl (good e ∙ led_push start l a)
    ] in
    cases (is_fault t) refl

-- ---- from a run of the desk it is the longer run ----

led_on : (s : Content) (before list : List Arrival) → led (ran_after s before) list ≡ ran_after s (before ++ list)
led_on s before [] = ap (ran_after s) (sym (append-nil before))
led_on s before (a ∷ list) =
    ap (λ (d : Content). led d list) (ran_push s before a) ∙ led_on s (before ++ a ∷ []) list ∙ ap (ran_after s) (append_assoc before (a ∷ []) list)

answered_on : (s : Content) (before list : List Arrival) → replies s before ++ answers_to (ran_after s before) list ≡ replies s (before ++ list)
answered_on s before [] = append-nil (replies s before) ∙ ap (replies s) (sym (append-nil before))
answered_on s before (a ∷ list) =
    let turn : Taken = answer_in (after (ran_after s before) a) a.request in
    sym (append_assoc (replies s before) (turn ∷ []) (answers_to (after (ran_after s before) a) list))
    ∙ ap₂ (λ (ts : List Taken) (d : Content). ts ++ answers_to d list) (replies_push s before a) (ran_push s before a)
    ∙ answered_on s (before ++ a ∷ []) list
    ∙ ap (replies s) (append_assoc before (a ∷ []) list)

-- so it is from a sound content
pub sound_led : (c : Content) (list : List Arrival) → IsSound c → led c list ≡ ran_after c list
sound_led c list sound = ap (λ (d : Content). led d list) (ran_none c sound) ∙ led_on c [] list

pub sound_answers : (c : Content) (list : List Arrival) → IsSound c → answers_to c list ≡ replies c list
sound_answers c list sound = ap (λ (d : Content). answers_to d list) (ran_none c sound) ∙ answered_on c [] list

pub sound_stop : (start : Content) (list others : List Arrival) (c : Content) → IsSound start → StopsFrom start list others c → StopsAt start list others c
sound_stop start list others c sound at = elim at [
  | inl same ↦ inl (same ∙ sound_led start list sound)
  | inr more ↦ inr (more.0, more.1, more.2 ∙ sound_led start (list ++ more.0 ∷ []) sound)
]
