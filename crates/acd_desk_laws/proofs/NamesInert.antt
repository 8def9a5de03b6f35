-- Runs of a desk over arrivals without their names: those over the arrivals, less the names. So names are inert (`names_are_inert`).
use Rattle.std.proofs.Common.{◌≡◌, ℕ, Bool, true, false, cond, List, [], ◌∷◌, ◌++◌, Option, Some, None, refl, sym, ◌∙◌, ap, ap₂, subst, map, take, inl, inr, ◌+◌, max, ◌||◌}
use Rattle.std.proofs.lemmas.List.{map-append, take-map}
use Rattle.std.proofs.lemmas.Simd.{map-map}
use Rattle.acd_terms.specs.Lists.{Among, Every}
use Rattle.acd_terms.specs.declared.rows.Limits.{Limits}
use Rattle.acd_terms.specs.declared.command.Request.{Request}
use Rattle.acd_terms.specs.declared.command.Arrival.{Arrival}
use Rattle.acd_model.specs.Step.{Stepped}
use Rattle.acd_lemmas.proofs.Lists.{every_among, every_from, every-take, every-append, find_among, find_passes}
use Rattle.acd_laws.specs.NameLaws.{unnamed}
use Rattle.acd_lemmas.proofs.MappedLists.{find-map, of-option_map}
use Rattle.acd_laws.proofs.Names.NamesInert.{step_unnamed}
use Rattle.acd_book.specs.declared.kept.Kept.{Kept}
use Rattle.acd_book.specs.Content.{Content, empty_content, committed, is_key, kept_of}
use Rattle.acd_desk.specs.declared.taken.Taken.{Taken}
use Rattle.acd_desk.specs.declared.taken.Taken.TheVariants.{Reply, InvokeReused, DeskFull}
use Rattle.acd_desk.specs.Contents.AbstractDesk.{has_key, distinct_from, firsts, kept_at, record_of, executed, run_from, desk_run}
use Rattle.acd_desk.specs.Contents.Replies.{same_request, answer_of, reply_to}
use Rattle.acd_desk_laws.specs.NameLaws.{unnamed_request, unnamed_arrival, unnamed_kept, HasOneRequestAKey, answers, SameArrivalsButNames, ContentIgnoresNames, AnswersIgnoreNames}
use Rattle.acd_desk.proofs.Contents.Keys.{same_itself}

abbrev unnamed_content : Content → Content
unnamed_content c = record c { rows = unnamed c.rows; kept = map unnamed_kept c.kept }

-- contents

executed_unnamed : (c : Content) (a : Arrival) → executed (unnamed_content c) (unnamed_arrival a) ≡ unnamed_content (executed c a)
unfolding unnamed
executed_unnamed c a =
    ap (λ (one : Stepped). committed one.rows one.events (kept_at (c.rows.last_stamp + 1) (max a.moment c.rows.last_moment) (unnamed_request a.request) one.outcome) (unnamed_content c)) (step_unnamed c.rows a.moment a.request.command)
    ∙ ap (λ l. let d : Content = record { rows = unnamed (executed c a).rows; events = (executed c a).events; kept = l } in d) (sym (map-append unnamed_kept c.kept (record_of c.rows a ∷ [])))

run_from_unnamed : (l : List Arrival) (c : Content) → run_from (unnamed_content c) (map unnamed_arrival l) ≡ unnamed_content (run_from c l)
run_from_unnamed [] c = refl
run_from_unnamed (a ∷ l) c = ap (λ d. run_from d (map unnamed_arrival l)) (executed_unnamed c a) ∙ run_from_unnamed l (executed c a)

-- whose key is new is said by keys alone

has_key_unnamed : (l : List Arrival) (p : List ℕ) (q : ℕ) → has_key (map unnamed_arrival l) p q ≡ has_key l p q
has_key_unnamed [] p q = refl
has_key_unnamed (a ∷ l) p q = ap (λ b. is_key p q a.request || b) (has_key_unnamed l p q)

distinct_unnamed : (l seen : List Arrival) → distinct_from (map unnamed_arrival seen) (map unnamed_arrival l) ≡ map unnamed_arrival (distinct_from seen l)
distinct_unnamed [] seen = refl
distinct_unnamed (a ∷ l) seen =
    rw (has_key_unnamed seen a.request.requester a.request.invoke, sym (map-append unnamed_arrival seen (a ∷ [])), distinct_unnamed l (seen ++ a ∷ []))
    (elim (has_key seen a.request.requester a.request.invoke) as (λ b. cond b [] (unnamed_arrival a ∷ []) ++ map unnamed_arrival (distinct_from (seen ++ a ∷ []) l) ≡ map unnamed_arrival (cond b [] (a ∷ []) ++ distinct_from (seen ++ a ∷ []) l)) [
      | true ↦ refl
      | false ↦ refl
    ])

run_unnamed : (limits : Limits) (l : List Arrival) → desk_run limits (map unnamed_arrival l) ≡ unnamed_content (desk_run limits l)
unfolding unnamed
run_unnamed limits l =
    ap (run_from (empty_content limits)) (ap (take limits.requests) (distinct_unnamed l []) ∙ take-map unnamed_arrival limits.requests (distinct_from [] l))
    ∙ run_from_unnamed (firsts limits.requests l) (empty_content limits)

same_contents : (limits : Limits) (xs ys : List Arrival) → SameArrivalsButNames xs ys → unnamed_content (desk_run limits xs) ≡ unnamed_content (desk_run limits ys)
same_contents limits xs ys same = sym (run_unnamed limits xs) ∙ ap (desk_run limits) same ∙ run_unnamed limits ys

pub content_ignores_names : ContentIgnoresNames
content_ignores_names limits xs ys same =
    let one : unnamed_content (desk_run limits xs) ≡ unnamed_content (desk_run limits ys) = same_contents limits xs ys same in
    record {
      rows = ap (λ (c : Content). c.rows) one;
      events = ap (λ (c : Content). c.events) one;
      kept = ap (λ (c : Content). c.kept) one;
    }

-- answers

-- a request that is in the list
abbrev AskedIn : List Arrival → Request → Type 0
AskedIn list r = (a : Arrival) × (Among a list × (r ≡ a.request))

abbrev AllAsked : List Arrival → List Kept → Type 0
AllAsked list kept = Every (λ (k : Kept). AskedIn list k.request) kept

kept_asked : (list l : List Arrival) (c : Content) → AllAsked list c.kept → Every (λ (a : Arrival). Among a list) l → AllAsked list (run_from c l).kept
kept_asked list [] c old new = old
kept_asked list (a ∷ l) c old new = kept_asked list l (executed c a) (every-append (λ (k : Kept). AskedIn list k.request) c.kept (record_of c.rows a ∷ []) old ((a, (new.0, refl)), tt)) new.1

every_distinct : (P : Arrival → Type 0) (l seen : List Arrival) → Every P l → Every P (distinct_from seen l)
every_distinct P [] seen h = tt
every_distinct P (a ∷ l) seen h =
    elim (has_key seen a.request.requester a.request.invoke) as (λ b. Every P (cond b [] (a ∷ []) ++ distinct_from (seen ++ a ∷ []) l)) [
      | true ↦ every_distinct P l (seen ++ a ∷ []) h.1
      | false ↦ (h.0, every_distinct P l (seen ++ a ∷ []) h.1)
    ]

-- the reply that is kept, whatever was asked
abbrev kept_reply : Option Kept → Taken
kept_reply None = DeskFull
kept_reply (Some k) = Reply k.status k.body

reply_is_kept : (limits : Limits) (list : List Arrival) (a : Arrival) → HasOneRequestAKey list → Among a list
    → reply_to limits list a.request ≡ kept_reply (kept_of (desk_run limits list).kept a.request.requester a.request.invoke)
reply_is_kept limits list a once there =
    let p : List ℕ = a.request.requester in
    let q : ℕ = a.request.invoke in
    let kept : List Kept = (desk_run limits list).kept in
    let asked : AllAsked list kept = kept_asked list (firsts limits.requests list) (empty_content limits) tt
    (every-take (λ (x : Arrival). Among x list) limits.requests (distinct_from [] list) (every_distinct (λ (x : Arrival). Among x list) list [] (every_from (λ (x : Arrival). Among x list) list (λ x i. i)))) in
    (elim (kept_of kept p q) as (λ o. kept_of kept p q ≡ o → answer_of o a.request ≡ kept_reply o) [
      | None ↦ λ e. refl
      | Some k ↦ λ e.
          let by : AskedIn list k.request = every_among (λ (k : Kept). AskedIn list k.request) kept k asked (find_among (λ (k : Kept). is_key p q k.request) kept k e) in
          let key : is_key p q k.request ≡ true = find_passes (λ (k : Kept). is_key p q k.request) kept k e in
          let same : a.request ≡ k.request = once a by.0 there by.1.0 (subst (λ (r : Request). is_key p q r ≡ true) by.1.1 key) ∙ sym by.1.1 in
          ap (λ (b : Bool). cond b (Reply k.status k.body) InvokeReused) (ap (same_request k.request) same ∙ same_itself k.request)
    ]) refl

-- over the list
map_alike : {X Y : Type 0} (f g : X → Y) (xs : List X) → ((x : X) → Among x xs → f x ≡ g x) → map f xs ≡ map g xs
map_alike f g [] h = refl
map_alike f g (x ∷ xs) h = ap₂ (λ y l. y ∷ l) (h x (inl refl)) (map_alike f g xs (λ z i. h z (inr i)))

-- what is kept without names gives the same answers, by keys alone
answers_unnamed : (limits : Limits) (list : List Arrival) → HasOneRequestAKey list
    → answers limits list ≡ map (λ (a : Arrival). kept_reply (kept_of (map unnamed_kept (desk_run limits list).kept) a.request.requester a.request.invoke)) (map unnamed_arrival list)
answers_unnamed limits list once =
    map_alike _ _ list (λ a i. reply_is_kept limits list a once i ∙ reply_unnamed (desk_run limits list).kept a.request.requester a.request.invoke)
    ∙ sym (map-map (λ (a : Arrival). kept_reply (kept_of (map unnamed_kept (desk_run limits list).kept) a.request.requester a.request.invoke)) unnamed_arrival list)
  where
    reply_unnamed : (kept : List Kept) (p : List ℕ) (q : ℕ) → kept_reply (kept_of kept p q) ≡ kept_reply (kept_of (map unnamed_kept kept) p q)
    reply_unnamed kept p q =
        sym (ap kept_reply (find-map unnamed_kept (λ (k : Kept). is_key p q k.request) (λ (k : Kept). is_key p q k.request) (λ k. refl) kept)
        ∙ of-option_map unnamed_kept kept_reply kept_reply refl (λ k. refl) (kept_of kept p q))

pub answers_ignore_names : AnswersIgnoreNames
answers_ignore_names limits xs ys same once_x once_y =
    answers_unnamed limits xs once_x
    ∙ ap₂ (λ (kept : List Kept) (l : List Arrival). map (λ (a : Arrival). kept_reply (kept_of kept a.request.requester a.request.invoke)) l) (content_ignores_names limits xs ys same).kept same
    ∙ sym (answers_unnamed limits ys once_y)
