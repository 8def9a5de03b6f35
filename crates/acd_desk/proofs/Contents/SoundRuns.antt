-- The result of a run is sound: it replays to itself.
use Rattle.std.proofs.Common.{◌≡◌, ℕ, ◌+◌, ◌≤◌, List, [], ◌∷◌, ◌++◌, length, take, zero, suc, refl, sym, ap, ap₂, subst, ◌∙◌, arith, append_assoc, append-nil, Bool, true, false, cond, ◌||◌, take_all, inl, inr}
use Rattle.std.proofs.lemmas.List.{map-append}
use Rattle.std.proofs.lemmas.Grind.{common_steps}
use Rattle.acd_terms.specs.Limits.{limits_fit}
use Rattle.acd_terms.specs.declared.rows.Limits.{Limits}
use Rattle.acd_terms.specs.declared.command.Arrival.{Arrival}
use Rattle.acd_model.specs.Step.{Stepped, executed_moment}
use Rattle.acd_book.specs.declared.kept.Kept.{Kept}
use Rattle.acd_book.specs.Content.{Content, empty_content, is_key}
use Rattle.acd_desk.specs.Contents.AbstractDesk.{has_key, distinct_from, firsts, kept_at, record_of, executed, run_from, desk_run}
use Rattle.acd_desk.specs.Contents.SoundContent.{arrivals_of, IsSound, ran_after, raised_from, StopsAt}
use Rattle.acd_desk.proofs.Contents.Steps.{step_raised, raised_again}
use Rattle.acd_desk.proofs.Contents.Runs.{has-push, run-limits}
use Rattle.acd_book.proofs.Keys.{key_same}

-- each has a key that none before it has
abbrev pub New : List Arrival → List Arrival → Type 0
New seen [] = Unit {0}
New seen (a ∷ l) = (has_key seen a.request.requester a.request.invoke ≡ false) × New (seen ++ a ∷ []) l

abbrev pub SameKeys : List Arrival → List Arrival → Type 0
SameKeys s t = (p : List ℕ) (q : ℕ) → has_key s p q ≡ has_key t p q

pub new-distinct : (l seen : List Arrival) → New seen l → distinct_from seen l ≡ l
new-distinct [] seen h = refl
new-distinct (x ∷ l) seen h =
    ap (λ (b : Bool). cond b [] (x ∷ []) ++ distinct_from (seen ++ x ∷ []) l) h.0 ∙ ap (λ (s : List Arrival). x ∷ s) (new-distinct l (seen ++ x ∷ []) h.1)

same-push : (s t : List Arrival) (x y : Arrival) → SameKeys s t → x.request ≡ y.request → SameKeys (s ++ x ∷ []) (t ++ y ∷ [])
same-push s t x y same e p q =
    has-push s x p q ∙ ap₂ (λ (a : Bool) (b : Bool). a || b) (same p q) (ap (λ r. is_key p q r) e) ∙ sym (has-push t y p q)

or_known : (a b : Bool) → (b ≡ true → a ≡ true) → a ≡ (a || b)
or_known true b h = refl
or_known false true h = h refl
or_known false false h = refl

same_known : (s t : List Arrival) (x : Arrival) → SameKeys s t → has_key t x.request.requester x.request.invoke ≡ true → SameKeys s (t ++ x ∷ [])
same_known s t x same known p q =
    same p q
    ∙ or_known (has_key t p q) (is_key p q x.request) (λ is. let both : (x.request.requester ≡ p) × (x.request.invoke ≡ q) = key_same p q x.request is in
    sym (ap (λ (n : List ℕ). has_key t n x.request.invoke) both.0 ∙ ap (λ (n : ℕ). has_key t p n) both.1) ∙ known)
    ∙ sym (has-push t x p q)

pub distinct-new : (l seen mine : List Arrival) → SameKeys mine seen → New mine (distinct_from seen l)
distinct-new [] seen mine same = tt
distinct-new (x ∷ l) seen mine same =
    let P : Bool → Type 0 = λ b. New mine (cond b [] (x ∷ []) ++ distinct_from (seen ++ x ∷ []) l) in
    let cases : (b : Bool) → has_key seen x.request.requester x.request.invoke ≡ b → P b
    = λ b. elim b as (λ b. has_key seen x.request.requester x.request.invoke ≡ b → P b) [
      | true ↦ λ e. distinct-new l (seen ++ x ∷ []) mine (same_known mine seen x same e)
      | false ↦ λ e. (same x.request.requester x.request.invoke ∙ e, distinct-new l (seen ++ x ∷ []) (mine ++ x ∷ []) (same-push mine seen x x same refl))
    ] in
    cases (has_key seen x.request.requester x.request.invoke) refl

pub new-take : (n : ℕ) (l seen : List Arrival) → New seen l → New seen (take n l)
new-take zero l seen h = tt
new-take (suc n) [] seen h = tt
new-take (suc n) (x ∷ l) seen h = (h.0, new-take n l (seen ++ x ∷ []) h.1)

new-raised : (l seen mine : List Arrival) (c : Content) → SameKeys mine seen → New seen l → New mine (raised_from c l)
new-raised [] seen mine c same h = tt
new-raised (x ∷ l) seen mine c same h =
    (same x.request.requester x.request.invoke ∙ h.0, new-raised l (seen ++ x ∷ []) (mine ++ record { moment = executed_moment c.rows x.moment; request = x.request } ∷ []) (executed c x) (same-push mine seen (record { moment = executed_moment c.rows x.moment; request = x.request }) x same refl) h.1)

pub length-raised : (l : List Arrival) (c : Content) → length (raised_from c l) ≡ length l
length-raised [] c = refl
length-raised (x ∷ l) c = let e = length-raised l (executed c x) in omega (arith, e)

-- a step at its executed moment, with its record
executed-raised : (c : Content) (x : Arrival) → executed c (record { moment = executed_moment c.rows x.moment; request = x.request }) ≡ executed c x
executed-raised c x =
    ap₂ (λ (s : Stepped) (m : ℕ). record { rows = s.rows; events = c.events ++ s.events; kept = c.kept ++ kept_at (c.rows.last_stamp + 1) m x.request s.outcome ∷ [] })
    (step_raised c.rows x.moment x.request.command) (raised_again c.rows x.moment)

run-raised : (l : List Arrival) (c : Content) → run_from c (raised_from c l) ≡ run_from c l
run-raised [] c = refl
run-raised (x ∷ l) c =
    ap (λ (d : Content). run_from d (raised_from (executed c x) l)) (executed-raised c x) ∙ run-raised l (executed c x)

-- the kept list of a run is its list, at executed moments
pub kept-raised : (l : List Arrival) (c : Content) → arrivals_of (run_from c l).kept ≡ arrivals_of c.kept ++ raised_from c l
kept-raised [] c = sym (append-nil (arrivals_of c.kept))
kept-raised (x ∷ l) c =
    kept-raised l (executed c x)
    ∙ ap (λ (s : List Arrival). s ++ raised_from (executed c x) l) (map-append (λ (k : Kept). record { moment = k.moment; request = k.request }) c.kept (record_of c.rows x ∷ []))
    ∙ append_assoc (arrivals_of c.kept) (record { moment = executed_moment c.rows x.moment; request = x.request } ∷ []) (raised_from (executed c x) l)

pub arrivals_append : (xs ys : List Kept) → arrivals_of (xs ++ ys) ≡ arrivals_of xs ++ arrivals_of ys
arrivals_append xs ys = map-append (λ (k : Kept). record { moment = k.moment; request = k.request }) xs ys

pub length-arrivals : (ks : List Kept) → length (arrivals_of ks) ≡ length ks
length-arrivals [] = refl
length-arrivals (k ∷ ks) = let e = length-arrivals ks in omega (arith, e)

-- a list of distinct keys that isn't too long is equal to its first arrivals
pub firsts_same : (n : ℕ) (l : List Arrival) → distinct_from [] l ≡ l → length l ≤ n → firsts n l ≡ l
firsts_same n l e few = ap (take n) e ∙ take_all n l few

pub sound_list : (c : Content) → IsSound c → c ≡ run_from (empty_content c.rows.limits) (arrivals_of c.kept)
sound_list c sound =
    let size = length-arrivals c.kept in
    let few : length (arrivals_of c.kept) ≤ c.rows.limits.requests = omega (arith, size, sound.few) in
    sound.replays ∙ ap (run_from (empty_content c.rows.limits)) (firsts_same c.rows.limits.requests (arrivals_of c.kept) sound.distinct few)

pub run_sound : (n : Limits) (l : List Arrival) → limits_fit n ≡ true → IsSound (desk_run n l)
run_sound n l fits =
    let f : List Arrival = firsts n.requests l in
    let r : List Arrival = raised_from (empty_content n) f in
    let limits : (desk_run n l).rows.limits ≡ n = run-limits f (empty_content n) in
    let kept : arrivals_of (desk_run n l).kept ≡ r = kept-raised f (empty_content n) in
    let new : New [] r = new-raised f [] [] (empty_content n) (λ p q. refl) (new-take n.requests (distinct_from [] l) [] (distinct-new l [] [] (λ p q. refl))) in
    let short : length f ≤ n.requests = grind (arith, common_steps) in
    let raised : length r ≡ length f = length-raised f (empty_content n) in
    let size : length (arrivals_of (desk_run n l).kept) ≡ length (desk_run n l).kept = length-arrivals (desk_run n l).kept in
    let as_long : length (arrivals_of (desk_run n l).kept) ≡ length r = ap (λ (s : List Arrival). length s) kept in
    let limit : (desk_run n l).rows.limits.requests ≡ n.requests = ap (λ (x : Limits). x.requests) limits in
    let distinct : distinct_from [] r ≡ r = new-distinct r [] new in
    let same : firsts n.requests r ≡ r = firsts_same n.requests r distinct (omega (arith, short, raised)) in
    record {
      fits = ap limits_fit limits ∙ fits;
      distinct = ap (distinct_from []) kept ∙ distinct ∙ sym kept;
      few = omega (arith, size, as_long, short, raised, limit);
      replays = sym (run-raised f (empty_content n)) ∙ ap (run_from (empty_content n)) (sym same) ∙ ap (desk_run n) (sym kept)
          ∙ ap (λ (m : Limits). desk_run m (arrivals_of (desk_run n l).kept)) (sym limits);
    }

pub ran_sound : (start : Content) (l : List Arrival) → IsSound start → IsSound (ran_after start l)
ran_sound start l sound = run_sound start.rows.limits (arrivals_of start.kept ++ l) sound.fits

-- a run has kept its first arrivals, each at its executed moment
pub ran_kept : (start : Content) (l : List Arrival) → arrivals_of (ran_after start l).kept ≡ raised_from (empty_content start.rows.limits) (firsts start.rows.limits.requests (arrivals_of start.kept ++ l))
ran_kept start l = kept-raised (firsts start.rows.limits.requests (arrivals_of start.kept ++ l)) (empty_content start.rows.limits)

-- whatever a stop leaves is sound
pub stop_sound : (start : Content) (l others : List Arrival) (c : Content) → IsSound start → StopsAt start l others c → IsSound c
stop_sound start l others c sound at = elim at [
  | inl same ↦ subst IsSound (sym same) (ran_sound start l sound)
  | inr more ↦ subst IsSound (sym more.2) (ran_sound start (l ++ more.0 ∷ []) sound)
]
