-- Page by page, the reads of a sound content rebuild it.
use Rattle.std.proofs.Common.{◌≡◌, ℕ, zero, suc, ◌+◌, ◌<◌, ◌≤◌, List, [], ◌∷◌, ◌++◌, length, take, drop, nat_lt, refl, sym, ap, subst, ◌∙◌, arith, append_assoc, append-nil, length-append, Bool, true, false, cond, ◌==◌, is_some, inl, inr, take-append-drop}
use Rattle.std.proofs.lemmas.Bool.{and_parts, and_from}
use Rattle.std.proofs.lemmas.List.{nil_from_length}
use Rattle.acd_terms.specs.declared.rows.Limits.{Limits}
use Rattle.acd_terms.specs.declared.command.Arrival.{Arrival}
use Rattle.acd_book.specs.declared.kept.Kept.{Kept}
use Rattle.acd_book.specs.Content.{Content, empty_content, kept_of}
use Rattle.acd_book.specs.Memory.{is_numbered, stamp_of}
use Rattle.acd_book.proofs.NumberedLists.{first, above, numbered-push}
use Rattle.acd_desk.specs.Contents.AbstractDesk.{record_of, executed, firsts, run_from, desk_run}
use Rattle.acd_desk.specs.Contents.Replies.{after}
use Rattle.acd_desk.specs.Contents.SoundContent.{arrivals_of, IsSound, ran_after}
use Rattle.acd_desk.specs.Reads.ReadAnswers.{requests_size, requests_page}
use Rattle.acd_desk_laws.specs.Rebuilding.{last_read, IsReadInPages, nothing, page, IsAllRead, made_of, PagesRebuild}
use Rattle.acd_desk.proofs.Replays.AuditLaws.{sound_agrees}
use Rattle.acd_desk.proofs.Contents.LongerLists.{ran_none, ran_push}
use Rattle.acd_desk.proofs.Contents.Runs.{run-limits}
use Rattle.acd_desk.proofs.Contents.SoundRuns.{run_sound, ran_sound, arrivals_append}
use Rattle.acd_desk.proofs.Contents.Steps.{step_stamp}

-- ---- the kept records of a run are numbered from 1 to the last stamp ----

abbrev IsNumbered : Content → Type 0
IsNumbered c = (is_numbered stamp_of 0 c.kept ≡ true) × (length c.kept ≡ c.rows.last_stamp)

numbered_run : (l : List Arrival) (c : Content) → IsNumbered c → IsNumbered (run_from c l)
numbered_run [] c h = h
numbered_run (a ∷ l) c h =
    let long = h.1 in
    let stamp = step_stamp c.rows a.moment a.request.command in
    let size = length-append c.kept (record_of c.rows a ∷ []) in
    numbered_run l (executed c a) (numbered-push stamp_of c.kept (record_of c.rows a) h.0 (omega (arith, long)), omega (arith, size, long, stamp))

sound_numbered : (c : Content) → IsSound c → IsNumbered c
sound_numbered c sound = subst IsNumbered (sym sound.replays) (numbered_run (firsts c.rows.limits.requests (arrivals_of c.kept)) (empty_content c.rows.limits) (refl, refl))

numbered_front : (b : ℕ) (xs ys : List Kept) → is_numbered stamp_of b (xs ++ ys) ≡ true → is_numbered stamp_of b xs ≡ true
numbered_front b [] ys h = refl
numbered_front b (x ∷ xs) ys h =
    let parts = and_parts (x.stamp == b + 1) (is_numbered stamp_of (b + 1) (xs ++ ys)) h in
    and_from (x.stamp == b + 1) (is_numbered stamp_of (b + 1) xs) parts.0 (numbered_front (b + 1) xs ys parts.1)

last_from : (b : ℕ) (k : Kept) (ks : List Kept) → is_numbered stamp_of b (k ∷ ks) ≡ true → last_read (k ∷ ks) ≡ b + length (k ∷ ks)
last_from b k [] h = let here = (first stamp_of b k [] h).0 in omega (arith, here)
last_from b k (j ∷ ks) h = let rest = last_from (b + 1) j ks (first stamp_of b k (j ∷ ks) h).1 in omega (arith, rest)

-- so the last stamp is the count
last_is : (ks : List Kept) → is_numbered stamp_of 0 ks ≡ true → last_read ks ≡ length ks
last_is [] h = refl
last_is (k ∷ ks) h = let e = last_from 0 k ks h in omega (arith, e)

-- ---- a desk that continues keeps what it has kept ----

abbrev Grows : Content → Content → Type 0
Grows c d = (new : List Kept) × (d.kept ≡ c.kept ++ new)

grows_after : (c d : Content) (a : Arrival) → Grows c d → Grows c (after d a)
grows_after c d a g = by (is_some (kept_of d.kept a.request.requester a.request.invoke)) (nat_lt d.rows.last_stamp d.rows.limits.requests)
  where
    by : (known room : Bool) → Grows c (cond known d (cond room (executed d a) d))
    by true room = g
    by false true = (g.0 ++ record_of d.rows a ∷ [], ap (λ (l : List Kept). l ++ record_of d.rows a ∷ []) g.1 ∙ append_assoc c.kept g.0 (record_of d.rows a ∷ []))
    by false false = g

grows_list : (c : Content) (old more : List Arrival) → Grows c (ran_after c old) → Grows c (ran_after c (old ++ more))
grows_list c old [] g = subst (λ (l : List Arrival). Grows c (ran_after c l)) (sym (append-nil old)) g
grows_list c old (a ∷ more) g =
    subst (λ (l : List Arrival). Grows c (ran_after c l)) (append_assoc old (a ∷ []) more)
    (grows_list c (old ++ a ∷ []) more (subst (Grows c) (ran_push c old a) (grows_after c (ran_after c old) a g)))

grows : (c : Content) (more : List Arrival) → IsSound c → Grows c (ran_after c more)
grows c more sound = grows_list c [] more (subst (Grows c) (ran_none c sound) ([], sym (append-nil c.kept)))

-- ---- what is read is a beginning of what is kept ----

drop_front : (xs ys : List Kept) → drop (length xs) (xs ++ ys) ≡ ys
drop_front [] ys = refl
drop_front (x ∷ xs) ys = drop_front xs ys

take_front : (xs ys : List Kept) → take (length xs) (xs ++ ys) ≡ xs
take_front [] ys = refl
take_front (x ∷ xs) ys = ap (λ (l : List Kept). x ∷ l) (take_front xs ys)

abbrev Begins : Content → List Kept → Type 0
Begins c read = (rest : List Kept) × (c.kept ≡ read ++ rest)

-- the count of what was read is the last stamp of it
reached : (c : Content) (read : List Kept) → IsSound c → Begins c read → last_read read ≡ length read
reached c read sound b = last_is read (numbered_front 0 read b.0 (subst (λ (l : List Kept). is_numbered stamp_of 0 l ≡ true) b.1 (sound_numbered c sound).0))

-- a page after it has the first of the rest
page_is : (c : Content) (read : List Kept) → IsSound c → (b : Begins c read) → requests_page c (last_read read) ≡ take requests_size b.0
page_is c read sound b =
    ap (requests_page c) (reached c read sound b)
    ∙ ap (take requests_size) (above stamp_of (length read) c.kept (sound_numbered c sound).0 ∙ ap (drop (length read)) b.1 ∙ drop_front read b.0)

begins_page : (c : Content) (read : List Kept) → IsSound c → Begins c read → Begins c (read ++ requests_page c (last_read read))
begins_page c read sound b = (
  drop requests_size b.0,
  b.1 ∙ ap (λ (l : List Kept). read ++ l) (sym (take-append-drop requests_size b.0)) ∙ sym (append_assoc read (take requests_size b.0) (drop requests_size b.0))
      ∙ ap (λ (l : List Kept). (read ++ l) ++ drop requests_size b.0) (sym (page_is c read sound b)),
)

abbrev Follows : Content → List Kept → Type 0
Follows c read = IsSound c × Begins c read

follows : (c : Content) (read : List Kept) → IsReadInPages c read → Follows c read
follows _ _ (nothing c sound) = (sound, (c.kept, refl))
follows _ _ (page c read more h) =
    let before = follows c read h in
    let later : IsSound (ran_after c more) = ran_sound c more before.0 in
    let new = grows c more before.0 in
    let b : Begins c read = before.1 in
    (later, begins_page (ran_after c more) read later (b.0 ++ new.0, new.1 ∙ ap (λ (l : List Kept). l ++ new.0) b.1 ∙ append_assoc read b.0 new.0))

-- ---- and rebuilds it ----

none_taken : (n : ℕ) (xs : List Kept) → 0 < n → take n xs ≡ [] → xs ≡ []
none_taken n [] some h = refl
none_taken zero (x ∷ xs) some h = absurd (omega (arith, some))
none_taken (suc n) (x ∷ xs) some h = cc (h)

-- nothing is left where all was read
none_left : (c : Content) (read : List Kept) → IsSound c → (b : Begins c read) → IsAllRead c read → b.0 ≡ []
none_left c read sound b all = elim all [
  | inl empty ↦ none_taken requests_size b.0 (omega arith) (sym (page_is c read sound b) ∙ empty)
  | inr last ↦ (
      let long = (sound_numbered c sound).1 in
      let here = reached c read sound b in
      let parts = ap (λ (l : List Kept). length l) b.1 ∙ length-append read b.0 in
      nil_from_length b.0 (omega (arith, long, here, parts, last))
      )
]

pub pages_rebuild : PagesRebuild
pages_rebuild c read h =
    let f = follows c read h in
    let sound : IsSound c = f.0 in
    let b : Begins c read = f.1 in
    let limits : Limits = c.rows.limits in
    let made : Content = made_of limits read in
    let taken : take (length read) c.kept ≡ read = ap (take (length read)) b.1 ∙ take_front read b.0 in
    let few : length read ≤ length c.kept = (let parts = ap (λ (l : List Kept). length l) b.1 ∙ length-append read b.0 in omega (arith, parts)) in
    let agrees = (sound_agrees c (length read) sound few).kept in
    let kept : made.kept ≡ read = ap (λ (l : List Kept). (desk_run limits (arrivals_of l)).kept) (sym taken) ∙ agrees ∙ taken in
    let same : made.rows.limits ≡ limits = run-limits (firsts limits.requests (arrivals_of read)) (empty_content limits) in
    let rest : drop (length read) c.kept ≡ b.0 = ap (drop (length read)) b.1 ∙ drop_front read b.0 in
    record {
      sound = run_sound limits (arrivals_of read) sound.fits;
      kept = kept;
      leads = sound.replays ∙ ap (λ (l : List Kept). desk_run limits (arrivals_of l)) b.1 ∙ ap (desk_run limits) (arrivals_append read b.0)
          ∙ ap (λ (l : List Kept). desk_run limits (arrivals_of l ++ arrivals_of b.0)) (sym kept)
          ∙ ap (λ (n : Limits). desk_run n (arrivals_of made.kept ++ arrivals_of b.0)) (sym same)
          ∙ ap (λ (l : List Kept). ran_after made (arrivals_of l)) (sym rest);
      whole = λ all.
          let all_kept : c.kept ≡ read = b.1 ∙ ap (λ (l : List Kept). read ++ l) (none_left c read sound b all) ∙ append-nil read in
          ap (λ (l : List Kept). desk_run limits (arrivals_of l)) (sym all_kept) ∙ sym sound.replays;
    }
