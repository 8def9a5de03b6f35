-- A content has one audit, which is Sound exactly where the content is sound.
use Rattle.std.proofs.Common.{◌≡◌, ℕ, ◌+◌, ◌<◌, ◌≤◌, List, [], ◌∷◌, ◌++◌, length, take, drop, refl, sym, ap, subst, ◌∙◌, arith, append_assoc, append-nil, inl, inr, Ok}
use Rattle.std.proofs.Math.Numerals.{lt-add-one}
use Rattle.std.proofs.lemmas.Bool.{cases_order}
use Rattle.std.proofs.lemmas.List.{take-append-drop, take-map, length-take-le}
use Rattle.acd_terms.specs.declared.event.Event.{Event}
use Rattle.acd_terms.specs.declared.command.Arrival.{Arrival}
use Rattle.acd_book.specs.declared.kept.Kept.{Kept}
use Rattle.acd_book.specs.Content.{Content, empty_content, IsCounted, GoOn}
use Rattle.acd_book.specs.Memory.{stamp_of, number_of_event}
use Rattle.acd_book.specs.Order.{Rises, IsOrdered}
use Rattle.acd_book.specs.State.{BookState, Reads}
use Rattle.acd_desk.specs.declared.audit.Audit.{Audit}
use Rattle.acd_desk.specs.declared.audit.Audit.TheVariants.{Sound, Differs}
use Rattle.acd_desk.specs.Contents.AbstractDesk.{stepped, record_of, executed, firsts, run_from, desk_run}
use Rattle.acd_desk.specs.Contents.SoundContent.{arrivals_of, IsSound, raised_from}
use Rattle.acd_desk.specs.Audits.Audit.{replayed, Agrees, IsFirstDifference, IsAudit}
use Rattle.acd_desk.proofs.Contents.Steps.{step_numbers}
use Rattle.acd_desk.proofs.Contents.CountersBound.{counted_executed}
use Rattle.acd_desk.proofs.Contents.Runs.{run_in_two}
use Rattle.acd_desk.proofs.Contents.SoundRuns.{New, new-distinct, distinct-new, new-take, kept-raised, length-raised, length-arrivals, firsts_same, sound_list}
use Rattle.acd_desk.proofs.Replays.Audits.{begins}
use Rattle.acd_book.proofs.SharedLists.{rises_append}

-- ---- a run in two parts ----

kept_more : (c : Content) (l : List Arrival) → (more : List Kept) × ((run_from c l).kept ≡ c.kept ++ more)
kept_more c [] = ([], sym (append-nil c.kept))
kept_more c (a ∷ l) = let rest = kept_more (executed c a) l in (record_of c.rows a ∷ rest.0, rest.1 ∙ append_assoc c.kept (record_of c.rows a ∷ []) rest.0)

events_more : (c : Content) (l : List Arrival) → (more : List Event) × ((run_from c l).events ≡ c.events ++ more)
events_more c [] = ([], sym (append-nil c.events))
events_more c (a ∷ l) =
    let es : List Event = (stepped c.rows a).events in
    let rest = events_more (executed c a) l in
    (es ++ rest.0, rest.1 ∙ append_assoc c.events es rest.0)

-- each place of a sound content agrees
pub sound_agrees : (c : Content) (n : ℕ) → IsSound c → n ≤ length c.kept → Agrees c n
sound_agrees c n sound le =
    let start : Content = empty_content c.rows.limits in
    let l : List Arrival = arrivals_of c.kept in
    let t : List Arrival = take n l in
    let r : Content = run_from start t in
    let new : New [] l = subst (New []) sound.distinct (distinct-new l [] [] (λ p q. refl)) in
    let size : length l ≡ length c.kept = length-arrivals c.kept in
    let some : length t ≡ n = length-take-le n l (subst (λ (k : ℕ). n ≤ k) (sym size) le) in
    let few : length c.kept ≤ c.rows.limits.requests = sound.few in
    let short : length t ≤ c.rows.limits.requests = omega (arith, some, le, few) in
    let same : firsts c.rows.limits.requests t ≡ t = firsts_same c.rows.limits.requests t (new-distinct t [] (new-take n l [] new)) short in
    let replay : replayed c n ≡ r
    = ap (desk_run c.rows.limits) (sym (take-map (λ (k : Kept). record { moment = k.moment; request = k.request }) n c.kept)) ∙ ap (run_from start) same in
    let whole : c ≡ run_from r (drop n l) = sound_list c sound ∙ ap (run_from start) (sym (take-append-drop n l)) ∙ run_in_two start t (drop n l) in
    let kept = kept_more r (drop n l) in
    let events = events_more r (drop n l) in
    let raised : arrivals_of r.kept ≡ raised_from start t = kept-raised t start in
    let as_many : length (arrivals_of r.kept) ≡ length (raised_from start t) = ap (λ (x : List Arrival). length x) raised in
    let e1 = length-arrivals r.kept in
    let e2 = length-raised t start in
    let long : length r.kept ≡ n = omega (arith, as_many, e1, e2, some) in
    let first : take n c.kept ≡ r.kept = begins n c.kept r.kept kept.0 (ap (λ (x : Content). x.kept) whole ∙ kept.1) long in
    let reported : take (length r.events) c.events ≡ r.events = begins (length r.events) c.events r.events events.0 (ap (λ (x : Content). x.events) whole ∙ events.1) refl in
    record {
      fits = sound.fits;
      kept = ap (λ (x : Content). x.kept) replay ∙ sym first;
      events = subst (λ (x : Content). x.events ≡ take (length x.events) c.events) (sym replay) (sym reported);
    }

sound_or_not : (c : Content) (n : ℕ) → IsSound c → IsFirstDifference c n → ⊥
sound_or_not c n sound d = elim d.differs [
  | inl here ↦ here.1 (sound_agrees c n sound here.0)
  | inr beyond ↦ beyond.1 sound
]

-- of two first differences none comes before the other
no_earlier : (c : Content) (n m : ℕ) → IsFirstDifference c n → IsFirstDifference c m → n < m → ⊥
no_earlier c n m d e less = elim d.differs [
  | inl here ↦ here.1 (e.before n d.place less)
  | inr beyond ↦ elim e.differs [
    | inl there ↦ too_far n m (length c.kept) less beyond.0 there.0
    | inr also ↦ too_far_too n m (length c.kept) less beyond.0 also.0
  ]
]
  where
    too_far : (n m k : ℕ) → n < m → n ≡ k + 1 → m ≤ k → ⊥
    too_far n m k less is le = omega (arith, less, is, le)

    too_far_too : (n m k : ℕ) → n < m → n ≡ k + 1 → m ≡ k + 1 → ⊥
    too_far_too n m k less is also = omega (arith, less, is, also)

pub one_audit : (c : Content) (a b : Audit) → IsAudit c a → IsAudit c b → a ≡ b
one_audit c Sound Sound h g = refl
one_audit c Sound (Differs n) h g = absurd (sound_or_not c n h g)
one_audit c (Differs n) Sound h g = absurd (sound_or_not c n g h)
one_audit c (Differs n) (Differs m) h g = elim (cases_order n m) [
  | inl same ↦ ap Differs same
  | inr other ↦ elim other [
    | inl before ↦ absurd (no_earlier c n m h g before)
    | inr after ↦ absurd (no_earlier c m n g h after)
  ]
]

-- ---- a sound content is in order ----

pub going_rises : (last : ℕ) (es : List Event) → GoOn last es → Rises number_of_event last es
going_rises last [] h = tt
going_rises last (e ∷ es) h =
    let here : e.number ≡ last + 1 = h.0 in
    (omega (arith, here), subst (λ (n : ℕ). Rises number_of_event n es) (sym here) (going_rises (last + 1) es h.1))

pub zero_least : (n : ℕ) → 0 ≤ n
zero_least n = omega arith

executed_ordered : (c : Content) (a : Arrival) → IsCounted c → IsOrdered c → IsOrdered (executed c a)
executed_ordered c a counted ordered = record {
  kept = rises_append stamp_of 0 c.rows.last_stamp c.kept (record_of c.rows a ∷ []) (zero_least c.rows.last_stamp) ordered.kept counted.kept (lt-add-one c.rows.last_stamp, tt);
  events = rises_append number_of_event 0 c.rows.last_event c.events (stepped c.rows a).events (zero_least c.rows.last_event) ordered.events counted.events
      (going_rises c.rows.last_event (stepped c.rows a).events (step_numbers c.rows a.moment a.request.command));
}

run_ordered : (l : List Arrival) (c : Content) → IsCounted c → IsOrdered c → IsOrdered (run_from c l)
run_ordered [] c counted ordered = ordered
run_ordered (a ∷ l) c counted ordered = run_ordered l (executed c a) (counted_executed c a counted) (executed_ordered c a counted ordered)

pub sound_ordered : (c : Content) → IsSound c → IsOrdered c
sound_ordered c sound =
    subst IsOrdered (sym (sound_list c sound))
    (run_ordered (arrivals_of c.kept) (empty_content c.rows.limits) (record { events = tt; kept = tt }) (record { kept = tt; events = tt }))

-- so an audit of it answers Sound
pub finds_sound : (b d : BookState) (found : Audit) → Reads b d (Ok found) (λ (c : Content) (x : Audit). IsOrdered c → IsAudit c x) → d.is_clean → b.is_sound → IsSound b.content → found ≡ Sound
finds_sound b d found r clean sound whole = one_audit b.content found Sound ((r.value clean sound).1 (sound_ordered b.content whole)) whole
