-- What newer requests make of the carried part, beside what they make of the whole archive.
use Rattle.std.proofs.Common.{◌≡◌, ℕ, ◌<◌, ◌≤◌, List, [], ◌∷◌, ◌++◌, length, refl, sym, ap, ap₂, subst, ◌∙◌, arith, append_assoc, Bool, true, false, cond, Option, Some, None, is_some, option_map}
use Rattle.std.proofs.lemmas.List.{append_cancel_left}
use Rattle.acd_terms.specs.Lists.{Every}
use Rattle.acd_terms.specs.declared.rows.Rows.{Rows}
use Rattle.acd_terms.specs.declared.event.Event.{Event}
use Rattle.acd_terms.specs.declared.command.Arrival.{Arrival}
use Rattle.acd_lemmas.proofs.Lists.{every-append}
use Rattle.acd_book.specs.declared.kept.Kept.{Kept}
use Rattle.acd_book.specs.Content.{Content, kept_of, IsCounted}
use Rattle.acd_book.specs.Memory.{stamp_of, number_of_event}
use Rattle.acd_book.specs.Order.{Rises}
use Rattle.acd_desk.specs.Contents.SoundContent.{arrivals_of}
use Rattle.acd_desk.specs.Contents.AnyContent.{led}
use Rattle.acd_desk.specs.Contents.CarriedContent.{Archive, together, joined, NoneSentAgain}
use Rattle.acd_desk.specs.Contents.WithArchive.{ComeBefore, IsCut, IsSoundWith, IsLedFrom}
use Rattle.acd_desk.specs.Audits.AuditWith.{first_sent_again}
use Rattle.acd_desk.proofs.Replays.Audits.{none_of, same_content}
use Rattle.acd_desk.proofs.Contents.OlderRecords.{goes_on, cut_again}
use Rattle.acd_desk.proofs.Contents.AddedRecords.{Grows, led_grows, led_counted, all_new}
use Rattle.acd_desk.proofs.Archives.LookUps.{none_front, only_front}
use Rattle.acd_book.proofs.SharedLists.{every_back, every_each, split_once}
use Rattle.acd_desk.proofs.Contents.SoundRuns.{length-arrivals}

-- ---- the archive's part ----

pub kept_whole : (a : Content) (left : Archive) (carried : Content) → IsCut a left carried → a.kept ≡ left.kept ++ carried.kept
kept_whole a left carried cut = ap (λ (x : Content). x.kept) cut.whole

pub events_whole : (a : Content) (left : Archive) (carried : Content) → IsCut a left carried → a.events ≡ left.events ++ carried.events
events_whole a left carried cut = ap (λ (x : Content). x.events) cut.whole

pub carried_low : (a : Content) (left : Archive) (carried : Content) → IsCut a left carried → IsCounted a
    → Every (λ (k : Kept). k.stamp ≤ a.rows.last_stamp) carried.kept
carried_low a left carried cut counted =
    every_back (λ (k : Kept). k.stamp ≤ a.rows.last_stamp) left.kept carried.kept
    (subst (Every (λ (k : Kept). k.stamp ≤ a.rows.last_stamp)) (kept_whole a left carried cut) counted.kept)

pub carried_events_low : (a : Content) (left : Archive) (carried : Content) → IsCut a left carried → IsCounted a
    → Every (λ (e : Event). e.number ≤ a.rows.last_event) carried.events
carried_events_low a left carried cut counted =
    every_back (λ (e : Event). e.number ≤ a.rows.last_event) left.events carried.events
    (subst (Every (λ (e : Event). e.number ≤ a.rows.last_event)) (events_whole a left carried cut) counted.events)

pub carried_rows : (a : Content) (left : Archive) (carried : Content) → IsCut a left carried → carried.rows ≡ a.rows
carried_rows a left carried cut = sym (ap (λ (x : Content). x.rows) cut.whole)

pub carried_counted : (a : Content) (left : Archive) (carried : Content) → IsCut a left carried → IsCounted a → IsCounted carried
carried_counted a left carried cut counted =
    let rows : a.rows ≡ carried.rows = sym (carried_rows a left carried cut) in
    record {
      events = subst (λ (s : Rows). Every (λ (e : Event). e.number ≤ s.last_event) carried.events) rows (carried_events_low a left carried cut counted);
      kept = subst (λ (s : Rows). Every (λ (k : Kept). k.stamp ≤ s.last_stamp) carried.kept) rows (carried_low a left carried cut counted);
    }

-- the rest behind the same front
same_rest : (p : Archive) (c d : Content) → together p c ≡ together p d → c ≡ d
same_rest p c d is =
    same_content c d (ap (λ (x : Content). x.rows) is) (append_cancel_left p.events c.events d.events (ap (λ (x : Content). x.events) is))
    (append_cancel_left p.kept c.kept d.kept (ap (λ (x : Content). x.kept) is))

-- ---- a content that is led from the carried part ----

-- the content's part after that of the archive
pub record Newer (a c : Content) (goes : IsLedFrom a c) : Type 0 where
  pub reported : List Event
  pub events : c.events ≡ goes.carried.events ++ reported
  pub kept_rise : Rises stamp_of a.rows.last_stamp goes.newer
  pub events_rise : Rises number_of_event a.rows.last_event reported

pub led_newer : (a c : Content) (goes : IsLedFrom a c) → Newer a c goes
led_newer a c goes =
    let grown : Grows goes.carried (led goes.carried (arrivals_of goes.newer)) (length (arrivals_of goes.newer))
    = led_grows goes.carried (arrivals_of goes.newer) in
    let rows : goes.carried.rows ≡ a.rows = carried_rows a goes.left goes.carried goes.cut in
    let more : grown.more ≡ goes.newer
    = append_cancel_left goes.carried.kept grown.more goes.newer (sym grown.kept ∙ sym (ap (λ (x : Content). x.kept) goes.made) ∙ goes.kept) in
    record {
      reported = grown.reported;
      events = ap (λ (x : Content). x.events) goes.made ∙ grown.events;
      kept_rise = subst (λ (s : Rows). Rises stamp_of s.last_stamp goes.newer) rows (subst (Rises stamp_of goes.carried.rows.last_stamp) more grown.kept_rise);
      events_rise = subst (λ (s : Rows). Rises number_of_event s.last_event grown.reported) rows grown.events_rise;
    }

-- its counters are up to its records
pub counted_led : (a c : Content) → IsCounted a → IsLedFrom a c → IsCounted c
counted_led a c counted goes =
    subst IsCounted (sym goes.made) (led_counted (arrivals_of goes.newer) goes.carried (carried_counted a goes.left goes.carried goes.cut counted))

-- ---- from the whole archive, and from the carried part ----

-- no record of these has the key of one of the arrivals
abbrev pub AreNewTo : List Kept → List Arrival → Type 0
AreNewTo kept list = Every (λ (a : Arrival). kept_of kept a.request.requester a.request.invoke ≡ None) list

-- where each of these requests was executed, none has a key that was kept before
all_made : (c d : Content) (newer : List Kept) → d ≡ led c (arrivals_of newer) → d.kept ≡ c.kept ++ newer → AreNewTo c.kept (arrivals_of newer)
all_made c d newer made kept = all_new c (arrivals_of newer) newer (sym (ap (λ (x : Content). x.kept) made) ∙ kept) (at_most newer)
  where
    at_most : (l : List Kept) → length (arrivals_of l) ≤ length l
    at_most l = let same = length-arrivals l in omega (arith, same)

new_front : (xs ys : List Kept) (list : List Arrival) → AreNewTo (xs ++ ys) list → AreNewTo xs list
new_front xs ys list new =
    every_each (λ (a : Arrival). kept_of (xs ++ ys) a.request.requester a.request.invoke ≡ None)
    (λ (a : Arrival). kept_of xs a.request.requester a.request.invoke ≡ None) list
    (λ a none. none_front xs ys a.request.requester a.request.invoke none) new

-- no newer request has a key of the archive
pub none_sent_again : (a c : Content) (goes : IsSoundWith a c) → AreNewTo a.kept (arrivals_of goes.newer)
none_sent_again a c goes =
    all_made a (together goes.left c) goes.newer goes.made
    (ap (λ (l : List Kept). goes.left.kept ++ l) goes.kept ∙ sym (append_assoc goes.left.kept goes.carried.kept goes.newer)
    ∙ ap (λ (l : List Kept). l ++ goes.newer) (sym (kept_whole a goes.left goes.carried goes.cut)))

none_left_again : (a c : Content) (goes : IsSoundWith a c) → NoneSentAgain goes.left (arrivals_of goes.newer)
none_left_again a c goes =
    new_front goes.left.kept goes.carried.kept (arrivals_of goes.newer)
    (subst (λ (l : List Kept). AreNewTo l (arrivals_of goes.newer)) (kept_whole a goes.left goes.carried goes.cut) (none_sent_again a c goes))

pub sound_made : (a c : Content) (goes : IsSoundWith a c) → c ≡ led goes.carried (arrivals_of goes.newer)
sound_made a c goes =
    let list : List Arrival = arrivals_of goes.newer in
    same_rest goes.left c (led goes.carried list)
    (goes.made ∙ ap (λ (x : Content). led x list) goes.cut.whole ∙ sym (goes_on goes.left goes.carried list (none_left_again a c goes)).content)

abbrev pub sound_is_led : (a c : Content) → IsSoundWith a c → IsLedFrom a c
sound_is_led a c goes = record { left = goes.left; carried = goes.carried; cut = goes.cut; newer = goes.newer; kept = goes.kept; made = sound_made a c goes }

pub led_is_sound : (a c : Content) (goes : IsLedFrom a c) → NoneSentAgain goes.left (arrivals_of goes.newer) → IsSoundWith a c
led_is_sound a c goes new =
    let list : List Arrival = arrivals_of goes.newer in
    record {
      left = goes.left;
      carried = goes.carried;
      cut = goes.cut;
      newer = goes.newer;
      kept = goes.kept;
      made = ap (together goes.left) goes.made ∙ (goes_on goes.left goes.carried list new).content ∙ ap (λ (x : Content). led x list) (sym goes.cut.whole);
    }

-- ---- the first that was sent again ----

-- there is none
pub first_none : (p : Archive) (newer : List Kept) → first_sent_again p newer ≡ None → NoneSentAgain p (arrivals_of newer)
first_none p [] none = tt
first_none p (k ∷ newer) none =
    let P : Bool → Type 0
    = λ b. is_some (kept_of p.kept k.request.requester k.request.invoke) ≡ b → cond b (Some k) (first_sent_again p newer) ≡ None
    → NoneSentAgain p (arrivals_of (k ∷ newer)) in
    (elim (is_some (kept_of p.kept k.request.requester k.request.invoke)) as P [
      | true ↦ λ is same. absurd cc
      | false ↦ λ is same. (none_of (kept_of p.kept k.request.requester k.request.invoke) is, first_none p newer same)
    ]) refl none

pub none_first : (p : Archive) (newer : List Kept) → NoneSentAgain p (arrivals_of newer) → first_sent_again p newer ≡ None
none_first p [] new = refl
none_first p (k ∷ newer) new =
    ap₂ (λ (o f : Option Kept). cond (is_some o) (Some k) f) new.0 (none_first p newer new.1)

-- a content where there is one isn't sound with its archive
pub sent_again_unsound : (a c : Content) (goes : IsLedFrom a c) (n : ℕ) → IsCounted a → option_map stamp_of (first_sent_again goes.left goes.newer) ≡ Some n
    → ¬ IsSoundWith a c
sent_again_unsound a c goes n counted first = λ sound.
    let other : IsLedFrom a c = sound_is_led a c sound in
    let once = split_once stamp_of a.rows.last_stamp goes.carried.kept goes.newer sound.carried.kept sound.newer (sym goes.kept ∙ sound.kept)
    (carried_low a goes.left goes.carried goes.cut counted) (carried_low a sound.left sound.carried sound.cut counted) (led_newer a c goes).kept_rise
    (led_newer a c other).kept_rise in
    let new : NoneSentAgain goes.left (arrivals_of goes.newer)
    = new_front goes.left.kept goes.carried.kept (arrivals_of goes.newer)
    (subst (λ (l : List Kept). AreNewTo l (arrivals_of goes.newer)) (kept_whole a goes.left goes.carried goes.cut)
    (subst (λ (l : List Kept). AreNewTo a.kept (arrivals_of l)) (sym once.1) (none_sent_again a c sound))) in
    none_some n (sym (ap (option_map stamp_of) (none_first goes.left goes.newer new)) ∙ first)
  where
    none_some : (n : ℕ) → ◌≡◌ {A = Option ℕ} None (Some n) → ⊥
    none_some n is = cc

-- ---- a part goes from the front ----

-- of the content, and of what was carried over
pub cut_without : (a : Content) (left q : Archive) (old carried : Content) → IsCut a left old → old ≡ together q carried → ComeBefore q.events carried.kept
    → IsCut a (joined left q) carried
cut_without a left q old carried cut is clean = record {
  whole = cut.whole ∙ ap (together left) is ∙ (cut_again left q carried).content;
  events = every-append (λ (e : Event). Every (λ (k : Kept). e.moment < k.moment) carried.kept) left.events q.events
      (every_each (λ (e : Event). Every (λ (k : Kept). e.moment < k.moment) old.kept)
      (λ (e : Event). Every (λ (k : Kept). e.moment < k.moment) carried.kept) left.events
      (λ e before. every_back (λ (k : Kept). e.moment < k.moment) q.kept carried.kept
      (subst (λ (x : Content). Every (λ (k : Kept). e.moment < k.moment) x.kept) is before)) cut.events)
      clean;
}

kept_without : (c old carried : Content) (q : Archive) (newer : List Kept) → q.kept ++ c.kept ≡ old.kept ++ newer → old ≡ together q carried
    → c.kept ≡ carried.kept ++ newer
kept_without c old carried q newer kept is =
    append_cancel_left q.kept c.kept (carried.kept ++ newer) (kept ∙ ap (λ (x : Content). x.kept ++ newer) is ∙ append_assoc q.kept carried.kept newer)

pub sound_without : (a c : Content) (q : Archive) (carried : Content) (goes : IsSoundWith a (together q c)) → goes.carried ≡ together q carried
    → ComeBefore q.events carried.kept → IsSoundWith a c
sound_without a c q carried goes is clean = record {
  left = joined goes.left q;
  carried = carried;
  cut = cut_without a goes.left q goes.carried carried goes.cut is clean;
  newer = goes.newer;
  kept = kept_without c goes.carried carried q goes.newer goes.kept is;
  made = sym (cut_again goes.left q c).content ∙ goes.made;
}

-- what was left in the archive and this part have the key of none that what was left there doesn't
first_without : (left q : Archive) (newer : List Kept) → NoneSentAgain q (arrivals_of newer)
    → first_sent_again (joined left q) newer ≡ first_sent_again left newer
first_without left q [] new = refl
first_without left q (k ∷ newer) new =
    ap₂ (λ (o f : Option Kept). cond (is_some o) (Some k) f) (only_front left.kept q.kept k.request.requester k.request.invoke new.0)
    (first_without left q newer new.1)

pub led_without : (a c : Content) (q : Archive) (carried : Content) (goes : IsLedFrom a (together q c)) → goes.carried ≡ together q carried
    → ComeBefore q.events carried.kept
    → (on : IsLedFrom a c) × (first_sent_again on.left on.newer ≡ first_sent_again goes.left goes.newer)
led_without a c q carried goes is clean =
    let list : List Arrival = arrivals_of goes.newer in
    let new : NoneSentAgain q list
    = new_front q.kept carried.kept list
    (subst (λ (x : Content). AreNewTo x.kept list) is (all_made goes.carried (together q c) goes.newer goes.made goes.kept)) in (
      record {
        left = joined goes.left q;
        carried = carried;
        cut = cut_without a goes.left q goes.carried carried goes.cut is clean;
        newer = goes.newer;
        kept = kept_without c goes.carried carried q goes.newer goes.kept is;
        made = same_rest q c (led carried list) (goes.made ∙ ap (λ (x : Content). led x list) is ∙ sym (goes_on q carried list new).content);
      },
      first_without goes.left q goes.newer new,
    )
