-- What is left of a content whose oldest records are taken away, and its archive.
use Rattle.std.proofs.Common.{◌≡◌, ℕ, ◌<◌, ◌≤◌, List, [], ◌∷◌, ◌++◌, filter, nat_lt, Bool, Some, refl, sym, ap, ap₂, subst, ◌∙◌, append_assoc, option_map, le_refl, lt_trans}
use Rattle.std.proofs.lemmas.List.Elements.{filter-append}
use Rattle.acd_terms.specs.Lists.{Every}
use Rattle.acd_terms.specs.declared.event.Event.{Event}
use Rattle.acd_lemmas.proofs.Lists.{every-append}
use Rattle.acd_book.specs.declared.kept.Kept.{Kept}
use Rattle.acd_book.specs.Content.{Content}
use Rattle.acd_book.specs.Memory.{stamp_of, number_of_event}
use Rattle.acd_book.specs.Order.{Rises}
use Rattle.acd_book.specs.PrunedContent.{pruned}
use Rattle.acd_desk.specs.Contents.CarriedContent.{Archive, together}
use Rattle.acd_book.specs.ListOverlap.{IsSplitAt}
use Rattle.acd_desk.specs.Contents.WithArchive.{ComeBefore, IsCut, IsSoundWith, IsLedFrom}
use Rattle.acd_desk.specs.Audits.AuditWith.{StandsInTime, HoldsArchive, first_sent_again, IsSentAgain}
use Rattle.acd_desk.specs.Audits.Overlap.{IsCleanCut}
use Rattle.acd_desk.specs.Contents.Pruning.{IsPlace, IsGone, StaysLed}
use Rattle.acd_desk.proofs.Replays.AuditLaws.{zero_least}
use Rattle.acd_desk.proofs.Replays.Audits.{same_content}
use Rattle.acd_desk.proofs.Archives.CarriedPart.{kept_whole, events_whole, sound_is_led, sent_again_unsound, cut_without, sound_without, led_without}
use Rattle.acd_desk.proofs.Archives.NewerRuns.{led_holds}
use Rattle.acd_book.proofs.SharedLists.{not_both, every_front, every_back, every_each, rises_back, split_at, none_above, all_above}

-- ---- lists in order ----

above_each : {T : Type 0} (f : T → ℕ) (n : ℕ) (xs : List T) → Rises f n xs → Every (λ (x : T). n < f x) xs
above_each f n [] h = tt
above_each {T = T} f n (x ∷ xs) h =
    (h.0, every_each (λ (y : T). f x < f y) (λ (y : T). n < f y) xs (λ y more. lt_trans h.0 more) (above_each f (f x) xs h.1))

every_both : {T : Type 0} (P Q : T → Type 0) (xs : List T) → Every P xs → Every (λ (x : T). P x → Q x) xs → Every Q xs
every_both P Q [] h more = tt
every_both P Q (x ∷ xs) h more = (more.0 h.0, every_both P Q xs h.1 more.1)

-- a list that begins with a part of the archive's, in two at a number that isn't above the archive's last one
record Divided {T : Type 0} (f : T → ℕ) (n : ℕ) (carried current : List T) : Type 0 where
  gone : List T
  rest : List T
  whole : carried ≡ gone ++ rest
  low : Every (λ (x : T). f x ≤ n) gone
  high : Every (λ (x : T). n < f x) rest
  mine : current ≡ gone ++ filter (λ (x : T). nat_lt n (f x)) current

divided : {T : Type 0} (f : T → ℕ) (n last : ℕ) (archived left carried newer current : List T) → Rises f 0 archived → archived ≡ left ++ carried
    → current ≡ carried ++ newer → n ≤ last → Rises f last newer → Divided f n carried current
divided {T = T} f n last archived left carried newer current rise whole mine le up =
    let p : T → Bool = λ (x : T). nat_lt n (f x) in
    let two = split_at f 0 n carried (zero_least n) (rises_back f 0 left carried (subst (Rises f 0) whole rise)) in
    let split : IsSplitAt f n carried two.0 two.1 = two.2 in
    let parts : current ≡ two.0 ++ (two.1 ++ newer) = mine ∙ ap (λ (l : List T). l ++ newer) split.whole ∙ append_assoc two.0 two.1 newer in
    let left_over : filter p current ≡ two.1 ++ newer
    = ap (filter p) parts ∙ filter-append p two.0 (two.1 ++ newer)
    ∙ ap₂ (λ (a b : List T). a ++ b) (none_above f n two.0 split.below)
    (filter-append p two.1 newer ∙ ap₂ (λ (a b : List T). a ++ b) (all_above f n n two.1 (le_refl n) split.above) (all_above f n last newer le up)) in
    record {
      gone = two.0;
      rest = two.1;
      whole = split.whole;
      low = split.below;
      high = above_each f n two.1 split.above;
      mine = parts ∙ ap (λ (l : List T). two.0 ++ l) (sym left_over);
    }

-- ---- the cut ----

-- the events that go are before the records that stay, where the cut is clean
comes_before : (a c : Content) (stamp number : ℕ) (left : Archive) (carried : Content) → StandsInTime a → IsCleanCut a stamp number → IsCut a left carried
    → (ks : Divided stamp_of stamp carried.kept c.kept) (es : Divided number_of_event number carried.events c.events) → ComeBefore es.gone ks.rest
comes_before a c stamp number left carried stands clean cut ks es =
    let kept_two = split_at stamp_of 0 stamp a.kept (zero_least stamp) stands.ordered.kept in
    let kept_split : IsSplitAt stamp_of stamp a.kept kept_two.0 kept_two.1 = kept_two.2 in
    let events_two = split_at number_of_event 0 number a.events (zero_least number) stands.ordered.events in
    let events_split : IsSplitAt number_of_event number a.events events_two.0 events_two.1 = events_two.2 in
    let IsBefore : Event → Kept → Type 0 = λ e k. e.moment < k.moment in
    let IsBeforeRest : Event → Type 0 = λ e. Every (IsBefore e) ks.rest in
    let kept : a.kept ≡ (left.kept ++ ks.gone) ++ ks.rest
    = kept_whole a left carried cut ∙ ap (λ (l : List Kept). left.kept ++ l) ks.whole ∙ sym (append_assoc left.kept ks.gone ks.rest) in
    let events : a.events ≡ left.events ++ (es.gone ++ es.rest) = events_whole a left carried cut ∙ ap (λ (l : List Event). left.events ++ l) es.whole in
    -- of one event
    let one : (e : Event) → Every (IsBefore e) kept_two.1 → IsBeforeRest e
    = λ e before.
    let IfAbove : Kept → Type 0 = λ k. stamp < k.stamp → e.moment < k.moment in
    every_both (λ (k : Kept). stamp < k.stamp) (IsBefore e) ks.rest ks.high
    (every_back IfAbove (left.kept ++ ks.gone) ks.rest
    (subst (Every IfAbove) (sym kept_split.whole ∙ kept)
    (every-append IfAbove kept_two.0 kept_two.1
    (every_each (λ (k : Kept). k.stamp ≤ stamp) IfAbove kept_two.0 (λ k le lt. absurd (not_both stamp k.stamp lt le)) kept_split.below)
    (every_each (IsBefore e) IfAbove kept_two.1 (λ k before lt. before) before)))) in
    let IfBelow : Event → Type 0 = λ e. e.number ≤ number → IsBeforeRest e in
    every_both (λ (e : Event). e.number ≤ number) IsBeforeRest es.gone es.low
    (every_front IfBelow es.gone es.rest
    (every_back IfBelow left.events (es.gone ++ es.rest)
    (subst (Every IfBelow) (sym events_split.whole ∙ events)
    (every-append IfBelow events_two.0 events_two.1
    (every_each (λ (e : Event). Every (IsBefore e) kept_two.1) IfBelow events_two.0 (λ e before le. one e before)
    (clean kept_two.0 kept_two.1 events_two.0 events_two.1 kept_split events_split))
    (every_each (λ (e : Event). number < e.number) IfBelow events_two.1 (λ e lt le. absurd (not_both number e.number lt le))
    (above_each number_of_event number events_two.1 events_split.above))))))

-- what goes, and what stays of the carried part
record Parts (a c : Content) (carried : Content) (stamp number : ℕ) : Type 0 where
  gone : Archive
  rest : Content
  carried_is : carried ≡ together gone rest
  whole : c ≡ together gone (pruned stamp number c)
  clean : ComeBefore gone.events rest.kept

parts : (a c : Content) (h : HoldsArchive a c) (stamp number : ℕ) → StandsInTime a → IsPlace a stamp number → Parts a c h.carried stamp number
parts a c h stamp number stands place =
    let ks : Divided stamp_of stamp h.carried.kept c.kept
    = divided stamp_of stamp a.rows.last_stamp a.kept h.left.kept h.carried.kept h.kept_left c.kept stands.ordered.kept (kept_whole a h.left h.carried h.cut)
    h.kept place.records h.kept_rise in
    let es : Divided number_of_event number h.carried.events c.events
    = divided number_of_event number a.rows.last_event a.events h.left.events h.carried.events h.events_left c.events stands.ordered.events
    (events_whole a h.left h.carried h.cut) h.events place.events h.events_rise in
    let gone : Archive = record { events = es.gone; kept = ks.gone } in
    let rest : Content = record { rows = h.carried.rows; events = es.rest; kept = ks.rest } in
    record {
      gone = gone;
      rest = rest;
      carried_is = same_content h.carried (together gone rest) refl es.whole ks.whole;
      whole = same_content c (together gone (pruned stamp number c)) refl es.mine ks.mine;
      clean = comes_before a c stamp number h.left h.carried stands place.clean h.cut ks es;
    }

-- ---- the laws ----

pub prune_loses_nothing : (a c : Content) (stamp number : ℕ) → StandsInTime a → IsPlace a stamp number → HoldsArchive a c
    → (gone : Archive) × IsGone a c (pruned stamp number c) gone
prune_loses_nothing a c stamp number stands place h =
    let p : Parts a c h.carried stamp number = parts a c h stamp number stands place in (
      p.gone,
      record { whole = p.whole; left = h.left; carried = p.rest; cut = cut_without a h.left p.gone h.carried p.rest h.cut p.carried_is p.clean },
    )

pub prune_stays_sound : (a c : Content) (stamp number : ℕ) → StandsInTime a → IsPlace a stamp number → IsSoundWith a c → IsSoundWith a (pruned stamp number c)
prune_stays_sound a c stamp number stands place goes =
    let p : Parts a c goes.carried stamp number = parts a c (led_holds a c (sound_is_led a c goes)) stamp number stands place in
    let whole : IsSoundWith a (together p.gone (pruned stamp number c)) = record {
      left = goes.left;
      carried = goes.carried;
      cut = goes.cut;
      newer = goes.newer;
      kept = ap (λ (x : Content). x.kept) (sym p.whole) ∙ goes.kept;
      made = ap (together goes.left) (sym p.whole) ∙ goes.made;
    } in
    sound_without a (pruned stamp number c) p.gone p.rest whole p.carried_is p.clean

pub prune_stays_led : (a c : Content) (stamp number : ℕ) (goes : IsLedFrom a c) → StandsInTime a → IsPlace a stamp number
    → StaysLed a c (pruned stamp number c) goes
prune_stays_led a c stamp number goes stands place =
    let p : Parts a c goes.carried stamp number = parts a c (led_holds a c goes) stamp number stands place in
    let whole : IsLedFrom a (together p.gone (pruned stamp number c)) = record {
      left = goes.left;
      carried = goes.carried;
      cut = goes.cut;
      newer = goes.newer;
      kept = ap (λ (x : Content). x.kept) (sym p.whole) ∙ goes.kept;
      made = sym p.whole ∙ goes.made;
    } in
    let on = led_without a (pruned stamp number c) p.gone p.rest whole p.carried_is p.clean in
    record { led = on.0; first = on.1 }

pub prune_stays_sent_again : (a c : Content) (stamp number n : ℕ) → StandsInTime a → IsPlace a stamp number → IsSentAgain a c n
    → IsSentAgain a (pruned stamp number c) n
prune_stays_sent_again a c stamp number n stands place again =
    let on : StaysLed a c (pruned stamp number c) again.led = prune_stays_led a c stamp number again.led stands place in
    let first : option_map stamp_of (first_sent_again on.led.left on.led.newer) ≡ Some n = ap (option_map stamp_of) on.first ∙ again.first in
    record { unsound = sent_again_unsound a (pruned stamp number c) on.led n stands.counted first; led = on.led; first = first }
