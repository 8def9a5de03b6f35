-- Older records change nothing for requests whose keys they don't have.
use Rattle.std.proofs.Common.{◌≡◌, ℕ, ◌≤◌, List, [], ◌∷◌, ◌++◌, refl, sym, ap, ap₂, ◌∙◌, append_assoc, Bool, true, false, cond, nat_lt, Option, None, is_some}
use Rattle.std.specs.Option.{option_or}
use Rattle.std.proofs.lemmas.List.Folds.{find-append}
use Rattle.acd_terms.specs.declared.command.Arrival.{Arrival}
use Rattle.acd_terms.specs.declared.event.Event.{Event}
use Rattle.acd_book.specs.declared.kept.Kept.{Kept}
use Rattle.acd_book.specs.Content.{Content, is_key, kept_of, IsCounted}
use Rattle.acd_desk.specs.declared.taken.Taken.{Taken}
use Rattle.acd_desk.specs.Contents.AbstractDesk.{stepped, record_of, executed}
use Rattle.acd_desk.specs.Contents.Replies.{answer_of, answer_in, after}
use Rattle.acd_desk.specs.Contents.SoundContent.{IsSound}
use Rattle.acd_desk.specs.Contents.AnyContent.{led, answers_to, IsAsTogether}
use Rattle.acd_desk.specs.Contents.CarriedContent.{Archive, together, joined, IsNewTo, NoneSentAgain, IsCutAgain}
use Rattle.acd_book.proofs.SharedLists.{every_back}
use Rattle.acd_desk.proofs.Contents.ContentLaws.{sound_counted}

-- ---- one arrival ----

-- a key that no older record has is looked up among the others
looked_up : (p : Archive) (older : List Kept) (q : List ℕ) (i : ℕ) → kept_of p.kept q i ≡ None → kept_of (p.kept ++ older) q i ≡ kept_of older q i
looked_up p older q i new =
    find-append (λ (k : Kept). is_key q i k.request) p.kept older ∙ ap (λ (o : Option Kept). option_or o (kept_of older q i)) new

pub executed_together : (p : Archive) (c : Content) (a : Arrival) → executed (together p c) a ≡ together p (executed c a)
executed_together p c a =
    ap₂ (λ (es : List Event) (ks : List Kept). record { rows = (stepped c.rows a).rows; events = es; kept = ks })
    (append_assoc p.events c.events (stepped c.rows a).events)
    (append_assoc p.kept c.kept (record_of c.rows a ∷ []))

one_more : (p : Archive) (c : Content) (a : Arrival) → IsNewTo p a → after (together p c) a ≡ together p (after c a)
one_more p c a new =
    let room : Bool = nat_lt c.rows.last_stamp c.rows.limits.requests in
    let P : Bool → Bool → Type 0 = λ x y. cond x (together p c) (cond y (executed (together p c) a) (together p c)) ≡ together p (cond x c (cond y (executed c a) c)) in
    let cases : (x y : Bool) → P x y
    = λ x. elim x as (λ x. (y : Bool) → P x y) [
      | true ↦ λ y. refl
      | false ↦ λ y. elim y as (λ y. P false y) [
        | true ↦ executed_together p c a
        | false ↦ refl
      ]
    ] in
    ap (λ (o : Option Kept). cond (is_some o) (together p c) (cond room (executed (together p c) a) (together p c))) (looked_up p c.kept a.request.requester a.request.invoke new)
    ∙ cases (is_some (kept_of c.kept a.request.requester a.request.invoke)) room

one_answer : (p : Archive) (c : Content) (a : Arrival) → IsNewTo p a → answer_in (after (together p c) a) a.request ≡ answer_in (after c a) a.request
one_answer p c a new =
    ap (λ (d : Content). answer_in d a.request) (one_more p c a new)
    ∙ ap (λ (o : Option Kept). answer_of o a.request) (looked_up p (after c a).kept a.request.requester a.request.invoke new)

-- ---- many ----

pub goes_on : (p : Archive) (c : Content) (list : List Arrival) → NoneSentAgain p list → IsAsTogether p c list
goes_on p c [] new = record { answers = refl; content = refl }
goes_on p c (a ∷ list) new =
    let rest : IsAsTogether p (after c a) list = goes_on p (after c a) list new.1 in
    record {
      answers = ap₂ (λ (t : Taken) (ts : List Taken). t ∷ ts) (sym (one_answer p c a new.0)) (rest.answers ∙ ap (λ (d : Content). answers_to d list) (sym (one_more p c a new.0)));
      content = rest.content ∙ ap (λ (d : Content). led d list) (sym (one_more p c a new.0));
    }

-- ---- opened, and carried over again ----

pub counted_rest : (p : Archive) (c : Content) → IsCounted (together p c) → IsCounted c
counted_rest p c whole = record {
  events = every_back (λ (e : Event). e.number ≤ c.rows.last_event) p.events c.events whole.events;
  kept = every_back (λ (k : Kept). k.stamp ≤ c.rows.last_stamp) p.kept c.kept whole.kept;
}

pub counted_alone : (p : Archive) (c : Content) → IsSound (together p c) → IsCounted c
counted_alone p c sound = counted_rest p c (sound_counted (together p c) sound)

none_of_both : (p q : Archive) (list : List Arrival) → NoneSentAgain p list → NoneSentAgain q list → NoneSentAgain (joined p q) list
none_of_both p q [] first second = tt
none_of_both p q (a ∷ list) first second =
    (looked_up p q.kept a.request.requester a.request.invoke first.0 ∙ second.0, none_of_both p q list first.1 second.1)

pub cut_again : (p q : Archive) (c : Content) → IsCutAgain p q c
cut_again p q c = record {
  content = ap₂ (λ (es : List Event) (ks : List Kept). record { rows = c.rows; events = es; kept = ks }) (sym (append_assoc p.events q.events c.events)) (sym (append_assoc p.kept q.kept c.kept));
  keys = none_of_both p q;
}
