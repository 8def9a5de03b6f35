-- A replay continues record by record, and ends where the content is sound or differs.
use Rattle.std.proofs.Common.{◌≡◌, ℕ, ◌+◌, ◌<◌, ◌≤◌, List, [], ◌∷◌, ◌++◌, length, take, drop, refl, sym, ap, ap₂, subst, ◌∙◌, arith, append_assoc, append-nil, Bool, true, false, cond, nat_lt, Option, Some, None, is_some, option_map, inl, inr, true≢false, ltb-true}
use Rattle.std.specs.Option.{option_or}
use Rattle.std.proofs.Math.Seq.{take-append_seam, take-append-add}
use Rattle.std.proofs.lemmas.List.{map-append, length-append, append_cancel_left, take-append-drop}
use Rattle.std.proofs.lemmas.Bool.{cases_lt}
use Rattle.acd_terms.specs.Limits.{limits_fit}
use Rattle.acd_terms.specs.Lists.{Every}
use Rattle.acd_terms.specs.Rows.{empty_rows}
use Rattle.acd_terms.specs.declared.rows.Limits.{Limits}
use Rattle.acd_terms.specs.declared.rows.Rows.{Rows}
use Rattle.acd_terms.specs.declared.event.Event.{Event}
use Rattle.acd_terms.specs.declared.command.Arrival.{Arrival}
use Rattle.acd_book.specs.declared.kept.Kept.{Kept}
use Rattle.acd_book.specs.Content.{Content, empty_content, kept_of, is_key, events_after, IsKeptAfter, IsCounted, GoOn}
use Rattle.acd_book.specs.Memory.{stamp_of, number_of_event}
use Rattle.acd_book.specs.Order.{Rises, IsOrdered}
use Rattle.acd_desk.specs.Contents.AbstractDesk.{stepped, record_of, executed, run_from, desk_run, firsts}
use Rattle.acd_desk.specs.Contents.Replies.{after}
use Rattle.acd_desk.specs.Contents.SoundContent.{arrivals_of, IsSound}
use Rattle.acd_desk.specs.Audits.Audit.{replayed, Agrees, AgreesBefore, IsFirstDifference}
use Rattle.acd_desk.specs.Audits.Replay.{again, Splits, Replays, Matches, IsEnd}
use Rattle.acd_desk.proofs.Archives.NextRecords.{none_left, next_left}
use Rattle.acd_desk.proofs.Archives.LookUps.{looked_up, first_record}
use Rattle.acd_book.proofs.SharedLists.{not_both, none_first}
use Rattle.acd_lemmas.proofs.Lists.{every_among, find_among, some_is, head_is}
use Rattle.acd_desk.proofs.Contents.Steps.{step_stamp, step_event, step_numbers}
use Rattle.acd_desk.proofs.Contents.Runs.{run-limits, after_firsts, executes}
use Rattle.acd_desk.proofs.Contents.CountersBound.{counted_run}
use Rattle.acd_desk.proofs.Contents.ContentLaws.{nothing_taken}
use Rattle.acd_desk.proofs.Contents.SoundRuns.{run_sound}
use Rattle.acd_book.proofs.EventsAbove.{left_after}

-- ---- lists in order ----

pub rises_after : (last : ℕ) (es left : List Event) → GoOn last es → Rises number_of_event last (es ++ left) → Rises number_of_event (last + length es) left
rises_after last [] left go rise = subst (λ (n : ℕ). Rises number_of_event n left) (omega arith) rise
rises_after last (e ∷ es) left go rise =
    let next : Rises number_of_event (last + 1) (es ++ left) = subst (λ (n : ℕ). Rises number_of_event n (es ++ left)) go.0 rise.1 in
    subst (λ (n : ℕ). Rises number_of_event n left) (omega arith) (rises_after (last + 1) es left go.1 next)

-- ---- one record more ----

longer : (l : List Kept) (k : Kept) → l ≡ l ++ k ∷ [] → ⊥
longer l k same = let size = length-append l (k ∷ []) in let equal = ap (λ (x : List Kept). length x) same in omega (arith, size, equal)

pub none_of : (o : Option Kept) → is_some o ≡ false → o ≡ None
none_of None h = refl
none_of (Some k) h = absurd (true≢false h)

-- where one arrival more keeps one record more, its key is new and a request was left
grown : (r : Content) (a : Arrival) (k : Kept) → (after r a).kept ≡ r.kept ++ k ∷ [] → (kept_of r.kept a.request.requester a.request.invoke ≡ None) × (r.rows.last_stamp < r.rows.limits.requests)
grown r a k more =
    let Q : Bool → Bool → Type 0 = λ x y. (cond x r (cond y (executed r a) r)).kept ≡ r.kept ++ k ∷ [] → (x ≡ false) × (y ≡ true) in
    let cases : (x y : Bool) → Q x y
    = λ x. elim x as (λ x. (y : Bool) → Q x y) [
      | true ↦ λ y same. absurd (longer r.kept k same)
      | false ↦ λ y. elim y as (λ y. Q false y) [
        | true ↦ λ same. (refl, refl)
        | false ↦ λ same. absurd (longer r.kept k same)
      ]
    ] in
    let both = cases (is_some (kept_of r.kept a.request.requester a.request.invoke)) (nat_lt r.rows.last_stamp r.rows.limits.requests) more in
    (none_of (kept_of r.kept a.request.requester a.request.invoke) both.0, ltb-true r.rows.last_stamp r.rows.limits.requests both.1)

-- the beginning of a list that splits
pub begins : {T : Type 0} (n : ℕ) (whole xs ys : List T) → whole ≡ xs ++ ys → length xs ≡ n → take n whole ≡ xs
begins {T = T} n whole xs ys is size = ap₂ (λ (k : ℕ) (l : List T). take k l) (sym size) is ∙ take-append_seam xs ys

-- the replay up to a place is the run that splits the content there
replayed_is : (c r : Content) (kl : List Kept) (el : List Event) (n : ℕ) → Splits c r kl el → length r.kept ≡ n → replayed c n ≡ r
replayed_is c r kl el n s size = ap (λ (l : List Kept). desk_run c.rows.limits (arrivals_of l)) (begins n c.kept r.kept kl s.kept size) ∙ sym s.is_run

agrees_to : (c r : Content) (kl : List Kept) (el : List Event) (n : ℕ) → limits_fit c.rows.limits ≡ true → Splits c r kl el → length r.kept ≡ n → Agrees c n
agrees_to c r kl el n fits s size =
    let same : replayed c n ≡ r = replayed_is c r kl el n s size in
    let there : r.events ≡ take (length r.events) c.events = sym (begins (length r.events) c.events r.events el s.events refl) in
    record {
      fits = fits;
      kept = ap (λ (x : Content). x.kept) same ∙ sym (begins n c.kept r.kept kl s.kept size);
      events = subst (λ (x : Content). x.events ≡ take (length x.events) c.events) (sym same) there;
    }

-- the run of one request more
pub replayed_next : (c r : Content) (k : Kept) (tail : List Kept) (el : List Event) → Splits c r (k ∷ tail) el
    → (take (r.rows.last_stamp + 1) c.kept ≡ r.kept ++ k ∷ []) × (replayed c (r.rows.last_stamp + 1) ≡ after r (again k))
replayed_next c r k tail el s =
    let whole : c.kept ≡ (r.kept ++ k ∷ []) ++ tail = s.kept ∙ sym (append_assoc r.kept (k ∷ []) tail) in
    let size = length-append r.kept (k ∷ []) in
    let old = s.size in
    let long : length (r.kept ++ k ∷ []) ≡ r.rows.last_stamp + 1 = omega (arith, size, old) in
    let first = begins (r.rows.last_stamp + 1) c.kept (r.kept ++ k ∷ []) tail whole long in (
      first,
      ap (λ (l : List Kept). desk_run c.rows.limits (arrivals_of l)) first
          ∙ ap (desk_run c.rows.limits) (map-append (λ (x : Kept). record { moment = x.moment; request = x.request }) r.kept (k ∷ []))
          ∙ sym (after_firsts c.rows.limits (arrivals_of r.kept) (again k))
          ∙ ap (λ (x : Content). after x (again k)) (sym s.is_run),
    )

split_counted : (c r : Content) (kl : List Kept) (el : List Event) → Splits c r kl el → IsCounted r
split_counted c r kl el s = subst IsCounted (sym s.is_run) (counted_run c.rows.limits (arrivals_of r.kept))

split_limits : (c r : Content) (kl : List Kept) (el : List Event) → Splits c r kl el → r.rows.limits ≡ c.rows.limits
split_limits c r kl el s = ap (λ (x : Content). x.rows.limits) s.is_run ∙ run-limits (firsts c.rows.limits.requests (arrivals_of r.kept)) (empty_content c.rows.limits)

-- the events after those of a replay, as a book reads them
pub read_left : (c r : Content) (kl : List Kept) (el : List Event) (n : ℕ) → Splits c r kl el → events_after c.events r.rows.last_event n ≡ take n el
read_left c r kl el n s =
    ap (λ (l : List Event). events_after l r.rows.last_event n) s.events
    ∙ left_after r.rows.last_event n r.events el (split_counted c r kl el s).events s.events_rise

-- where the next place agrees, its record matches and a request was left
agreed_matches : (c r : Content) (k : Kept) (tail : List Kept) (el : List Event) → Splits c r (k ∷ tail) el → Agrees c (r.rows.last_stamp + 1)
    → Matches c r.rows k × (r.rows.last_stamp < c.rows.limits.requests)
agreed_matches c r k tail el s ag =
    let a : Arrival = again k in
    let next = replayed_next c r k tail el s in
    let more : (after r a).kept ≡ r.kept ++ k ∷ [] = ap (λ (x : Content). x.kept) (sym next.1) ∙ ag.kept ∙ next.0 in
    let room = grown r a k more in
    let does : after r a ≡ executed r a = executes r a room.0 room.1 in
    let whole : replayed c (r.rows.last_stamp + 1) ≡ executed r a = next.1 ∙ does in
    let evs : List Event = (stepped r.rows a).events in
    let mine : record_of r.rows a ≡ k
    = head_is (record_of r.rows a) k [] [] (append_cancel_left r.kept (record_of r.rows a ∷ []) (k ∷ []) (ap (λ (x : Content). x.kept) (sym does) ∙ more)) in
    let reported : r.events ++ evs ≡ take (length (r.events ++ evs)) c.events = subst (λ (x : Content). x.events ≡ take (length x.events) c.events) whole ag.events in
    let seam : take (length (r.events ++ evs)) c.events ≡ r.events ++ take (length evs) el
    = ap₂ (λ (n : ℕ) (l : List Event). take n l) (length-append r.events evs) s.events ∙ take-append-add r.events el (length evs) in
    let left : evs ≡ take (length evs) el = append_cancel_left r.events evs (take (length evs) el) (reported ∙ seam) in
    let found : kept_of c.kept k.request.requester k.request.invoke ≡ Some k
    = ap (λ (l : List Kept). kept_of l k.request.requester k.request.invoke) s.kept
    ∙ first_record r.kept tail k room.0 in (
      record {
        kept = sym mine;
        first = ap (option_map stamp_of) found;
        events = read_left c r (k ∷ tail) el (length evs) s ∙ sym left;
      },
      subst (λ (n : Limits). r.rows.last_stamp < n.requests) (split_limits c r (k ∷ tail) el s) room.1,
    )

-- the key of a record that is the first of its key has none before it
pub unkept_before : (whole front tail : List Kept) (k : Kept) (n : ℕ) → whole ≡ front ++ k ∷ tail → Every (λ (x : Kept). x.stamp ≤ n) front → k.stamp ≡ n + 1
    → option_map stamp_of (kept_of whole k.request.requester k.request.invoke) ≡ Some k.stamp → kept_of front k.request.requester k.request.invoke ≡ None
unkept_before whole front tail k n is lows stamp first =
    let p : List ℕ = k.request.requester in
    let q : ℕ = k.request.invoke in
    let found : kept_of whole p q ≡ option_or (kept_of front p q) (kept_of (k ∷ tail) p q)
    = ap (λ (l : List Kept). kept_of l p q) is ∙ looked_up front (k ∷ tail) p q in
    let cases : (o : Option Kept) → kept_of front p q ≡ o → o ≡ None
    = λ o. elim o as (λ o. kept_of front p q ≡ o → o ≡ None) [
      | None ↦ λ is. refl
      | Some x ↦ λ is.
          let low : x.stamp ≤ n = every_among (λ (y : Kept). y.stamp ≤ n) front x lows (find_among (λ (y : Kept). is_key p q y.request) front x is) in
          let holds : Some x.stamp ≡ Some k.stamp = ap (option_map stamp_of) (ap (λ (o : Option Kept). option_or o (kept_of (k ∷ tail) p q)) (sym is) ∙ sym found) ∙ first in
          absurd (clash x.stamp k.stamp n holds low stamp)
    ] in
    cases (kept_of front p q) refl
  where
    clash : (a b n : ℕ) → Some a ≡ Some b → a ≤ n → b ≡ n + 1 → ⊥
    clash a b n e low is = let same = some_is a b e in omega (arith, same, low, is)

unkept : (c r : Content) (k : Kept) (tail : List Kept) (el : List Event) → Splits c r (k ∷ tail) el → Matches c r.rows k → kept_of r.kept k.request.requester k.request.invoke ≡ None
unkept c r k tail el s m = unkept_before c.kept r.kept tail k r.rows.last_stamp s.kept (split_counted c r (k ∷ tail) el s).kept (ap (λ (x : Kept). x.stamp) m.kept) m.first

-- a record that matches is one more of the run
splits_next : (c r : Content) (k : Kept) (tail : List Kept) (el : List Event) → Splits c r (k ∷ tail) el → Matches c r.rows k → r.rows.last_stamp < c.rows.limits.requests
    → Splits c (executed r (again k)) tail (drop (length (stepped r.rows (again k)).events) el)
splits_next c r k tail el s m room =
    let a : Arrival = again k in
    let evs : List Event = (stepped r.rows a).events in
    let short : r.rows.last_stamp < r.rows.limits.requests = subst (λ (n : Limits). r.rows.last_stamp < n.requests) (sym (split_limits c r (k ∷ tail) el s)) room in
    let does : after r a ≡ executed r a = executes r a (unkept c r k tail el s m) short in
    let next = replayed_next c r k tail el s in
    let mine : r.kept ++ k ∷ [] ≡ r.kept ++ record_of r.rows a ∷ [] = ap (λ (x : Kept). r.kept ++ x ∷ []) m.kept in
    let stamp = step_stamp r.rows a.moment a.request.command in
    let event = step_event r.rows a.moment a.request.command in
    let left : el ≡ evs ++ drop (length evs) el
    = sym (take-append-drop (length evs) el) ∙ ap (λ (l : List Event). l ++ drop (length evs) el) (sym (read_left c r (k ∷ tail) el (length evs) s) ∙ m.events) in
    let is_stamp : k.stamp ≡ (stepped r.rows a).rows.last_stamp = ap (λ (x : Kept). x.stamp) m.kept ∙ sym stamp in
    let long = length-append r.kept (record_of r.rows a ∷ []) in
    let size = s.size in
    record {
      is_run = sym does ∙ sym next.1 ∙ ap (λ (l : List Kept). desk_run c.rows.limits (arrivals_of l)) (next.0 ∙ mine);
      size = omega (arith, long, size, stamp);
      kept = s.kept ∙ sym (append_assoc r.kept (k ∷ []) tail) ∙ ap (λ (l : List Kept). l ++ tail) mine;
      events = s.events ∙ ap (λ (l : List Event). r.events ++ l) left ∙ sym (append_assoc r.events evs (drop (length evs) el));
      kept_rise = subst (λ (n : ℕ). Rises stamp_of n tail) is_stamp s.kept_rise.1;
      events_rise = subst (λ (n : ℕ). Rises number_of_event n (drop (length evs) el)) (sym event)
          (rises_after r.rows.last_event evs (drop (length evs) el) (step_numbers r.rows a.moment a.request.command) (subst (Rises number_of_event r.rows.last_event) left s.events_rise));
    }

-- each place up to the next agrees
agrees_on : (c : Content) (n : ℕ) → AgreesBefore c n → Agrees c n → AgreesBefore c (n + 1)
agrees_on c n before here m low high =
    elim (cases_lt m n) [
      | inl lower ↦ before m low lower
      | inr last ↦ subst (Agrees c) (is_last m n high last) here
    ]
  where
    is_last : (m n : ℕ) → m < n + 1 → n ≤ m → n ≡ m
    is_last m n h le = omega (arith, h, le)

-- ---- what a replay reads, and what it answers ----

pub starts_replay : (c : Content) → limits_fit c.rows.limits ≡ true → IsOrdered c → Replays c (empty_rows c.rows.limits)
starts_replay c fits ordered = record {
  fits = fits;
  ran = empty_content c.rows.limits;
  kept_left = c.kept;
  events_left = c.events;
  splits = record {
    is_run = ap (run_from (empty_content c.rows.limits)) (nothing_taken c.rows.limits.requests);
    size = refl;
    kept = refl;
    events = refl;
    kept_rise = ordered.kept;
    events_rise = ordered.events;
  };
  rows = refl;
  agrees = λ m low high. absurd (not_both m 1 high low);
}

-- the record that is left first is the next
pub left_is : (c : Content) (s : Rows) (k : Kept) (p : Replays c s) → IsKeptAfter c.kept s.last_stamp (Some k) → (tail : List Kept) × (p.kept_left ≡ k ∷ tail)
left_is c s k p found =
    let same : s.last_stamp ≡ p.ran.rows.last_stamp = ap (λ (x : Rows). x.last_stamp) p.rows in
    let at : IsKeptAfter (p.ran.kept ++ p.kept_left) p.ran.rows.last_stamp (Some k)
    = subst (λ (n : ℕ). IsKeptAfter (p.ran.kept ++ p.kept_left) n (Some k)) same (subst (λ (l : List Kept). IsKeptAfter l s.last_stamp (Some k)) p.splits.kept found) in
    next_left p.ran.rows.last_stamp p.ran.kept p.kept_left k (split_counted c p.ran p.kept_left p.events_left p.splits).kept p.splits.kept_rise at

nothing_left : (c : Content) (s : Rows) (p : Replays c s) → IsKeptAfter c.kept s.last_stamp None → p.kept_left ≡ []
nothing_left c s p found =
    let same : s.last_stamp ≡ p.ran.rows.last_stamp = ap (λ (x : Rows). x.last_stamp) p.rows in
    none_left p.ran.rows.last_stamp p.ran.kept p.kept_left p.splits.kept_rise
    (subst (λ (n : ℕ). IsKeptAfter (p.ran.kept ++ p.kept_left) n None) same (subst (λ (l : List Kept). IsKeptAfter l s.last_stamp None) p.splits.kept found))

before_is : (c : Content) (s : Rows) (p : Replays c s) → AgreesBefore c (p.ran.rows.last_stamp + 1)
before_is c s p = subst (λ (x : Rows). AgreesBefore c (x.last_stamp + 1)) p.rows p.agrees

goes_on : (c r : Content) (k : Kept) (tail : List Kept) (el : List Event) → limits_fit c.rows.limits ≡ true → Splits c r (k ∷ tail) el → AgreesBefore c (r.rows.last_stamp + 1)
    → Matches c r.rows k → r.rows.last_stamp < c.rows.limits.requests → Replays c (stepped r.rows (again k)).rows
goes_on c r k tail el fits s before m room =
    let next = splits_next c r k tail el s m room in
    let rest : List Event = drop (length (stepped r.rows (again k)).events) el in
    let stamp = step_stamp r.rows k.moment k.request.command in
    let size = next.size in
    record {
      fits = fits;
      ran = executed r (again k);
      kept_left = tail;
      events_left = rest;
      splits = next;
      rows = refl;
      agrees = subst (λ (n : ℕ). AgreesBefore c (n + 1)) (sym stamp) (agrees_on c (r.rows.last_stamp + 1) before (agrees_to c (executed r (again k)) tail rest (r.rows.last_stamp + 1) fits next (size ∙ stamp)));
    }

-- a request is left of the limit of the replay, which is that of the content
room_left : (c : Content) (s : Rows) → Replays c s → s.last_stamp < s.limits.requests → s.last_stamp < c.rows.limits.requests
room_left c s p room =
    subst (λ (n : Limits). s.last_stamp < n.requests) (ap (λ (x : Rows). x.limits) p.rows ∙ split_limits c p.ran p.kept_left p.events_left p.splits) room

-- the next record matches
pub replay_goes_on : (c : Content) (s : Rows) (k : Kept) → Replays c s → IsKeptAfter c.kept s.last_stamp (Some k)
    → Matches c s k → s.last_stamp < s.limits.requests → Replays c (stepped s (again k)).rows
replay_goes_on c s k p found m room =
    let left = left_is c s k p found in
    let splits : Splits c p.ran (k ∷ left.0) p.events_left = subst (λ (l : List Kept). Splits c p.ran l p.events_left) left.1 p.splits in
    subst (λ (x : Rows). Replays c (stepped x (again k)).rows) (sym p.rows)
    (goes_on c p.ran k left.0 p.events_left p.fits splits (before_is c s p) (subst (λ (x : Rows). Matches c x k) p.rows m)
    (subst (λ (x : Rows). x.last_stamp < c.rows.limits.requests) p.rows (room_left c s p room)))

-- there is a next place
a_place : (c r : Content) (k : Kept) (tail : List Kept) (el : List Event) → Splits c r (k ∷ tail) el → r.rows.last_stamp + 1 ≤ length c.kept
a_place c r k tail el s =
    let long = length-append r.kept (k ∷ tail) in
    let whole = ap (λ (l : List Kept). length l) s.kept in
    let size = s.size in
    omega (arith, long, whole, size)

-- it doesn't match, or no request is left for it
replay_differs : (c : Content) (s : Rows) (k : Kept) → Replays c s → IsKeptAfter c.kept s.last_stamp (Some k)
    → (Matches c s k → s.last_stamp < c.rows.limits.requests → ⊥) → IsFirstDifference c (s.last_stamp + 1)
replay_differs c s k p found unmet =
    let left = left_is c s k p found in
    let splits : Splits c p.ran (k ∷ left.0) p.events_left = subst (λ (l : List Kept). Splits c p.ran l p.events_left) left.1 p.splits in
    subst (λ (x : Rows). IsFirstDifference c (x.last_stamp + 1)) (sym p.rows)
    (record {
      place = omega arith;
      before = before_is c s p;
      differs = inl (
        a_place c p.ran k left.0 p.events_left splits,
        λ agrees.
            let both = agreed_matches c p.ran k left.0 p.events_left splits agrees in
            unmet (subst (λ (x : Rows). Matches c x k) (sym p.rows) both.0) (subst (λ (x : Rows). x.last_stamp < c.rows.limits.requests) (sym p.rows) both.1),
      );
    })

pub replay_unlike : (c : Content) (s : Rows) (k : Kept) → Replays c s → IsKeptAfter c.kept s.last_stamp (Some k) → ¬ Matches c s k → IsFirstDifference c (s.last_stamp + 1)
replay_unlike c s k p found none = replay_differs c s k p found (λ m room. none m)

pub replay_full : (c : Content) (s : Rows) (k : Kept) → Replays c s → IsKeptAfter c.kept s.last_stamp (Some k) → s.limits.requests ≤ s.last_stamp → IsFirstDifference c (s.last_stamp + 1)
replay_full c s k p found full =
    replay_differs c s k p found (λ m room. not_both s.last_stamp c.rows.limits.requests room
    (subst (λ (n : Limits). n.requests ≤ s.last_stamp) (ap (λ (x : Rows). x.limits) p.rows ∙ split_limits c p.ran p.kept_left p.events_left p.splits) full))

pub same_content : (c r : Content) → c.rows ≡ r.rows → c.events ≡ r.events → c.kept ≡ r.kept → c ≡ r
same_content c r e1 e2 e3 =
    let whole : Rows → List Event → List Kept → Content = λ x y z. record { rows = x; events = y; kept = z } in
    ap (λ (x : Rows). whole x c.events c.kept) e1 ∙ ap (λ (y : List Event). whole r.rows y c.kept) e2 ∙ ap (λ (z : List Kept). whole r.rows r.events z) e3

ends_sound : (c r : Content) (el : List Event) → limits_fit c.rows.limits ≡ true → Splits c r [] el → events_after c.events r.rows.last_event 1 ≡ [] → c.rows ≡ r.rows → IsSound c
ends_sound c r el fits s none rows =
    let no_event : el ≡ [] = none_first el (sym (read_left c r [] el 1 s) ∙ none) in
    let same : c ≡ r = same_content c r rows (s.events ∙ ap (λ (l : List Event). r.events ++ l) no_event ∙ append-nil r.events) (s.kept ∙ append-nil r.kept) in
    subst IsSound (sym (same ∙ s.is_run)) (run_sound c.rows.limits (arrivals_of r.kept) fits)

sound_ends : (c r : Content) (el : List Event) → Splits c r [] el → IsSound c → (events_after c.events r.rows.last_event 1 ≡ []) × (c.rows ≡ r.rows)
sound_ends c r el s sound =
    let same : c ≡ r = sound.replays ∙ ap (λ (l : List Kept). desk_run c.rows.limits (arrivals_of l)) (s.kept ∙ append-nil r.kept) ∙ sym s.is_run in
    let no_event : el ≡ [] = append_cancel_left r.events el [] (sym s.events ∙ ap (λ (x : Content). x.events) same ∙ sym (append-nil r.events)) in (
      read_left c r [] el 1 s ∙ ap (λ (l : List Event). take 1 l) no_event,
      ap (λ (x : Content). x.rows) same,
    )

-- all records are replayed: nothing else is left, and the tables are those of the replay
pub replay_sound : (c : Content) (s : Rows) → Replays c s → IsKeptAfter c.kept s.last_stamp None → IsEnd c s → IsSound c
replay_sound c s p found ended =
    ends_sound c p.ran p.events_left p.fits (subst (λ (l : List Kept). Splits c p.ran l p.events_left) (nothing_left c s p found) p.splits)
    (subst (λ (x : Rows). events_after c.events x.last_event 1 ≡ []) p.rows ended.0) (ended.1 ∙ p.rows)

all_places : (c r : Content) (el : List Event) → Splits c r [] el → r.rows.last_stamp + 1 ≡ length c.kept + 1
all_places c r el s =
    let whole = ap (λ (l : List Kept). length l) (s.kept ∙ append-nil r.kept) in
    let size = s.size in
    omega (arith, whole, size)

-- or not
pub replay_rest : (c : Content) (s : Rows) → Replays c s → IsKeptAfter c.kept s.last_stamp None → ¬ IsEnd c s → IsFirstDifference c (s.last_stamp + 1)
replay_rest c s p found unmet =
    let splits : Splits c p.ran [] p.events_left = subst (λ (l : List Kept). Splits c p.ran l p.events_left) (nothing_left c s p found) p.splits in
    subst (λ (x : Rows). IsFirstDifference c (x.last_stamp + 1)) (sym p.rows)
    (record {
      place = omega arith;
      before = before_is c s p;
      differs = inr (
        all_places c p.ran p.events_left splits,
        λ sound.
            let both = sound_ends c p.ran p.events_left splits sound in
            unmet (subst (λ (x : Rows). events_after c.events x.last_event 1 ≡ []) (sym p.rows) both.0, both.1 ∙ sym p.rows),
      );
    })
