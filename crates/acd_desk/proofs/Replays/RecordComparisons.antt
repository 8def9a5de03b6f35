-- A record and its events beside what its request gives.
use Rattle.std.proofs.Common.{◌≡◌, ℕ, Bool, true, false, List, length, refl, sym, ap, subst, ◌∙◌, true≢false}
use Rattle.std.specs.Bool.{Decides}
use Rattle.acd_terms.specs.declared.rows.Rows.{Rows}
use Rattle.acd_terms.specs.declared.event.Event.{Event}
use Rattle.acd_book.specs.declared.kept.Kept.{Kept}
use Rattle.acd_book.specs.Content.{Content, events_after}
use Rattle.acd_desk.specs.declared.seen_keys.SeenKeys.{SeenKeys}
use Rattle.acd_desk.specs.declared.page.Page.{Page}
use Rattle.acd_desk.specs.declared.replay.Replay.{Replay}
use Rattle.acd_desk.specs.Contents.AbstractDesk.{stepped, record_of}
use Rattle.acd_desk.specs.Contents.KeyPlaces.{IsSeenKey}
use Rattle.acd_desk.specs.Reads.Pages.{IsPageOf}
use Rattle.acd_desk.specs.Audits.Replay.{again, rows_of, IsFirstOfKey, IsFirstWith, Matches, FindsFirst, Knows}

-- a key that wasn't seen is new
pub unseen_new : (c : Content) (keys : SeenKeys) (k : Kept) → ¬ IsSeenKey keys k.request → FindsFirst c keys k → Decides true (IsFirstOfKey c k)
unseen_new c keys k new finds = (λ holds. finds new, λ first. refl)

-- the comparison of the events that were read
pub events_decided : (c : Content) (last n : ℕ) (found lent events : List Event) (b : Bool) → found ≡ events_after c.events last n → lent ≡ found → Decides b (lent ≡ events) → n ≡ length events
    → Decides b (events_after c.events last (length events) ≡ events)
events_decided c last n found lent events b is same decides long =
    let whole : lent ≡ events_after c.events last (length events) = same ∙ is ∙ ap (events_after c.events last) long in
    subst (λ (l : List Event). Decides b (l ≡ events)) whole decides

-- another record
pub other_record : (c : Content) (keys : SeenKeys) (page : Page Event) (s : Rows) (k expected : Kept) (b : Bool) → b ≡ false → Decides b (k ≡ expected) → expected ≡ record_of s (again k) → Knows c keys page k
    → IsPageOf c page × Decides false (Matches c s k)
other_record c keys page s k expected b other decides is_record knows =
    (knows.page, (λ holds. absurd (true≢false (sym holds)), λ m. absurd (true≢false (sym (decides.1 (m.kept ∙ sym is_record)) ∙ other))))

-- a key that an earlier record has
pub other_key : (c : Content) (keys : SeenKeys) (page : Page Event) (k : Kept) (last : ℕ) (events : List Event) (b : Bool) → b ≡ false → (FindsFirst c keys k → Decides b (IsFirstOfKey c k)) → Knows c keys page k
    → IsPageOf c page × Decides false (IsFirstWith k last events c)
other_key c keys page k last events b other decides knows =
    (knows.page, (λ holds. absurd (true≢false (sym holds)), λ same. absurd (true≢false (sym ((decides knows.finds).1 same.0) ∙ other))))

-- the first of its key, so all hangs on the events
pub same_events : (c : Content) (keys : SeenKeys) (old new : Page Event) (k : Kept) (last : ℕ) (events : List Event) (first b : Bool) → first ≡ true → (FindsFirst c keys k → Decides first (IsFirstOfKey c k))
    → (IsPageOf c old → IsPageOf c new × Decides b (events_after c.events last (length events) ≡ events)) → Knows c keys old k → IsPageOf c new × Decides b (IsFirstWith k last events c)
same_events c keys old new k last events first b is_first first_decides events_hold knows =
    let there = events_hold knows.page in
    (there.0, (λ holds. ((first_decides knows.finds).0 is_first, there.1.0 holds), λ all. there.1.1 all.1))

-- the compared record is what the request gives
pub matches_decided : (c : Content) (s : Rows) (k expected : Kept) (last : ℕ) (events : List Event) (same b : Bool) → same ≡ true → Decides same (k ≡ expected) → Decides b (IsFirstWith k last events c)
    → expected ≡ record_of s (again k) → events ≡ (stepped s (again k)).events → last ≡ s.last_event → Decides b (Matches c s k)
matches_decided c s k expected last events same b is_same same_decides decides is_record are_events is_last = (
  (λ holds. let all = decides.0 holds in record {
    kept = same_decides.0 is_same ∙ is_record;
    first = all.0;
    events = subst (λ (l : List Event). events_after c.events s.last_event (length l) ≡ l) are_events (subst (λ (n : ℕ). events_after c.events n (length events) ≡ events) is_last all.1);
  }),
  (λ m. decides.1 (
    m.first,
    subst (λ (n : ℕ). events_after c.events n (length events) ≡ events) (sym is_last) (subst (λ (l : List Event). events_after c.events s.last_event (length l) ≡ l) (sym are_events) m.events),
  )),
)

-- it matches
pub replayed_on : (c : Content) (r : Replay) (k : Kept) (s : Rows) (b : Bool) → Decides b (Matches c s k) → b ≡ true → s ≡ rows_of r → Matches c (rows_of r) k
replayed_on c r k s b decides holds same = subst (λ (s : Rows). Matches c s k) same (decides.0 holds)

-- it doesn't
pub not_replayed : (c : Content) (r : Replay) (k : Kept) (s : Rows) (b : Bool) → Decides b (Matches c s k) → b ≡ false → s ≡ rows_of r → ¬ Matches c (rows_of r) k
not_replayed c r k s b decides fails same = λ matches. true≢false (sym (decides.1 (subst (λ (s : Rows). Matches c s k) (sym same) matches)) ∙ fails)
