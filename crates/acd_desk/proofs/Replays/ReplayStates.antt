-- A replay with the keys that it has seen and the events that were read ahead.
use Rattle.std.proofs.Common.{◌≡◌, ℕ, ◌+◌, ◌<◌, Bool, true, false, cond, List, [], ◌∷◌, ◌++◌, take, length, Option, Some, None, option_map, slice_index_or, refl, sym, ap, subst, ◌∙◌}
use Rattle.std.specs.Option.{option_or}
use Rattle.std.proofs.lemmas.List.Folds.{find-append}
use Rattle.acd_terms.specs.Lists.{Every}
use Rattle.acd_terms.specs.declared.rows.Rows.{Rows}
use Rattle.acd_terms.specs.declared.command.Request.{Request}
use Rattle.acd_book.specs.declared.kept.Kept.{Kept}
use Rattle.acd_book.specs.Content.{Content, kept_of, is_key, IsKeptAfter}
use Rattle.acd_book.specs.Memory.{stamp_of}
use Rattle.acd_book.proofs.Keys.{key_itself, key_same}
use Rattle.acd_desk.specs.declared.seen_keys.SeenKeys.{SeenKeys}
use Rattle.acd_desk.specs.declared.replay.Replay.{Replay}
use Rattle.acd_desk.specs.Contents.AbstractDesk.{stepped}
use Rattle.acd_desk.specs.Contents.KeyPlaces.{IsSeenKey}
use Rattle.acd_desk.specs.Audits.Replay.{again, rows_of, Splits, Replays, IsFirstOfKey, Matches, Knows, Goes, GoesOn}
use Rattle.acd_desk.proofs.Replays.Audits.{begins, left_is, replayed_next, replay_goes_on}
use Rattle.acd_desk.proofs.Replays.PlaceLemmas.{same_place}
use Rattle.acd_desk.proofs.Contents.Steps.{step_stamp}

-- where all keys were seen, none has a key that wasn't
pub none_of_new : (keys : SeenKeys) (r : Request) (xs : List Kept) → Every (λ (k : Kept). IsSeenKey keys k.request) xs → ¬ IsSeenKey keys r → kept_of xs r.requester r.invoke ≡ None
none_of_new keys r [] seen new = refl
none_of_new keys r (x ∷ xs) seen new =
    ap (λ (b : Bool). cond b (Some x) (kept_of xs r.requester r.invoke)) (other (is_key r.requester r.invoke x.request) refl) ∙ none_of_new keys r xs seen.1 new
  where
    other : (b : Bool) → is_key r.requester r.invoke x.request ≡ b → is_key r.requester r.invoke x.request ≡ false
    other true is =
        let same = key_same r.requester r.invoke x.request is in
        absurd (new (subst (λ (n : ℕ). slice_index_or keys.places.items n true ≡ true) (same_place x.request r same.0 same.1) seen.0))
    other false is = is

-- so many records come before the next
stamped : (c : Content) (s : Rows) (p : Replays c s) → length p.ran.kept ≡ s.last_stamp
stamped c s p = p.splits.size ∙ sym (ap (λ (x : Rows). x.last_stamp) p.rows)

-- the next record, where its key wasn't seen, is the first of its key
first_of_key : (c : Content) (s : Rows) (keys : SeenKeys) (k : Kept) → Replays c s → IsKeptAfter c.kept s.last_stamp (Some k)
    → Every (λ (k : Kept). IsSeenKey keys k.request) (take s.last_stamp c.kept) → ¬ IsSeenKey keys k.request → IsFirstOfKey c k
first_of_key c s keys k p at seen new =
    let requester : List ℕ = k.request.requester in
    let invoke : ℕ = k.request.invoke in
    let left = left_is c s k p at in
    let split : c.kept ≡ p.ran.kept ++ k ∷ left.0 = p.splits.kept ∙ ap (λ (l : List Kept). p.ran.kept ++ l) left.1 in
    let front : take s.last_stamp c.kept ≡ p.ran.kept = begins s.last_stamp c.kept p.ran.kept (k ∷ left.0) split (stamped c s p) in
    let none : kept_of p.ran.kept requester invoke ≡ None = none_of_new keys k.request p.ran.kept (subst (Every (λ (k : Kept). IsSeenKey keys k.request)) front seen) new in
    let found : kept_of c.kept requester invoke ≡ Some k
    = ap (λ (l : List Kept). kept_of l requester invoke) split
    ∙ find-append (λ (x : Kept). is_key requester invoke x.request) p.ran.kept (k ∷ left.0)
    ∙ ap (λ (o : Option Kept). option_or o (kept_of (k ∷ left.0) requester invoke)) none
    ∙ ap (λ (b : Bool). cond b (Some k) (kept_of left.0 requester invoke)) (key_itself k.request) in
    ap (option_map stamp_of) found

-- so much is known of the next record
pub knows_next : (c : Content) (r : Replay) (k : Kept) → Goes c r → IsKeptAfter c.kept (rows_of r).last_stamp (Some k) → Knows c r.keys r.page k
knows_next c r k g at = record {
  finds = first_of_key c (rows_of r) r.keys k g.replays at g.seen;
  page = g.page;
}

pub seen_one_more : (old new : SeenKeys) (k : Kept) (xs : List Kept) → ((other : Request) → IsSeenKey old other → IsSeenKey new other) → IsSeenKey new k.request
    → Every (λ (k : Kept). IsSeenKey old k.request) xs → Every (λ (k : Kept). IsSeenKey new k.request) (xs ++ k ∷ [])
seen_one_more old new k [] others itself seen = (itself, tt)
seen_one_more old new k (x ∷ xs) others itself seen = (others x.request seen.0, seen_one_more old new k xs others itself seen.1)

-- the records up to the next
next_front : (c : Content) (s : Rows) (k : Kept) → Replays c s → IsKeptAfter c.kept s.last_stamp (Some k) → take (s.last_stamp + 1) c.kept ≡ take s.last_stamp c.kept ++ k ∷ []
next_front c s k p at =
    let left = left_is c s k p at in
    let splits : Splits c p.ran (k ∷ left.0) p.events_left = subst (λ (l : List Kept). Splits c p.ran l p.events_left) left.1 p.splits in
    let front : take s.last_stamp c.kept ≡ p.ran.kept = begins s.last_stamp c.kept p.ran.kept (k ∷ left.0) splits.kept (stamped c s p) in
    ap (λ (x : Rows). take (x.last_stamp + 1) c.kept) p.rows ∙ (replayed_next c p.ran k left.0 p.events_left splits).0 ∙ ap (λ (l : List Kept). l ++ k ∷ []) (sym front)

-- a replay goes on after a record that matches
pub goes_next : (c : Content) (r next : Replay) (k : Kept) → Goes c r → IsKeptAfter c.kept (rows_of r).last_stamp (Some k) → Matches c (rows_of r) k → GoesOn c r k next
    → rows_of next ≡ (stepped (rows_of r) (again k)).rows → (rows_of r).last_stamp < (rows_of r).limits.requests → Goes c next
goes_next c r next k g at matches goes is room =
    let s : Rows = rows_of r in
    let stamp : (rows_of next).last_stamp ≡ s.last_stamp + 1 = ap (λ (x : Rows). x.last_stamp) is ∙ step_stamp s (again k).moment (again k).request.command in
    let seen : Every (λ (k : Kept). IsSeenKey next.keys k.request) (take s.last_stamp c.kept ++ k ∷ []) = seen_one_more r.keys next.keys k (take s.last_stamp c.kept) goes.others goes.itself g.seen in
    record {
      replays = subst (Replays c) (sym is) (replay_goes_on c s k g.replays at matches room);
      seen = subst (λ (n : ℕ). Every (λ (k : Kept). IsSeenKey next.keys k.request) (take n c.kept)) (sym stamp) (subst (Every (λ (k : Kept). IsSeenKey next.keys k.request)) (sym (next_front c s k g.replays at)) seen);
      page = goes.page;
    }
