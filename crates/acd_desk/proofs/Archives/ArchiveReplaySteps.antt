-- A replay from an archive on: the results of its steps, and what they read.
use Rattle.std.proofs.Common.{◌≡◌, ℕ, ◌+◌, ◌≤◌, Bool, true, false, cond, List, [], ◌∷◌, ◌++◌, length, drop, Option, Some, None, is_some, option_map, Result, Ok, refl, sym, ap, ap₂, subst, ◌∙◌, arith, true≢false, inl, inr}
use Rattle.std.specs.Bool.{Decides}
use Rattle.std.specs.Option.{option_or}
use Rattle.std.proofs.lemmas.List.Folds.{find-append}
use Rattle.acd_terms.specs.Lists.{Every}
use Rattle.acd_terms.specs.declared.rows.Rows.{Rows}
use Rattle.acd_model.specs.Rules.First.{BreaksNoRule}
use Rattle.acd_lemmas.proofs.Changes.{requests_few}
use Rattle.acd_lemmas.proofs.Lists.{head_is}
use Rattle.acd_laws.proofs.Rules.AllRuleTests.{keeps_read, requests_read}
use Rattle.acd_book.specs.declared.kept.Kept.{Kept}
use Rattle.acd_book.specs.Content.{Content, kept_of, IsKeptAfter, IsNextKept, events_after, IsCounted}
use Rattle.acd_book.specs.Memory.{stamp_of}
use Rattle.acd_desk.specs.declared.audit.ArchiveAudit.{ArchiveAudit}
use Rattle.acd_desk.specs.declared.audit.ArchiveAudit.TheVariants.{Differs}
use Rattle.acd_desk.specs.declared.newer.NewerReplay.{NewerReplay}
use Rattle.acd_desk.specs.declared.newer.NewerStep.{NewerStep}
use Rattle.acd_desk.specs.declared.newer.NewerStep.TheVariants as step
use Rattle.acd_desk.specs.declared.overlap.Cut.{Cut}
use Rattle.acd_desk.specs.declared.pair.PairFault.{PairFault}
use Rattle.acd_desk.specs.declared.replay.Replay.{Replay}
use Rattle.acd_desk.specs.declared.working.LoadedSwitch.{LoadedSwitch}
use Rattle.acd_desk.specs.Contents.CarriedContent.{Archive}
use Rattle.acd_desk.specs.Contents.AbstractDesk.{stepped, executed}
use Rattle.acd_desk.specs.Contents.KeyPlaces.{IsSeenKey}
use Rattle.acd_desk.specs.Audits.Replay.{HasRoom, again, rows_of, IsEnd, IsAll, IsFirstOfKey, Matches, Knows, Plays, IsReplayed, StepsOn}
use Rattle.acd_desk.specs.Contents.WithArchive.{IsLedFrom}
use Rattle.acd_desk.specs.Audits.AuditWith.{HoldsArchive, RunsOn, RunsTo, first_sent_again, IsDifferenceWith, IsAuditWith}
use Rattle.acd_desk.specs.Audits.Overlap.{AreInOrder, IsLast, FindsPlace}
use Rattle.acd_desk.specs.Reads.Pages.{IsPageOf}
use Rattle.acd_desk.specs.Audits.ReplayWith.{newer_rows, IsSwitchOf, KnowsWith, Notes, first_of_both, with_first, GoesWith, BeginsWith, IsReplayedWith, IsStepWith, CountsOneWith, PlaysWith, StepsOnWith, sound_or, answer_at_end, AuditsFrom, AuditsInOrder}
use Rattle.acd_desk.proofs.Replays.AuditSteps.{counts_one}
use Rattle.acd_desk.proofs.Replays.Audits.{none_of}
use Rattle.acd_desk.proofs.Archives.BothReads.{Books, FindingOfBoth, OfArchive, OfCurrent, ReadsFrom, both_known, both_as, both_ok, both_and, both_then}
use Rattle.acd_desk.proofs.Replays.ReplayStates.{seen_one_more}
use Rattle.acd_desk.proofs.Archives.CarriedPart.{kept_whole, carried_rows, first_none, led_is_sound, sent_again_unsound}
use Rattle.acd_desk.proofs.Archives.LookUps.{only_front}
use Rattle.acd_desk.proofs.Archives.NewerRuns.{led_holds, runs_start, runs_next, carried_none, runs_led, runs_above, led_matches, led_ends, newer_first}
use Rattle.acd_desk.proofs.Archives.NextRecords.{none_left, next_left}
use Rattle.acd_book.proofs.SharedLists.{not_both, cons_not_nil}

-- ---- what is next ----

rows_next : (a c : Content) (s : Rows) (k : Kept) (p : RunsTo a c s) → IsKeptAfter c.kept s.last_stamp (Some k) → (tail : List Kept) × (p.kept_left ≡ k ∷ tail)
rows_next a c s k p found =
    let same : s.last_stamp ≡ p.ran.rows.last_stamp = ap (λ (x : Rows). x.last_stamp) p.rows in
    next_left p.ran.rows.last_stamp p.ran.kept p.kept_left k p.runs.counted.kept p.runs.kept_rise
    (subst (λ (n : ℕ). IsKeptAfter (p.ran.kept ++ p.kept_left) n (Some k)) same
    (subst (λ (l : List Kept). IsKeptAfter l s.last_stamp (Some k)) p.runs.kept found))

rows_none : (a c : Content) (s : Rows) (p : RunsTo a c s) → IsKeptAfter c.kept s.last_stamp None → p.kept_left ≡ []
rows_none a c s p found =
    let same : s.last_stamp ≡ p.ran.rows.last_stamp = ap (λ (x : Rows). x.last_stamp) p.rows in
    none_left p.ran.rows.last_stamp p.ran.kept p.kept_left p.runs.kept_rise
    (subst (λ (n : ℕ). IsKeptAfter (p.ran.kept ++ p.kept_left) n None) same (subst (λ (l : List Kept). IsKeptAfter l s.last_stamp None) p.runs.kept found))

at_least : (a c : Content) (s : Rows) → RunsTo a c s → a.rows.last_stamp ≤ s.last_stamp
at_least a c s p = subst (λ (x : Rows). a.rows.last_stamp ≤ x.last_stamp) (sym p.rows) (runs_above a c p.ran p.kept_left p.events_left p.runs)

-- ---- it differs ----

too_low : (n m : ℕ) → n ≤ m → m + 1 ≤ n → ⊥
too_low n m le less = omega (arith, le, less)

differs_here : (a c : Content) (s : Rows) → RunsTo a c s → ¬ IsLedFrom a c
    → ((k : Kept) → IsKeptAfter c.kept s.last_stamp (Some k) → HasRoom s → ¬ Matches c s k) → IsDifferenceWith a c (s.last_stamp + 1)
differs_here a c s p unled differs = record {
  unled = unled;
  older = λ le holds. too_low a.rows.last_stamp s.last_stamp (at_least a c s p) le;
  newer = λ above. record { rows = s; before = p; place = refl; differs = differs };
}

pub newer_unlike : (a c : Content) (r : NewerReplay) (k : Kept) → GoesWith a c r → IsKeptAfter c.kept (newer_rows r).last_stamp (Some k)
    → ¬ Matches c (newer_rows r) k → IsDifferenceWith a c ((newer_rows r).last_stamp + 1)
newer_unlike a c r k g at unlike =
    let s : Rows = newer_rows r in
    let p : RunsTo a c s = g.runs in
    let left = rows_next a c s k p at in
    let runs : RunsOn a c p.ran (k ∷ left.0) p.events_left = subst (λ (l : List Kept). RunsOn a c p.ran l p.events_left) left.1 p.runs in
    differs_here a c s p
    (λ goes. unlike (subst (λ (x : Rows). Matches c x k) (sym p.rows) (led_matches a c p.ran k left.0 p.events_left runs goes g.order.archive.counted).0))
    (λ other also room m. let next = rows_next a c s other p also in unlike (subst (Matches c s) (head_is other k next.0 left.0 (sym next.1 ∙ left.1)) m))

pub newer_full : (a c : Content) (r : NewerReplay) (k : Kept) → GoesWith a c r → IsKeptAfter c.kept (newer_rows r).last_stamp (Some k)
    → (newer_rows r).limits.requests ≤ (newer_rows r).last_stamp → IsDifferenceWith a c ((newer_rows r).last_stamp + 1)
newer_full a c r k g at full =
    let s : Rows = newer_rows r in
    let p : RunsTo a c s = g.runs in
    let left = rows_next a c s k p at in
    let runs : RunsOn a c p.ran (k ∷ left.0) p.events_left = subst (λ (l : List Kept). RunsOn a c p.ran l p.events_left) left.1 p.runs in
    differs_here a c s p
    (λ goes.
    let room = (led_matches a c p.ran k left.0 p.events_left runs goes g.order.archive.counted).1 in
    not_both s.last_stamp s.limits.requests (subst HasRoom (sym p.rows) room) full)
    (λ other also room m. not_both s.last_stamp s.limits.requests room full)

-- ---- it ends ----

-- sound, or the first that was sent again is noted
led_answer : (a c : Content) (goes : IsLedFrom a c) (noted : Option ℕ) (first : Option Kept) → IsCounted a → noted ≡ option_map stamp_of first
    → first ≡ first_sent_again goes.left goes.newer → IsAuditWith a c (sound_or noted)
led_answer a c goes None None counted is here = led_is_sound a c goes (first_none goes.left goes.newer (sym here))
led_answer a c goes None (Some k) counted is here = absurd cc
led_answer a c goes (Some n) None counted is here = absurd cc
led_answer a c goes (Some n) (Some k) counted is here = record {
  unsound = sent_again_unsound a c goes n counted (ap (option_map stamp_of) (sym here) ∙ sym is);
  led = goes;
  first = ap (option_map stamp_of) (sym here) ∙ sym is;
}

pub newer_sound : (a c : Content) (r : NewerReplay) → GoesWith a c r → IsKeptAfter c.kept (newer_rows r).last_stamp None → IsEnd c (newer_rows r)
    → IsAuditWith a c (sound_or r.sent_again)
newer_sound a c r g at ended =
    let p : RunsTo a c (newer_rows r) = g.runs in
    let none : p.kept_left ≡ [] = rows_none a c (newer_rows r) p at in
    let HasNoted : List Kept → Type 0 = λ l. (t : RunsOn a c p.ran l p.events_left) × (r.sent_again ≡ option_map stamp_of (first_sent_again t.left t.newer)) in
    let all : HasNoted [] = subst HasNoted none (p.runs, g.noted) in
    let led = runs_led a c p.ran p.events_left all.0 (subst (λ (x : Rows). events_after c.events x.last_event 1 ≡ []) p.rows ended.0) (ended.1 ∙ p.rows) in
    led_answer a c led.0 r.sent_again (first_sent_again all.0.left all.0.newer) g.order.archive.counted all.1
    (ap₂ first_sent_again (sym led.2) (sym led.1))

pub newer_rest : (a c : Content) (r : NewerReplay) → GoesWith a c r → IsKeptAfter c.kept (newer_rows r).last_stamp None → ¬ IsEnd c (newer_rows r)
    → IsDifferenceWith a c ((newer_rows r).last_stamp + 1)
newer_rest a c r g at unmet =
    let s : Rows = newer_rows r in
    let p : RunsTo a c s = g.runs in
    let none = rows_none a c s p at in
    let runs : RunsOn a c p.ran [] p.events_left = subst (λ (l : List Kept). RunsOn a c p.ran l p.events_left) none p.runs in
    differs_here a c s p
    (λ goes.
    let both = led_ends a c p.ran p.events_left runs goes g.order.archive.counted in
    unmet (subst (λ (x : Rows). events_after c.events x.last_event 1 ≡ []) (sym p.rows) both.0, both.1 ∙ sym p.rows))
    (λ k also room m. let next = rows_next a c s k p also in cons_not_nil k next.0 (sym next.1 ∙ none))

-- whichever it is
pub newer_at_end : (a c : Content) (r : NewerReplay) → IsKeptAfter c.kept (newer_rows r).last_stamp None → (w : Bool) → Decides w (IsEnd c (newer_rows r))
    → GoesWith a c r → IsAuditWith a c (answer_at_end r w)
newer_at_end a c r found true holds g = newer_sound a c r g found (holds.0 refl)
newer_at_end a c r found false holds g = newer_rest a c r g found (λ ended. true≢false (sym (holds.1 ended)))

-- ---- it begins and continues ----

pub newer_start : (a c : Content) (r : Replay) → BeginsWith a c r → GoesWith a c (record { replay = r; sent_again = None })
newer_start a c r b =
    let first = runs_start a c b.holds b.order.archive.counted in
    record {
      order = b.order;
      runs = record {
        ran = b.holds.carried;
        kept_left = b.holds.kept_left;
        events_left = b.holds.events_left;
        runs = first.0;
        rows = b.rows ∙ sym (carried_rows a b.holds.left b.holds.carried b.holds.cut);
      };
      seen = subst (Every (λ (k : Kept). IsSeenKey r.keys k.request)) (sym first.1) tt;
      page = b.page;
      noted = ap (λ (l : List Kept). option_map stamp_of (first_sent_again first.0.left l)) (sym first.1);
    }

-- the first of the records with one more
first_of_more : (p : Archive) (newer : List Kept) (k : Kept) (known : Bool) → is_some (kept_of p.kept k.request.requester k.request.invoke) ≡ known
    → option_map stamp_of (first_sent_again p (newer ++ k ∷ [])) ≡ first_of_both (option_map stamp_of (first_sent_again p newer)) known k.stamp
first_of_more p newer k known is =
    let is_known : Kept → Bool = λ (x : Kept). is_some (kept_of p.kept x.request.requester x.request.invoke) in
    ap (option_map stamp_of) (find-append is_known newer (k ∷ []) ∙ ap (λ (b : Bool). option_or (first_sent_again p newer) (cond b (Some k) None)) is)
    ∙ both (first_sent_again p newer) k known
  where
    both : (first : Option Kept) (k : Kept) (known : Bool) → option_map stamp_of (option_or first (cond known (Some k) None))
        ≡ first_of_both (option_map stamp_of first) known k.stamp
    both (Some x) k known = refl
    both None k true = refl
    both None k false = refl

pub newer_next : (a c : Content) (r next : NewerReplay) (k : Kept) → GoesWith a c r → IsKeptAfter c.kept (newer_rows r).last_stamp (Some k)
    → IsReplayedWith a c r k (Some next) → newer_rows next ≡ (stepped (newer_rows r) (again k)).rows → HasRoom (newer_rows r)
    → GoesWith a c next
newer_next a c r next k g at replayed is room =
    let s : Rows = newer_rows r in
    let p : RunsTo a c s = g.runs in
    let left = rows_next a c s k p at in
    let HasNoted : List Kept → Type 0
    = λ l. (t : RunsOn a c p.ran l p.events_left) × Every (λ (x : Kept). IsSeenKey r.replay.keys x.request) t.newer
    × (r.sent_again ≡ option_map stamp_of (first_sent_again t.left t.newer)) in
    let both : HasNoted (k ∷ left.0) = subst HasNoted left.1 (p.runs, g.seen, g.noted) in
    let matches : Matches c p.ran.rows k = subst (λ (x : Rows). Matches c x k) p.rows replayed.0 in
    let more = runs_next a c p.ran k left.0 p.events_left both.0 matches (subst HasRoom p.rows room) in
    let known : is_some (kept_of both.0.left.kept k.request.requester k.request.invoke) ≡ is_some (kept_of a.kept k.request.requester k.request.invoke)
    = ap is_some
    (sym (only_front both.0.left.kept both.0.carried.kept k.request.requester k.request.invoke (carried_none a c p.ran k left.0 p.events_left both.0 matches))
    ∙ ap (λ (l : List Kept). kept_of l k.request.requester k.request.invoke) (sym (kept_whole a both.0.left both.0.carried both.0.cut))) in
    record {
      order = g.order;
      runs = record {
        ran = executed p.ran (again k);
        kept_left = left.0;
        events_left = drop (length (stepped p.ran.rows (again k)).events) p.events_left;
        runs = more.0;
        rows = is ∙ ap (λ (x : Rows). (stepped x (again k)).rows) p.rows;
      };
      seen = subst (Every (λ (x : Kept). IsSeenKey next.replay.keys x.request)) (sym more.1)
          (seen_one_more r.replay.keys next.replay.keys k both.0.newer replayed.1.others replayed.1.itself both.1);
      page = replayed.1.page;
      noted = replayed.2 ∙ ap (λ (first : Option ℕ). first_of_both first (is_some (kept_of a.kept k.request.requester k.request.invoke)) k.stamp) both.2
          ∙ sym (first_of_more both.0.left both.0.newer k (is_some (kept_of a.kept k.request.requester k.request.invoke)) known)
          ∙ ap₂ (λ (p : Archive) (l : List Kept). option_map stamp_of (first_sent_again p l)) (sym more.2) (sym more.1);
    }

-- so much is known of the next record
pub knows_newer : (a c : Content) (r : NewerReplay) (k : Kept) → GoesWith a c r → IsKeptAfter c.kept (newer_rows r).last_stamp (Some k)
    → KnowsWith a c r.replay.keys r.replay.page k
knows_newer a c r k g at =
    let left = rows_next a c (newer_rows r) k g.runs at in
    record {
      finds = λ none new. newer_first a c g.runs.ran k left.0 g.runs.kept_left g.runs.events_left g.runs.runs left.1 r.replay.keys g.seen none new;
      page = g.page;
    }

-- ---- what the steps read ----

-- the next record was asked for
abbrev pub IsNext : NewerReplay → FindingOfBoth (Option Kept)
IsNext r a c found = IsKeptAfter c.kept (newer_rows r).last_stamp found

pub next_read : {a b : Books} (r : NewerReplay) {n : ℕ} {found next : Option Kept} → n ≡ (newer_rows r).last_stamp → found ≡ next
    → ReadsFrom a b (Ok found) (OfCurrent (IsNextKept n)) → ReadsFrom a b (Ok next) (IsNext r)
next_read {a = a} {b = b} r {next = next} from_last is read =
    subst (λ (m : ℕ). ReadsFrom a b (Ok next) (OfCurrent (IsNextKept m))) from_last (both_as is read)

pub step_replayed : {a b e : Books} {r : NewerReplay} {k : Kept} {played : Option NewerReplay} {next : NewerReplay} → ReadsFrom a b (Ok (Some k)) (IsNext r)
    → ReadsFrom b e (Ok played) (PlaysWith r k) → played ≡ Some next → StepsOnWith (newer_rows r) k played
    → HasRoom (newer_rows r) → ReadsFrom a e (Ok (step.Replayed next)) (IsStepWith r)
step_replayed {r = r} {k = k} {next = next} at played is goes room =
    both_ok (both_and at (both_as is played))
    (λ p q both g. newer_next p q r next k g both.0 (both.1 (knows_newer p q r k g both.0)) (subst (StepsOnWith (newer_rows r) k) is goes) room)

pub step_differs : {a b e : Books} {r : NewerReplay} {k : Kept} {played : Option NewerReplay} {m : ℕ} → ReadsFrom a b (Ok (Some k)) (IsNext r)
    → ReadsFrom b e (Ok played) (PlaysWith r k) → played ≡ None → m ≡ (newer_rows r).last_stamp + 1 → ReadsFrom a e (Ok (step.Ended (Differs m))) (IsStepWith r)
step_differs {r = r} {k = k} at played is_played is =
    both_ok (both_and at (both_as is_played played))
    (λ p q both g. subst (IsDifferenceWith p q) (sym is) (newer_unlike p q r k g both.0 (both.1 (knows_newer p q r k g both.0))))

pub step_last : {a b e : Books} {r : NewerReplay} {s : Rows} {whole : Bool} {last : ArchiveAudit} → s ≡ newer_rows r → ReadsFrom a b (Ok None) (IsNext r)
    → ReadsFrom b e (Ok whole) (OfCurrent (λ (c : Content) (w : Bool). Decides w (IsEnd c s))) → last ≡ answer_at_end r whole
    → ReadsFrom a e (Ok (step.Ended last)) (IsStepWith r)
step_last {r = r} {whole = whole} same none ended is =
    both_ok (both_and none ended)
    (λ p q both g.
    subst (IsAuditWith p q) (sym is) (newer_at_end p q r both.0 whole (subst (λ (x : Rows). Decides whole (IsEnd q x)) same both.1) g))

-- ---- a record is replayed, whether the archive has its key or not ----

abbrev pub IsKnownIn : Kept → FindingOfBoth Bool
IsKnownIn k a c found = found ≡ is_some (kept_of a.kept k.request.requester k.request.invoke)

-- the book is asked whether the key is new there, where the archive has it
known_or_found : (a c : Content) (r noted : Replay) (k : Kept) (known : Bool) → Notes r known k.request noted → IsKnownIn k a c known
    → KnowsWith a c r.keys r.page k → Knows c noted.keys noted.page k
known_or_found a c r noted k known notes is knows = record {
  finds = λ unseen. found known notes.itself is unseen;
  page = subst (IsPageOf c) (sym notes.page) knows.page;
}
  where
    found : (known : Bool) → (known ≡ true → IsSeenKey noted.keys k.request) → IsKnownIn k a c known → ¬ IsSeenKey noted.keys k.request → IsFirstOfKey c k
    found true itself is unseen = absurd (unseen (itself refl))
    found false itself is unseen =
        knows.finds (none_of (kept_of a.kept k.request.requester k.request.invoke) (sym is)) (λ seen. unseen (notes.others k.request seen))

played_as : (a c : Content) (r : NewerReplay) (noted : Replay) (k : Kept) (known : Bool) (first : Option ℕ) (played : Option Replay)
    → Notes r.replay known k.request noted → IsKnownIn k a c known → first ≡ first_of_both r.sent_again known k.stamp → IsReplayed c noted k played
    → IsReplayedWith a c r k (with_first first played)
played_as a c r noted k known first None notes is same unlike = λ m. unlike (subst (λ (s : Rows). Matches c s k) (sym notes.rows) m)
played_as a c r noted k known first (Some next) notes is same both = (
  subst (λ (s : Rows). Matches c s k) notes.rows both.0,
  record { itself = both.1.itself; others = λ other seen. both.1.others other (notes.others other seen); page = both.1.page },
  same ∙ ap (λ (b : Bool). first_of_both r.sent_again b k.stamp) is,
)

pub replayed_both : {a b e : Books} (r : NewerReplay) {noted : Replay} {k : Kept} {known : Bool} {first : Option ℕ} {played : Option Replay}
    {found : Option NewerReplay} → Notes r.replay known k.request noted → first ≡ first_of_both r.sent_again known k.stamp → found ≡ with_first first played
    → ReadsFrom a b (Ok known) (IsKnownIn k) → ReadsFrom b e (Ok played) (OfCurrent (Plays noted k)) → ReadsFrom a e (Ok found) (PlaysWith r k)
replayed_both r {noted = noted} {k = k} {known = known} {first = first} {played = played} notes is_first is known_there plays =
    both_ok (both_and known_there plays)
    (λ p q both knows.
    subst (IsReplayedWith p q r k) (sym is)
    (played_as p q r noted k known first played notes both.0 is_first (both.1 (known_or_found p q r.replay noted k known notes both.0 knows))))

pub steps_with : (s : Rows) (k : Kept) (noted : Replay) (first : Option ℕ) (played : Option Replay) (found : Option NewerReplay) → rows_of noted ≡ s
    → found ≡ with_first first played → StepsOn (rows_of noted) k played → StepsOnWith s k found
steps_with s k noted first None found rows is goes = subst (StepsOnWith s k) (sym is) tt
steps_with s k noted first (Some next) found rows is goes = subst (StepsOnWith s k) (sym is) (goes ∙ ap (λ (x : Rows). (stepped x (again k)).rows) rows)

pub counts_one_with : (s : Rows) (k : Kept) (played : Option NewerReplay) (next : NewerReplay) → played ≡ Some next → StepsOnWith s k played
    → CountsOneWith s (step.Replayed next)
counts_one_with s k played next is goes =
    counts_one s k (option_map (λ (x : NewerReplay). x.replay) played) next.replay (ap (option_map (λ (x : NewerReplay). x.replay)) is)
    (course_goes played goes)
  where
    course_goes : (played : Option NewerReplay) → StepsOnWith s k played → StepsOn s k (option_map (λ (x : NewerReplay). x.replay) played)
    course_goes None goes = tt
    course_goes (Some next) goes = goes

-- ---- step by step ----

-- a replay has come so far
abbrev pub SeenWith : Replay → NewerReplay → FindingOfBoth (Unit {0})
SeenWith first r a c u = BeginsWith a c first → GoesWith a c r

pub newer_begun : {a : Books} {first : Replay} → ReadsFrom a a (Ok tt) (SeenWith first (record { replay = first; sent_again = None }))
newer_begun {first = first} = both_known (λ p q begins. newer_start p q first begins)

pub newer_more : {a b e : Books} {first : Replay} {r next : NewerReplay} {taken : NewerStep} → taken ≡ step.Replayed next
    → ReadsFrom a b (Ok tt) (SeenWith first r) → ReadsFrom b e (Ok taken) (IsStepWith r) → ReadsFrom a e (Ok tt) (SeenWith first next)
newer_more is seen read = both_ok (both_and seen (both_as is read)) (λ p q both begins. both.1 (both.0 begins))

pub newer_ended : {a b e : Books} {first : Replay} {r : NewerReplay} {taken : NewerStep} {found : ArchiveAudit} → taken ≡ step.Ended found
    → ReadsFrom a b (Ok tt) (SeenWith first r) → ReadsFrom b e (Ok taken) (IsStepWith r) → ReadsFrom a e (Ok found) (AuditsFrom first)
newer_ended is seen read = both_ok (both_and seen (both_as is read)) (λ p q both begins. both.1 (both.0 begins))

-- the limit of executed requests is reached
newer_limit : (a c : Content) (r : NewerReplay) (all : Bool) → IsAll c (newer_rows r) all → (newer_rows r).limits.requests ≤ (newer_rows r).last_stamp
    → GoesWith a c r → IsAuditWith a c (answer_at_end r all)
newer_limit a c r true whole full g = newer_sound a c r g whole.0 whole.1
newer_limit a c r false rest full g = elim rest [
  | inl more ↦ newer_full a c r more.0 g more.1 full
  | inr none ↦ newer_rest a c r g none.0 none.1
]

pub newer_left : {a b e : Books} {first : Replay} {r : NewerReplay} {s : Rows} {all : Bool} {found : ArchiveAudit} → s ≡ newer_rows r
    → found ≡ answer_at_end r all → (newer_rows r).limits.requests ≤ (newer_rows r).last_stamp → ReadsFrom a b (Ok tt) (SeenWith first r)
    → ReadsFrom b e (Ok all) (OfCurrent (λ (c : Content) (w : Bool). IsAll c s w)) → ReadsFrom a e (Ok found) (AuditsFrom first)
newer_left {r = r} {all = all} same is full seen read =
    both_ok (both_and seen read)
    (λ p q both begins.
    subst (IsAuditWith p q) (sym is) (newer_limit p q r all (subst (λ (x : Rows). IsAll q x all) same both.1) full (both.0 begins)))

-- ---- the whole ----

-- the content isn't as the archive
differs_older : (a c : Content) (n : ℕ) → n ≤ a.rows.last_stamp → ¬ HoldsArchive a c → IsDifferenceWith a c n
differs_older a c n le none = record {
  unled = λ goes. none (led_holds a c goes);
  older = λ within. none;
  newer = λ above. absurd (not_both a.rows.last_stamp n above le);
}

-- a switch of the archive's rows was made, and these are its counters
abbrev pub IsLoaded : Cut → FindingOfBoth LoadedSwitch
IsLoaded last a c loaded = (loaded.switch.value ≡ a.rows) × IsLast a last

pub archive_loaded : {a b : Books} {loaded : LoadedSwitch} {last : Cut} → last.stamp ≡ loaded.switch.value.last_stamp
    → last.number ≡ loaded.switch.value.last_event → ReadsFrom a b (Ok loaded) (OfArchive IsSwitchOf) → ReadsFrom a b (Ok loaded) (IsLoaded last)
archive_loaded stamp number read =
    both_ok read
    (λ p q rows. (
      rows,
      record { stamp = stamp ∙ ap (λ (x : Rows). x.last_stamp) rows; number = number ∙ ap (λ (x : Rows). x.last_event) rows },
    ))

pub whole_differs : {a b e : Books} {loaded : LoadedSwitch} {last : Cut} {found : Option ℕ} {place : ℕ} → ReadsFrom a b (Ok loaded) (IsLoaded last)
    → ReadsFrom b e (Ok found) (FindsPlace last) → found ≡ Some place → ReadsFrom a e (Ok (Differs place)) AuditsInOrder
whole_differs {place = place} loads finds is =
    both_ok (both_and loads (both_as is finds))
    (λ p q both order.
    let other = both.1 order both.0.1 in
    differs_older p q place (subst (λ (n : ℕ). place ≤ n) both.0.1.stamp other.0) other.1)

-- a replay begins at the archive's rows, where both are in order
abbrev pub BeginsInOrder : Replay → FindingOfBoth (Unit {0})
BeginsInOrder first a c u = AreInOrder a c → BeginsWith a c first

-- all is as the archive's up to its last stamp
pub whole_begun : {a b e : Books} {loaded : LoadedSwitch} {last : Cut} {found : Option ℕ} {first : Replay} → ReadsFrom a b (Ok loaded) (IsLoaded last)
    → ReadsFrom b e (Ok found) (FindsPlace last) → found ≡ None → rows_of first ≡ loaded.switch.value → ((x : Content) → IsPageOf x first.page)
    → ReadsFrom a e (Ok tt) (BeginsInOrder first)
whole_begun loads finds is rows page =
    both_ok (both_and loads (both_as is finds))
    (λ p q both order. record { order = order; holds = both.1 order both.0.1; rows = rows ∙ both.0.0; page = page q })

-- and the rest is replayed
pub whole_newer : {a b e : Books} {first : Replay} {result : Result ArchiveAudit PairFault} → ReadsFrom a b (Ok tt) (BeginsInOrder first)
    → ReadsFrom b e result (AuditsFrom first) → ReadsFrom a e result AuditsInOrder
whole_newer begun audits = both_then begun audits (λ p q begins y holds order. holds (begins order))

-- no last stamp is near the end of its type
pub few_stamps : (s : Rows) → BreaksNoRule s → s.last_stamp ≤ 1000000000
few_stamps s rules =
    let kept = keeps_read s rules in
    let few = requests_few s.limits kept.sizes.limits in
    let within = requests_read s rules in
    omega (arith, few, within)

pub few_of_switch : (n : ℕ) (lent held : Rows) → BreaksNoRule held → n ≡ lent.last_stamp → lent ≡ held → n ≤ 1000000000
few_of_switch n lent held rules is same = subst (λ (m : ℕ). m ≤ 1000000000) (sym (is ∙ ap (λ (x : Rows). x.last_stamp) same)) (few_stamps held rules)
