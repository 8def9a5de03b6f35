-- The reads of an audit, and what the replay learns from them.
use Rattle.std.proofs.Common.{◌≡◌, ℕ, ◌+◌, ◌<◌, ◌≤◌, Bool, true, false, cond, Option, Some, None, Result, Ok, refl, sym, ap, subst, ◌∙◌, true≢false, take, arith, inl, inr}
use Rattle.std.specs.Bool.{Decides}
use Rattle.acd_terms.specs.Limits.{limits_fit}
use Rattle.acd_terms.specs.Lists.{Every}
use Rattle.acd_terms.specs.Rows.{empty_rows}
use Rattle.acd_terms.specs.declared.rows.Limits.{Limits}
use Rattle.acd_terms.specs.declared.rows.Rows.{Rows}
use Rattle.acd_book.specs.declared.kept.Kept.{Kept}
use Rattle.acd_book.specs.declared.fault.BookFault.{BookFault}
use Rattle.acd_book.specs.Content.{Content, IsKeptAfter}
use Rattle.acd_book.specs.Order.{IsOrdered}
use Rattle.acd_book.specs.State.{BookState, Reads}
use Rattle.acd_desk.specs.declared.audit.Audit.TheVariants.{Sound, Differs}
use Rattle.acd_desk.specs.declared.replay.Replay.{Replay}
use Rattle.acd_desk.specs.declared.replay.Step.{Step}
use Rattle.acd_desk.specs.declared.replay.Step.TheVariants as step
use Rattle.acd_desk.specs.Audits.Audit.{IsFirstDifference, IsAudit}
use Rattle.acd_desk.specs.Contents.AbstractDesk.{stepped}
use Rattle.acd_desk.specs.Contents.KeyPlaces.{IsSeenKey}
use Rattle.acd_desk.specs.Reads.Pages.{IsPageOf}
use Rattle.acd_book.specs.BookReads.{IfOrdered, ReadsIfOpen}
use Rattle.acd_desk.specs.Audits.Replay.{again, rows_of, Replays, Goes, IsEnd, BeginsReplay, IsReplayed, IsStep, CountsOne, IsAll, Plays, StepsOn}
use Rattle.acd_desk.proofs.Replays.Audits.{starts_replay, replay_unlike, replay_full, replay_sound, replay_rest}
use Rattle.acd_desk.proofs.Replays.ReplayStates.{knows_next, goes_next}
use Rattle.acd_desk.proofs.Contents.Steps.{step_stamp, step_limits}
use Rattle.acd_book.proofs.ReadsInTurn.{Finding, BothSay, then_read, then_ok, then_read_ok}
use Rattle.acd_book.proofs.ReadsAhead.{read_then}
use Rattle.acd_lemmas.proofs.Changes.{requests_few}

-- a replay has come so far in a content that is in order
abbrev pub Seen : Replay → Content → Unit {0} → Type 0
Seen r c u = IsOrdered c → Goes c r

-- ---- the next record ----

-- the record after this stamp was asked for
abbrev IsNext : ℕ → Content → Option Kept → Type 0
IsNext n c found = IsKeptAfter c.kept n found

-- the stamp of a switch that was lent
pub stamp_of_switch : (n : ℕ) (lent held : Rows) → n ≡ lent.last_stamp → lent ≡ held → n ≡ held.last_stamp
stamp_of_switch n lent held is same = is ∙ ap (λ (r : Rows). r.last_stamp) same

-- after this number, which is that stamp, and this was found
pub next_found : (a b : BookState) (n m : ℕ) (found known : Option Kept) → n ≡ m → found ≡ known → Reads a b (Ok found) (IsNext n)
    → Reads a b (Ok known) (IsNext m)
next_found a b n m found known from_last is read =
    subst (λ (x : ℕ). Reads a b (Ok known) (IsNext x)) from_last (subst (λ (o : Option Kept). Reads a b (Ok o) (IsNext n)) is read)

-- whether nothing is left after a replay, and whether it has come past all that is kept
abbrev pub EndsAt : Rows → Content → Bool → Type 0
EndsAt s c found = Decides found (IsEnd c s)

abbrev HasAll : Rows → Content → Bool → Type 0
HasAll s c found = IsAll c s found

-- ---- a step ----

abbrev pub StepOf : Replay → Content → Step → Type 0
StepOf r c found = IsStep c r found

-- a read and what was known give what follows from both
read_then_ok : {A C D : Type 0} {P : Finding A} {Q : Finding C} (R : Finding D) (a b d : BookState) (x : A) (y : C) (z : D)
    → Reads a b (Ok x) P → ReadsIfOpen b d (Ok y) Q → BothSay P x Q y R z → Reads a d (Ok z) R
read_then_ok {C = C} {P = P} {Q = Q} R a b d x y z one two follows =
    then_ok R a d y z (read_then (λ (c : Content) (found : C). P c x × Q c found) a b d x (Ok y) one two (λ c p found q. (p, q)))
    (λ c both. follows c both.0 both.1)

pub step_replayed : (a b d : BookState) (r : Replay) (k : Kept) (played : Option Replay) (next : Replay) → played ≡ Some next
    → Reads a b (Ok (Some k)) (IsNext (rows_of r).last_stamp) → ReadsIfOpen b d (Ok played) (Plays r k) → StepsOn (rows_of r) k played
    → (rows_of r).last_stamp < (rows_of r).limits.requests → Reads a d (Ok (step.Replayed next)) (StepOf r)
step_replayed a b d r k played next is one two goes room =
    read_then_ok (StepOf r) a b d (Some k) played (step.Replayed next) one two
    (λ c at plays g.
    let both = subst (IsReplayed c r k) is (plays (knows_next c r k g at)) in
    goes_next c r next k g at both.0 both.1 (subst (StepsOn (rows_of r) k) is goes) room)

pub step_differs : (a b d : BookState) (r : Replay) (k : Kept) (played : Option Replay) → played ≡ None
    → Reads a b (Ok (Some k)) (IsNext (rows_of r).last_stamp) → ReadsIfOpen b d (Ok played) (Plays r k) → Reads a d (Ok step.Differs) (StepOf r)
step_differs a b d r k played is one two =
    read_then_ok (StepOf r) a b d (Some k) played step.Differs one two
    (λ c at plays g. replay_unlike c (rows_of r) k g.replays at (subst (IsReplayed c r k) is (plays (knows_next c r k g at))))

last_is : (c : Content) (r : Replay) → IsNext (rows_of r).last_stamp c None → (w : Bool) → EndsAt (rows_of r) c w → IsStep c r (cond w step.Ended step.Differs)
last_is c r found true holds = λ g. replay_sound c (rows_of r) g.replays found (holds.0 refl)
last_is c r found false holds = λ g. replay_rest c (rows_of r) g.replays found (λ ended. true≢false (sym (holds.1 ended)))

pub step_last : (a b d : BookState) (r : Replay) (whole : Bool) (last : Step) → Reads a b (Ok None) (IsNext (rows_of r).last_stamp)
    → Reads b d (Ok whole) (EndsAt (rows_of r)) → last ≡ cond whole step.Ended step.Differs → Reads a d (Ok last) (StepOf r)
step_last a b d r whole last one two is =
    then_read_ok (StepOf r) a b d None whole last one two (λ c none whole_holds. subst (IsStep c r) (sym is) (last_is c r none whole whole_holds))

pub counts_one : (s : Rows) (k : Kept) (played : Option Replay) (next : Replay) → played ≡ Some next → StepsOn s k played → CountsOne s (step.Replayed next)
counts_one s k played next is_played goes =
    let is : rows_of next ≡ (stepped s (again k)).rows = subst (StepsOn s k) is_played goes in (
      ap (λ (r : Rows). r.limits) is ∙ step_limits s (again k).moment (again k).request.command,
      ap (λ (r : Rows). r.last_stamp) is ∙ step_stamp s (again k).moment (again k).request.command,
    )

-- ---- all that is kept ----

pub all_not : (a b : BookState) (s : Rows) (k : Kept) → Reads a b (Ok (Some k)) (IsNext s.last_stamp) → Reads a b (Ok false) (HasAll s)
all_not a b s k read = then_ok (HasAll s) a b (Some k) false read (λ c at. inl (k, at))

all_is : (c : Content) (s : Rows) → IsNext s.last_stamp c None → (w : Bool) → EndsAt s c w → IsAll c s w
all_is c s found true holds = (found, holds.0 refl)
all_is c s found false holds = inr (found, λ ended. true≢false (sym (holds.1 ended)))

pub all_whole : (a b d : BookState) (s : Rows) (whole : Result Bool BookFault) → Reads a b (Ok None) (IsNext s.last_stamp) → Reads b d whole (EndsAt s)
    → Reads a d whole (HasAll s)
all_whole a b d s whole one two = then_read (HasAll s) a b d None whole one two (λ c none w whole_holds. all_is c s none w whole_holds)

-- a replay that has come to the limit of executed requests
pub seen_all : (a b d : BookState) (r : Replay) (s : Rows) (all : Bool) → s ≡ rows_of r → all ≡ true → Reads a b (Ok tt) (Seen r)
    → Reads b d (Ok all) (HasAll s) → Reads a d (Ok Sound) (IfOrdered IsAudit)
seen_all a b d r s all same is seen read =
    then_read_ok (IfOrdered IsAudit) a b d tt all Sound seen read
    (λ c before holds ordered.
    let whole : IsAll c (rows_of r) true = subst (λ (x : Rows). IsAll c x true) same (subst (IsAll c s) is holds) in
    replay_sound c (rows_of r) (before ordered).replays whole.0 whole.1)

pub seen_rest : (a b d : BookState) (r : Replay) (s : Rows) (most : ℕ) (all : Bool) → s ≡ rows_of r → (rows_of r).last_stamp ≡ most
    → (rows_of r).limits.requests ≡ most → all ≡ false → Reads a b (Ok tt) (Seen r) → Reads b d (Ok all) (HasAll s)
    → Reads a d (Ok (Differs (most + 1))) (IfOrdered IsAudit)
seen_rest a b d r s most all same stamp limit is seen read =
    then_read_ok (IfOrdered IsAudit) a b d tt all (Differs (most + 1)) seen read
    (λ c before holds ordered.
    let p = (before ordered).replays in
    let rest : IsAll c (rows_of r) false = subst (λ (x : Rows). IsAll c x false) same (subst (IsAll c s) is holds) in
    subst (λ (n : ℕ). IsFirstDifference c (n + 1)) stamp
    (elim rest [
      | inl more ↦ replay_full c (rows_of r) more.0 p more.1 (reached (rows_of r) most stamp limit)
      | inr none ↦ replay_rest c (rows_of r) p none.0 none.1
    ]))
  where
    reached : (x : Rows) (most : ℕ) → x.last_stamp ≡ most → x.limits.requests ≡ most → x.limits.requests ≤ x.last_stamp
    reached x most stamp limit = omega (arith, stamp, limit)

-- ---- the beginning ----

pub begins_fitting : (a b : BookState) (limits : Limits) (first : Replay) → Reads a b (Ok limits) (λ (c : Content) (found : Limits). found ≡ c.rows.limits)
    → limits_fit limits ≡ true → rows_of first ≡ empty_rows limits → ((c : Content) → IsPageOf c first.page) → Reads a b (Ok (Some first)) BeginsReplay
begins_fitting a b limits first r fits is page =
    then_ok BeginsReplay a b limits (Some first) r
    (λ c same ordered. record {
      replays = subst (Replays c) (ap empty_rows (sym same) ∙ sym is) (starts_replay c (ap limits_fit (sym same) ∙ fits) ordered);
      seen = subst (λ (s : Rows). Every (λ (k : Kept). IsSeenKey first.keys k.request) (take s.last_stamp c.kept)) (sym is) tt;
      page = page c;
    })

pub begins_empty : (limits : Limits) (s : Rows) → limits_fit limits ≡ true → s ≡ empty_rows limits → (s.last_stamp ≡ 0) × (s.limits.requests ≤ 1000000000)
begins_empty limits s fits is = subst (λ (r : Rows). (r.last_stamp ≡ 0) × (r.limits.requests ≤ 1000000000)) (sym is) (refl, requests_few limits fits)

-- ---- step by step ----

pub seen_more : (a b d : BookState) (r : Replay) (taken : Step) (next : Replay) → taken ≡ step.Replayed next → Reads a b (Ok tt) (Seen r)
    → Reads b d (Ok taken) (StepOf r) → Reads a d (Ok tt) (Seen next)
seen_more a b d r taken next is seen read =
    then_read_ok (Seen next) a b d tt taken tt seen read (λ c before goes_on ordered. subst (IsStep c r) is goes_on (before ordered))
