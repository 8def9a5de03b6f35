-- A desk commits for an arrival what the abstract desk makes of it.
use Rattle.std.proofs.Common.{◌≡◌, ◌+◌, ◌<◌, List, true, false, Some, None, sym, ap, ◌∙◌, subst, length, nat_le, leb-false}
use Rattle.acd_terms.specs.declared.rows.Rows.{Rows}
use Rattle.acd_terms.specs.declared.answer.Outcome.{Outcome}
use Rattle.acd_terms.specs.declared.event.Event.{Event}
use Rattle.acd_terms.specs.declared.command.Arrival.{Arrival}
use Rattle.acd_model.specs.Rules.Plan.{keeps_limits, keeps_order}
use Rattle.acd_model.specs.Rules.First.{first_broken, BreaksNoRule}
use Rattle.acd_model.specs.Step.{next_stamp, executed_moment}
use Rattle.acd_book.specs.declared.kept.Kept.{Kept}
use Rattle.acd_model.specs.Changes.{rows_made}
use Rattle.acd_model.specs.declared.moves.Change.{Change}
use Rattle.acd_book.specs.Content.{Content, committed, committed_by, kept_of, rows_by, GoOn, IsCounted, Follows, FollowsBy}
use Rattle.acd_desk.specs.Contents.SoundContent.{IsNew}
use Rattle.acd_desk.specs.Desks.PreparedCommit.{Prepared}
use Rattle.acd_desk.specs.Contents.AbstractDesk.{stepped, kept_at, record_of, executed}
use Rattle.acd_desk.specs.declared.taken.Taken.TheVariants.{Reply}
use Rattle.acd_desk.specs.Contents.Replies.{answer_in, after}
use Rattle.acd_desk.proofs.Contents.Steps.{step_limits, step_stamp, step_numbers, step_event}
use Rattle.acd_desk.proofs.Contents.Runs.{executes, answers_new}
use Rattle.acd_desk.proofs.Contents.CountersBound.{counted_executed}
use Rattle.acd_laws.proofs.Rules.AllRuleTests.{kept_first}
use Rattle.acd_switch.proofs.RoomOfRules.{moment_after}

pub some_none : {T : Type 0} (x : T) → Some x ≡ None → ⊥
some_none x h = cc

pub ordered : (s : Rows) → BreaksNoRule s → keeps_order s ≡ true
unfolding first_broken
ordered s h = (kept_first (keeps_order s) _ _ (kept_first (keeps_limits s) _ _ h).1).0

-- it follows what is kept
pub follows : (c : Content) (r next : Rows) (es : List Event) (k : Kept) (a : Arrival) → c.rows ≡ r → IsCounted c → kept_of c.kept a.request.requester a.request.invoke ≡ None
    → next ≡ (stepped r a).rows → es ≡ (stepped r a).events → k ≡ record_of r a → BreaksNoRule next → Follows next es k c
follows c r next es k a same counted new e1 e2 e3 rules =
    let s : Rows = c.rows in
    let limits : (stepped s a).rows.limits ≡ s.limits = step_limits s a.moment a.request.command in
    let stamp : (stepped s a).rows.last_stamp ≡ s.last_stamp + 1 = step_stamp s a.moment a.request.command in
    let next_is : next ≡ (stepped s a).rows = e1 ∙ ap (λ (x : Rows). (stepped x a).rows) (sym same) in
    let events_are : es ≡ (stepped s a).events = e2 ∙ ap (λ (x : Rows). (stepped x a).events) (sym same) in
    let kept_is : k ≡ record_of s a = e3 ∙ ap (λ (x : Rows). record_of x a) (sym same) in
    record {
      limits = ap (λ (x : Rows). x.limits) next_is ∙ limits;
      next = ap (λ (x : Kept). x.stamp) kept_is;
      stamp = ap (λ (x : Rows). x.last_stamp) next_is ∙ stamp ∙ sym (ap (λ (x : Kept). x.stamp) kept_is);
      numbers = subst (GoOn s.last_event) (sym events_are) (step_numbers s a.moment a.request.command);
      event = ap (λ (x : Rows). x.last_event) next_is ∙ step_event s a.moment a.request.command ∙ ap (λ (l : List Event). s.last_event + length l) (sym events_are);
      ordered = ordered next rules;
      unkept = ap (λ (x : Kept). kept_of c.kept x.request.requester x.request.invoke) kept_is ∙ new;
      counted = counted;
    }

pub made : (c : Content) (r next : Rows) (es : List Event) (k : Kept) (a : Arrival) → c.rows ≡ r
    → next ≡ (stepped r a).rows → es ≡ (stepped r a).events → k ≡ record_of r a → committed next es k c ≡ executed c a
made c r next es k a e1 e2 e3 e4 = cc

-- it follows the content that the switch is in step with, and makes of it what the abstract desk does
pub commits : (r : Rows) (a : Arrival) (changes : List Change) (es : List Event) (k : Kept) (next : Rows) → Prepared r a changes es k next
    → (c : Content) → (c.rows ≡ r) × IsCounted c → IsNew c a.request → nat_le r.limits.requests r.last_stamp ≡ false
    → FollowsBy changes es k c × (committed_by changes es k c ≡ after c a) × (after c a ≡ executed c a)
commits r a changes es k next p c step new room =
    let short : c.rows.last_stamp < c.rows.limits.requests = subst (λ (s : Rows). s.last_stamp < s.limits.requests) (sym step.0) (leb-false r.limits.requests r.last_stamp room) in
    let does : after c a ≡ executed c a = executes c a new short in
    let rows : rows_by changes es k c ≡ next = ap (λ (s : Rows). rows_made s changes k.stamp k.moment (length es)) step.0 ∙ p.made in (
      subst (λ (s : Rows). Follows s es k c) (sym rows) (follows c r next es k a step.0 step.1 new p.next_is p.events_are p.kept_is p.rules),
      ap (λ (s : Rows). committed s es k c) rows ∙ made c r next es k a step.0 p.next_is p.events_are p.kept_is ∙ sym does,
      does,
    )

-- the desk is in step with what it has executed
pub executed_in_step : (r : Rows) (a : Arrival) (changes : List Change) (es : List Event) (k : Kept) (next : Rows) → Prepared r a changes es k next
    → (c new : Content) → (c.rows ≡ r) × IsCounted c → new ≡ executed c a → (new.rows ≡ next) × IsCounted new
executed_in_step r a changes es k next p c new step is = (
  ap (λ (x : Content). x.rows) is ∙ ap (λ (s : Rows). (stepped s a).rows) step.0 ∙ sym p.next_is,
  subst IsCounted (sym is) (counted_executed c a step.1),
)

-- its reply is the record's
pub executed_reply : (r : Rows) (a : Arrival) (changes : List Change) (es : List Event) (k : Kept) (next : Rows) → Prepared r a changes es k next
    → (c : Content) → c.rows ≡ r → IsNew c a.request → after c a ≡ executed c a
    → Reply k.status k.body ≡ answer_in (after c a) a.request
executed_reply r a changes es k next p c same new does =
    ap (λ (x : Kept). Reply x.status x.body) (p.kept_is ∙ ap (λ (s : Rows). record_of s a) (sym same))
    ∙ sym (ap (λ (x : Content). answer_in x a.request) does ∙ answers_new c a new)

-- the record that is made by the counters after a step
pub kept_by_rows : (s next : Rows) (a : Arrival) (outcome : Outcome) (k : Kept) → next ≡ (stepped s a).rows → outcome ≡ (stepped s a).outcome
    → k ≡ kept_at next.last_stamp next.last_moment a.request outcome → k ≡ record_of s a
kept_by_rows s next a outcome k e1 e2 e3 =
    let stamp : (stepped s a).rows.last_stamp ≡ next_stamp s = step_stamp s a.moment a.request.command in
    let moment : (stepped s a).rows.last_moment ≡ executed_moment s a.moment = moment_after s a.moment a.request.command in
    cc

-- the prepared commit, by what a step says
pub prepares : (s next : Rows) (a : Arrival) (changes : List Change) (es : List Event) (outcome : Outcome) (k : Kept)
    → next ≡ (stepped s a).rows → outcome ≡ (stepped s a).outcome → es ≡ (stepped s a).events → BreaksNoRule next
    → rows_made s changes (next_stamp s) (executed_moment s a.moment) (length es) ≡ next
    → k ≡ kept_at next.last_stamp next.last_moment a.request outcome → Prepared s a changes es k next
prepares s next a changes es outcome k e1 e2 e3 rules made e4 =
    let kept : k ≡ record_of s a = kept_by_rows s next a outcome k e1 e2 e4 in
    record {
      next_is = e1;
      made = ap (λ (x : Kept). rows_made s changes x.stamp x.moment (length es)) kept ∙ made;
      events_are = e3;
      kept_is = kept;
      rules = rules;
    }

-- the lists that references point to
pub prepared_as : (s next : Rows) (a : Arrival) (changes changes' : List Change) (es es' : List Event) (k : Kept) → changes' ≡ changes → es' ≡ es → Prepared s a changes es k next → Prepared s a changes' es' k next
prepared_as s next a changes changes' es es' k e f p =
    subst (λ (x : List Change). Prepared s a x es' k next) (sym e) (subst (λ (x : List Event). Prepared s a changes x k next) (sym f) p)
