-- A row that is read as an event or as a kept record is that of the record.
use Rattle.std.proofs.Common.{◌≡◌, ℕ, ◌==◌, length, List, Bool, true, false, not, cond, ◌&&◌, Option, Some, None, Ok, refl, sym, ap, subst, ◌∙◌}
use Rattle.std.specs.Option.{is_some, unwrap_or}
use Rattle.sqlite_value.specs.Order.{Row, column}
use Rattle.std.specs.Str.{bytes_eq, is_utf8}
use Rattle.std.specs.Cmp.{unsigned_Decides}
use Rattle.std.proofs.lemmas.Bool.{and_parts}
use Rattle.std.proofs.lemmas.Slice.Eq.{bytes_eq-Decides}
use Rattle.sqlite_value.specs.declared.value.Value.TheVariants.{Text}
use Rattle.acd_codec.specs.RequestReading.{reads_as}
use Rattle.acd_codec.specs.RequestTexts.{request_text}
use Rattle.acd_codec.proofs.KeptTexts.{text_read, IsTextOf}
use Rattle.acd_terms.specs.declared.command.Request.{Request}
use Rattle.acd_terms.specs.Columns.{columns_of, group_waited, seconds_waited}
use Rattle.acd_terms.specs.declared.event.EventKind.{EventKind}
use Rattle.acd_terms.specs.declared.event.EventKind.TheVariants as kind
use Rattle.acd_terms.specs.declared.event.Cause.{Cause}
use Rattle.acd_terms.specs.declared.event.Cause.TheVariants as cause
use Rattle.acd_terms.specs.declared.event.Columns.{Columns}
use Rattle.acd_terms.specs.declared.event.Report.{Report}
use Rattle.acd_terms.specs.declared.event.Report.TheVariants as report
use Rattle.acd_terms.specs.declared.event.Event.{Event}
use Rattle.acd_book.specs.declared.kept.Kept.{Kept}
use Rattle.acd_sql_columns.specs.Rows.{IsReadable, event_fields, event_made, values_of_event, event_values, kept_values}
use Rattle.acd_sql_columns.specs.Decoding.{report_of, waited_of, event_shown, as_event, as_kept}
use Rattle.acd_sql_columns.specs.Reports.{admits_cause, is_formed, report_in}
use Rattle.acd_sql_columns.specs.Fields.{read_whole, written_row}
use Rattle.acd_sql_columns.specs.Ranges.{event_from, event_in, request_at, kept_in}
use Rattle.acd_sql_columns.specs.Values.{id_value, whole_at, text_at, status_at, utf8_of, body_at}
use Rattle.acd_sql_columns.proofs.Rows.ValuesInRange.{text_stored, whole_stored, bound, guarded, row_is, beside, stamp_stored, moment_stored}
use Rattle.acd_sql_columns.proofs.Rows.Records.{values_stored, values_back}
use Rattle.acd_lemmas.proofs.Lists.{some_is}

-- ---- columns that are there, and columns that aren't

there : {A : Type 0} (o : Option A) (x : A) → is_some o ≡ true → Some (unwrap_or o x) ≡ o
there None x h = absurd (cc h)
there (Some y) x h = refl

absent : {A : Type 0} (o : Option A) → not (is_some o) ≡ true → None ≡ o
absent None h = refl
absent (Some y) h = absurd (cc h)

parts : (a b c d e f g h i : Bool) → (a && b && c && d && e && f && g && h && i) ≡ true
    → (a ≡ true) × (b ≡ true) × (c ≡ true) × (d ≡ true) × (e ≡ true) × (f ≡ true) × (g ≡ true) × (h ≡ true) × (i ≡ true)
parts true true true true true true true true true q = (refl, refl, refl, refl, refl, refl, refl, refl, refl)
parts true true true true true true true true false q = absurd (cc q)
parts true true true true true true true false i q = absurd (cc q)
parts true true true true true true false h i q = absurd (cc q)
parts true true true true true false g h i q = absurd (cc q)
parts true true true true false f g h i q = absurd (cc q)
parts true true true false e f g h i q = absurd (cc q)
parts true true false d e f g h i q = absurd (cc q)
parts true false c d e f g h i q = absurd (cc q)
parts false b c d e f g h i q = absurd (cc q)

both_group : (g s : Option ℕ) → cond (is_some g) (is_some s) (not (is_some s)) ≡ true → group_waited (waited_of g s) ≡ g
both_group None None h = refl
both_group None (Some s) h = refl
both_group (Some g) None h = absurd (cc h)
both_group (Some g) (Some s) h = refl

both_seconds : (g s : Option ℕ) → cond (is_some g) (is_some s) (not (is_some s)) ≡ true → seconds_waited (waited_of g s) ≡ s
both_seconds None None h = refl
both_seconds None (Some s) h = absurd (cc h)
both_seconds (Some g) None h = absurd (cc h)
both_seconds (Some g) (Some s) h = refl

busy_is : (w : Option Cause) → is_some w ≡ true → admits_cause kind.Failed w ≡ true → Some cause.Busy ≡ w
busy_is None h k = absurd (cc h)
busy_is (Some cause.NewCall) h k = absurd (cc k)
busy_is (Some cause.Distributed) h k = absurd (cc k)
busy_is (Some cause.Deflected) h k = absurd (cc k)
busy_is (Some cause.Transferred) h k = absurd (cc k)
busy_is (Some cause.NoAnswer) h k = absurd (cc k)
busy_is (Some cause.Busy) h k = refl

abbrev with_columns : EventKind → (d c a g t : Option ℕ) → Option Cause → Option ℕ → Columns
with_columns k d c a g t w s = record { kind = k; device = d; call = c; agent = a; group = g; to = t; cause = w; waited = s }

formed : (k : EventKind) (d c a g t : Option ℕ) (w : Option Cause) (s : Option ℕ) → is_formed (with_columns k d c a g t w s) ≡ true
    → columns_of (report_of (with_columns k d c a g t w s)) ≡ with_columns k d c a g t w s
unfolding is_formed
formed kind.ServiceInitiated d c a g t w s h =
    let p = parts _ _ _ _ _ _ _ _ _ h in
    λ i. with_columns kind.ServiceInitiated (there d 0 p.0 i) (there c 0 p.1 i) (absent a p.2 i) (absent g p.3 i) (absent t p.4 i) (absent w p.5 i)
    (absent s p.6 i)
formed kind.Originated d c a g t w s h =
    let p = parts _ _ _ _ _ _ _ _ _ h in
    λ i. with_columns kind.Originated (there d 0 p.0 i) (there c 0 p.1 i) (absent a p.2 i) (absent g p.3 i) (there t 0 p.4 i) (absent w p.5 i) (absent s p.6 i)
formed kind.Queued d c a g t w s h =
    let p = parts _ _ _ _ _ _ _ _ _ h in
    λ i. with_columns kind.Queued (there d 0 p.0 i) (there c 0 p.1 i) (absent a p.2 i) (absent g p.3 i) (absent t p.4 i) (there w cause.NewCall p.5 i)
    (absent s p.6 i)
formed kind.Delivered d c a g t w s h =
    let p = parts _ _ _ _ _ _ _ _ _ h in
    λ i. with_columns kind.Delivered (there d 0 p.0 i) (there c 0 p.1 i) (absent a p.2 i) g (absent t p.4 i) (there w cause.NewCall p.5 i) (absent s p.6 i)
formed kind.Diverted d c a g t w s h =
    let p = parts _ _ _ _ _ _ _ _ _ h in
    λ i. with_columns kind.Diverted (there d 0 p.0 i) (there c 0 p.1 i) (absent a p.2 i) g (there t 0 p.4 i) (there w cause.NewCall p.5 i) (absent s p.6 i)
formed kind.Established d c a g t w s h =
    let p = parts _ _ _ _ _ _ _ _ _ h in
    λ i. with_columns kind.Established (there d 0 p.0 i) (there c 0 p.1 i) (absent a p.2 i) (both_group g s p.8 i) (absent t p.4 i) (absent w p.5 i)
    (both_seconds g s p.8 i)
formed kind.Held d c a g t w s h =
    let p = parts _ _ _ _ _ _ _ _ _ h in
    λ i. with_columns kind.Held (there d 0 p.0 i) (there c 0 p.1 i) (absent a p.2 i) (absent g p.3 i) (absent t p.4 i) (absent w p.5 i) (absent s p.6 i)
formed kind.Retrieved d c a g t w s h =
    let p = parts _ _ _ _ _ _ _ _ _ h in
    λ i. with_columns kind.Retrieved (there d 0 p.0 i) (there c 0 p.1 i) (absent a p.2 i) (absent g p.3 i) (absent t p.4 i) (absent w p.5 i) (absent s p.6 i)
formed kind.Transferred d c a g t w s h =
    let p = parts _ _ _ _ _ _ _ _ _ h in
    λ i. with_columns kind.Transferred (there d 0 p.0 i) (there c 0 p.1 i) (absent a p.2 i) (absent g p.3 i) (there t 0 p.4 i) (absent w p.5 i) (absent s p.6 i)
formed kind.Failed d c a g t w s h =
    let p = parts _ _ _ _ _ _ _ _ _ h in
    λ i. with_columns kind.Failed (there d 0 p.0 i) (there c 0 p.1 i) (absent a p.2 i) (absent g p.3 i) (absent t p.4 i) (busy_is w p.5 p.7 i) (absent s p.6 i)
formed kind.ConnectionCleared d c a g t w s h =
    let p = parts _ _ _ _ _ _ _ _ _ h in
    λ i. with_columns kind.ConnectionCleared (there d 0 p.0 i) (there c 0 p.1 i) (absent a p.2 i) (absent g p.3 i) (absent t p.4 i) (absent w p.5 i)
    (absent s p.6 i)
formed kind.CallCleared d c a g t w s h =
    let p = parts _ _ _ _ _ _ _ _ _ h in
    λ i. with_columns kind.CallCleared (absent d p.0 i) (there c 0 p.1 i) (absent a p.2 i) g (absent t p.4 i) (absent w p.5 i) (absent s p.6 i)
formed kind.AgentLoggedOn d c a g t w s h =
    let p = parts _ _ _ _ _ _ _ _ _ h in
    λ i. with_columns kind.AgentLoggedOn (there d 0 p.0 i) (absent c p.1 i) (there a 0 p.2 i) g (absent t p.4 i) (absent w p.5 i) (absent s p.6 i)
formed kind.AgentLoggedOff d c a g t w s h =
    let p = parts _ _ _ _ _ _ _ _ _ h in
    λ i. with_columns kind.AgentLoggedOff (there d 0 p.0 i) (absent c p.1 i) (there a 0 p.2 i) (absent g p.3 i) (absent t p.4 i) (absent w p.5 i)
    (absent s p.6 i)
formed kind.AgentNotReady d c a g t w s h =
    let p = parts _ _ _ _ _ _ _ _ _ h in
    λ i. with_columns kind.AgentNotReady (there d 0 p.0 i) (absent c p.1 i) (there a 0 p.2 i) (absent g p.3 i) (absent t p.4 i) (absent w p.5 i)
    (absent s p.6 i)
formed kind.AgentReady d c a g t w s h =
    let p = parts _ _ _ _ _ _ _ _ _ h in
    λ i. with_columns kind.AgentReady (there d 0 p.0 i) (absent c p.1 i) (there a 0 p.2 i) (absent g p.3 i) (absent t p.4 i) (absent w p.5 i) (absent s p.6 i)
formed kind.AgentBusy d c a g t w s h =
    let p = parts _ _ _ _ _ _ _ _ _ h in
    λ i. with_columns kind.AgentBusy (there d 0 p.0 i) (absent c p.1 i) (there a 0 p.2 i) (absent g p.3 i) (absent t p.4 i) (absent w p.5 i) (absent s p.6 i)
formed kind.AgentWorkingAfterCall d c a g t w s h =
    let p = parts _ _ _ _ _ _ _ _ _ h in
    λ i. with_columns kind.AgentWorkingAfterCall (there d 0 p.0 i) (absent c p.1 i) (there a 0 p.2 i) (absent g p.3 i) (absent t p.4 i) (absent w p.5 i)
    (absent s p.6 i)

-- a report's columns are those that it was read from
pub report_formed : (c : Columns) (r : Report) → report_in c ≡ Some r → columns_of r ≡ c
unfolding report_in
report_formed c r h =
    let p = guarded (is_formed c) (Some (report_of c)) r h in
    ap columns_of (sym (some_is (report_of c) r p.1)) ∙ formed c.kind c.device c.call c.agent c.group c.to c.cause c.waited p.0

-- the columns of a report give the report back
pub report_back : (r : Report) → report_of (columns_of r) ≡ r
report_back (report.ServiceInitiated call station) = refl
report_back (report.Originated call station to) = refl
report_back (report.Queued call group why) = refl
report_back (report.Delivered call station why group) = refl
report_back (report.Diverted call device to why group) = refl
report_back (report.Established call station None) = refl
report_back (report.Established call station (Some w)) = refl
report_back (report.Held call station) = refl
report_back (report.Retrieved call station) = refl
report_back (report.Transferred call station to) = refl
report_back (report.Failed call station) = refl
report_back (report.ConnectionCleared call device) = refl
report_back (report.CallCleared call group) = refl
report_back (report.AgentLoggedOn agent station group) = refl
report_back (report.AgentLoggedOff agent station) = refl
report_back (report.AgentNotReady agent station) = refl
report_back (report.AgentReady agent station) = refl
report_back (report.AgentBusy agent station) = refl
report_back (report.AgentWorkingAfterCall agent station) = refl

-- ---- events

pub event_stored : (r : Row) (e : Event) → event_in r ≡ Some e → r ≡ event_values e
unfolding event_in
event_stored r e h =
    let values = bound (read_whole event_fields event_made r) event_from e h in
    let report = bound (report_in values.0.columns) _ e values.2 in
    values_stored r values.0 values.1
    ∙ ap (λ c. written_row event_fields (record values.0 { columns = c })) (sym (report_formed values.0.columns report.0 report.1))
    ∙ ap event_values (some_is _ e report.2)

pub event_back : (e : Event) → as_event (event_values e) ≡ e
event_back e = ap event_shown (values_back (values_of_event e)) ∙ ap (λ r. record e { report = r }) (report_back e.report)

pub event_exact : (r : Row) (x y : Event) → event_in r ≡ Some x → r ≡ event_values y → x ≡ y
event_exact r x y h e = sym (event_back x) ∙ ap as_event (sym (event_stored r x h) ∙ e) ∙ event_back y

-- ---- kept records

-- the columns of the key and the text are those of the request, which is read from its text
pub record IsOfRequest (r : Row) (q : Request) : Type 0 where
  pub requester : column r 1 ≡ Text q.requester
  pub invoke : column r 2 ≡ id_value q.invoke
  pub text : column r 4 ≡ Text (request_text q)
  pub reads : reads_as (request_text q) ≡ Ok q

of_request : (r : Row) (q : Request) (name : List ℕ) (n : ℕ) (t : List ℕ) → column r 1 ≡ Text name → column r 2 ≡ id_value n → column r 4 ≡ Text t
    → IsTextOf t q
    → (bytes_eq name q.requester && (n == q.invoke)) ≡ true → IsOfRequest r q
of_request r q name n t e f g text test =
    let all = and_parts (bytes_eq name q.requester) (n == q.invoke) test in
    record {
      requester = e ∙ ap Text ((bytes_eq-Decides name q.requester).0 all.0);
      invoke = f ∙ ap id_value ((unsigned_Decides n q.invoke).0 all.1);
      text = g ∙ ap Text text.same;
      reads = ap reads_as (sym text.same) ∙ text.reads;
    }

pub request_stored : (r : Row) (q : Request) → request_at r ≡ Some q → IsOfRequest r q
unfolding request_at
request_stored r q h =
    let requester = bound _ _ q h in
    let invoke = bound _ _ q requester.2 in
    let text = bound _ _ q invoke.2 in
    let request = bound _ _ q text.2 in
    let test = guarded _ (Some request.0) q request.2 in
    subst (IsOfRequest r) (some_is request.0 q test.1)
    (of_request r request.0 requester.0 invoke.0 text.0 (text_stored r 1 _ requester.1) (whole_stored r 2 _ invoke.1) (text_stored r 4 _ text.1)
    (text_read text.0 request.0 request.1) test.0)

status_stored : (r : Row) (at n : ℕ) → status_at r at ≡ Some n → column r at ≡ id_value n
unfolding status_at
status_stored r at n h =
    let b = bound (whole_at r at) _ n h in
    whole_stored r at b.0 b.1 ∙ ap id_value (some_is b.0 n (guarded _ (Some b.0) n b.2).1)

body_stored : (r : Row) (at : ℕ) (t : List ℕ) → body_at r at ≡ Some t → column r at ≡ Text t
unfolding body_at
body_stored r at t h =
    let b = bound (text_at r at) utf8_of t h in
    text_stored r at b.0 b.1 ∙ ap Text (some_is b.0 t (guarded (is_utf8 b.0) (Some b.0) t b.2).1)

pub kept_stored : (r : Row) (k : Kept) → kept_in r ≡ Some k → (r ≡ kept_values k) × IsReadable k
unfolding kept_in
kept_stored r k h =
    let w = guarded (length r == 7) _ k h in
    let stamp = bound _ _ k w.1 in
    let moment = bound _ _ k stamp.2 in
    let request = bound _ _ k moment.2 in
    let status = bound _ _ k request.2 in
    let body = bound _ _ k status.2 in
    let o = request_stored r request.0 request.1 in
    let same = some_is _ k body.2 in (
      row_is 7 r w.0
          ∙ beside _ _ _ _ (stamp_stored r 0 _ stamp.1) (beside _ _ _ _ o.requester (beside _ _ _ _ o.invoke (beside _ _ _ _ (moment_stored r 3 _ moment.1)
          (beside _ _ _ _ o.text (beside _ _ _ _ (status_stored r 5 _ status.1) (beside _ _ _ _ (body_stored r 6 _ body.1) refl))))))
          ∙ ap kept_values same,
      subst IsReadable same o.reads,
    )

pub kept_back : (k : Kept) → IsReadable k → as_kept (kept_values k) ≡ k
kept_back k h = rw h refl

pub kept_exact : (r : Row) (x y : Kept) → IsReadable y → kept_in r ≡ Some x → r ≡ kept_values y → x ≡ y
kept_exact r x y good h e =
    let stored = kept_stored r x h in
    sym (kept_back x stored.1) ∙ ap as_kept (sym stored.0 ∙ e) ∙ kept_back y good
