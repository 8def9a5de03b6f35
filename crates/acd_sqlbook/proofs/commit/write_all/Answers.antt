use Rattle.std.proofs.Common.{arith}
use Rattle.sqlite.specs.State.{HasCleanDisk}
use Rattle.sqlite.specs.Held.{state}
use Rattle.std.proofs.Common.{Err, None, inl, inr, rules, ◌∙◌}
use Rattle.acd_book.specs.Content.{Content}
use Rattle.acd_sql_columns.proofs.Writes.TransactionEnds.{works_on}
use Rattle.acd_sql_columns.specs.Rows.{kept_values, meta_shown}
use Rattle.acd_sql_columns.specs.Relations.{relations_of}
use Rattle.acd_sql_columns.specs.declared.texts.TheConstants.{INSERT_KEPT, UPDATE_META}
use Rattle.acd_sql_statements.specs.WriteRefusals.{RefusesOn}
use Rattle.acd_sqlbook.specs.Commit.{all_applied, with_events, with_kept}
use Rattle.acd_sqlbook.specs.WriteChoice.{written_changes}
use Rattle.acd_sqlbook.specs.CommitStops.{HasAbove, StopsInChanges, StopsInEvents, StopsInAll}
use Rattle.acd_sqlbook.proofs.CommitsInRange.{kept_in_range, meta_in_range}
use Rattle.acd_sqlbook.proofs.PartCauses.{stops_as, stops_more, stops_same, stops_later}
use Rattle.acd_sqlbook.proofs.commit.write_all.Goals as goal

pub write_events-requires : goal.write_events-requires
write_events-requires g c = c.write_changes.ensures.works.survives.limit ∙ c.requires.free

pub returns-clause-put : goal.returns-clause-put
returns-clause-put g c clean x d =
    let third : HasCleanDisk (state g.S.Store c.insert_kept.new.tx.conn.now) = omega (arith, c.set_meta.ensures.works.survives.clean) in
    let second : HasCleanDisk (state g.S.Store c.write_events.new.tx.conn.now) = omega (arith, c.insert_kept.ensures.works.survives.clean) in
    let first : HasCleanDisk (state g.S.Store c.write_changes.new.tx.conn.now) = omega (arith, c.write_events.ensures.works.survives.clean) in
    let kept = c.args.kept.now in
    let meta = c.args.meta.now in
    let two = c.in_ok-write_events.ensures.put second _ (c.in_ok-write_changes.ensures.put first x d) in
    let y : Content = with_events (all_applied x c.args.changes.now) c.args.events.now in
    let z : Content = with_kept y kept in
    record {
      relations = c.in_ok-set_meta.ensures.put clean _ (c.in_ok-insert_kept.ensures.put third _ two.relations);
      range = meta_in_range meta c.meta_is_good.ensures z (kept_in_range kept c.kept_is_good.ensures y two.range);
    }

pub returns-in_err-write_changes-clause-failed : goal.returns-in_err-write_changes-clause-failed
returns-in_err-write_changes-clause-failed g c =
    let old = state g.S.Store c.args.tx.now.conn.now in
    let one = state g.S.Store c.write_changes.new.tx.conn.now in
    let changes = c.args.changes.now in
    let all : Content → Type 0 = λ (x : Content). StopsInAll (HasAbove c.args.last x) changes c.args.events.now c.args.kept.now c.args.meta.now x in
    let some : Content → Type 0 = λ (x : Content). StopsInChanges (HasAbove c.args.last x) (written_changes changes) x in
    stops_more old one some all c.from_residual.result (λ x h. inl h)
    (stops_same old one some c.in_err-write_changes.field-0.0 c.from_residual.result (search rules) c.in_err-write_changes.ensures.failed)

pub returns-in_err-write_events-clause-failed : goal.returns-in_err-write_events-clause-failed
returns-in_err-write_events-clause-failed g c =
    let old = state g.S.Store c.args.tx.now.conn.now in
    let one = state g.S.Store c.write_changes.new.tx.conn.now in
    let two = state g.S.Store c.write_events.new.tx.conn.now in
    let changes = c.args.changes.now in
    let all : Content → Type 0 = λ (x : Content). StopsInAll (HasAbove c.args.last x) changes c.args.events.now c.args.kept.now c.args.meta.now x in
    let events = c.args.events.now in
    let made = λ (x : Content). all_applied x changes in
    stops_more old two (λ x. StopsInEvents events (made x)) all c.from_residual-in_err-write_events.result (λ x h. inr (inl h))
    (stops_same old two (λ x. StopsInEvents events (made x)) c.in_err-write_events.field-0.0 c.from_residual-in_err-write_events.result (search rules)
    (stops_later old one two made (StopsInEvents events) (Err c.in_err-write_events.field-0.0) c.write_changes.ensures.works c.write_events.ensures.works
    c.in_ok-write_changes.ensures.put c.in_err-write_events.ensures.failed))

pub returns-in_err-insert_kept-clause-failed : goal.returns-in_err-insert_kept-clause-failed
returns-in_err-insert_kept-clause-failed g c =
    let old = state g.S.Store c.args.tx.now.conn.now in
    let one = state g.S.Store c.write_changes.new.tx.conn.now in
    let two = state g.S.Store c.write_events.new.tx.conn.now in
    let three = state g.S.Store c.insert_kept.new.tx.conn.now in
    let changes = c.args.changes.now in
    let all : Content → Type 0 = λ (x : Content). StopsInAll (HasAbove c.args.last x) changes c.args.events.now c.args.kept.now c.args.meta.now x in
    let events = c.args.events.now in
    let kept = c.args.kept.now in
    let made = λ (x : Content). with_events (all_applied x changes) events in
    let stop : Content → Type 0 = λ (x : Content). RefusesOn INSERT_KEPT.now (kept_values kept) None (relations_of x) in
    let free = c.write_events.ensures.works.survives.limit ∙ c.write_changes.ensures.works.survives.limit ∙ c.requires.free in
    stops_more old three (λ x. stop (made x)) all c.from_residual-in_err-insert_kept.result (λ x h. inr (inr (inl h)))
    (stops_same old three (λ x. stop (made x)) c.in_err-insert_kept.field-0.0 c.from_residual-in_err-insert_kept.result (search rules)
    (stops_later old two three made stop (Err c.in_err-insert_kept.field-0.0) (works_on old one two c.write_changes.ensures.works c.write_events.ensures.works)
    c.insert_kept.ensures.works
    (λ second x d. let first : HasCleanDisk one = omega (arith, second, c.write_events.ensures.works.survives.clean) in
    c.in_ok-write_events.ensures.put second _ (c.in_ok-write_changes.ensures.put first x d))
    (stops_as two three free (RefusesOn INSERT_KEPT.now (kept_values kept)) stop (Err c.in_err-insert_kept.field-0.0) (λ x h. h)
    c.in_err-insert_kept.ensures.failed)))

pub returns-in_err-set_meta-clause-failed : goal.returns-in_err-set_meta-clause-failed
returns-in_err-set_meta-clause-failed g c =
    let old = state g.S.Store c.args.tx.now.conn.now in
    let one = state g.S.Store c.write_changes.new.tx.conn.now in
    let two = state g.S.Store c.write_events.new.tx.conn.now in
    let three = state g.S.Store c.insert_kept.new.tx.conn.now in
    let four = state g.S.Store c.set_meta.new.tx.conn.now in
    let changes = c.args.changes.now in
    let all : Content → Type 0 = λ (x : Content). StopsInAll (HasAbove c.args.last x) changes c.args.events.now c.args.kept.now c.args.meta.now x in
    let events = c.args.events.now in
    let kept = c.args.kept.now in
    let made = λ (x : Content). with_kept (with_events (all_applied x changes) events) kept in
    let stop : Content → Type 0 = λ (x : Content). RefusesOn UPDATE_META.now (meta_shown c.args.meta.now) None (relations_of x) in
    let free =
    c.insert_kept.ensures.works.survives.limit ∙ c.write_events.ensures.works.survives.limit ∙ c.write_changes.ensures.works.survives.limit
    ∙ c.requires.free in
    stops_more old four (λ x. stop (made x)) all c.from_residual-in_err-set_meta.result (λ x h. inr (inr (inr h)))
    (stops_same old four (λ x. stop (made x)) c.in_err-set_meta.field-0.0 c.from_residual-in_err-set_meta.result (search rules)
    (stops_later old three four made stop (Err c.in_err-set_meta.field-0.0)
    (works_on old two three (works_on old one two c.write_changes.ensures.works c.write_events.ensures.works) c.insert_kept.ensures.works)
    c.set_meta.ensures.works
    (λ third x d.
    let second : HasCleanDisk two = omega (arith, third, c.insert_kept.ensures.works.survives.clean) in
    let first : HasCleanDisk one = omega (arith, second, c.write_events.ensures.works.survives.clean) in
    let held = c.in_ok-write_events.ensures.put second _ (c.in_ok-write_changes.ensures.put first x d) in
    record {
      relations = c.in_ok-insert_kept.ensures.put third _ held.relations;
      range = kept_in_range kept c.kept_is_good.ensures (with_events (all_applied x changes) events) held.range;
    })
    (stops_as three four free (RefusesOn UPDATE_META.now (meta_shown c.args.meta.now)) stop (Err c.in_err-set_meta.field-0.0) (λ x h. h)
    c.in_err-set_meta.ensures.failed)))
