use Rattle.std.proofs.Common.{◌≡◌, None, Ok, Err, rules, subst, refl}
use Rattle.sqlite.specs.Held.{state}
use Rattle.acd_sql_columns.specs.declared.tables.Version.TheVariants as version
use Rattle.acd_sql_columns.specs.DatabaseView.{HasLooked}
use Rattle.acd_sql_columns.specs.AnyRows.{IsCanonical}
use Rattle.acd_sql_statements.specs.Looks.{HasLookCause}
use Rattle.acd_sql_schema.specs.declared.fault.Found.TheVariants.{Book, Fault}
use Rattle.acd_sql_schema.specs.Inspection.{IsFound}
use Rattle.acd_sqlbook.proofs.AdoptedBooks.{adopted, adopted_before, adopted_first, back_before, back_failed, back_found, back_unmade, cause_before, fail_cause, files, found_cause, leaves, made_before, may_migrate, migrated, migrates_before, never_first, not_alone, not_whole, schema_there, unmade_cause, untouched, untouched_before}
use Rattle.acd_sqlbook.specs.State.{book_state}
use Rattle.acd_sqlbook.proofs.book.SqlBook.adopt.Goals as goal

pub returns-in-Ok-Book-Second-clause-adopted : goal.returns-in-Ok-Book-Second-clause-adopted
returns-in-Ok-Book-Second-clause-adopted g c clean =
    let is : c.in-Ok-Book-Second.field-0 ≡ Book version.Second = search rules in
    let looked =
    subst (λ f. HasLooked (state g.S.Store (record c.args.conn { step_limit = None })) (state g.S.Store c.look_over.new.conn) (Ok f) (λ d f. IsFound d f))
    is (rw c.set_step_limit.ensures at c.in-Ok-Book-Second.ensures.looked) in
    adopted_before (state g.S.Store c.args.conn) (state g.S.Store c.args.conn).now (book_state (state g.S.Store c.look_over.new.conn) 0)
    (adopted (state g.S.Store (record c.args.conn { step_limit = None })) (state g.S.Store c.look_over.new.conn) (g.met.S.Store.settled c.args.conn.store)
    clean (g.met.S.Store.settled c.look_over.new.conn.store) (g.met.S.Store.stays c.look_over.new.conn.store) looked)

pub returns-in-Ok-Book-Second-clause-canonical : goal.returns-in-Ok-Book-Second-clause-canonical
returns-in-Ok-Book-Second-clause-canonical g c clean unbroken whole =
    let store = c.args.conn.store in
    let is : c.in-Ok-Book-Second.field-0 ≡ Book version.Second = search rules in
    let looked =
    subst (λ f. HasLooked (state g.S.Store (record c.args.conn { step_limit = None })) (state g.S.Store c.look_over.new.conn) (Ok f) (λ d f. IsFound d f))
    is (rw c.set_step_limit.ensures at c.in-Ok-Book-Second.ensures.looked) in
    files (state g.S.Store (record c.args.conn { step_limit = None })) (state g.S.Store c.look_over.new.conn) (g.met.S.Store.settled c.args.conn.store) clean
    version.Second looked (g.S.Store.view store) refl (g.met.S.Alter.listed store unbroken) (g.met.S.Store.ordered store unbroken) whole

pub returns-in-Ok-clause-adopted : goal.returns-in-Ok-clause-adopted
returns-in-Ok-clause-adopted g c clean =
    let is : c.in-Ok-Book-First.field-0 ≡ Book version.First = search rules in
    let looked =
    subst (λ f. HasLooked (state g.S.Store (record c.args.conn { step_limit = None })) (state g.S.Store c.look_over.new.conn) (Ok f) (λ d f. IsFound d f))
    is (rw c.set_step_limit.ensures at c.in-Ok-Book-First.ensures.looked) in
    let middle = c.migrate.ensures.clean clean in
    let is_old =
    schema_there (state g.S.Store (record c.args.conn { step_limit = None })) (state g.S.Store c.look_over.new.conn) (state g.S.Store c.migrate.new.conn)
    (g.met.S.Store.settled c.args.conn.store) (g.met.S.Store.stays c.args.conn.store) middle looked in
    adopted_before (state g.S.Store c.args.conn) (state g.S.Store c.args.conn).now (book_state (state g.S.Store c.migrate.new.conn) 0)
    (adopted_first (state g.S.Store (record c.args.conn { step_limit = None })) (state g.S.Store c.look_over.new.conn) (state g.S.Store c.migrate.new.conn)
    (g.met.S.Store.settled c.args.conn.store) (g.met.S.Store.stays c.args.conn.store) middle looked (g.met.S.Store.settled c.migrate.new.conn.store)
    (g.met.S.Store.stays c.migrate.new.conn.store)
    (c.migrate.ensures.stops clean is_old) (c.in-Ok.ensures.made clean is_old))

pub returns-in-Ok-clause-canonical : goal.returns-in-Ok-clause-canonical
returns-in-Ok-clause-canonical g c clean unbroken whole =
    let store = c.args.conn.store in
    let is : c.in-Ok-Book-First.field-0 ≡ Book version.First = search rules in
    let looked =
    subst (λ f. HasLooked (state g.S.Store (record c.args.conn { step_limit = None })) (state g.S.Store c.look_over.new.conn) (Ok f) (λ d f. IsFound d f))
    is (rw c.set_step_limit.ensures at c.in-Ok-Book-First.ensures.looked) in
    files (state g.S.Store (record c.args.conn { step_limit = None })) (state g.S.Store c.look_over.new.conn) (g.met.S.Store.settled c.args.conn.store)
    (c.migrate.ensures.clean clean) version.First looked (g.S.Store.view store) refl (g.met.S.Alter.listed store unbroken)
    (g.met.S.Store.ordered store unbroken) whole

pub returns-in-Err-migrate-clause-handed_back : goal.returns-in-Err-migrate-clause-handed_back
returns-in-Err-migrate-clause-handed_back g c clean =
    let is : c.in-Ok-Book-First.field-0 ≡ Book version.First = search rules in
    let looked =
    subst (λ f. HasLooked (state g.S.Store (record c.args.conn { step_limit = None })) (state g.S.Store c.look_over.new.conn) (Ok f) (λ d f. IsFound d f))
    is (rw c.set_step_limit.ensures at c.in-Ok-Book-First.ensures.looked) in
    let middle = c.migrate.ensures.clean clean in
    let is_old =
    schema_there (state g.S.Store (record c.args.conn { step_limit = None })) (state g.S.Store c.look_over.new.conn) (state g.S.Store c.migrate.new.conn)
    (g.met.S.Store.settled c.args.conn.store) (g.met.S.Store.stays c.args.conn.store) middle looked in
    back_before (state g.S.Store c.args.conn) (state g.S.Store c.args.conn).now (book_state (state g.S.Store c.migrate.new.conn) 0) c.fault_of.result
    (back_unmade (state g.S.Store (record c.args.conn { step_limit = None })) (state g.S.Store c.look_over.new.conn) (state g.S.Store c.migrate.new.conn)
    (g.met.S.Store.settled c.args.conn.store) (g.met.S.Store.stays c.args.conn.store) middle looked c.fault_of.result c.fault_of.ensures.store
    (c.migrate.ensures.stops clean is_old) (c.in-Err-migrate.ensures.undone clean is_old))

pub returns-in-Ok-clause-leaves : goal.returns-in-Ok-clause-leaves
returns-in-Ok-clause-leaves g c clean =
    let is : c.in-Ok-Book-First.field-0 ≡ Book version.First = search rules in
    let looked =
    subst (λ f. HasLooked (state g.S.Store (record c.args.conn { step_limit = None })) (state g.S.Store c.look_over.new.conn) (Ok f) (λ d f. IsFound d f))
    is (rw c.set_step_limit.ensures at c.in-Ok-Book-First.ensures.looked) in
    let middle = c.migrate.ensures.clean clean in
    let is_old =
    schema_there (state g.S.Store (record c.args.conn { step_limit = None })) (state g.S.Store c.look_over.new.conn) (state g.S.Store c.migrate.new.conn)
    (g.met.S.Store.settled c.args.conn.store) (g.met.S.Store.stays c.args.conn.store) middle looked in
    migrates_before (state g.S.Store c.args.conn) (state g.S.Store c.migrate.new.conn)
    (may_migrate (state g.S.Store (record c.args.conn { step_limit = None })) (state g.S.Store c.look_over.new.conn) (state g.S.Store c.migrate.new.conn)
    (g.met.S.Store.settled c.args.conn.store) (g.met.S.Store.stays c.args.conn.store) middle looked (c.migrate.ensures.stops clean is_old))

pub returns-in-Err-migrate-clause-leaves_refused : goal.returns-in-Err-migrate-clause-leaves_refused
returns-in-Err-migrate-clause-leaves_refused g c clean =
    let is : c.in-Ok-Book-First.field-0 ≡ Book version.First = search rules in
    let looked =
    subst (λ f. HasLooked (state g.S.Store (record c.args.conn { step_limit = None })) (state g.S.Store c.look_over.new.conn) (Ok f) (λ d f. IsFound d f))
    is (rw c.set_step_limit.ensures at c.in-Ok-Book-First.ensures.looked) in
    let middle = c.migrate.ensures.clean clean in
    let is_old =
    schema_there (state g.S.Store (record c.args.conn { step_limit = None })) (state g.S.Store c.look_over.new.conn) (state g.S.Store c.migrate.new.conn)
    (g.met.S.Store.settled c.args.conn.store) (g.met.S.Store.stays c.args.conn.store) middle looked in
    migrates_before (state g.S.Store c.args.conn) (state g.S.Store c.migrate.new.conn)
    (may_migrate (state g.S.Store (record c.args.conn { step_limit = None })) (state g.S.Store c.look_over.new.conn) (state g.S.Store c.migrate.new.conn)
    (g.met.S.Store.settled c.args.conn.store) (g.met.S.Store.stays c.args.conn.store) middle looked (c.migrate.ensures.stops clean is_old))

pub returns-in-Ok-Fault-clause-caused : goal.returns-in-Ok-Fault-clause-caused
returns-in-Ok-Fault-clause-caused g c clean canonical store =
    let is : c.in-Ok-Fault.field-0 ≡ Fault c.in-Ok-Fault.fault = search rules in
    let looked =
    subst (λ f. HasLooked (state g.S.Store (record c.args.conn { step_limit = None })) (state g.S.Store c.look_over.new.conn) (Ok f) (λ d f. IsFound d f))
    is (rw c.set_step_limit.ensures at c.in-Ok-Fault.ensures.looked) in
    cause_before (state g.S.Store c.args.conn) (state g.S.Store c.look_over.new.conn)
    (found_cause (state g.S.Store (record c.args.conn { step_limit = None })) (state g.S.Store c.look_over.new.conn) refl
    (g.met.S.Store.settled c.args.conn.store) clean c.in-Ok-Fault.fault looked store)

pub returns-in-Err-clause-caused : goal.returns-in-Err-clause-caused
returns-in-Err-clause-caused g c clean canonical store =
    let bare = state g.S.Store (record c.args.conn { step_limit = None }) in
    let mid = state g.S.Store c.look_over.new.conn in
    cause_before (state g.S.Store c.args.conn) mid
    (fail_cause bare mid refl (g.met.S.Store.settled c.args.conn.store) clean c.in-Err.error c.fault_of-in-Err.result c.fault_of-in-Err.ensures.cause store
    (rw c.set_step_limit.ensures at c.in-Err.ensures.looked) (rw c.set_step_limit.ensures at c.in-Err.ensures.cause) canonical)

pub returns-in-Err-migrate-clause-caused : goal.returns-in-Err-migrate-clause-caused
returns-in-Err-migrate-clause-caused g c clean canonical store =
    let is : c.in-Ok-Book-First.field-0 ≡ Book version.First = search rules in
    let old = state g.S.Store (record c.args.conn { step_limit = None }) in
    let mid = state g.S.Store c.look_over.new.conn in
    let new = state g.S.Store c.migrate.new.conn in
    let looked = subst (λ f. HasLooked old mid (Ok f) (λ d f. IsFound d f)) is (rw c.set_step_limit.ensures at c.in-Ok-Book-First.ensures.looked) in
    let cause = subst (λ f. HasLookCause IsCanonical old mid (Ok f)) is (rw c.set_step_limit.ensures at c.in-Ok-Book-First.ensures.cause) in
    let middle = c.migrate.ensures.clean clean in
    let is_old = schema_there old mid new (g.met.S.Store.settled c.args.conn.store) (g.met.S.Store.stays c.args.conn.store) middle looked in
    cause_before (state g.S.Store c.args.conn) (state g.S.Store c.migrate.new.conn)
    (unmade_cause old mid new refl (g.met.S.Store.settled c.args.conn.store) middle c.in-Err-migrate.error c.fault_of.result c.fault_of.ensures.cause store
    looked cause c.migrate.ensures.counts (c.in-Err-migrate.ensures.failed clean is_old))

pub returns-in-Ok-Book-Second-clause-untouched : goal.returns-in-Ok-Book-Second-clause-untouched
returns-in-Ok-Book-Second-clause-untouched g c clean is_whole =
    let is : c.in-Ok-Book-Second.field-0 ≡ Book version.Second = search rules in
    let looked =
    subst (λ f. HasLooked (state g.S.Store (record c.args.conn { step_limit = None })) (state g.S.Store c.look_over.new.conn) (Ok f) (λ d f. IsFound d f))
    is (rw c.set_step_limit.ensures at c.in-Ok-Book-Second.ensures.looked) in
    untouched_before (state g.S.Store c.args.conn) (state g.S.Store c.look_over.new.conn)
    (untouched (state g.S.Store (record c.args.conn { step_limit = None })) (state g.S.Store c.look_over.new.conn) (g.met.S.Store.settled c.args.conn.store)
    clean (Ok (Book version.Second)) looked)

pub returns-in-Ok-Book-Second-clause-migrated : goal.returns-in-Ok-Book-Second-clause-migrated
returns-in-Ok-Book-Second-clause-migrated g c clean is_old =
    let is : c.in-Ok-Book-Second.field-0 ≡ Book version.Second = search rules in
    let looked =
    subst (λ f. HasLooked (state g.S.Store (record c.args.conn { step_limit = None })) (state g.S.Store c.look_over.new.conn) (Ok f) (λ d f. IsFound d f))
    is (rw c.set_step_limit.ensures at c.in-Ok-Book-Second.ensures.looked) in
    absurd (never_first (state g.S.Store (record c.args.conn { step_limit = None })) (state g.S.Store c.look_over.new.conn)
    (g.met.S.Store.settled c.args.conn.store) clean looked is_old)

pub returns-in-Ok-Book-Second-clause-leaves : goal.returns-in-Ok-Book-Second-clause-leaves
returns-in-Ok-Book-Second-clause-leaves g c clean =
    let is : c.in-Ok-Book-Second.field-0 ≡ Book version.Second = search rules in
    let looked =
    subst (λ f. HasLooked (state g.S.Store (record c.args.conn { step_limit = None })) (state g.S.Store c.look_over.new.conn) (Ok f) (λ d f. IsFound d f))
    is (rw c.set_step_limit.ensures at c.in-Ok-Book-Second.ensures.looked) in
    migrates_before (state g.S.Store c.args.conn) (state g.S.Store c.look_over.new.conn)
    (leaves (state g.S.Store (record c.args.conn { step_limit = None })) (state g.S.Store c.look_over.new.conn) (g.met.S.Store.settled c.args.conn.store)
    clean (Ok (Book version.Second)) looked)

pub returns-in-Ok-clause-untouched : goal.returns-in-Ok-clause-untouched
returns-in-Ok-clause-untouched g c clean is_whole =
    let is : c.in-Ok-Book-First.field-0 ≡ Book version.First = search rules in
    let looked =
    subst (λ f. HasLooked (state g.S.Store (record c.args.conn { step_limit = None })) (state g.S.Store c.look_over.new.conn) (Ok f) (λ d f. IsFound d f))
    is (rw c.set_step_limit.ensures at c.in-Ok-Book-First.ensures.looked) in
    let middle = c.migrate.ensures.clean clean in
    absurd (not_whole (state g.S.Store (record c.args.conn { step_limit = None })) (state g.S.Store c.look_over.new.conn) (state g.S.Store c.migrate.new.conn)
    (g.met.S.Store.settled c.args.conn.store) (g.met.S.Store.stays c.args.conn.store) middle looked is_whole)

pub returns-in-Ok-clause-migrated : goal.returns-in-Ok-clause-migrated
returns-in-Ok-clause-migrated g c clean was_old =
    let is : c.in-Ok-Book-First.field-0 ≡ Book version.First = search rules in
    let looked =
    subst (λ f. HasLooked (state g.S.Store (record c.args.conn { step_limit = None })) (state g.S.Store c.look_over.new.conn) (Ok f) (λ d f. IsFound d f))
    is (rw c.set_step_limit.ensures at c.in-Ok-Book-First.ensures.looked) in
    let middle = c.migrate.ensures.clean clean in
    let is_old =
    schema_there (state g.S.Store (record c.args.conn { step_limit = None })) (state g.S.Store c.look_over.new.conn) (state g.S.Store c.migrate.new.conn)
    (g.met.S.Store.settled c.args.conn.store) (g.met.S.Store.stays c.args.conn.store) middle looked in
    made_before (state g.S.Store c.args.conn) (state g.S.Store c.migrate.new.conn)
    (migrated (state g.S.Store (record c.args.conn { step_limit = None })) (state g.S.Store c.look_over.new.conn) (state g.S.Store c.migrate.new.conn)
    (g.met.S.Store.settled c.args.conn.store) (g.met.S.Store.stays c.args.conn.store) middle looked (c.in-Ok.ensures.made clean is_old))

pub returns-in-Ok-Fault-clause-handed_back : goal.returns-in-Ok-Fault-clause-handed_back
returns-in-Ok-Fault-clause-handed_back g c clean =
    let is : c.in-Ok-Fault.field-0 ≡ Fault c.in-Ok-Fault.fault = search rules in
    let looked =
    subst (λ f. HasLooked (state g.S.Store (record c.args.conn { step_limit = None })) (state g.S.Store c.look_over.new.conn) (Ok f) (λ d f. IsFound d f))
    is (rw c.set_step_limit.ensures at c.in-Ok-Fault.ensures.looked) in
    back_before (state g.S.Store c.args.conn) (state g.S.Store c.args.conn).now (book_state (state g.S.Store c.look_over.new.conn) 0) c.in-Ok-Fault.fault
    (back_found (state g.S.Store (record c.args.conn { step_limit = None })) (state g.S.Store c.look_over.new.conn)
    (g.met.S.Store.settled c.args.conn.store) clean c.in-Ok-Fault.fault looked)

pub returns-in-Ok-Fault-clause-left_alone : goal.returns-in-Ok-Fault-clause-left_alone
returns-in-Ok-Fault-clause-left_alone g c clean either =
    let is : c.in-Ok-Fault.field-0 ≡ Fault c.in-Ok-Fault.fault = search rules in
    let looked =
    subst (λ f. HasLooked (state g.S.Store (record c.args.conn { step_limit = None })) (state g.S.Store c.look_over.new.conn) (Ok f) (λ d f. IsFound d f))
    is (rw c.set_step_limit.ensures at c.in-Ok-Fault.ensures.looked) in
    untouched_before (state g.S.Store c.args.conn) (state g.S.Store c.look_over.new.conn)
    (untouched (state g.S.Store (record c.args.conn { step_limit = None })) (state g.S.Store c.look_over.new.conn) (g.met.S.Store.settled c.args.conn.store)
    clean (Ok (Fault c.in-Ok-Fault.fault)) looked)

pub returns-in-Ok-Fault-clause-leaves_refused : goal.returns-in-Ok-Fault-clause-leaves_refused
returns-in-Ok-Fault-clause-leaves_refused g c clean =
    let is : c.in-Ok-Fault.field-0 ≡ Fault c.in-Ok-Fault.fault = search rules in
    let looked =
    subst (λ f. HasLooked (state g.S.Store (record c.args.conn { step_limit = None })) (state g.S.Store c.look_over.new.conn) (Ok f) (λ d f. IsFound d f))
    is (rw c.set_step_limit.ensures at c.in-Ok-Fault.ensures.looked) in
    migrates_before (state g.S.Store c.args.conn) (state g.S.Store c.look_over.new.conn)
    (leaves (state g.S.Store (record c.args.conn { step_limit = None })) (state g.S.Store c.look_over.new.conn) (g.met.S.Store.settled c.args.conn.store)
    clean (Ok (Fault c.in-Ok-Fault.fault)) looked)

pub returns-in-Err-clause-handed_back : goal.returns-in-Err-clause-handed_back
returns-in-Err-clause-handed_back g c clean =
    back_before (state g.S.Store c.args.conn) (state g.S.Store c.args.conn).now (book_state (state g.S.Store c.look_over.new.conn) 0) c.fault_of-in-Err.result
    (back_failed (state g.S.Store (record c.args.conn { step_limit = None })) (state g.S.Store c.look_over.new.conn)
    (g.met.S.Store.settled c.args.conn.store) clean c.in-Err.error c.fault_of-in-Err.result c.fault_of-in-Err.ensures.store
    (rw c.set_step_limit.ensures at c.in-Err.ensures.looked))

pub returns-in-Err-clause-left_alone : goal.returns-in-Err-clause-left_alone
returns-in-Err-clause-left_alone g c clean either =
    untouched_before (state g.S.Store c.args.conn) (state g.S.Store c.look_over.new.conn)
    (untouched (state g.S.Store (record c.args.conn { step_limit = None })) (state g.S.Store c.look_over.new.conn) (g.met.S.Store.settled c.args.conn.store)
    clean (Err c.in-Err.error) (rw c.set_step_limit.ensures at c.in-Err.ensures.looked))

pub returns-in-Err-clause-leaves_refused : goal.returns-in-Err-clause-leaves_refused
returns-in-Err-clause-leaves_refused g c clean =
    migrates_before (state g.S.Store c.args.conn) (state g.S.Store c.look_over.new.conn)
    (leaves (state g.S.Store (record c.args.conn { step_limit = None })) (state g.S.Store c.look_over.new.conn) (g.met.S.Store.settled c.args.conn.store)
    clean (Err c.in-Err.error) (rw c.set_step_limit.ensures at c.in-Err.ensures.looked))

pub returns-in-Err-migrate-clause-left_alone : goal.returns-in-Err-migrate-clause-left_alone
returns-in-Err-migrate-clause-left_alone g c clean either =
    let is : c.in-Ok-Book-First.field-0 ≡ Book version.First = search rules in
    let looked =
    subst (λ f. HasLooked (state g.S.Store (record c.args.conn { step_limit = None })) (state g.S.Store c.look_over.new.conn) (Ok f) (λ d f. IsFound d f))
    is (rw c.set_step_limit.ensures at c.in-Ok-Book-First.ensures.looked) in
    let middle = c.migrate.ensures.clean clean in
    untouched_before (state g.S.Store c.args.conn) (state g.S.Store c.migrate.new.conn)
    (not_alone (state g.S.Store (record c.args.conn { step_limit = None })) (state g.S.Store c.look_over.new.conn) (state g.S.Store c.migrate.new.conn)
    (g.met.S.Store.settled c.args.conn.store) (g.met.S.Store.stays c.args.conn.store) middle looked c.fault_of.result c.fault_of.ensures.store either)
