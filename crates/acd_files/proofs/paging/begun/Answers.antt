use Rattle.std.proofs.Common.{rules, sym, ◌∙◌, true≢false}
use Rattle.acd_files.specs.Files.{unchanged, unusable}
use Rattle.acd_files.proofs.Begun.{read_only, large_ready, short_clean, unopened_after_read}
use Rattle.acd_files.proofs.Ends.{err_from}
use Rattle.acd_files.proofs.paging.begun.Goals as goal

pub returns-in-Ok-false-clause-ready : goal.returns-in-Ok-false-clause-ready
returns-in-Ok-false-clause-ready g c =
    let new : _ = c.may_be_new.new.files in
    large_ready c.args.files new (read_only c.args.files new c.may_be_new.ensures.log c.requires.log c.may_be_new.ensures.db)
    (λ clean short. true≢false (sym ((c.in-Ok-false.ensures.few clean).1 short) ∙ c.in-Ok-false.field-0-test))

pub returns-then-may_be_used-clause-ready : goal.returns-then-may_be_used-clause-ready
returns-then-may_be_used-clause-ready g c =
    let mid : _ = c.may_be_new.new.files in
    short_clean c.args.files mid c.in_ok-files-in-Ok-true.files (read_only c.args.files mid c.may_be_new.ensures.log c.requires.log c.may_be_new.ensures.db)
    (λ clean. (c.in-Ok-true.ensures.few clean).0 c.in-Ok-true.field-0-test) c.in_ok-files-in-Ok-true.ensures.clean c.in_ok-files-in-Ok-true.ensures.ready

pub returns-in_err-files-in-Ok-true-clause-left : goal.returns-in_err-files-in-Ok-true-clause-left
returns-in_err-files-in-Ok-true-clause-left g c =
    let mid : _ = c.may_be_new.new.files in
    err_from c.from_residual.result c.in_err-files-in-Ok-true.field-0.0 _ (search rules)
    (unopened_after_read c.args.files mid _ (read_only c.args.files mid c.may_be_new.ensures.log c.requires.log c.may_be_new.ensures.db) c.in_err-files-in-Ok-true.ensures.left)

pub returns-else-may_be_used-clause-left : goal.returns-else-may_be_used-clause-left
returns-else-may_be_used-clause-left g c =
    let mid : _ = c.may_be_new.new.files in
    unusable (short_clean c.args.files mid c.in_ok-files-in-Ok-true.files (read_only c.args.files mid c.may_be_new.ensures.log c.requires.log c.may_be_new.ensures.db)
    (λ clean. (c.in-Ok-true.ensures.few clean).0 c.in-Ok-true.field-0-test) c.in_ok-files-in-Ok-true.ensures.clean c.in_ok-files-in-Ok-true.ensures.ready)

pub returns-in-Err-clause-left : goal.returns-in-Err-clause-left
returns-in-Err-clause-left g c =
    let mid : _ = c.may_be_new.new.files in
    unchanged (read_only c.args.files mid c.may_be_new.ensures.log c.requires.log c.may_be_new.ensures.db)
