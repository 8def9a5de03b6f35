use Rattle.acd_files.specs.Files.{unchanged}
use Rattle.acd_files.proofs.Begun.{ready_beside, err_after_read}
use Rattle.acd_files.proofs.paging.created_beside.Goals as goal

pub returns-in-Ok-false-clause-ready : goal.returns-in-Ok-false-clause-ready
returns-in-Ok-false-clause-ready g c =
    ready_beside c.created.result c.args.files c.is_lone.new.files c.is_lone.ensures.read c.in-Ok-false.field-0 c.in-Ok-false.field-0-test c.in-Ok-false.ensures.lone c.created.ensures.clean c.created.ensures.created

pub returns-in-Ok-false-clause-left : goal.returns-in-Ok-false-clause-left
returns-in-Ok-false-clause-left g c = err_after_read c.created.result c.args.files c.is_lone.new.files c.is_lone.ensures.read c.created.ensures.left

pub returns-in-Ok-true-clause-left : goal.returns-in-Ok-true-clause-left
returns-in-Ok-true-clause-left g c = unchanged c.is_lone.ensures.read

pub returns-in-Err-clause-left : goal.returns-in-Err-clause-left
returns-in-Err-clause-left g c = unchanged c.is_lone.ensures.read
