use Rattle.std.proofs.Common.{◌∙◌, sym, inl, inr}
use Rattle.sqlite_store.specs.Unopened.{state_of, StopsCreating, CanCreate}
use Rattle.acd_files.proofs.Begun.{created_as, refused_so, unopened_clean, store_clean}
use Rattle.acd_files.proofs.paging.created.Goals as goal

pub returns-in-Ok-create-clause-created : goal.returns-in-Ok-create-clause-created
returns-in-Ok-create-clause-created g c = record {
  before = c.in-Ok-new.unopened;
  of_old = c.in-Ok-new.ensures.files ∙ c.in-Ok.ensures.files;
  size = c.in-Ok-new.ensures.size ∙ c.in-Ok.ensures.size ∙ c.in-Some.ensures.value;
  schema = c.in-Ok-new.ensures.schema;
  after = inl (record { made = c.in-Ok-create.store; of_made = sym c.close-in-Ok-create.ensures; creates = c.in-Ok-create.ensures.kept });
}

pub returns-in-Ok-create-clause-clean : goal.returns-in-Ok-create-clause-clean
returns-in-Ok-create-clause-clean g c still =
    sym (unopened_clean c.in-Ok-new.unopened c.args.files (c.in-Ok-new.ensures.files ∙ c.in-Ok.ensures.files))
    ∙ c.in-Ok-create.ensures.honest (store_clean c.in-Ok-create.store c.close-in-Ok-create.result (sym c.close-in-Ok-create.ensures) ∙ still)

pub returns-in-Err-Refused-default-clause-created : goal.returns-in-Err-Refused-default-clause-created
returns-in-Err-Refused-default-clause-created g c = record {
  before = c.in-Ok-new.unopened;
  of_old = c.in-Ok-new.ensures.files ∙ c.in-Ok.ensures.files;
  size = c.in-Ok-new.ensures.size ∙ c.in-Ok.ensures.size ∙ c.in-Some.ensures.value;
  schema = c.in-Ok-new.ensures.schema;
  after = inr (record {
    rest = c.in-Err-Refused-default.left;
    of_rest = sym c.close-in-Err-Refused-default.ensures;
    refuses = λ clean. refused_so (state_of c.in-Ok-new.unopened).faults (state_of c.in-Err-Refused-default.left).faults (StopsCreating c.in-Err-Refused-default.left) (CanCreate c.in-Ok-new.unopened)
        c.in-Err-Refused-default.field-0-0 c.in-Err-Refused-default.field-0-0-is (c.in-Err-Refused-default.ensures.cause clean);
    creates = c.in-Err-Refused-default.ensures.unharmed;
  });
}

pub returns-in-Err-Refused-default-clause-clean : goal.returns-in-Err-Refused-default-clause-clean
returns-in-Err-Refused-default-clause-clean g c still =
    sym (unopened_clean c.in-Ok-new.unopened c.args.files (c.in-Ok-new.ensures.files ∙ c.in-Ok.ensures.files))
    ∙ c.in-Err-Refused-default.ensures.falls (unopened_clean c.in-Err-Refused-default.left c.close-in-Err-Refused-default.result (sym c.close-in-Err-Refused-default.ensures) ∙ still)

pub returns-in-Err-OutOfMemory-default-clause-left : goal.returns-in-Err-OutOfMemory-default-clause-left
returns-in-Err-OutOfMemory-default-clause-left g c = created_as c.args.files _ c.requires.log c.requires.db (record {
  before = c.in-Ok-new.unopened;
  of_old = c.in-Ok-new.ensures.files ∙ c.in-Ok.ensures.files;
  size = c.in-Ok-new.ensures.size ∙ c.in-Ok.ensures.size ∙ c.in-Some.ensures.value;
  schema = c.in-Ok-new.ensures.schema;
  after = record { rest = c.in-Err-OutOfMemory-default.left; of_rest = sym c.close-in-Err-OutOfMemory-default.ensures; creates = c.in-Err-OutOfMemory-default.ensures.unharmed };
})

pub returns-in-Err-create-clause-left : goal.returns-in-Err-create-clause-left
returns-in-Err-create-clause-left g c = created_as c.args.files _ c.requires.log c.requires.db (record {
  before = c.in-Ok-new.unopened;
  of_old = c.in-Ok-new.ensures.files ∙ c.in-Ok.ensures.files;
  size = c.in-Ok-new.ensures.size ∙ c.in-Ok.ensures.size ∙ c.in-Some.ensures.value;
  schema = c.in-Ok-new.ensures.schema;
  after = record { rest = c.in-Err-create.left; of_rest = sym c.close-in-Err-create.ensures; creates = c.in-Err-create.ensures.unharmed };
})
