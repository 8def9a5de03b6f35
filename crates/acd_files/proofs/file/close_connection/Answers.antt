use Rattle.acd_files.proofs.file.close_connection.Goals as goal

pub returns-in-Ok-clause-laid : goal.returns-in-Ok-clause-laid
returns-in-Ok-clause-laid g c = record {
  pair = c.in-Ok.field-0;
  store = c.in-Ok.ensures.ok.0;
  of_store = c.in-Ok.ensures.ok.1;
  closed = c.in-Ok.ensures.ok.2;
  copied = c.in-Ok.ensures.copied;
}

pub returns-in-Ok-clause-shut : goal.returns-in-Ok-clause-shut
returns-in-Ok-clause-shut g c = (c.in-Ok.ensures.ok.0, c.in-Ok.ensures.ok.2)

pub returns-clause-shut : goal.returns-clause-shut
returns-clause-shut g c = (c.in-Err.store, c.in-Err.ensures.err.0)
