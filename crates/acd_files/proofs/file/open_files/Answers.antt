use Rattle.std.proofs.Common.{refl, sym, subst}
use Rattle.sqlite.specs.declared.file.Leftover.TheVariants.{Files}
use Rattle.acd_files.specs.Files.{given_back, AreUnopened}
use Rattle.acd_files.proofs.file.open_files.Goals as goal

pub returns-in-Ok-open_files-clause-opened : goal.returns-in-Ok-open_files-clause-opened
returns-in-Ok-open_files-clause-opened g c = record {
  begun = c.in-Ok.files;
  ready = c.in-Ok.ensures.ready;
  handed = c.options.new.files;
  read = c.options.ensures.read;
  opened = c.in-Ok-open_files.ensures.opened;
  found = c.in-Ok-open_files.ensures.found;
}

pub returns-in-Err-clause-left : goal.returns-in-Err-clause-left
returns-in-Err-clause-left g c = subst (λ (x : _). AreUnopened g.D.Disk c.args.files x) (sym c.new.ensures) c.in-Err.ensures.left

pub returns-in-Err-options-clause-left : goal.returns-in-Err-options-clause-left
returns-in-Err-options-clause-left g c = subst (λ (x : _). AreUnopened g.D.Disk c.args.files x) (sym c.new-in-Err-options.ensures)
    (given_back c.in-Ok.files c.options.new.files c.in-Ok.ensures.ready c.options.ensures.read (record { rest = Files c.options.new.files; of_rest = refl; leaves = λ clean image left. left }))

pub returns-in-Err-open_files-clause-left : goal.returns-in-Err-open_files-clause-left
returns-in-Err-open_files-clause-left g c = subst (λ (x : _). AreUnopened g.D.Disk c.args.files x) (sym c.new-in-Err-open_files.ensures)
    (given_back c.in-Ok.files c.options.new.files c.in-Ok.ensures.ready c.options.ensures.read
    (record { rest = c.in-Err-open_files.left; of_rest = sym c.into_files.ensures; leaves = c.in-Err-open_files.ensures.unharmed }))
