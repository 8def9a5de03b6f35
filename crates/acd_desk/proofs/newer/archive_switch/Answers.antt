use Rattle.std.proofs.Common.{◌≡◌, Ok, Err, refl, sym, subst, ◌∙◌}
use Rattle.acd_book.specs.Content.{Content}
use Rattle.acd_book.specs.State.{BookState}
use Rattle.acd_book.specs.declared.fault.BookFault.{BookFault}
use Rattle.acd_book.specs.declared.fault.BookFault.TheVariants as book
use Rattle.acd_switch.specs.declared.row_fault.RowFault.{RowFault}
use Rattle.acd_switch.specs.declared.row_fault.RowFault.TheVariants as row
use Rattle.acd_desk.specs.declared.open_fault.OpenFault.{OpenFault}
use Rattle.acd_desk.specs.declared.working.LoadedSwitch.{LoadedSwitch}
use Rattle.acd_desk.specs.Desks.Opening.{by_book, by_rows}
use Rattle.acd_book.specs.BookReads.{ReadsIfOpen}
use Rattle.acd_desk.specs.Audits.Pairs.{by_opening}
use Rattle.acd_desk.specs.Audits.ReplayWith.{IsSwitchOf}
use Rattle.acd_book.proofs.ReadsAhead.{by_read, read_ok, read_nothing, read_no_memory}
use Rattle.acd_desk.proofs.newer.archive_switch.Goals as goal

-- the book answered nothing
by_its_fault : {A : Type 0} {P : Content → A → Type 0} (a b : BookState) (f : BookFault) (made : OpenFault) → made ≡ by_book f → ReadsIfOpen {A = A} a b (Err f) P → ReadsIfOpen a b (by_opening {T = LoadedSwitch} (Err made)) IsSwitchOf
by_its_fault {A = A} a b book.NoMemory made is read = subst (λ (x : OpenFault). ReadsIfOpen a b (by_opening {T = LoadedSwitch} (Err x)) IsSwitchOf) (sym is) (read_nothing {A = A} IsSwitchOf a b book.NoMemory (Err book.NoMemory) read refl)
by_its_fault {A = A} a b book.Store made is read = subst (λ (x : OpenFault). ReadsIfOpen a b (by_opening {T = LoadedSwitch} (Err x)) IsSwitchOf) (sym is) (read_nothing {A = A} IsSwitchOf a b book.Store (Err book.Store) read refl)

-- its rows make no switch
by_its_rows : {A : Type 0} {P : Content → A → Type 0} (a b : BookState) (x : A) (f : RowFault) (made : OpenFault) → made ≡ by_rows f → ReadsIfOpen a b (Ok x) P → ReadsIfOpen a b (by_opening {T = LoadedSwitch} (Err made)) IsSwitchOf
by_its_rows a b x (row.Broken rule) made is read = subst (λ (y : OpenFault). ReadsIfOpen a b (by_opening {T = LoadedSwitch} (Err y)) IsSwitchOf) (sym is) (read_no_memory IsSwitchOf a b x (Err book.NoMemory) read refl)
by_its_rows a b x row.NoMemory made is read = subst (λ (y : OpenFault). ReadsIfOpen a b (by_opening {T = LoadedSwitch} (Err y)) IsSwitchOf) (sym is) (read_no_memory IsSwitchOf a b x (Err book.NoMemory) read refl)

pub returns-in-Err : goal.returns-in-Err
returns-in-Err g c =
    by_its_fault (g.A.Book.state c.args.archive.now) (g.A.Book.state c.rows.new.self) c.in-Err.fault c.from.result c.from.ensures
    (by_read _ (g.A.Book.state c.args.archive.now) (g.A.Book.state c.rows.new.self) (Err c.in-Err.fault) c.in-Err.ensures (λ a x holds. holds))

pub returns-in-Ok-from_rows : goal.returns-in-Ok-from_rows
returns-in-Ok-from_rows g c =
    read_ok IsSwitchOf (g.A.Book.state c.args.archive.now) (g.A.Book.state c.rows.new.self) c.in-Ok.rows c.in-Ok-from_rows.loaded
    (by_read _ (g.A.Book.state c.args.archive.now) (g.A.Book.state c.rows.new.self) (Ok c.in-Ok.rows) c.in-Ok.ensures (λ a x holds. holds)) (λ a is. c.in-Ok-from_rows.ensures.ok ∙ is)

pub returns : goal.returns
returns g c =
    by_its_rows (g.A.Book.state c.args.archive.now) (g.A.Book.state c.rows.new.self) c.in-Ok.rows c.in-Err-from_rows.fault c.from-in-Err-from_rows.result c.from-in-Err-from_rows.ensures
    (by_read _ (g.A.Book.state c.args.archive.now) (g.A.Book.state c.rows.new.self) (Ok c.in-Ok.rows) c.in-Ok.ensures (λ a x holds. holds))
