use Rattle.std.proofs.Common.{inr, sym, ◌∙◌}
use Rattle.acd_sql_statements.proofs.RowCauses.{first_fits}
use Rattle.acd_sql_statements.proofs.lookups.meant.Goals as goal

pub returns-in-Some-clause-other : goal.returns-in-Some-clause-other
returns-in-Some-clause-other c =
    inr (
      (λ fit. absurd (let apart = sym (c.fits.ensures.1 fit) ∙ c.if-not-fits.true in cc)),
      first_fits c.args.rows.items c.in-Some.row.now c.number_of-fits.result (rw c.deref.ensures.value at c.in-Some.ensures.value)
          c.number_of-fits.ensures.value c.number_of-fits.ensures.fits,
    )
