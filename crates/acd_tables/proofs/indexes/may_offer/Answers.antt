use Rattle.acd_tables.proofs.indexes.may_offer.Goals as goal
use Rattle.std.proofs.lemmas.Bool.{not-false}

pub returns-then-not-has_none-clause-none : goal.returns-then-not-has_none-clause-none
returns-then-not-has_none-clause-none c = λ e p q h. c.has_none-then-not-has_none.ensures.none (not-false c.has_none-then-not-has_none.result e) q

pub returns-else-not-has_none-clause-none : goal.returns-else-not-has_none-clause-none
returns-else-not-has_none-clause-none c = λ e p q h.
    let none = c.has_none.ensures.none (not-false c.has_none.result e) p in absurd cc
