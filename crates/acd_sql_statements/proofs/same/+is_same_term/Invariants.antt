use Rattle.acd_sql_statements.proofs.same.+is_same_term.Given as goal

abbrev pub decreases-is_same_term : goal.decreases-is_same_term
decreases-is_same_term l = l.depth
