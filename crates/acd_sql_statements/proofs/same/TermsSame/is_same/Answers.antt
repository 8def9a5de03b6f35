use Rattle.std.proofs.Common.{◌≡◌, true, rules, sym, subst, ◌∙◌}
use Rattle.sqlite_schema.specs.Code.{terms_in}
use Rattle.acd_sql_statements.specs.ComparedSchemas.{are_plain_terms}
use Rattle.acd_sql_statements.proofs.same.TermsSame.is_same.Goals as goal

pub returns-clause-back : goal.returns-clause-back
returns-clause-back c plain same =
    let self_terms : c.args.self.now ≡ terms_in c.as_slice.result.now c.as_slice-2.result.now = search rules in
    let other_terms : c.args.other.now ≡ terms_in c.as_slice-3.result.now c.as_slice-4.result.now = search rules in
    c.are_same_roots.ensures.back (subst (λ t. are_plain_terms t ≡ true) other_terms plain) (sym self_terms ∙ same ∙ other_terms)
