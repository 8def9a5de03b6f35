use Rattle.std.proofs.Common.{◌<◌, length, rules, sym, ◌∙◌}
use Rattle.sqlite_schema.specs.Code.{term_in}
use Rattle.acd_sql_statements.proofs.SameTerms.{each_same, plain_at}
use Rattle.acd_sql_statements.proofs.same.are_same_roots.Goals as goal

pub returns-then-not-is_same_term-clause-back : goal.returns-then-not-is_same_term-clause-back
returns-then-not-is_same_term-clause-back c plain same =
    let low : c.loop-at.at < length c.args.roots.now = search rules in
    let under : c.loop-at.at < length c.args.others.now = search rules in
    absurd (
    let apart =
    sym (c.is_same_term.ensures.back (plain_at (term_in c.args.b.now) c.args.others.now c.loop-at.at _ under plain)
    (each_same (term_in c.args.a.now) (term_in c.args.b.now) c.args.roots.now c.args.others.now c.loop-at.at _ _ low under same))
    ∙ c.if-not-is_same_term.true in
    cc)
