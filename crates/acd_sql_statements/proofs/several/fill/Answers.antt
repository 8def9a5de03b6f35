use Rattle.std.proofs.Common.{◌+◌, ◌-◌, ◌++◌, length, take, ap, ◌∙◌, arith}
use Rattle.std.proofs.lemmas.Slice.{take-put_mid}
use Rattle.std.proofs.lemmas.List.{map-append}
use Rattle.sqlite.specs.Values.{bound, bound_value}
use Rattle.sqlite_value.specs.Value.{owned}
use Rattle.acd_sql_statements.proofs.several.fill.Goals as goal

pub returns-clause-filled : goal.returns-clause-filled
returns-clause-filled c =
    let a = c.args.at in
    let xs = c.args.values.now in
    let ys = c.copy_from_slice.new.self in
    ap bound (take-put_mid a (a + 10 - a) xs ys (a + 10) (omega (arith, ap length c.copy_from_slice.ensures.after)) (omega (arith, c.requires.room)))
    ∙ map-append (λ v. bound_value (owned v)) (take a xs) ys
    ∙ ap (λ l. bound (take a xs) ++ l) (ap bound c.copy_from_slice.ensures.after ∙ c.event_values.ensures)
