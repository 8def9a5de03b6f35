use Rattle.std.proofs.Common.{subst, map, inr, ap, ◌∙◌}
use Rattle.clap.specs.Words.{kind_of, subcommand_rows_of}
use Rattle.acd_command.specs.CommandLine.{IsTaskIn}
use Rattle.acd_command.proofs.CommandLines.{matches_are, none_named, refused_by}
use Rattle.acd_files.proofs.Ends.{err_made}
use Rattle.acd_command.proofs.task.chosen.Goals as goal

pub returns-in-Some-clause-task : goal.returns-in-Some-clause-task
returns-in-Some-clause-task g c is =
    subst (λ o. IsTaskIn o c.in-Some.task) (ap subcommand_rows_of c.insert-found.ensures.value ∙ matches_are _ (map g.S.AsStr.text c.args.words.now) c.in_ok-matches.matches is c.in_ok-matches.ensures.ok.2) c.in-Some.ensures

pub returns-in_ok-refused-in-None-clause-refused : goal.returns-in_ok-refused-in-None-clause-refused
returns-in_ok-refused-in-None-clause-refused g c is =
    inr (inr (
      c.in_ok-refused-in-None.ensures,
      none_named (subcommand_rows_of c.insert-found.result.now) (map g.S.AsStr.text c.args.words.now)
          (ap subcommand_rows_of c.insert-found.ensures.value ∙ matches_are _ (map g.S.AsStr.text c.args.words.now) c.in_ok-matches.matches is c.in_ok-matches.ensures.ok.2) c.in-None.ensures,
    ))

pub returns-in_err-matches-clause-refused : goal.returns-in_err-matches-clause-refused
returns-in_err-matches-clause-refused g c is =
    err_made c.from_residual.result c.in_err-matches.field-0.0 _ c.from_residual.ensures.1
    (refused_by (kind_of c.in_err-matches.field-0.0) _ (map g.S.AsStr.text c.args.words.now) is c.in_err-matches.ensures.passes)
