use Rattle.std.proofs.Common.{[]}
use Rattle.sqlite.specs.Held.{state}
use Rattle.acd_sql_columns.proofs.FileTables.QueryResults.{version_plain, sees_version}
use Rattle.acd_sql_columns.specs.AnyRows.{BeginsAsBook}
use Rattle.acd_sql_columns.specs.declared.texts.TheConstants.{SELECT_VERSION}
use Rattle.acd_sql_statements.specs.Looks.{HasGood}
use Rattle.acd_sql_statements.specs.ReadFailures.{RefusesToShow}
use Rattle.acd_sql_statements.proofs.ReadTexts.{version_over}
use Rattle.acd_sql_statements.proofs.LookCauses.{looks_so}
use Rattle.acd_sql_statements.proofs.look.version_rows.Goals as goal

pub returns-clause-looks : goal.returns-clause-looks
returns-clause-looks g c = record {
  seen =
      λ d begins. sees_version d (state g.S.Store c.args.conn.now) (state g.S.Store c.read.new.conn) c.read.result begins
      (c.read.ensures.seen d (version_plain d begins));
}

pub returns-clause-looked : goal.returns-clause-looked
returns-clause-looked g c =
    looks_so (HasGood BeginsAsBook []) (λ d. ¬ (RefusesToShow d SELECT_VERSION.now [])) (λ d h. version_over d h.0) (state g.S.Store c.args.conn.now)
    (state g.S.Store c.read.new.conn) c.read.result c.read.ensures.looked
