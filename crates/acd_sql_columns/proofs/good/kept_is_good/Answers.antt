use Rattle.std.proofs.Common.{subst, ◌∙◌}
use Rattle.std.specs.Str.{IsUtf8}
use Rattle.acd_sql_columns.proofs.Rows.GoodRecords.{kept_good}
use Rattle.acd_sql_columns.proofs.good.kept_is_good.Goals as goal

pub returns : goal.returns
returns c =
    kept_good c.args.kept.now c.requires.stamp c.requires.status c.moment.ensures c.reads_back.ensures
    (subst IsUtf8 (c.as_bytes.ensures.value ∙ c.as_str.ensures) c.as_bytes.ensures.utf8)
