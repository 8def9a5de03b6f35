use Rattle.acd_terms.specs.Columns.{columns_of}
use Rattle.acd_sql_columns.specs.Sorts.{cause}
use Rattle.acd_sql_columns.proofs.Rows.ReadBack.{InSort, any_in}
use Rattle.std.proofs.Common.{◌<◌, ◌^◌, subst}
use Rattle.std.specs.Prelude.{IfSome}
use Rattle.acd_terms.specs.declared.event.Columns.{Columns}
use Rattle.acd_codec.specs.RequestForms.{IsAgent, IsDevice}
use Rattle.acd_sql_columns.proofs.Rows.GoodRecords.{event_good}
use Rattle.acd_sql_columns.proofs.good.event_is_good.Goals as goal

pub returns : goal.returns
returns c =
    let is = c.columns-columns.ensures in
    let P : Columns → Type 0 =
    λ v. IfSome v.device IsDevice × IfSome v.agent IsAgent × IfSome v.group IsDevice × IfSome v.to IsDevice × IfSome v.waited (λ n. n < 2 ^ 32) in
    let at = subst P is (c.device_or_none.ensures, c.agent_or_none.ensures, c.device_or_none-2.ensures, c.device_or_none-3.ensures, c.moment_or_none.ensures) in
    event_good c.args.event.now (
      c.requires.number,
      (
        c.moment.ensures,
        (tt, (at.0, (c.requires.report.call, (at.1, (at.2, (at.3, (any_in (InSort cause) (λ w. tt) (columns_of c.args.event.now.report).cause, (at.4, tt)))))))),
      ),
    )
    c.requires.report.formed
