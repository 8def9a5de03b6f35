use Rattle.acd_sql_columns.specs.Sorts.{pending}
use Rattle.acd_sql_columns.proofs.Rows.ReadBack.{InSort, any_in}
use Rattle.std.proofs.Common.{subst}
use Rattle.acd_terms.specs.Lists.{Every}
use Rattle.acd_codec.specs.RequestForms.{IsDevice}
use Rattle.acd_sql_columns.proofs.Rows.GoodRecords.{agent_good, least_in}
use Rattle.acd_sql_columns.proofs.good.agent_is_good.Goals as goal

pub returns : goal.returns
returns c =
    let a = c.args.agent.now in
    let each : Every IsDevice a.groups = subst (Every IsDevice) c.as_slice-groups.ensures.value c.devices.ensures in
    agent_good a (
      c.number.ensures.formed,
      (
        c.as_bytes.ensures.formed,
        (tt, (any_in (InSort pending) (λ p. tt) a.pending, (c.device_or_none.ensures, (least_in IsDevice a.groups each, (c.requires, (c.moment.ensures, tt)))))),
      ),
    )
    each c.as_slice-groups.ensures.few c.as_slice-groups.ensures.ascending
