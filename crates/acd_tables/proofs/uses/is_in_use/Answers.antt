use Rattle.std.proofs.Common.{◌∙◌}
use Rattle.acd_tables.specs.Uses.{uses}
use Rattle.acd_tables.proofs.ScanLookUps.{any-listed}
use Rattle.acd_tables.proofs.uses.is_in_use.Goals as goal

pub returns : goal.returns
returns c =
    c.any_call_uses.ensures
    ∙ any-listed c.args.records.now (uses c.args.kind) c.args.device c.args.but c.lines_at.result c.requires.ascending
    (λ k e. c.lines_at.ensures.listed k (c.requires.listed (c.args.device, k) ∙ e))
