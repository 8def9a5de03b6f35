use Rattle.std.proofs.Common.{sym, ◌∙◌}
use Rattle.acd_tables.proofs.ScanLookUps.{seat-none, seat-some}
use Rattle.acd_tables.proofs.uses.agent_at.Goals as goal

pub returns-in-None : goal.returns-in-None
returns-in-None c = sym (seat-none c.args.records.now c.args.seats.now c.requires.ascending c.requires.listed c.args.station (sym c.in-None.ensures.value))

pub returns-in-Some : goal.returns-in-Some
returns-in-Some c =
    c.agent.ensures
    ∙ sym
    (seat-some c.args.records.now c.args.seats.now c.requires.ascending c.requires.listed c.args.station c.in-Some.number.now (sym c.in-Some.ensures.value))
