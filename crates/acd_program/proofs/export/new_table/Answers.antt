use Rattle.std.proofs.Common.{refl, ◌∙◌}
use Rattle.acd_program.proofs.export.new_table.Goals as goal

pub returns : goal.returns
returns c = (c.in_ok-text.ensures.ok ∙ c.export_header.ensures, refl)
