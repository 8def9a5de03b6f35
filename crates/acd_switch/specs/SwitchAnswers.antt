-- A group and an outcome, as the switch answers them.
use Rattle.std.specs.Prelude.{Option, option_map}
use Rattle.acd_terms.specs.Numbers.{Device, Moment}
use Rattle.acd_terms.specs.declared.rows.Rows.{Rows}
use Rattle.acd_terms.specs.declared.record.Figures.{Figures}
use Rattle.acd_terms.specs.declared.record.GroupRecord.{GroupRecord}
use Rattle.acd_terms.specs.declared.command.Command.{Command}
use Rattle.acd_terms.specs.declared.answer.Outcome.{Outcome}
use Rattle.acd_terms.specs.declared.answer.Outcome.TheVariants.{Done, Refused}
use Rattle.acd_model.specs.Scans.{group_of}
use Rattle.acd_laws.specs.RefusalLaws.{ChangesNothing}

-- the figures of a planned group, and none of any other device
abbrev pub figures_at : Rows → Device → Option Figures
figures_at s group = option_map (λ (g : GroupRecord). g.figures) (group_of s group)

abbrev pub IsRefusedOutcome : Outcome → Type 0
IsRefusedOutcome (Done answer) = ⊥
IsRefusedOutcome (Refused refusal) = Unit {0}

-- a step with a refused outcome changes nothing but stamp and moment
abbrev pub ChangesNothingIfRefused : Outcome → Rows → Moment → Command → Type 0
ChangesNothingIfRefused outcome s moment command = IsRefusedOutcome outcome → ChangesNothing s moment command
