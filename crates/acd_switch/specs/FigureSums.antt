-- Figures that grow by the reports of a request.
use Rattle.std.specs.Prelude.{◌^◌, ◌<◌, List, map, if◌then◌else◌}
use Rattle.acd_terms.specs.Lists.{Every}
use Rattle.acd_terms.specs.Numbers.{Device}
use Rattle.acd_terms.specs.declared.rows.Rows.{Rows}
use Rattle.acd_terms.specs.declared.record.Figures.{Figures}
use Rattle.acd_terms.specs.declared.record.GroupRecord.{GroupRecord}
use Rattle.acd_terms.specs.declared.event.Event.{Event}
use Rattle.acd_terms.specs.declared.event.Report.{Report}
use Rattle.acd_model.specs.Figures.{is_entry, is_answer, is_abandonment, is_moving_away, waited_there, counting}

-- the counts of one report for a group
unfoldable pub figures_by : Device → Report → Figures
figures_by g r = record {
  entered = if is_entry g r then 1 else 0;
  answered = if is_answer g r then 1 else 0;
  abandoned = if is_abandonment g r then 1 else 0;
  moved = if is_moving_away g r then 1 else 0;
  waited = waited_there g r;
}

-- each figure is below 2 ^ 64
pub record AreFitting (f : Figures) : Type 0 where
  pub entered : f.entered < 2 ^ 64
  pub answered : f.answered < 2 ^ 64
  pub abandoned : f.abandoned < 2 ^ 64
  pub moved : f.moved < 2 ^ 64
  pub waited : f.waited < 2 ^ 64

-- the figures of each group
abbrev pub AllFit : List GroupRecord → Type 0
AllFit groups = Every (λ (g : GroupRecord). AreFitting g.figures) groups

-- no figure of a group wraps by what the events count
abbrev pub CountingFits : Rows → List Event → Type 0
CountingFits s events = AllFit (map (counting events) s.groups)
