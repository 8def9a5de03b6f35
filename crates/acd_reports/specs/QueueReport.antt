-- The queue report: a header line, and a line for each group.
use Rattle.std.specs.Prelude.{ℕ, ◌-◌, ◌/◌, ◌==◌, List, [], ◌∷◌, ◌++◌, length, map, filter, min, codes, if◌then◌else◌, Option, Some, None, option_map}
use Rattle.std.specs.List.{concat, filter_map, reduce}
use Rattle.acd_terms.specs.Forms.{digits_of}
use Rattle.acd_terms.specs.declared.rows.Rows.{Rows}
use Rattle.acd_terms.specs.declared.record.Figures.{Figures}
use Rattle.acd_terms.specs.declared.record.GroupRecord.{GroupRecord}
use Rattle.acd_terms.specs.declared.record.ConnectionRecord.{ConnectionRecord}
use Rattle.acd_model.specs.Scans.{waiting_in}
use Rattle.acd_model.specs.Rules.Occupied.{rings_from}
use Rattle.acd_reports.specs.declared.queues.GroupState.{GroupState}
use Rattle.acd_reports.specs.Layout.{left_aligned, columns_text, numbers_as_texts}

-- how long an answered call waited on average, whole seconds downwards
unfoldable pub average_wait : Figures → Option ℕ
average_wait figures = if figures.answered == 0 then None else Some (figures.waited / figures.answered)

-- the least moment at which one of the calls that wait in the group entered
unfoldable pub first_queued : Rows → ℕ → Option ℕ
first_queued s group = reduce min (filter_map (λ (c : ConnectionRecord). c.queued) (waiting_in s group))

-- for how long a call that entered then has waited at a moment, 0 where it entered later
abbrev pub longest_wait : Option ℕ → ℕ → Option ℕ
longest_wait first moment = option_map (λ first. moment - first) first

-- how many calls ring by distribution from the group
unfoldable pub ringing_from : Rows → ℕ → ℕ
ringing_from s group = length (filter (rings_from group) s.connections)

-- the state of a group in the report
abbrev pub group_state : Rows → GroupRecord → GroupState
group_state s g = record { group = g; waiting = length (waiting_in s g.device); ringing = ringing_from s g.device; first_queued = first_queued s g.device }

-- a line: the group, the columns and the name
abbrev pub line : List ℕ → List (ℕ × List ℕ) → List ℕ → List ℕ
line group columns name = left_aligned 15 group ++ columns_text columns ++ 32 ∷ (name ++ 10 ∷ [])

unfoldable pub header_line : List ℕ
header_line =
    line (codes "group")
    ((7, codes "waiting") ∷ (7, codes "ringing")
    ∷ (10, codes "entered") ∷ (10, codes "answered") ∷ (10, codes "abandoned") ∷ (10, codes "moved")
    ∷ (10, codes "average") ∷ (10, codes "longest") ∷ [])
    (codes "name")

-- the numbers of a group at a moment, each with the width of its column
abbrev pub group_numbers : ℕ → GroupState → List (ℕ × Option ℕ)
group_numbers moment x =
    (7, Some x.waiting) ∷ (7, Some x.ringing)
    ∷ (10, Some x.group.figures.entered) ∷ (10, Some x.group.figures.answered)
    ∷ (10, Some x.group.figures.abandoned) ∷ (10, Some x.group.figures.moved)
    ∷ (10, average_wait x.group.figures) ∷ (10, longest_wait x.first_queued moment) ∷ []

unfoldable pub group_line : ℕ → GroupState → List ℕ
group_line moment x = line (digits_of x.group.device) (numbers_as_texts (group_numbers moment x)) x.group.name

-- the text of the report of these groups at a moment
unfoldable pub report_text : List GroupState → ℕ → List ℕ
report_text groups moment = header_line ++ concat (map (group_line moment) groups)

-- and of the groups of these rows
unfoldable pub queue_report : Rows → ℕ → List ℕ
queue_report s moment = report_text (map (group_state s) s.groups) moment
