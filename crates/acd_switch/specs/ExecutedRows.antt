-- The rows after an executed request.
use Rattle.std.specs.Prelude.{◌≡◌, ℕ, length}
use Rattle.acd_terms.specs.declared.rows.Rows.{Rows}
use Rattle.acd_model.specs.Step.{executed_moment, next_stamp}
use Rattle.acd_model.specs.Changes.{rows_made}
use Rattle.acd_switch.specs.declared.switch.Executed.{Executed}

-- the rows are those that its changes make of the rows before, with the counters that it leaves
abbrev pub IsMadeBy : Executed → Rows → ℕ → Rows → Type 0
IsMadeBy executed old moment new =
    rows_made old executed.changes.items (next_stamp old) (executed_moment old moment) (length executed.events.items) ≡ new
