-- The plan of an import, by the bytes that a reader gives.
use Rattle.std.specs.Prelude.{◌≡◌, ℕ, List, take, Option, Ok, IfSome}
use Rattle.acd_terms.specs.declared.command.Request.{Request}
use Rattle.acd_io.specs.Streams.{IsInput}
use Rattle.acd_reports.specs.Plan.{plan_requests}

-- all bytes of the reader, or as many as are enough: one more than a plan may have
abbrev pub IsEnough : Option (List ℕ) → List ℕ → Type 0
IsEnough known bytes = IfSome known (λ (all : List ℕ). bytes ≡ take 1048577 all)

-- the requests of some bytes that are a plan
abbrev pub IsSomePlan : List Request → Type 0
IsSomePlan requests = (bytes : List ℕ) × (plan_requests bytes ≡ Ok requests)

-- and of those that the reader holds
abbrev pub IsPlanFrom : Option (List ℕ) → List Request → Type 0
IsPlanFrom known requests = (bytes : List ℕ) × IsInput known bytes × (plan_requests bytes ≡ Ok requests)
