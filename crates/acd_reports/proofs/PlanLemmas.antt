-- The requests of a plan, row by row.
use Rattle.std.proofs.Common.{◌≡◌, ℕ, ◌+◌, List, [], ◌∷◌, ◌++◌, Result, Ok, Err, refl, sym, ◌∙◌, ap, append_assoc}
use Rattle.std.proofs.lemmas.List.{append-nil}
use Rattle.acd_terms.specs.declared.command.Request.{Request}
use Rattle.acd_terms.specs.Results.{◌>>=◌}
use Rattle.acd_reports.specs.PlanRows.{command_in_record}
use Rattle.acd_reports.specs.Plan.{IsPlanFault, request_of, requests_from}
use Rattle.acd_reports.specs.PlanReaders.{read_after}
use Rattle.acd_reports.specs.declared.fault.PlanFault.{PlanFault}
use Rattle.acd_reports.specs.declared.fault.PlanFault.TheVariants.{TooLong, Header, Row, NoMemory}

-- the fault of a plan is its fault
pub is_fault : (fault : PlanFault) (wanted : Result (List Request) PlanFault) → wanted ≡ Err fault → IsPlanFault fault wanted
is_fault TooLong wanted e = e
is_fault Header wanted e = e
is_fault (Row row m) wanted e = e
is_fault NoMemory wanted e = tt

-- no row is left
pub all_done : (requests : List Request) (row : ℕ) (rows : List (List (List ℕ))) (wanted : Result (List Request) PlanFault) → wanted ≡ read_after requests (requests_from row rows) → rows ≡ [] → wanted ≡ Ok requests
unfolding requests_from
all_done requests row rows wanted e none = (rw none at e) ∙ ap Ok (append-nil requests)

after_one : (requests : List Request) (request : Request) (more : Result (List Request) PlanFault) → read_after requests (more >>= (λ rest. Ok (request ∷ rest))) ≡ read_after (requests ++ request ∷ []) more
after_one requests request (Ok rest) = ap Ok (sym (append_assoc requests (request ∷ []) rest))
after_one requests request (Err fault) = refl

-- a row more
pub row_done : (requests : List Request) (row : ℕ) (rows : List (List (List ℕ))) (wanted : Result (List Request) PlanFault) (fields : List (List ℕ)) (rest : List (List (List ℕ))) (request : Request)
    → wanted ≡ read_after requests (requests_from row rows) → rows ≡ fields ∷ rest → request_of row (command_in_record fields) ≡ Ok request → wanted ≡ read_after (requests ++ request ∷ []) (requests_from (row + 1) rest)
unfolding requests_from
row_done requests row rows wanted fields rest request e one is = (rw (one, is) at e) ∙ after_one requests request (requests_from (row + 1) rest)

-- a faulty row
pub row_faulty : (requests : List Request) (row : ℕ) (rows : List (List (List ℕ))) (wanted : Result (List Request) PlanFault) (fields : List (List ℕ)) (rest : List (List (List ℕ))) (fault : PlanFault)
    → wanted ≡ read_after requests (requests_from row rows) → rows ≡ fields ∷ rest → request_of row (command_in_record fields) ≡ Err fault → wanted ≡ Err fault
unfolding requests_from
row_faulty requests row rows wanted fields rest fault e one is = rw (one, is) at e
