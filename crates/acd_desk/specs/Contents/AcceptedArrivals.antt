-- The arrivals of a run that were accepted, and the answers to them.
use Rattle.std.specs.Prelude.{Bool, true, false, not, cond, List, [], ◌∷◌, ◌++◌, filter}
use Rattle.std.specs.List.{list_any}
use Rattle.acd_terms.specs.declared.command.Arrival.{Arrival}
use Rattle.acd_desk.specs.declared.taken.Taken.{Taken}
use Rattle.acd_desk.specs.declared.taken.Taken.TheVariants.{Reply, InvokeReused, DeskFull, NoMemory, StoreFault}

-- noMemory and storeFault
abbrev pub is_fault : Taken → Bool
is_fault (Reply status body) = false
is_fault InvokeReused = false
is_fault DeskFull = false
is_fault NoMemory = true
is_fault StoreFault = true

-- invokeReused and deskFull
abbrev pub is_rejection : Taken → Bool
is_rejection (Reply status body) = false
is_rejection InvokeReused = true
is_rejection DeskFull = true
is_rejection NoMemory = false
is_rejection StoreFault = false

-- neither a fault nor a rejection
abbrev pub is_reply : Taken → Bool
is_reply (Reply status body) = true
is_reply InvokeReused = false
is_reply DeskFull = false
is_reply NoMemory = false
is_reply StoreFault = false

-- the arrivals that were answered neither noMemory nor storeFault
abbrev pub accepted : List Arrival → List Taken → List Arrival
accepted (a ∷ rest) (t ∷ ts) = cond (is_fault t) [] (a ∷ []) ++ accepted rest ts
accepted _ _ = []

-- their answers
abbrev pub answers_sent : List Taken → List Taken
answers_sent answers = filter (λ (t : Taken). not (is_fault t)) answers

-- one of these is no fault
abbrev pub has_accepted : List Taken → Bool
has_accepted answers = list_any (λ (t : Taken). not (is_fault t)) answers

-- the arrivals that may have been executed though the answer didn't say so: those answered noMemory after the last accepted one, and the first answered storeFault
abbrev pub maybe_last : List Arrival → List Taken → List Arrival
maybe_last (a ∷ rest) (NoMemory ∷ ts) = cond (has_accepted ts) [] (a ∷ []) ++ maybe_last rest ts
maybe_last (a ∷ rest) (StoreFault ∷ ts) = a ∷ []
maybe_last (a ∷ rest) (t ∷ ts) = maybe_last rest ts
maybe_last _ _ = []
