-- What a reader that stops at the order has left.
use Rattle.std.specs.Prelude.{ℕ, ◌-◌, List, ◌++◌, length, Bool, ◌&&◌, if◌then◌else◌, Option, Some, option_map}
use Rattle.acd_io.specs.Order.{begins_order, marked_from}
use Rattle.acd_io.specs.declared.until_order.UntilOrder.{UntilOrder}

-- by what the reader below it has left
abbrev pub input_left : {R : Type 0} → (R → Option (List ℕ)) → UntilOrder R → Option (List ℕ)
input_left remaining r =
    if r.ended then Some (marked_from r.starts r.pending) else option_map (λ xs. marked_from r.starts (r.pending ++ xs)) (remaining r.inner)

-- it has stopped at the order
abbrev pub is_told : {R : Type 0} → UntilOrder R → Bool
is_told r = r.starts && begins_order r.pending

-- for private clauses: after so many reads at most it is known what the next byte is
abbrev pub reads_left : {R : Type 0} → UntilOrder R → ℕ
reads_left r = if r.ended then 0 else 8193 - length r.pending
