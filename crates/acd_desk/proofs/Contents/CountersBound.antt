-- An execution leaves the records below the counters.
use Rattle.std.proofs.Common.{ℕ, ◌+◌, ◌≤◌, List, [], ◌∷◌, length, arith}
use Rattle.acd_terms.specs.Lists.{Every}
use Rattle.acd_terms.specs.declared.event.Event.{Event}
use Rattle.acd_terms.specs.declared.command.Arrival.{Arrival}
use Rattle.acd_terms.specs.declared.rows.Limits.{Limits}
use Rattle.acd_book.specs.declared.kept.Kept.{Kept}
use Rattle.acd_book.specs.Content.{Content, empty_content, GoOn, IsCounted}
use Rattle.acd_book.specs.Memory.{stamp_of, number_of_event}
use Rattle.acd_desk.specs.Contents.AbstractDesk.{stepped, record_of, executed, run_from, desk_run, firsts}
use Rattle.acd_desk.proofs.Contents.Steps.{step_stamp, step_numbers, step_event}
use Rattle.acd_lemmas.proofs.Lists.{every-append}
use Rattle.acd_book.proofs.SharedLists.{every_upto}

-- events numbered on from a number end within their count
going_on : (n top : ℕ) (es : List Event) → GoOn n es → n + length es ≤ top → Every (λ (e : Event). e.number ≤ top) es
going_on n top [] h le = tt
going_on n top (e ∷ es) h le = let here = h.0 in (omega (arith, le, here), going_on (n + 1) top es h.1 (omega (arith, le)))

pub counted_executed : (c : Content) (a : Arrival) → IsCounted c → IsCounted (executed c a)
counted_executed c a h =
    let stamp = step_stamp c.rows a.moment a.request.command in
    let event = step_event c.rows a.moment a.request.command in
    let numbers = step_numbers c.rows a.moment a.request.command in
    let es : List Event = (stepped c.rows a).events in
    record {
      events = every-append (λ (e : Event). e.number ≤ (stepped c.rows a).rows.last_event) c.events es
          (every_upto number_of_event c.rows.last_event (stepped c.rows a).rows.last_event c.events (omega (arith, event)) h.events)
          (going_on c.rows.last_event (stepped c.rows a).rows.last_event es numbers (omega (arith, event)));
      kept = every-append (λ (k : Kept). k.stamp ≤ (stepped c.rows a).rows.last_stamp) c.kept (record_of c.rows a ∷ [])
          (every_upto stamp_of c.rows.last_stamp (stepped c.rows a).rows.last_stamp c.kept (omega (arith, stamp)) h.kept)
          (omega (arith, stamp), tt);
    }

run_counted : (l : List Arrival) (c : Content) → IsCounted c → IsCounted (run_from c l)
run_counted [] c h = h
run_counted (a ∷ l) c h = run_counted l (executed c a) (counted_executed c a h)

pub counted_run : (n : Limits) (l : List Arrival) → IsCounted (desk_run n l)
counted_run n l = run_counted (firsts n.requests l) (empty_content n) (record { events = tt; kept = tt })
