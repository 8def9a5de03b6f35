use Rattle.std.proofs.Common.{◌≡◌, ℕ, List, ◌∷◌, Option, rules, ap, sym, ◌∙◌}
use Rattle.std.specs.List.{filter_map}
use Rattle.acd_model.specs.Scans.{connection_of}
use Rattle.acd_desk.specs.Reads.GroupStates.{first_of, lesser_number, queued_of}
use Rattle.acd_desk.proofs.Pages.GroupLines.{least_with, lesser_join}
use Rattle.acd_desk.proofs.group_states.first_in.Goals as goal

pub loop-call-preserved : goal.loop-call-preserved
loop-call-preserved c =
    let s = c.args.tables.now in
    let g = c.args.group in
    let p : ℕ × ℕ = c.in-Some.field-0.now in
    let rest : List (ℕ × ℕ) = c.next.new.self in
    let step : c.loop-call.call-iterator ≡ p ∷ rest = search rules in
    let entered : c.queued_at.result ≡ queued_of (connection_of s p.1 g) = search rules in
    ap (λ (o : Option ℕ). lesser_number o (first_of s g rest)) (c.lesser_number-first.ensures ∙ ap (lesser_number c.loop-call.first) entered)
    ∙ lesser_join c.loop-call.first (queued_of (connection_of s p.1 g)) (first_of s g rest)
    ∙ ap (lesser_number c.loop-call.first) (sym (least_with (queued_of (connection_of s p.1 g)) (filter_map (λ (k : ℕ × ℕ). queued_of (connection_of s k.1 g)) rest)) ∙ ap (first_of s g) (sym step))
    ∙ c.loop-call.invariant
