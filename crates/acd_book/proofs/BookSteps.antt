-- Steps of a book, one after the other.
use Rattle.std.proofs.Common.{◌≤◌, refl, ◌∙◌, arith}
use Rattle.acd_book.specs.Content.{Within}
use Rattle.acd_book.specs.State.{BookState, IfHonest, BookStep, Unchanged}

-- none
pub no_step : {F : Type 0} (b : BookState) → BookStep F b b
no_step b = record { clean = λ clean. clean; sound = λ clean sound. sound; quiet = λ none. refl; counts = omega arith }

pub none_changed : (b : BookState) → Unchanged b b
none_changed b = record { same = λ clean sound opened. (opened, refl); stops = λ clean sound c at. at }

-- in other words of what failed
pub step_so : {F G : Type 0} {a b : BookState} → BookStep F a b → (F → G) → BookStep G a b
step_so s so = record { clean = s.clean; sound = s.sound; quiet = λ none. s.quiet (λ failed. none (so failed)); counts = s.counts }

-- one after another
module _ {F G : Type 0} {a b d : BookState} (one : BookStep F a b) (two : BookStep G b d) where
  pub step_then : {H : Type 0} → (F → H) → (G → H) → BookStep H a d
  step_then first second =
      let less : a.failures ≤ b.failures = one.counts in
      let more : b.failures ≤ d.failures = two.counts in
      record {
        clean = λ clean. one.clean (two.clean clean);
        sound = λ clean sound. two.sound clean (one.sound (two.clean clean) sound);
        quiet = λ none. two.quiet (λ failed. none (second failed)) ∙ one.quiet (λ failed. none (first failed));
        counts = omega (arith, less, more);
      }

  pub unchanged_then : Unchanged a b → Unchanged b d → Unchanged a d
  unchanged_then first second = record {
    same = λ clean sound opened.
        let next = second.same clean (one.sound (two.clean clean) sound) opened in
        let before = first.same (two.clean clean) sound next.0 in
        (before.0, next.1 ∙ before.1);
    stops = λ clean sound c at. first.stops (two.clean clean) sound c (second.stops clean (one.sound (two.clean clean) sound) c at);
  }

  pub keeps_then : Unchanged b d → IfHonest a b (b.is_open → Within a.stops b.stops) → IfHonest b d (d.is_open → Within b.stops d.stops)
      → IfHonest a d (d.is_open → Within a.stops d.stops)
  keeps_then same first second = λ clean sound opened c at.
      let there = one.sound (two.clean clean) sound in
      second clean there opened c (first (two.clean clean) sound (same.same clean there opened).0 c at)
