-- Counts and figures over lists of events: joined, numbered, and without what does not count.
use Rattle.std.proofs.Common.{◌≡◌, ℕ, ◌+◌, Bool, false, List, [], ◌∷◌, ◌++◌, Option, Some, None, refl, ◌∙◌, ap, arith, length}
use Rattle.std.specs.Prelude.{if◌then◌else◌}
use Rattle.std.proofs.lemmas.Bool.{and_right}
use Rattle.acd_lemmas.proofs.Words.{Figures, Event, Report, count, total, has}
use Rattle.acd_lemmas.proofs.Lists.{count-append, total-append}
use Rattle.acd_terms.specs.declared.event.Report.TheVariants.{Queued, Established, CallCleared, Diverted}
use Rattle.acd_model.specs.Figures.{is_entry, is_answer, waited_there, is_abandonment, is_moving_away, is_deflected, figures_of, sum_of_figures}
use Rattle.acd_model.specs.Services.{no_figures}
use Rattle.acd_model.specs.Step.{numbered}

-- numbers don't count
pub count_numbered : (p : Report → Bool) (n : ℕ) (es : List Event) → count (λ (e : Event). p e.report) (numbered n es) ≡ count (λ (e : Event). p e.report) es
count_numbered p n [] = refl
count_numbered p n (e ∷ es) = ap (λ (k : ℕ). (if p e.report then 1 else 0) + k) (count_numbered p (n + 1) es)

pub total_numbered : (f : Report → ℕ) (n : ℕ) (es : List Event) → total (λ (e : Event). f e.report) (numbered n es) ≡ total (λ (e : Event). f e.report) es
total_numbered f n [] = refl
total_numbered f n (e ∷ es) = ap (λ (k : ℕ). f e.report + k) (total_numbered f (n + 1) es)

abbrev five : ℕ → ℕ → ℕ → ℕ → ℕ → Figures
five a b c d e = record { entered = a; answered = b; abandoned = c; moved = d; waited = e }

same_five : (a b c d e v w x y z : ℕ) → a ≡ v → b ≡ w → c ≡ x → d ≡ y → e ≡ z → five a b c d e ≡ five v w x y z
same_five a b c d e v w x y z p q r s t =
    ap (λ (n : ℕ). five n b c d e) p ∙ ap (λ (n : ℕ). five v n c d e) q ∙ ap (λ (n : ℕ). five v w n d e) r ∙ ap (λ (n : ℕ). five v w x n e) s
    ∙ ap (λ (n : ℕ). five v w x y n) t

pub figures_joined : (g : ℕ) (es fs : List Event) → figures_of g (es ++ fs) ≡ sum_of_figures (figures_of g es) (figures_of g fs)
unfolding figures_of
figures_joined g es fs = same_five _ _ _ _ _ _ _ _ _ _
    (count-append (λ (e : Event). is_entry g e.report) es fs)
    (count-append (λ (e : Event). is_answer g e.report) es fs)
    (count-append (λ (e : Event). is_abandonment g e.report) es fs)
    (count-append (λ (e : Event). is_moving_away g e.report) es fs)
    (total-append (λ (e : Event). waited_there g e.report) es fs)

pub figures_numbered : (g n : ℕ) (es : List Event) → figures_of g (numbered n es) ≡ figures_of g es
unfolding figures_of
figures_numbered g n es = same_five _ _ _ _ _ _ _ _ _ _
    (count_numbered (is_entry g) n es)
    (count_numbered (is_answer g) n es)
    (count_numbered (is_abandonment g) n es)
    (count_numbered (is_moving_away g) n es)
    (total_numbered (waited_there g) n es)

pub no_events : (g : ℕ) → figures_of g [] ≡ no_figures
unfolding figures_of
no_events g = refl

pub sum_nothing : (a b : Figures) → b ≡ no_figures → sum_of_figures a b ≡ a
sum_nothing a b e = rw e (same_five _ _ _ _ _ _ _ _ _ _ (omega arith) (omega arith) (omega arith) (omega arith) (omega arith))

pub nothing_sum : (a b : Figures) → a ≡ no_figures → sum_of_figures a b ≡ b
nothing_sum a b e = rw e (same_five _ _ _ _ _ _ _ _ _ _ (omega arith) (omega arith) (omega arith) (omega arith) (omega arith))

pub sum_joined : (a b c : Figures) → sum_of_figures (sum_of_figures a b) c ≡ sum_of_figures a (sum_of_figures b c)
sum_joined a b c = same_five _ _ _ _ _ _ _ _ _ _ (omega arith) (omega arith) (omega arith) (omega arith) (omega arith)

-- the group for which a report may count
abbrev pub group_counted : Report → Option ℕ
group_counted (Queued call group cause) = Some group
group_counted (Established call station (Some w)) = Some w.group
group_counted (CallCleared call group) = group
group_counted (Diverted call device to cause group) = group
group_counted _ = None

-- for another group the report counts nothing
pub record Quiet (g : ℕ) (r : Report) : Type 0 where
  pub entry : is_entry g r ≡ false
  pub answer : is_answer g r ≡ false
  pub abandonment : is_abandonment g r ≡ false
  pub moving_away : is_moving_away g r ≡ false
  pub waited : waited_there g r ≡ 0

pub quiet : (g : ℕ) (r : Report) → has (group_counted r) g ≡ false → Quiet g r
quiet g (Queued call group cause) e = record { entry = rw e refl; answer = refl; abandonment = refl; moving_away = refl; waited = refl }
quiet g (Established call station (Some w)) e = record { entry = refl; answer = e; abandonment = refl; moving_away = refl; waited = rw e refl }
quiet g (CallCleared call group) e = record { entry = refl; answer = refl; abandonment = e; moving_away = refl; waited = refl }
quiet g (Diverted call device to cause group) e = record {
  entry = refl;
  answer = refl;
  abandonment = refl;
  moving_away = and_right (is_deflected cause) (has group g) e;
  waited = refl;
}
quiet g _ e = record { entry = refl; answer = refl; abandonment = refl; moving_away = refl; waited = refl }

count_skipped : (p : Report → Bool) (e : Event) (es : List Event) → p e.report ≡ false
    → count (λ (x : Event). p x.report) (e ∷ es) ≡ count (λ (x : Event). p x.report) es
count_skipped p e es q = rw q (omega arith)

total_skipped : (f : Report → ℕ) (e : Event) (es : List Event) → f e.report ≡ 0
    → total (λ (x : Event). f x.report) (e ∷ es) ≡ total (λ (x : Event). f x.report) es
total_skipped f e es q = rw q (omega arith)

pub figures_skipped : (g : ℕ) (e : Event) (es : List Event) → Quiet g e.report → figures_of g (e ∷ es) ≡ figures_of g es
unfolding figures_of
figures_skipped g e es q = same_five _ _ _ _ _ _ _ _ _ _
    (count_skipped (is_entry g) e es q.entry)
    (count_skipped (is_answer g) e es q.answer)
    (count_skipped (is_abandonment g) e es q.abandonment)
    (count_skipped (is_moving_away g) e es q.moving_away)
    (total_skipped (waited_there g) e es q.waited)

-- events are numbered on
pub numbered-append : (n : ℕ) (es fs : List Event) → numbered n (es ++ fs) ≡ numbered n es ++ numbered (n + length es) fs
numbered-append n [] fs = ap (λ k. numbered k fs) (omega arith)
numbered-append n (e ∷ es) fs =
    ap (λ (rest : List Event). record e { number = n + 1 } ∷ rest)
    (numbered-append (n + 1) es fs ∙ ap (λ k. numbered (n + 1) es ++ numbered k fs) (omega arith))
