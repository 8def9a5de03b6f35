-- The line of a record, looked for from each place of a plan on.
use Rattle.std.proofs.Common.{◌≡◌, ℕ, suc, ◌+◌, ◌<◌, ◌≤◌, true, false, List, [], ◌∷◌, length, drop, get_or, nat_eq, Some, None, refl, sym, ap, ◌∙◌, drop-cons, arith, ne_eqb}
use Rattle.std.proofs.lemmas.Bool.{eq-eqb}
use Rattle.std.proofs.Math.ListN.{drop_of_length-le}
use Rattle.acd_files.specs.declared.plan_lines.Place.{Place}
use Rattle.acd_files.specs.PlanLines.{line_from, place_after}

hit : (place : Place) (wanted byte : ℕ) (rest : List ℕ) → nat_eq (place_after place byte).records wanted ≡ true → line_from place wanted (byte ∷ rest) ≡ Some place.line
unfolding line_from
hit place wanted byte rest h = rw h refl

miss : (place : Place) (wanted byte : ℕ) (rest : List ℕ) → nat_eq (place_after place byte).records wanted ≡ false → line_from place wanted (byte ∷ rest) ≡ line_from (place_after place byte) wanted rest
unfolding line_from
miss place wanted byte rest h = rw h refl

none : (place : Place) (wanted : ℕ) → line_from place wanted [] ≡ None
unfolding line_from
none place wanted = refl

-- by the place after the byte there
pub line_hit : (old new : Place) (wanted : ℕ) (plan : List ℕ) (i : ℕ) (d : ℕ) → i < length plan → new ≡ place_after old (get_or plan i d) → new.records ≡ wanted → line_from old wanted (drop i plan) ≡ Some old.line
line_hit old new wanted plan i d low is h =
    ap (line_from old wanted) (drop-cons plan i d low) ∙ hit old wanted _ _ (ap (λ (p : Place). nat_eq p.records wanted) (sym is) ∙ eq-eqb _ _ h)

pub line_miss : (old new : Place) (wanted : ℕ) (plan : List ℕ) (i : ℕ) (d : ℕ) → i < length plan → new ≡ place_after old (get_or plan i d) → (new.records ≡ wanted → ⊥) → line_from old wanted (drop i plan) ≡ line_from new wanted (drop (i + 1) plan)
line_miss old new wanted plan i d low is h =
    let next : suc i ≡ i + 1 = omega arith in
    ap (line_from old wanted) (drop-cons plan i d low) ∙ (miss old wanted _ _ (ap (λ (p : Place). nat_eq p.records wanted) (sym is) ∙ ne_eqb new.records wanted h)
    ∙ (ap (λ (p : Place). line_from p wanted (drop (suc i) plan)) (sym is) ∙ ap (λ (n : ℕ). line_from new wanted (drop n plan)) next))

pub line_none : (place : Place) (wanted : ℕ) (plan : List ℕ) (i : ℕ) → length plan ≤ i → line_from place wanted (drop i plan) ≡ None
line_none place wanted plan i all = ap (line_from place wanted) (drop_of_length-le plan all) ∙ none place wanted
