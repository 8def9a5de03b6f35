-- One turn after another.
use Rattle.std.proofs.Common.{◌≡◌, true, false, true≢false, ℕ, ◌+◌, ◌≤◌, suc, Bool, List, [], ◌∷◌, ◌++◌, length, Option, Some, None, Result, Ok, refl, sym, ap, ◌∙◌, subst, arith, append_assoc, append-nil, inl, inr}
use Rattle.std.proofs.KnownBytes.{Appends-nil}
use Rattle.std.specs.Prelude.{unwrap_or, is_some}
use Rattle.acd_desk.specs.declared.taken.Taken.{Taken}
use Rattle.acd_desk.specs.Desks.DeskCalls.{DeskState}
use Rattle.acd_io.specs.declared.sending.Stopped.{Stopped}
use Rattle.acd_io.specs.SentBytes.{WasSent}
use Rattle.acd_lines.specs.Lines.{Output}
use Rattle.acd_http.specs.ConnectionsInTurn.{Outcome, PrintsText, outcome_line, outcome_lines, AnsweredEach, AnsweredAll, EachWell, AnsweredUntilFailed}
use Rattle.acd_http.specs.Turns.{ServiceTurn, answered, looked, turn_line, turn_lines, connections_of_turn, connection_count, Turned, LookedAt, TurnedEach, TurnedWell, TurnsTaken, AddsLooks, EndsAt, TurnsUntil}

count_more : (xs : List ServiceTurn) (x : ServiceTurn) → connection_count (xs ++ x ∷ []) ≡ connection_count xs + connections_of_turn x
count_more [] x = omega arith
count_more (y ∷ ys) x = let e = count_more ys x in omega arith

lines_more : (n : ℕ) (xs : List ServiceTurn) (x : ServiceTurn) → turn_lines n (xs ++ x ∷ []) ≡ turn_lines n xs ++ turn_line (n + connection_count xs) x
unfolding turn_lines
lines_more n [] x = append-nil (turn_line n x) ∙ ap (λ (k : ℕ). turn_line k x) (omega arith)
lines_more n (y ∷ ys) x =
    let e : (n + connections_of_turn y) + connection_count ys ≡ n + connection_count (y ∷ ys) = omega arith in
    ap (λ (l : List ℕ). turn_line n y ++ l) (lines_more (n + connections_of_turn y) ys x ∙ ap (λ (k : ℕ). turn_lines (n + connections_of_turn y) ys ++ turn_line k x) e)
    ∙ sym (append_assoc (turn_line n y) (turn_lines (n + connections_of_turn y) ys) (turn_line (n + connection_count (y ∷ ys)) x))

module _ {D : Type 0} (stands : D → DeskState) (looks : Bool) where
  each_more : (d e f : D) (xs : List ServiceTurn) (x : ServiceTurn) → TurnedEach stands looks d xs e → Turned stands looks e x f → TurnedEach stands looks d (xs ++ x ∷ []) f
  each_more d e f [] x h k = (f, subst (λ (a : D). Turned stands looks a x f) h k, refl)
  each_more d e f (y ∷ ys) x h k = (h.0, h.1, each_more h.0 e f ys x h.2 k)

  well_more : (d e f : D) (xs : List ServiceTurn) (x : ServiceTurn) (h : TurnedEach stands looks d xs e) (k : Turned stands looks e x f) → TurnedWell stands looks d xs e h → (stands e).failed ≡ false
      → TurnedWell stands looks d (xs ++ x ∷ []) f (each_more d e f xs x h k)
  unfolding each_more
  well_more d e f [] x h k well working = (ap (λ (a : D). (stands a).failed) (sym h) ∙ working, tt)
  well_more d e f (y ∷ ys) x h k well working = (well.0, well_more h.0 e f ys x h.2 k well.1 working)

  module _ (endless : Bool) where
    pub turns_none : (d : D) (a : Option (List ℕ)) → TurnsTaken stands looks endless 0 d d (WasSent {E = Stopped} (Ok tt) a a)
    unfolding turn_lines
    turns_none d a = record { turns = []; count = refl; turned = refl; well = λ is. tt; out = Appends-nil a }

    pub turns_more : (many more : ℕ) (d e f : D) (printed : Result (Unit {0}) Stopped × Result (Unit {0}) Stopped) (a : Option (List ℕ)) (output : Output) (x : ServiceTurn) → more ≡ many + connections_of_turn x
        → TurnsTaken stands looks endless many d e (WasSent printed.0 a output.before) → (endless ≡ true → (stands e).failed ≡ false) → Turned stands looks e x f
        → PrintsText (turn_line (many + 1) x) printed.0 output printed.1 → TurnsTaken stands looks endless more d f (WasSent printed.1 a output.after)
    turns_more many more d e f printed a output x is h working one wrote =
        let number : 1 + connection_count h.turns ≡ many + 1 = let is = h.count in omega arith in
        let lines : turn_lines 1 (h.turns ++ x ∷ []) ≡ turn_lines 1 h.turns ++ turn_line (many + 1) x
        = lines_more 1 h.turns x ∙ ap (λ (k : ℕ). turn_lines 1 h.turns ++ turn_line k x) number in
        record {
          turns = h.turns ++ x ∷ [];
          count = count_more h.turns x ∙ ap (λ (k : ℕ). k + connections_of_turn x) h.count ∙ sym is;
          turned = each_more d e f h.turns x h.turned one;
          well = λ is. well_more d e f h.turns x h.turned one (h.well is) (working is);
          out = subst (WasSent printed.1 a output.after) (sym lines) (wrote a (turn_lines 1 h.turns) h.out);
        }

    -- one look more
    pub look_more : (d e : D) (printed : Result (Unit {0}) Stopped × Result (Unit {0}) Stopped) (output : Output) (taken : Option Taken) (told : Bool) → looks ≡ true → LookedAt stands taken d e
        → PrintsText (turn_line 0 (looked taken told)) printed.0 output printed.1 → AddsLooks stands (looks, endless) (d, e) printed output
    look_more d e printed output taken told is at wrote first start many h =
        turns_more many many first d e printed start output (looked taken told) (omega arith) h (λ is. at.working) (is, at) wrote

-- ---- where no look is made

abbrev outcomes : List ServiceTurn → List Outcome
outcomes [] = []
outcomes (answered x ∷ xs) = x ∷ outcomes xs
outcomes (looked taken told ∷ xs) = outcomes xs

module _ {D : Type 0} (stands : D → DeskState) where
  alone : (d e : D) (xs : List ServiceTurn) → TurnedEach stands false d xs e → AnsweredEach stands d (outcomes xs) e
  alone d e [] h = h
  alone d e (answered x ∷ xs) h = (h.0, h.1, alone h.0 e xs h.2)
  alone d e (looked taken told ∷ xs) h = absurd (true≢false (sym h.1.0))

  alone_well : (d e : D) (xs : List ServiceTurn) (h : TurnedEach stands false d xs e) → TurnedWell stands false d xs e h → EachWell stands d (outcomes xs) e (alone d e xs h)
  unfolding alone
  alone_well d e [] h well = tt
  alone_well d e (answered x ∷ xs) h well = (well.0, alone_well h.0 e xs h.2 well.1)
  alone_well d e (looked taken told ∷ xs) h well = absurd (true≢false (sym h.1.0))

  alone_count : (d e : D) (xs : List ServiceTurn) → TurnedEach stands false d xs e → length (outcomes xs) ≡ connection_count xs
  alone_count d e [] h = refl
  alone_count d e (answered x ∷ xs) h = let rest = alone_count h.0 e xs h.2 in omega arith
  alone_count d e (looked taken told ∷ xs) h = absurd (true≢false (sym h.1.0))

  alone_lines : (n : ℕ) (d e : D) (xs : List ServiceTurn) → TurnedEach stands false d xs e → turn_lines n xs ≡ outcome_lines n (outcomes xs)
  unfolding turn_lines outcome_lines
  alone_lines n d e [] h = refl
  alone_lines n d e (answered x ∷ xs) h =
      let next : n + 1 ≡ suc n = omega arith in
      ap (λ (l : List ℕ). outcome_line n x ++ l) (alone_lines (n + 1) h.0 e xs h.2 ∙ ap (λ (k : ℕ). outcome_lines k (outcomes xs)) next)
  alone_lines n d e (looked taken told ∷ xs) h = absurd (true≢false (sym h.1.0))

  pub all_alone : (many : ℕ) (d e : D) (Out : List ℕ → Type 0) → TurnsUntil stands false (Some many) d e Out → AnsweredAll stands many d e Out
  all_alone many d e Out h =
      let turns = h.1 in
      record {
        outcomes = outcomes turns.turns;
        count = alone_count d e turns.turns turns.turned ∙ turns.count ∙ h.2;
        answered = alone d e turns.turns turns.turned;
        out = subst Out (alone_lines 1 d e turns.turns turns.turned) turns.out;
      }

  pub until_alone : (d e : D) (Out : List ℕ → Type 0) → TurnsUntil stands false None d e Out → AnsweredUntilFailed stands d e Out
  until_alone d e Out h =
      let turns = h.1 in (
        h.0,
        record {
          outcomes = outcomes turns.turns;
          count = alone_count d e turns.turns turns.turned ∙ turns.count;
          answered = alone d e turns.turns turns.turned;
          well = alone_well d e turns.turns turns.turned (turns.well refl);
          out = subst Out (alone_lines 1 d e turns.turns turns.turned) turns.out;
        },
        h.2,
      )

module _ {D : Type 0} (stands : D → DeskState) {T : Type 0} (step : Option T) (span : Option ℕ) (d e : D) (Out : List ℕ → Type 0) where
  unstepped : step ≡ None → (asked : Option ℕ) → span ≡ asked → TurnsUntil stands (is_some step) span d e Out → TurnsUntil stands false asked d e Out
  unstepped none asked is h =
      subst (λ (o : Option T). TurnsUntil stands (is_some o) asked d e Out) none (subst (λ (o : Option ℕ). TurnsUntil stands (is_some step) o d e Out) is h)

  -- a service without a step, of so many connections
  pub serves_all : (many : ℕ) → step ≡ None → span ≡ Some many → TurnsUntil stands (is_some step) span d e Out → AnsweredAll stands many d e Out
  serves_all many none is h = all_alone stands many d e Out (unstepped none (Some many) is h)

  -- and one until the desk fails
  pub serves_until : step ≡ None → span ≡ None → TurnsUntil stands (is_some step) span d e Out → AnsweredUntilFailed stands d e Out
  serves_until none is h = until_alone stands d e Out (unstepped none None is h)

-- the loop over connections is at its end
pub at_most : {D : Type 0} (stands : D → DeskState) (span : Option ℕ) (limit n : ℕ) (e : D) → limit ≡ unwrap_or span 18446744073709551615 → limit ≤ n → n ≤ limit → EndsAt stands span n e
at_most stands (Some most) limit n e is above below = omega (arith, is)
at_most stands None limit n e is above below = inr (omega (arith, is))

-- the desk's failure is the end
pub ends_failed : {D : Type 0} (stands : D → DeskState) (span : Option ℕ) (n : ℕ) (e : D) → span ≡ None → (stands e).failed ≡ true → EndsAt stands span n e
ends_failed stands span n e is failed = subst (λ (o : Option ℕ). EndsAt stands o n e) (sym is) (inl failed)
