-- Connections and looks lead to the run of the requests that they brought.
use Rattle.std.proofs.Common.{ℕ, Bool, List, [], ◌∷◌, ◌++◌, map, Option, Some, None, refl, subst}
use Rattle.acd_terms.specs.declared.command.Arrival.{Arrival}
use Rattle.acd_desk.specs.declared.taken.Taken.{Taken}
use Rattle.acd_desk.specs.Contents.Arrivals.{arrival_at}
use Rattle.acd_desk.specs.Desks.Clock.{clock_tick, Looked}
use Rattle.acd_desk.specs.Desks.DeskState.{DeskState}
use Rattle.acd_desk.specs.Desks.ArrivalsAndReads.{Attended}
use Rattle.acd_desk.proofs.Desks.CallsInTurn.{Settles, ran_nothing, attended_ran, attended_more, attended_read}
use Rattle.acd_http.specs.Turns.{ServiceTurn, answered, looked, Turned, TurnedEach}
use Rattle.acd_http.specs.TurnRequests.{ticked, handed_by, all_handed, TurnsLeadToTheRun}
use Rattle.acd_http.proofs.ConnectionRuns.{arrived, replied, So, none_more, one_connection, joined}

module _ {D : Type 0} (stands : D → DeskState) (settles : (d : D) → Settles (stands d)) where
  -- a look, at which a tick was handed in or none
  one_look : (s d e : D) (l : List Arrival) (ts : List Taken) (moment : ℕ) (taken : Option Taken) → Looked moment (stands d) taken (stands e)
      → Attended (stands s) l ts (stands d) → So stands settles s l ts (ticked moment taken) e
  one_look s d e l ts moment None h before =
      none_more stands settles s e e l ts refl (attended_read (stands s) (stands d) (stands e) l ts _ _ before h.read)
  one_look s d e l ts moment (Some t) h before = attended_more (stands s) (stands d) (stands e) l ts (arrival_at moment (clock_tick moment)) t (settles e) before h.took

  module _ (looks : Bool) where
    one_turn : (s d e : D) (l : List Arrival) (ts : List Taken) (x : ServiceTurn) (v : Turned stands looks d x e) → Attended (stands s) l ts (stands d) → So stands settles s l ts (handed_by stands looks d x e v) e
    one_turn s d e l ts (answered x) v before = one_connection stands settles s d e l ts x v before
    one_turn s d e l ts (looked taken told) v before = one_look s d e l ts v.1.moment taken v.1.looked before

    on_and_on : (s d e : D) (l : List Arrival) (ts : List Taken) (xs : List ServiceTurn) (h : TurnedEach stands looks d xs e) → Attended (stands s) l ts (stands d) → So stands settles s l ts (all_handed stands looks d xs e h) e
    on_and_on s d e l ts [] h before = none_more stands settles s d e l ts h before
    on_and_on s d e l ts (x ∷ xs) h before =
        let p = handed_by stands looks d x h.0 h.1 in
        let q = all_handed stands looks h.0 xs e h.2 in
        let rest = on_and_on s h.0 e (l ++ map arrived p) (ts ++ map replied p) xs h.2 (one_turn s d h.0 l ts x h.1 before) in
        subst (λ (y : List Arrival). Attended (stands s) y (ts ++ map replied (p ++ q)) (stands e)) (joined stands settles arrived l p q)
        (subst (λ (z : List Taken). Attended (stands s) ((l ++ map arrived p) ++ map arrived q) z (stands e)) (joined stands settles replied ts p q) rest)

  pub turns_lead : TurnsLeadToTheRun stands
  turns_lead looks d e xs h = on_and_on looks d d e [] [] xs h (attended_ran (stands d) (stands d) [] [] (ran_nothing (stands d) (settles d)))
