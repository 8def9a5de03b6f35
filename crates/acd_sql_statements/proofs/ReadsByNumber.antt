-- Events that are read by their numbers, one after the other.
use Rattle.std.proofs.Common.{◌≡◌, ℕ, ◌+◌, ◌-◌, ◌<◌, ◌≤◌, List, [], ◌∷◌, ◌++◌, length, take, get_or, Result, Ok, Err, refl, sym, ap, subst, ◌∙◌, arith, append_assoc, append-nil}
use Rattle.std.specs.Prelude.{Vec}
use Rattle.std.specs.declared.alloc.Global.{Global}
use Rattle.std.proofs.lemmas.Grind.{common_steps}
use Rattle.std.proofs.lemmas.List.{take_more}
use Rattle.sqlite.specs.declared.error.Error.{Error}
use Rattle.sqlite.specs.State.{State}
use Rattle.acd_terms.specs.declared.event.Event.{Event}
use Rattle.acd_book.specs.Content.{Content, events_after}
use Rattle.acd_sql_columns.specs.ReadResults.{Finds}
use Rattle.acd_sql_statements.specs.EventsByNumber.{picked, IsOpenIfClean}
use Rattle.acd_sql_statements.proofs.ReadsInTurn.{quiet_still, chained, broken}

picked_append : (events : List Event) (ns ms : List ℕ) → picked events (ns ++ ms) ≡ picked events ns ++ picked events ms
picked_append events [] ms = refl
picked_append events (n ∷ ns) ms =
    ap (λ l. events_after events (n - 1) 1 ++ l) (picked_append events ns ms)
    ∙ sym (append_assoc (events_after events (n - 1) 1) (picked events ns) (picked events ms))

picked_next : (events : List Event) (ns : List ℕ) (i n d : ℕ) → n ≡ get_or ns i d → i < length ns
    → picked events (take (i + 1) ns) ≡ picked events (take i ns) ++ events_after events (n - 1) 1
picked_next events ns i n d is low =
    ap (picked events) (take_more ns i d low ∙ ap (λ m. take i ns ++ m ∷ []) (sym is))
    ∙ picked_append events (take i ns) (n ∷ [])
    ∙ ap (λ l. picked events (take i ns) ++ l) (append-nil (events_after events (n - 1) 1))

pub all_picked : (i : ℕ) (ns : List ℕ) → length ns ≤ i → take i ns ≡ ns
all_picked i ns h = grind (arith, common_steps)

-- ---- over a connection

pub picked_none : (s : State) (found : Vec Event Global) → found.items ≡ [] → IsOpenIfClean s → Finds {E = Error} s s (Ok found) (λ c events. events.items ≡ [])
picked_none s found is is_open = record { up = λ k. is_open k; quiet = quiet_still s; stops = λ k c held db left. left; answer = λ k c held. is }

module _ (old mid new : State) (found next : Vec Event Global) (ns : List ℕ) (i n d : ℕ) (is : n ≡ get_or ns i d) (low : i < length ns)
    (first : Finds {E = Error} old mid (Ok found) (λ c events. events.items ≡ picked c.events (take i ns))) where
  pub picked_more : Finds {A = Unit {0}} {E = Error} mid new (Ok tt) (λ c done. next.items ≡ found.items ++ events_after c.events (n - 1) 1)
      → Finds {E = Error} old new (Ok next) (λ c events. events.items ≡ picked c.events (take (i + 1) ns))
  picked_more second =
      chained old mid new found (λ (c : Content) (events : Vec Event Global). events.items ≡ picked c.events (take i ns))
      (λ (c : Content) (done : Unit {0}). next.items ≡ found.items ++ events_after c.events (n - 1) 1) first
      tt next (λ (c : Content) (events : Vec Event Global). events.items ≡ picked c.events (take (i + 1) ns))
      (λ c p q. q ∙ ap (λ l. l ++ events_after c.events (n - 1) 1) p ∙ sym (picked_next c.events ns i n d is low)) second

-- one that failed
pub picked_broken : (old mid new : State) (found next : Vec Event Global) (ns ms : List ℕ) (n : ℕ) (e : Error)
    → Finds {E = Error} old mid (Ok found) (λ c events. events.items ≡ picked c.events ms)
    → Finds {A = Unit {0}} mid new (Err e) (λ c done. next.items ≡ found.items ++ events_after c.events (n - 1) 1)
    → (r : Result (Vec Event Global) Error) → r ≡ Err e → Finds old new r (λ c events. events.items ≡ picked c.events ns)
picked_broken old mid new found next ns ms n e first second r is =
    subst (λ (r : Result (Vec Event Global) Error). Finds old new r (λ c events. events.items ≡ picked c.events ns)) (sym is)
    (broken old mid new found (λ (c : Content) (events : Vec Event Global). events.items ≡ picked c.events ms)
    (λ (c : Content) (done : Unit {0}). next.items ≡ found.items ++ events_after c.events (n - 1) 1) first
    e (λ (c : Content) (events : Vec Event Global). events.items ≡ picked c.events ns) second)
