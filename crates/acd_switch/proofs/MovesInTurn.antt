-- Moves that are carried out one part after the other: those of a list in turn, offers, and a tick.
use Rattle.std.proofs.Common.{◌≡◌, ℕ, suc, ◌≤◌, [], ◌∷◌, ◌++◌, List, drop, length, Some, None, refl, sym, ap, subst, ◌∙◌, append_assoc}
use Rattle.std.proofs.lemmas.List.{append-nil, drop_all}
use Rattle.acd_terms.specs.declared.command.Turn.{Turn}
use Rattle.acd_terms.specs.declared.rows.Rows.{Rows}
use Rattle.acd_terms.specs.declared.record.AgentRecord.{AgentRecord}
use Rattle.acd_terms.specs.declared.record.ConnectionRecord.{ConnectionRecord}
use Rattle.acd_model.specs.declared.moves.Move.{Move}
use Rattle.acd_model.specs.declared.moves.Offer.{Offer}
use Rattle.acd_model.specs.Choice.{offer_of}
use Rattle.acd_model.specs.Moves.{moved, events_of}
use Rattle.acd_model.specs.Changes.{changes_of}
use Rattle.acd_model.specs.Scans.{queued_in_all}
use Rattle.acd_model.specs.Distribution.{offer_moves, offers, distribution}
use Rattle.acd_model.specs.Tick.{each, return_moves, overdue_in, returns, wrap_up_moves, wrapped_up_in, wraps, tick}
use Rattle.acd_model.proofs.MoveLemmas.{moved_append, events_of_append}
use Rattle.acd_model.proofs.ChangeLemmas.{changes_of_append}
use Rattle.acd_laws.proofs.Offers.FoundOffer.{no_offers}
use Rattle.acd_switch.specs.declared.journal.Journal.{Journal}
use Rattle.acd_switch.specs.CarriedOutMoves.{CarriesOut}

-- the rest, carried out from here, comes to the same as all of it from the start
pub record IsLeft (m : ℕ) (left : List Move) (s : Rows) (j : Journal) (all : List Move) (start : Rows) (before : Journal) : Type 0 where
  pub rows : moved s left ≡ moved start all
  pub events : j.events.items ++ events_of m left ≡ before.events.items ++ events_of m all
  pub changes : j.changes.items ++ changes_of left ≡ before.changes.items ++ changes_of all

pub all_left : (m : ℕ) (all : List Move) (s : Rows) (j : Journal) → IsLeft m all s j all s j
all_left m all s j = record { rows = refl; events = refl; changes = refl }

pub offers_left : {m : ℕ} {s : Rows} {j : Journal} (n most : ℕ) → n ≡ most → IsLeft m (offers n s m) s j (offers most s m) s j
offers_left {m} {s} {j} n most e = rw e (all_left m (offers most s m) s j)

-- one part is carried out on top of another
pub both_carried : {m : ℕ} {ms ns : List Move} {s t u : Rows} {j k l : Journal} → CarriesOut m ms s j t k → CarriesOut m ns t k u l
    → CarriesOut m (ms ++ ns) s j u l
both_carried {m} {ms} {ns} {s} {t} {u} {j} {k} {l} first next = record {
  rows = next.rows ∙ ap (λ (r : Rows). moved r ns) first.rows ∙ sym (moved_append s ms ns);
  events =
      next.events ∙ ap (λ es. es ++ events_of m ns) first.events ∙ append_assoc j.events.items (events_of m ms) (events_of m ns)
      ∙ ap (λ es. j.events.items ++ es) (sym (events_of_append m ms ns));
  changes =
      next.changes ∙ ap (λ cs. cs ++ changes_of ns) first.changes ∙ append_assoc j.changes.items (changes_of ms) (changes_of ns)
      ∙ ap (λ cs. j.changes.items ++ cs) (sym (changes_of_append ms ns));
}

module _ {m : ℕ} {s : Rows} {j : Journal} {all : List Move} {start : Rows} {before : Journal} where
  pub none_left : IsLeft m [] s j all start before → CarriesOut m all start before s j
  none_left h = record {
    rows = h.rows;
    events = sym (append-nil j.events.items) ∙ h.events;
    changes = sym (append-nil j.changes.items) ∙ h.changes;
  }

  -- the first part of what is left is carried out
  pub part_carried : {t : Rows} {k : Journal} (ms ns : List Move) → IsLeft m (ms ++ ns) s j all start before → CarriesOut m ms s j t k
      → IsLeft m ns t k all start before
  part_carried {t} {k} ms ns h c = record {
    rows = ap (λ (r : Rows). moved r ns) c.rows ∙ sym (moved_append s ms ns) ∙ h.rows;
    events =
        ap (λ es. es ++ events_of m ns) c.events ∙ append_assoc j.events.items (events_of m ms) (events_of m ns)
        ∙ ap (λ es. j.events.items ++ es) (sym (events_of_append m ms ns)) ∙ h.events;
    changes =
        ap (λ cs. cs ++ changes_of ns) c.changes ∙ append_assoc j.changes.items (changes_of ms) (changes_of ns)
        ∙ ap (λ cs. j.changes.items ++ cs) (sym (changes_of_append ms ns)) ∙ h.changes;
  }

  -- the first move is
  pub move_carried : {t : Rows} {k : Journal} (x : Move) (xs ys : List Move) → xs ≡ x ∷ ys → IsLeft m xs s j all start before → CarriesOut m (x ∷ []) s j t k
      → IsLeft m ys t k all start before
  move_carried x xs ys e h c = part_carried (x ∷ []) ys (subst (λ ms. IsLeft m ms s j all start before) e h) c

  -- all moves are carried out
  pub moves_carried : (xs : List Move) (i : ℕ) → length xs ≤ i → IsLeft m (drop i xs) s j all start before → CarriesOut m all start before s j
  moves_carried xs i past h = none_left (subst (λ ms. IsLeft m ms s j all start before) (drop_all i xs past) h)

  -- the moves of one of a list are carried out
  pub one_carried : {T : Type 0} {t : Rows} {k : Journal} (f : Rows → T → List Move) (x : T) (xs ys : List T) → xs ≡ x ∷ ys
      → IsLeft m (each f s xs) s j all start before → CarriesOut m (f s x) s j t k → IsLeft m (each f t ys) t k all start before
  one_carried {T} {t} {k} f x xs ys e h c =
      subst (λ (r : Rows). IsLeft m (each f r ys) t k all start before) (sym c.rows)
      (part_carried (f s x) (each f (moved s (f s x)) ys) (subst (λ l. IsLeft m (each f s l) s j all start before) e h) c)

  -- an offer is made
  pub offer_carried : {t : Rows} {k : Journal} (n more : ℕ) (o : Offer) → n ≡ suc more → offer_of s ≡ Some o
      → IsLeft m (offers n s m) s j all start before → CarriesOut m (offer_moves s m o) s j t k → IsLeft m (offers more t m) t k all start before
  offer_carried {t} {k} n more o e found h c =
      let goes : offers n s m ≡ offer_moves s m o ++ offers more (moved s (offer_moves s m o)) m = rw e (rw found refl) in
      subst (λ (r : Rows). IsLeft m (offers more r m) t k all start before) (sym c.rows)
      (part_carried (offer_moves s m o) (offers more (moved s (offer_moves s m o)) m) (subst (λ ms. IsLeft m ms s j all start before) goes h) c)

module _ {m : ℕ} {s : Rows} {j : Journal} {start : Rows} {before : Journal} where
  -- a list is processed
  list_carried : {T : Type 0} (f : Rows → T → List Move) (xs items : List T) (i : ℕ) → length items ≤ i → items ≡ xs
      → IsLeft m (each f s (drop i items)) s j (each f start items) start before → CarriesOut m (each f start xs) start before s j
  list_carried f xs items i past same h =
      subst (λ l. CarriesOut m (each f start l) start before s j) same
      (none_left (subst (λ l. IsLeft m (each f s l) s j (each f start items) start before) (drop_all i items past) h))

  -- the offers come to their end
  offers_carried : (n most : ℕ) → offers n s m ≡ [] → most ≡ length (queued_in_all start)
      → IsLeft m (offers n s m) s j (offers most start m) start before → CarriesOut m (distribution start m) start before s j
  unfolding distribution
  offers_carried n most none is h =
      subst (λ k. CarriesOut m (offers k start m) start before s j) is
      (none_left (subst (λ ms. IsLeft m ms s j (offers most start m) start before) none h))

  -- since there is none
  pub without_offer : (n most : ℕ) → offer_of s ≡ None → most ≡ length (queued_in_all start)
      → IsLeft m (offers n s m) s j (offers most start m) start before → CarriesOut m (distribution start m) start before s j
  without_offer n most none is h = offers_carried n most (no_offers n s m none) is h

  -- since there were as many as may be
  pub after_most : (n most : ℕ) → n ≡ 0 → most ≡ length (queued_in_all start)
      → IsLeft m (offers n s m) s j (offers most start m) start before → CarriesOut m (distribution start m) start before s j
  after_most n most none is h = offers_carried n most (rw none refl) is h

module _ (turn : Turn) {s : Rows} {j : Journal} {start : Rows} {before : Journal} where
  -- each offer that rang too long returns
  pub returns_carried : (items : List ConnectionRecord) (i : ℕ) → length items ≤ i → items ≡ overdue_in start turn.moment
      → IsLeft turn.moment (each (λ t x. return_moves t turn x) s (drop i items)) s j (each (λ t x. return_moves t turn x) start items) start before
      → CarriesOut turn.moment (returns start turn) start before s j
  unfolding returns
  returns_carried items i past same h =
      list_carried (λ (t : Rows) (x : ConnectionRecord). return_moves t turn x) (overdue_in start turn.moment) items i past same h

  -- each after-call work that lasted long enough ends
  pub rests_carried : (items : List AgentRecord) (i : ℕ) → length items ≤ i → items ≡ wrapped_up_in start turn.moment
      → IsLeft turn.moment (each (λ t a. wrap_up_moves turn a) s (drop i items)) s j (each (λ t a. wrap_up_moves turn a) start items) start before
      → CarriesOut turn.moment (wraps start turn) start before s j
  unfolding wraps
  rests_carried items i past same h = list_carried (λ (t : Rows) (a : AgentRecord). wrap_up_moves turn a) (wrapped_up_in start turn.moment) items i past same h

-- a tick: the offers that return, then what ends
pub tick_carried : (turn : Turn) {s t u : Rows} {i j l : Journal} → CarriesOut turn.moment (returns s turn) s i t j
    → CarriesOut turn.moment (wraps t turn) t j u l
    → CarriesOut turn.moment (tick s turn) s i u l
unfolding tick
tick_carried turn {s} {t} {u} {i} {j} {l} first next = both_carried first (subst (λ (r : Rows). CarriesOut turn.moment (wraps r turn) t j u l) first.rows next)
