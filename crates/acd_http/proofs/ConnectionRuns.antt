-- Connections lead to the run of the requests that they brought.
use Rattle.std.proofs.Common.{◌≡◌, ℕ, List, [], ◌∷◌, ◌++◌, map, Ok, Err, refl, sym, ap, subst, ◌∙◌, inl, inr, append_assoc, append-nil}
use Rattle.std.proofs.lemmas.List.{map-append}
use Rattle.acd_terms.specs.declared.command.Arrival.{Arrival}
use Rattle.acd_book.specs.Content.{Content}
use Rattle.acd_desk.specs.declared.taken.Taken.{Taken}
use Rattle.acd_desk.specs.Contents.Arrivals.{arrival_at}
use Rattle.acd_desk.specs.Desks.DeskState.{DeskState}
use Rattle.acd_desk.specs.Desks.ArrivalsAndReads.{Attended}
use Rattle.acd_desk.proofs.Desks.CallsInTurn.{Settles, ran_nothing, attended_ran, attended_more, attended_read}
use Rattle.acd_http.specs.declared.web_request.WebRequest.{WebRequest}
use Rattle.acd_http.specs.declared.web_request.WebRequest.TheVariants as ask
use Rattle.acd_http.specs.declared.exchanging.ExchangeFault.TheVariants.{Truncated, Read, Write, NoMemory}
use Rattle.acd_desk.specs.Reads.ReadAnswers.{question_read}
use Rattle.acd_http.specs.Exchange.{AnswersAsked}
use Rattle.acd_http.specs.ConnectionsInTurn.{Outcome, AnsweredOne, AnsweredEach}
use Rattle.acd_http.specs.ConnectionRequests.{posted, posted_by, all_posted, LeadsToTheRun}

abbrev pub arrived : Arrival × Taken → Arrival
arrived p = p.0

abbrev pub replied : Arrival × Taken → Taken
replied p = p.1

module _ {D : Type 0} (stands : D → DeskState) (settles : (d : D) → Settles (stands d)) where
  -- the arrivals of a list after others, and their answers after others
  abbrev pub So : D → List Arrival → List Taken → List (Arrival × Taken) → D → Type 0
  So s l ts more e = Attended (stands s) (l ++ map arrived more) (ts ++ map replied more) (stands e)

  pub none_more : (s d e : D) (l : List Arrival) (ts : List Taken) → e ≡ d → Attended (stands s) l ts (stands d) → So s l ts [] e
  none_more s d e l ts same h =
      subst (λ (x : D). So s l ts [] x) (sym same)
      (subst (λ (y : List Arrival). Attended (stands s) y (ts ++ []) (stands d)) (sym (append-nil l)) (subst (λ (z : List Taken). Attended (stands s) l z (stands d)) (sym (append-nil ts)) h))

  one_more : (s d e : D) (l : List Arrival) (ts : List Taken) (moment : ℕ) (asked : WebRequest) (out : List ℕ) (a : AnswersAsked stands moment d asked out e)
      → Attended (stands s) l ts (stands d) → So s l ts (posted stands moment d asked out e a) e
  one_more s d e l ts moment (ask.Arrival r) out (inl a) h = attended_more (stands s) (stands d) (stands e) l ts (arrival_at moment r) a.0 (settles e) h a.2
  one_more s d e l ts moment (ask.Arrival r) out (inr a) h = none_more s d e l ts a.2 h
  one_more s d e l ts moment (ask.Look wanted bodiless) out (inl a) h =
      none_more s e e l ts refl (attended_read (stands s) (stands d) (stands e) l ts a.0 (λ (c : Content) (text : _). text ≡ question_read c moment wanted) h a.2)
  one_more s d e l ts moment (ask.Look wanted bodiless) out (inr a) h = none_more s d e l ts a.2 h
  one_more s d e l ts moment (ask.Refused why bodiless) out (inl a) h = none_more s d e l ts a.1 h
  one_more s d e l ts moment (ask.Refused why bodiless) out (inr a) h = none_more s d e l ts a.2 h
  one_more s d e l ts moment ask.Truncated out (inl a) h = absurd a
  one_more s d e l ts moment ask.Truncated out (inr a) h = none_more s d e l ts a.2 h

  pub one_connection : (s d e : D) (l : List Arrival) (ts : List Taken) (x : Outcome) (v : AnsweredOne stands d x e) → Attended (stands s) l ts (stands d) → So s l ts (posted_by stands d x e v) e
  one_connection s d e l ts (Ok u) v h = one_more s d e l ts v.moment v.asked v.reply v.answers h
  one_connection s d e l ts (Err Write) v h = one_more s d e l ts v.moment v.asked v.reply v.answers h
  one_connection s d e l ts (Err Truncated) v h = none_more s d e l ts v h
  one_connection s d e l ts (Err Read) v h = none_more s d e l ts v h
  one_connection s d e l ts (Err NoMemory) v h = none_more s d e l ts v h

  pub joined : {A : Type 0} (f : Arrival × Taken → A) (l : List A) (p q : List (Arrival × Taken)) → ((l ++ map f p) ++ map f q) ≡ (l ++ map f (p ++ q))
  joined f l p q = append_assoc l (map f p) (map f q) ∙ ap (λ (m : List _). l ++ m) (sym (map-append f p q))

  on_and_on : (s d e : D) (l : List Arrival) (ts : List Taken) (xs : List Outcome) (h : AnsweredEach stands d xs e) → Attended (stands s) l ts (stands d) → So s l ts (all_posted stands d xs e h) e
  on_and_on s d e l ts [] h before = none_more s d e l ts h before
  on_and_on s d e l ts (x ∷ xs) h before =
      let p = posted_by stands d x h.0 h.1 in
      let q = all_posted stands h.0 xs e h.2 in
      let rest = on_and_on s h.0 e (l ++ map arrived p) (ts ++ map replied p) xs h.2 (one_connection s d h.0 l ts x h.1 before) in
      subst (λ (y : List Arrival). Attended (stands s) y (ts ++ map replied (p ++ q)) (stands e)) (joined arrived l p q)
      (subst (λ (z : List Taken). Attended (stands s) ((l ++ map arrived p) ++ map arrived q) z (stands e)) (joined replied ts p q) rest)

  pub leads_to_the_run : LeadsToTheRun stands
  leads_to_the_run d e xs h = on_and_on d d e [] [] xs h (attended_ran (stands d) (stands d) [] [] (ran_nothing (stands d) (settles d)))
