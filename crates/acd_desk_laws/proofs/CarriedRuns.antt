-- A desk over a content that was carried over runs as over archive and content together.
use Rattle.std.proofs.Common.{◌≡◌, List, [], ◌∷◌, ◌++◌, sym, ap, subst, ◌∙◌, arith, true, false, cond, inl, inr}
use Rattle.std.specs.List.{Contains}
use Rattle.std.proofs.lemmas.List.Elements.{Contains-append_cases, Contains-push_cases}
use Rattle.acd_terms.specs.Lists.{Every}
use Rattle.acd_terms.specs.declared.command.Arrival.{Arrival}
use Rattle.acd_lemmas.proofs.Lists.{every-append}
use Rattle.acd_model.specs.Rules.First.{BreaksNoRule}
use Rattle.acd_book.specs.declared.book.Book.{Ghosts}
use Rattle.acd_book.specs.Content.{Content, IsCounted}
use Rattle.acd_desk.specs.declared.taken.Taken.{Taken}
use Rattle.acd_desk.specs.declared.taken.Taken.TheVariants.{Reply, InvokeReused, DeskFull, NoMemory, StoreFault}
use Rattle.acd_desk.specs.Contents.AcceptedArrivals.{is_fault, has_accepted, accepted, maybe_last}
use Rattle.acd_desk.specs.Contents.SoundContent.{IsSound, ran_after, StopsAt}
use Rattle.acd_desk.specs.Contents.AnyContent.{led, StopsFrom, IsAsTogether}
use Rattle.acd_desk.specs.Contents.CarriedContent.{Archive, together, IsNewTo, NoneSentAgain, joined}
use Rattle.acd_desk_laws.specs.CarriedLaws.{IsRunOfAll, CarriedRuns}
use Rattle.acd_desk.proofs.Contents.RunsOfAnyContent.{sound_led, sound_answers}
use Rattle.acd_desk.proofs.Contents.SoundRuns.{ran_sound, stop_sound}
use Rattle.acd_desk.proofs.Contents.ContentLaws.{sound_keeps_laws, sound_rules}
use Rattle.acd_desk.proofs.Contents.OlderRecords.{counted_alone, goes_on, cut_again}
use Rattle.acd_desk.specs.Contents.Pruning.{IsGone}
use Rattle.acd_desk_laws.specs.PruneLaws.{IsCarriedFurther}

pub run_of_all : (p : Archive) (c : Content) (list : List Arrival) → IsSound (together p c) → NoneSentAgain p list → IsRunOfAll p c list
run_of_all p c list sound new =
    let same : IsAsTogether p c list = goes_on p c list new in
    let content : together p (led c list) ≡ ran_after (together p c) list = same.content ∙ sound_led (together p c) list sound in
    record {
      answers = same.answers ∙ sound_answers (together p c) list sound;
      content = content;
      sound = subst IsSound (sym content) (ran_sound (together p c) list sound);
    }

pub opens_alone : (p : Archive) (c : Content) → IsSound (together p c) → BreaksNoRule c.rows × IsCounted c
opens_alone p c sound = (sound_rules (together p c) sound, counted_alone p c sound)

every_contains : {X : Type 0} (P : X → Type 0) (xs : List X) (x : X) → Every P xs → Contains xs x → P x
every_contains P [] x h at = absurd (omega (arith, at.1))
every_contains P (y ∷ ys) x h at = elim (Contains-append_cases (y ∷ []) ys x at) [
  | inl here ↦ elim (Contains-push_cases [] y x here) [
    | inl none ↦ absurd (omega (arith, none.1))
    | inr same ↦ subst P same h.0
  ]
  | inr in_rest ↦ every_contains P ys x h.1 in_rest
]

every_accepted : (P : Arrival → Type 0) (l : List Arrival) (ts : List Taken) → Every P l → Every P (accepted l ts)
every_accepted P [] [] h = tt
every_accepted P [] (t ∷ ts) h = tt
every_accepted P (a ∷ l) [] h = tt
every_accepted P (a ∷ l) (t ∷ ts) h = elim (is_fault t) as (λ b. Every P (cond b [] (a ∷ []) ++ accepted l ts)) [
  | true ↦ every_accepted P l ts h.1
  | false ↦ (h.0, every_accepted P l ts h.1)
]

every_maybe : (P : Arrival → Type 0) (l : List Arrival) (ts : List Taken) → Every P l → Every P (maybe_last l ts)
every_maybe P [] [] h = tt
every_maybe P [] (t ∷ ts) h = tt
every_maybe P (a ∷ l) [] h = tt
every_maybe P (a ∷ l) (Reply status body ∷ ts) h = every_maybe P l ts h.1
every_maybe P (a ∷ l) (InvokeReused ∷ ts) h = every_maybe P l ts h.1
every_maybe P (a ∷ l) (DeskFull ∷ ts) h = every_maybe P l ts h.1
every_maybe P (a ∷ l) (NoMemory ∷ ts) h = elim (has_accepted ts) as (λ b. Every P (cond b [] (a ∷ []) ++ maybe_last l ts)) [
  | true ↦ every_maybe P l ts h.1
  | false ↦ (h.0, every_maybe P l ts h.1)
]
every_maybe P (a ∷ l) (StoreFault ∷ ts) h = (h.0, tt)

-- whatever a stop leaves
stop_together : (p : Archive) (start : Content) (list others : List Arrival) (c : Content) → IsSound (together p start) → NoneSentAgain p list → NoneSentAgain p others
    → StopsFrom start list others c → StopsAt (together p start) list others (together p c)
stop_together p start list others c sound new maybe at = elim at [
  | inl same ↦ inl (ap (together p) same ∙ (run_of_all p start list sound new).content)
  | inr more ↦
      let one : IsNewTo p more.0 = every_contains (IsNewTo p) others more.0 maybe more.1 in
      inr (more.0, more.1, ap (together p) more.2 ∙ (run_of_all p start (list ++ more.0 ∷ []) sound (every-append (IsNewTo p) list (more.0 ∷ []) new (one, tt))).content)
]

pub runs_together : {B : Type 0} (book : Ghosts B) → CarriedRuns book
runs_together book p start arrivals answers new leads sound none =
    let list : List Arrival = accepted arrivals answers in
    let later : NoneSentAgain p list = every_accepted (IsNewTo p) arrivals answers none in
    let all : IsRunOfAll p start list = run_of_all p start list sound later in
    let content : (book.state new).is_open → together p (book.state new).content ≡ ran_after (together p start) list
    = λ opened. ap (together p) (leads.content opened) ∙ all.content in
    let whole : (book.state new).is_open → IsSound (together p (book.state new).content)
    = λ opened. subst IsSound (sym (content opened)) (ran_sound (together p start) list sound) in
    let stops : (c : Content) → (book.state new).stops c → StopsAt (together p start) list (maybe_last arrivals answers) (together p c)
    = λ c at. stop_together p start list (maybe_last arrivals answers) c sound later (every_maybe (IsNewTo p) arrivals answers none) (leads.stops c at) in
    record {
      answered = leads.replies ∙ all.answers;
      content = content;
      whole = whole;
      laws = λ opened. sound_keeps_laws (together p (book.state new).content) (whole opened);
      stops = stops;
      sound_stops = λ c at. stop_sound (together p start) list (maybe_last arrivals answers) (together p c) sound (stops c at);
    }

pub prune_carries_further : (p : Archive) (a old new : Content) (gone : Archive) → IsGone a old new gone → IsCarriedFurther p gone old new
prune_carries_further p a old new gone is =
    let content : together p old ≡ together (joined p gone) new = ap (together p) is.whole ∙ (cut_again p gone new).content in
    record { content = content; sound = λ sound. subst IsSound content sound }
