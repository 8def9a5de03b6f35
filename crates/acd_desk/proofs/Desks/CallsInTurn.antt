-- Many calls of a desk, one after the other.
use Rattle.std.proofs.Common.{◌≡◌, ℕ, ◌+◌, List, [], ◌∷◌, ◌++◌, true, false, cond, refl, sym, ap, subst, ◌∙◌, arith, inl, inr, ◌⊎◌, Bool, length-append, true≢false, Result}
use Rattle.std.proofs.lemmas.List.Elements.{Contains-push_cases, Contains-push, Contains-append_left, Contains-append_right}
use Rattle.std.specs.List.{Contains}
use Rattle.acd_terms.specs.Lists.{Every}
use Rattle.acd_terms.specs.declared.command.Arrival.{Arrival}
use Rattle.acd_book.specs.Content.{Content, Within}
use Rattle.acd_book.proofs.BookSteps.{no_step, step_so, step_then}
use Rattle.acd_desk.specs.declared.taken.Taken.{Taken}
use Rattle.acd_desk.specs.declared.taken.Taken.TheVariants.{Reply, InvokeReused, DeskFull, NoMemory, StoreFault}
use Rattle.acd_desk.specs.Contents.Replies.{answer_in, after}
use Rattle.acd_desk.specs.Contents.AcceptedArrivals.{is_fault, is_rejection, is_reply, accepted, maybe_last}
use Rattle.acd_desk.specs.Contents.SoundContent.{IsSound, ran_after}
use Rattle.acd_desk.specs.Contents.AnyContent.{led, answers_to, StopsFrom, Leads}
use Rattle.acd_desk.specs.Desks.DeskState.{DeskState, InStep, Starts}
use Rattle.acd_desk.specs.Desks.DeskCalls.{WasUnloaded, EndsIn, IsFault, EndsUp, Took, Ran}
use Rattle.acd_desk.specs.Desks.ArrivalsAndReads.{Attended}
use Rattle.acd_desk.specs.Reads.DeskReads.{ReadDone}
use Rattle.acd_desk.specs.Reads.AnswerTexts.{Said, IsSaid, SaysOf}
use Rattle.acd_desk.specs.declared.fault.DeskFault.{DeskFault}
use Rattle.acd_desk.proofs.Desks.DeskSteps.{desk_so, desk_then}
use Rattle.acd_desk.proofs.Contents.LongerLists.{ran_none, accepted-push, maybe_stays, maybe_this}
use Rattle.acd_desk.proofs.Contents.RunsOfAnyContent.{one_said, one_content, one_stop, sound_led, sound_answers, sound_stop}
use Rattle.acd_desk.proofs.Contents.SoundRuns.{ran_sound, stop_sound}
use Rattle.acd_desk.proofs.Contents.ContentLaws.{sound_keeps_laws}

-- the promise of a book on its stops
abbrev pub Settles : DeskState → Type 0
Settles s = (c : Content) → s.book.is_clean → s.book.is_sound → s.book.is_open → s.book.stops c → c ≡ s.book.content

-- no call yet
pub ran_nothing : (s : DeskState) → Settles s → Ran s [] [] s
ran_nothing s settles =
    let stop : s.book.is_clean → Starts s → (c : Content) → s.book.stops c → c ≡ ran_after s.book.content []
    = λ clean start c at. settles c clean start.0 start.1 at ∙ ran_none s.book.content start.3 in
    record {
      even = refl;
      step = no_step s.book;
      desk = record {
        in_step = λ clean sound step. step;
        shuts = λ h. absurd (omega (arith, h.1));
        answers = λ h. inl h;
        lasts = λ h. h;
        cause = λ h. inl (inl h);
      };
      leads = λ clean sound opened step. record { replies = refl; content = λ up. refl; stops = λ c at. inl (settles c clean sound opened at) };
      replies = λ clean start. refl;
      holds = λ clean start opened. record {
        content = ran_none s.book.content start.3;
        whole = start.3;
        laws = sound_keeps_laws s.book.content start.3;
        alone = λ c at. settles c clean start.0 opened at;
      };
      up = λ clean sound opened. opened;
      opened = λ clean sound opened. opened;
      stops = λ clean start c at. inl (stop clean start c at);
      sound_stops = λ clean start c at. subst IsSound (sym (settles c clean start.0 start.1 at)) start.3;
      still = λ clean sound shut c at. at;
      later = tt;
      shut = λ h. tt;
      unloads = λ working gone. inl gone;
    }

-- the last answer is one of the answers
at_end : (ts : List Taken) (t u : Taken) → t ≡ u → Contains (ts ++ t ∷ []) u
at_end ts t u is = subst (λ (x : Taken). Contains (ts ++ t ∷ []) x) is (Contains-push ts t)

earlier : (s : DeskState) (ts : List Taken) (t : Taken) → WasUnloaded s ts → WasUnloaded s (ts ++ t ∷ [])
earlier s ts t h = elim h [
  | inl gone ↦ inl gone
  | inr answered ↦ inr (Contains-append_left ts (t ∷ []) NoMemory answered)
]

pub every_push : (P : Taken → Type 0) (ts : List Taken) (t : Taken) → Every P ts → P t → Every P (ts ++ t ∷ [])
every_push P [] t h last = (last, tt)
every_push P (u ∷ ts) t h last = (h.0, every_push P ts t h.1 last)

pub later_push : (P : Taken → Type 0) (ts : List Taken) (t : Taken) → EndsIn P ts → (Contains ts StoreFault → P t) → EndsIn P (ts ++ t ∷ [])
later_push P [] t h last = (λ is. tt, tt)
later_push P (u ∷ ts) t h last = (
  λ is. every_push P ts t (h.0 is) (last (Contains-append_left (u ∷ []) ts StoreFault (at_end [] u StoreFault is))),
  later_push P ts t h.1 (λ found. last (Contains-append_right (u ∷ []) ts StoreFault found)),
)

-- a desk that works has worked before
still : (m n : DeskState) (a : Arrival) (t : Taken) → Took m a t n → n.failed ≡ false → m.failed ≡ false
still m n a t took working =
    let cases : (b : Bool) → m.failed ≡ b → m.failed ≡ false
    = λ b. elim b as (λ b. m.failed ≡ b → m.failed ≡ false) [
      | true ↦ λ before. absurd (true≢false (sym (took.desk.lasts before) ∙ working))
      | false ↦ λ before. before
    ] in
    cases m.failed refl

fault_no_reply : (t : Taken) → is_fault t ≡ true → is_reply t ≡ false
fault_no_reply (Reply status body) h = absurd (true≢false (sym h))
fault_no_reply InvokeReused h = refl
fault_no_reply DeskFull h = refl
fault_no_reply NoMemory h = refl
fault_no_reply StoreFault h = refl

pub reply_no_fault : (t : Taken) → is_reply t ≡ true → is_fault t ≡ false
reply_no_fault (Reply status body) h = refl
reply_no_fault InvokeReused h = absurd (true≢false (sym h))
reply_no_fault DeskFull h = absurd (true≢false (sym h))
reply_no_fault NoMemory h = absurd (true≢false (sym h))
reply_no_fault StoreFault h = absurd (true≢false (sym h))

-- a book that is open has been open before
was_open : (m n : DeskState) (a : Arrival) (t : Taken) → Took m a t n → n.book.is_clean → m.book.is_sound → n.book.is_open → m.book.is_open
was_open m n a t took clean sound opened =
    let cases : (b : Bool) → is_reply t ≡ b → m.book.is_open
    = λ b. elim b as (λ b. is_reply t ≡ b → m.book.is_open) [
      | true ↦ λ reply. (took.up (reply_no_fault t reply) clean sound).0
      | false ↦ λ none. (took.unmoved none clean sound opened).0
    ] in
    cases (is_reply t) refl

-- the last answer is no fault
last_accepted : (s : DeskState) (ts : List Taken) (t : Taken) → EndsUp s (ts ++ t ∷ []) → is_fault t ≡ false
last_accepted s [] t h = h
last_accepted s (u ∷ []) t h = h
last_accepted s (u ∷ v ∷ ts) t h = last_accepted s (v ∷ ts) t h

-- a book that was shut, or a desk that failed before, does nothing
idle : (s m n : DeskState) (l : List Arrival) (ts : List Taken) (a : Arrival) (t : Taken) → Ran s l ts m → Took m a t n
    → n.book.is_clean → s.book.is_sound → (¬ s.book.is_open) ⊎ (s.failed ≡ true) → Within n.book.stops s.book.stops
idle s m n l ts a t ran took clean sound shut c at =
    let before = took.step.clean clean in
    let out_of_step : InStep s = λ opened working. elim shut [
      | inl closed ↦ absurd (closed opened)
      | inr failed ↦ absurd (true≢false (sym failed ∙ working))
    ] in
    elim (took.stops clean (ran.step.sound before sound) (ran.desk.in_step before sound out_of_step) c at) [
      | inl old ↦ ran.still before sound shut c old
      | inr made ↦ elim shut [
        | inl closed ↦ absurd (closed (ran.opened before sound made.1))
        | inr failed ↦ absurd (true≢false (sym (ran.desk.lasts failed) ∙ made.0))
      ]
    ]

-- a statement on a run holds of it where the desk was read, too
pub attended_ran : (old new : DeskState) (l : List Arrival) (ts : List Taken) → Ran old l ts new → Attended old l ts new
attended_ran old new l ts ran = record {
  even = ran.even;
  clean = ran.step.clean;
  sound = ran.step.sound;
  in_step = ran.desk.in_step;
  leads = ran.leads;
  replies = ran.replies;
  content = λ clean starts opened. (ran.holds clean starts opened).content;
  stops = ran.stops;
  shuts = ran.desk.shuts;
}

-- one more call of a desk that is in step
leads_more : (s m n : DeskState) (l : List Arrival) (ts : List Taken) (a : Arrival) (t : Taken) → Settles n → Attended s l ts m → Took m a t n
    → n.book.is_clean → s.book.is_sound → s.book.is_open → InStep s → Leads s.book.content (l ++ a ∷ []) (ts ++ t ∷ []) n.book
leads_more s m n l ts a t settles ran took clean started opened started_in_step =
    let start : Content = s.book.content in
    let earlier_clean : m.book.is_clean = took.step.clean clean in
    let sound : m.book.is_sound = ran.sound earlier_clean started in
    let step : InStep m = ran.in_step earlier_clean started started_in_step in
    let before : Leads start l ts m.book = ran.leads earlier_clean started opened started_in_step in
    let yes : accepted (l ++ a ∷ []) (ts ++ t ∷ []) ≡ accepted l ts ++ cond (is_fault t) [] (a ∷ []) = accepted-push l ts a t ran.even in
    let maybe : List Arrival = maybe_last (l ++ a ∷ []) (ts ++ t ∷ []) in
    record {
      replies =
          one_said start (accepted l ts) ts a t before.replies (λ (fine : is_fault t ≡ false).
          (took.sent fine clean sound step).0 ∙ ap (λ (x : Content). answer_in (after x a) a.request) (before.content (took.up fine clean sound).0))
          ∙ ap (answers_to start) (sym yes);
      content = λ opened.
          one_content start (accepted l ts) a t n.book.content
          (λ (fine : is_fault t ≡ false). (took.sent fine clean sound step).1 ∙ ap (λ (x : Content). after x a) (before.content (took.up fine clean sound).0))
          (λ (bad : is_fault t ≡ true).
          let same = took.unmoved (fault_no_reply t bad) clean sound opened in
          same.1 ∙ before.content same.0)
          ∙ ap (led start) (sym yes);
      stops = λ c stop.
          subst (λ (y : List Arrival). StopsFrom start y maybe c) (sym yes)
          (one_stop start (accepted l ts) (maybe_last l ts) maybe a t c (maybe_stays l ts a t)
          (λ (fine : is_fault t ≡ false).
          settles c clean (took.step.sound clean sound) (took.up fine clean sound).1 stop
          ∙ (took.sent fine clean sound step).1 ∙ ap (λ (x : Content). after x a) (before.content (took.up fine clean sound).0))
          (λ (bad : is_fault t ≡ true). elim (took.stops clean sound step c stop) [
            | inl old ↦ inl (before.stops c old)
            | inr made ↦ inr (
              maybe_this l ts a t ran.even (λ found. true≢false (sym (ran.shuts found) ∙ made.0)) bad,
              made.2 ∙ ap (λ (x : Content). after x a) (before.content made.1),
            )
          ]));
    }

-- one more call
pub attended_more : (s m n : DeskState) (l : List Arrival) (ts : List Taken) (a : Arrival) (t : Taken) → Settles n → Attended s l ts m → Took m a t n
    → Attended s (l ++ a ∷ []) (ts ++ t ∷ []) n
attended_more s m n l ts a t settles ran took =
    let start : Content = s.book.content in
    let yes : List Arrival = accepted (l ++ a ∷ []) (ts ++ t ∷ []) in
    let leads : n.book.is_clean → s.book.is_sound → s.book.is_open → InStep s → Leads start (l ++ a ∷ []) (ts ++ t ∷ []) n.book
    = leads_more s m n l ts a t settles ran took in
    record {
      even = length-append l (a ∷ []) ∙ ap (λ (k : ℕ). k + 1) ran.even ∙ sym (length-append ts (t ∷ []));
      clean = λ clean. ran.clean (took.step.clean clean);
      sound = λ clean sound. took.step.sound clean (ran.sound (took.step.clean clean) sound);
      in_step = λ clean sound step. took.desk.in_step clean (ran.sound (took.step.clean clean) sound) (ran.in_step (took.step.clean clean) sound step);
      leads = leads;
      replies = λ clean starts. (leads clean starts.0 starts.1 starts.2).replies ∙ sound_answers start yes starts.3;
      content = λ clean starts opened. (leads clean starts.0 starts.1 starts.2).content opened ∙ sound_led start yes starts.3;
      stops = λ clean starts c stop.
          sound_stop start yes (maybe_last (l ++ a ∷ []) (ts ++ t ∷ [])) c starts.3 ((leads clean starts.0 starts.1 starts.2).stops c stop);
      shuts = λ h. elim (Contains-push_cases ts t StoreFault h) [
        | inl old ↦ took.desk.lasts (ran.shuts old)
        | inr now ↦ took.desk.shuts now
      ];
    }

pub ran_more : (s m n : DeskState) (l : List Arrival) (ts : List Taken) (a : Arrival) (t : Taken) → Settles n → Ran s l ts m → Took m a t n
    → Ran s (l ++ a ∷ []) (ts ++ t ∷ []) n
ran_more s m n l ts a t settles ran took =
    let start : Content = s.book.content in
    let yes : List Arrival = accepted (l ++ a ∷ []) (ts ++ t ∷ []) in
    let more : Attended s (l ++ a ∷ []) (ts ++ t ∷ []) n = attended_more s m n l ts a t settles (attended_ran s m l ts ran) took in
    record {
      even = more.even;
      step = step_then ran.step took.step (Contains-append_left ts (t ∷ []) StoreFault) (at_end ts t StoreFault);
      desk =
          desk_then s m n ran.step took.step ran.desk took.desk (Contains-append_left ts (t ∷ []) StoreFault) (at_end ts t StoreFault)
          (Contains-push_cases ts t StoreFault) (earlier s ts t) (λ working gone. earlier s ts t (ran.unloads working gone));
      leads = more.leads;
      replies = more.replies;
      holds = λ clean starts opened.
          let content = more.content clean starts opened in
          let whole : IsSound n.book.content = subst IsSound (sym content) (ran_sound start yes starts.3) in
          record {
            content = content;
            whole = whole;
            laws = sound_keeps_laws n.book.content whole;
            alone = λ c stop. settles c clean (more.sound clean starts.0) opened stop;
          };
      up = λ clean sound ended. (took.up (last_accepted s ts t ended) clean (ran.step.sound (took.step.clean clean) sound)).1;
      opened = λ clean sound opened.
          let before = took.step.clean clean in
          ran.opened before sound (was_open m n a t took clean (ran.step.sound before sound) opened);
      stops = more.stops;
      sound_stops = λ clean starts c stop. stop_sound start yes (maybe_last (l ++ a ∷ []) (ts ++ t ∷ [])) c starts.3 (more.stops clean starts c stop);
      still = idle s m n l ts a t ran took;
      later = later_push IsFault ts t ran.later (λ old. took.shut (ran.desk.shuts old));
      shut = λ failed. every_push IsFault ts t (ran.shut failed) (took.shut (ran.desk.lasts failed));
      unloads = λ working gone. elim (took.unloads working gone) [
        | inl before ↦ earlier s ts t (ran.unloads (still m n a t took working) before)
        | inr now ↦ inr (at_end ts t NoMemory now)
      ];
    }

-- a read between two calls
pub attended_read : {A : Type 0} (s m n : DeskState) (l : List Arrival) (ts : List Taken) (r : Result A DeskFault) (P : Content → A → Type 0)
    → Attended s l ts m → ReadDone m n r P → Attended s l ts n
attended_read s m n l ts r P ran read = record {
  even = ran.even;
  clean = λ clean. ran.clean (read.step.clean clean);
  sound = λ clean sound. read.step.sound clean (ran.sound (read.step.clean clean) sound);
  in_step = λ clean sound step. read.desk.in_step clean (ran.sound (read.step.clean clean) sound) (ran.in_step (read.step.clean clean) sound step);
  leads = λ clean sound opened step.
      let before = read.step.clean clean in
      let so_far = ran.leads before sound opened step in
      record {
        replies = so_far.replies;
        content = λ up. let same = read.unchanged.same clean (ran.sound before sound) up in same.1 ∙ so_far.content same.0;
        stops = λ c stop. so_far.stops c (read.unchanged.stops clean (ran.sound before sound) c stop);
      };
  replies = λ clean starts. ran.replies (read.step.clean clean) starts;
  content = λ clean starts opened.
      let before = read.step.clean clean in
      let same = read.unchanged.same clean (ran.sound before starts.0) opened in
      same.1 ∙ ran.content before starts same.0;
  stops = λ clean starts c stop.
      let before = read.step.clean clean in
      ran.stops before starts c (read.unchanged.stops clean (ran.sound before starts.0) c stop);
  shuts = λ found. read.desk.lasts (ran.shuts found);
}

-- one call alone
pub ran_one : (s n : DeskState) (a : Arrival) (t : Taken) → Settles s → Settles n → Took s a t n → Ran s (a ∷ []) (t ∷ []) n
ran_one s n a t settled settles took = ran_more s s n [] [] a t settles (ran_nothing s settled) took

rejection_no_reply : (t : Taken) → is_rejection t ≡ true → is_reply t ≡ false
rejection_no_reply (Reply status body) h = absurd (true≢false (sym h))
rejection_no_reply InvokeReused h = refl
rejection_no_reply DeskFull h = refl
rejection_no_reply NoMemory h = refl
rejection_no_reply StoreFault h = refl

rejection_no_store : (t : Taken) → is_rejection t ≡ true → ¬ (t ≡ StoreFault)
rejection_no_store t rejected is = true≢false (sym rejected ∙ ap is_rejection is)

pub no_store : NoMemory ≡ StoreFault → ⊥
no_store h = cc

-- the text of a rejection may not be made, and noMemory be answered
pub forgets : (m n : DeskState) (a : Arrival) (t : Taken) → is_rejection t ≡ true → Took m a t n → Took m a NoMemory n
forgets m n a t rejected took =
    let none : ¬ (t ≡ StoreFault) = rejection_no_store t rejected in
    record {
      step = step_so took.step (λ is. absurd (none is));
      desk = desk_so took.desk (λ is. absurd (none is)) (λ is. absurd (no_store is));
      shut = λ h. refl;
      up = λ h. absurd (true≢false h);
      sent = λ h. absurd (true≢false h);
      unmoved = λ is. took.unmoved (rejection_no_reply t rejected);
      stops = took.stops;
      unloads = λ working gone. inr refl;
    }

-- the text of an answer, or noMemory in its place
pub says_of : (s n : DeskState) (a : Arrival) (t : Taken) (out : Said) → Settles s → Settles n → Took s a t n → Ran s (a ∷ []) (t ∷ []) n
    → IsSaid a.request t out → SaysOf s a out n
says_of s n a t out settles settled took ran (inl is) = record { answer = t; says = is; took = took; ran = ran }
says_of s n a t out settles settled took ran (inr lost) =
    let forgot = forgets s n a t lost.0 took in
    record { answer = NoMemory; says = lost.1; took = forgot; ran = ran_one s n a NoMemory settles settled forgot }
