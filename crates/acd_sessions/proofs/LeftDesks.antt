-- A desk over a book, as it is seen from outside; over that of a database, each book is called sound where the first was.
use Rattle.std.proofs.Common.{◌≡◌, inl, inr, ℕ, Bool, true, false, List, [], ◌∷◌, Option, Some, None, is_some, Result, Ok, Err, sym, ap, subst, ◌∙◌, ◌&&◌, refl}
use Rattle.std.proofs.lemmas.Result.{on_ok_weaker}
use Rattle.sqlite.specs.Held.{Held, state}
use Rattle.sqlite.specs.State.{State, HasCleanDisk}
use Rattle.sqlite_trees.specs.declared.store.Store.{Ghosts}
use Rattle.acd_terms.specs.declared.command.Arrival.{Arrival}
use Rattle.acd_model.specs.Rules.First.{BreaksNoRule}
use Rattle.acd_book.specs.Content.{Content, IsCounted}
use Rattle.acd_book.specs.State.{BookState, BookStep, unfailing}
use Rattle.acd_book.proofs.BookSteps.{step_then}
use Rattle.acd_sqlbook.specs.View.{BookView, book_seen}
use Rattle.acd_desk.specs.declared.desk.Desk.{Desk}
use Rattle.acd_desk.specs.declared.fault.DeskFault.{DeskFault}
use Rattle.acd_desk.specs.declared.taken.Taken.{Taken}
use Rattle.acd_desk.specs.Contents.CarriedContent.{together}
use Rattle.acd_desk.specs.Desks.Clock.{Looked}
use Rattle.acd_desk.specs.Desks.Opening.{Opened}
use Rattle.acd_desk.specs.Desks.DeskCalls.{DeskStep, EndsUp, Ran, Took}
use Rattle.acd_desk.specs.Desks.DeskState.{DeskState, Starts, state_of, switch_of, is_failed}
use Rattle.acd_desk.specs.Contents.SoundContent.{IsSound}
use Rattle.acd_desk.specs.Reads.DeskReads.{ReadDone}
use Rattle.acd_lines.specs.Answers.{Answers}
use Rattle.acd_lines.specs.Input.{Line, no_moment, too_long, faulty, arrival, text_of_line}
use Rattle.acd_lines.specs.Lines.{LinesAnswered, FirstLines, Streams, LinesDone, EndedBy}
use Rattle.acd_lines.specs.Parts.{AnswersEach}
use Rattle.acd_lines.specs.declared.fault.LinesFault.{LinesFault}
use Rattle.acd_lines.specs.declared.fault.LinesFault.TheVariants as lines
use Rattle.acd_lines.proofs.WeakerAnswers.{answered_so}
use Rattle.acd_http.specs.declared.web_request.WebRequest.{WebRequest}
use Rattle.acd_http.specs.declared.web_request.WebRequest.TheVariants as ask
use Rattle.acd_http.specs.declared.exchanging.ExchangeFault.TheVariants as fault
use Rattle.acd_http.specs.Exchange.{Replies, AnswersAsked}
use Rattle.acd_http.specs.declared.serving.Span.{Span}
use Rattle.acd_http.specs.ConnectionsInTurn.{Outcome, Visited, AnsweredOne}
use Rattle.acd_http.specs.Turns.{ServiceTurn, LookedAt, Turned, TurnedEach, TurnedWell, EndsAt}
use Rattle.acd_http.specs.Turns as turn
use Rattle.acd_http.specs.LinesWithReads.{ReadingLine, plain, get, reading_line_of, ReadingAnswers}
use Rattle.acd_io.specs.SentBytes.{Begins}
use Rattle.std.specs.Io.KnownBytes.{Appends}
use Rattle.acd_sessions.specs.MemoryAnswers.{in_memory}
use Rattle.acd_sessions.specs.Desks.{OverDatabase, OverNewDesk, in_database}
use Rattle.acd_sessions.specs.Faults.{command_result}
use Rattle.acd_sessions.specs.Over.{held, unmade, LeavesBooks}
use Rattle.acd_sessions.specs.LinesOver.{in_turn, Whole, LinesLeave}
use Rattle.acd_sessions.specs.DeskAsLeft.{Seen, seen, SeenNew, InDatabase, left_of, SeenOver, SeenIn}
use Rattle.acd_sessions.specs.Serving.{TurnsOf, ServiceLeaves, ends_failed}
use Rattle.acd_sessions.specs.Standby.{OrderedService, StandbyLeaves}
use Rattle.acd_sessions.specs.ConnectionBook.{IsHeldBook}
use Rattle.acd_sessions.specs.declared.fault.WorkFault.{WorkFault}
use Rattle.acd_command.specs.declared.asked.Address.{Address}
use Rattle.acd_sessions.proofs.Called.{called, leaves_books, leads_called, holds_called}

-- a book that is called sound says this of one that came of it
abbrev pub SoundBy : Type 0 → BookState → Type 0
SoundBy Sound b = b.is_clean → Sound → b.is_sound

module _ (Sound : Type 0) where
  abbrev pub recast : DeskState → DeskState
  recast s = record s { book = called s.book Sound }

  pub step_called : {F : Type 0} (a b : BookState) → BookStep F a b → BookStep F (called a Sound) (called b Sound)
  step_called a b s = record { clean = s.clean; sound = λ clean sound. sound; quiet = s.quiet; counts = s.counts }

  pub still_sound : {F : Type 0} (a b : BookState) → SoundBy Sound a → BookStep F a b → SoundBy Sound b
  still_sound a b k s = λ clean sound. s.sound clean (k (s.clean clean) sound)

  -- and one that is clean came of one that was
  pub still_clean : {F : Type 0} (Clean : Type 0) (a b : BookState) → SoundBy Sound a × (a.is_clean → Clean) → BookStep F a b → SoundBy Sound b × (b.is_clean → Clean)
  still_clean Clean a b k s = (still_sound a b k.0 s, λ clean. k.1 (s.clean clean))

  ends_up : (s : DeskState) (ts : List Taken) → EndsUp (recast s) ts → EndsUp s ts
  ends_up s [] h = h
  ends_up s (t ∷ []) h = h
  ends_up s (t ∷ u ∷ us) h = ends_up s (u ∷ us) h

  module _ (s t : DeskState) (k : SoundBy Sound s.book) where
    starts_of : (t.book.is_clean → s.book.is_clean) → t.book.is_clean → Starts (recast s) → Starts s
    starts_of before clean starts = (k (before clean) starts.0, starts.1, starts.2, starts.3)

    desk_called : (F U : Type 0) → (t.book.is_clean → s.book.is_clean) → DeskStep F U s t → DeskStep F U (recast s) (recast t)
    desk_called F U before d = record {
      in_step = λ clean sound. d.in_step clean (k (before clean) sound);
      shuts = d.shuts;
      answers = d.answers;
      lasts = d.lasts;
      cause = λ failed. elim (d.cause failed) [
        | inl why ↦ inl why
        | inr lied ↦ inr (lied.0, λ was. lied.1 (was.0, k (before was.0) was.1, was.2))
      ];
    }

    pub took_called : (a : Arrival) (x : Taken) → Took s a x t → Took (recast s) a x (recast t)
    took_called a x h =
        let hon : t.book.is_clean → Sound → s.book.is_sound = λ clean sound. k (h.step.clean clean) sound in
        record {
          step = step_called s.book t.book h.step;
          desk = desk_called _ _ h.step.clean h.desk;
          up = λ accepted clean sound. h.up accepted clean (hon clean sound);
          sent = λ accepted clean sound. h.sent accepted clean (hon clean sound);
          unmoved = λ none clean sound. h.unmoved none clean (hon clean sound);
          stops = λ clean sound. h.stops clean (hon clean sound);
          shut = h.shut;
          unloads = h.unloads;
        }

    pub read_called : {A : Type 0} (r : Result A DeskFault) (P : Content → A → Type 0) → ReadDone s t r P → ReadDone (recast s) (recast t) r P
    read_called r P h =
        let hon : t.book.is_clean → Sound → s.book.is_sound = λ clean sound. k (h.step.clean clean) sound in
        record {
          step = step_called s.book t.book h.step;
          unchanged = record { same = λ clean sound. h.unchanged.same clean (hon clean sound); stops = λ clean sound. h.unchanged.stops clean (hon clean sound) };
          desk = desk_called _ _ h.step.clean h.desk;
          value = λ clean sound. h.value clean (hon clean sound);
          stays = on_ok_weaker r (λ stays clean sound. stays clean (hon clean sound)) h.stays;
          shut = h.shut;
          loads = h.loads;
        }

    pub looked_called : (moment : ℕ) (taken : Option Taken) → Looked moment s taken t → Looked moment (recast s) taken (recast t)
    looked_called moment None h = record { look = h.look; read = read_called _ _ h.read }
    looked_called moment (Some x) h =
        let hon : t.book.is_clean → Sound → s.book.is_sound = λ clean sound. k (h.took.step.clean clean) sound in
        record {
          took = took_called _ x h.took;
          look = h.look;
          due = λ fine clean sound. h.due fine clean (hon clean sound);
          leaves = λ reply clean sound. h.leaves reply clean (hon clean sound);
        }

    pub ran_called : (l : List Arrival) (ts : List Taken) → Ran s l ts t → Ran (recast s) l ts (recast t)
    ran_called l ts h =
        let hon : t.book.is_clean → Sound → s.book.is_sound = λ clean sound. k (h.step.clean clean) sound in
        let well : t.book.is_clean → Starts (recast s) → Starts s = starts_of h.step.clean in
        record {
          even = h.even;
          step = step_called s.book t.book h.step;
          desk = desk_called _ _ h.step.clean h.desk;
          leads = λ clean sound up instep. leads_called Sound t.book s.book.content l ts (h.leads clean (hon clean sound) up instep);
          replies = λ clean starts. h.replies clean (well clean starts);
          holds = λ clean starts up. holds_called Sound t.book s.book.content _ (h.holds clean (well clean starts) up);
          up = λ clean sound last. h.up clean (hon clean sound) (ends_up s ts last);
          opened = λ clean sound. h.opened clean (hon clean sound);
          stops = λ clean starts. h.stops clean (well clean starts);
          sound_stops = λ clean starts. h.sound_stops clean (well clean starts);
          still = λ clean sound. h.still clean (hon clean sound);
          later = h.later;
          shut = h.shut;
          unloads = h.unloads;
        }

-- a desk that was opened over a book that came of another, as of that one
pub opened_of : (old mid : BookState) (d : DeskState) → IsHeldBook old mid → Opened mid d → Opened old (recast old.is_sound d)
opened_of old mid d of o =
    let step = step_then of.step o.step (λ none. none) (λ none. none) in
    let sound : d.book.is_clean → old.is_sound → mid.is_sound = λ clean is. of.step.sound (o.step.clean clean) is in
    let same : d.book.is_clean → old.is_sound → mid.content ≡ old.content = λ clean is. of.content (o.step.clean clean) is in
    record {
      step = record { clean = step.clean; sound = λ clean is. is; quiet = step.quiet; counts = step.counts };
      opened = λ clean is. let up = o.opened clean (sound clean is) in (
        of.opened (o.step.clean clean) is,
        up.1,
        up.2 ∙ same clean is,
        up.3 ∙ ap (λ (c : Content). Some c.rows) (same clean is),
      );
      working = o.working;
      stops = λ clean is c at. of.stops (o.step.clean clean) is c (o.stops clean (sound clean is) c at);
      keeps = λ clean is c at. o.keeps clean (sound clean is) c (of.keeps (o.step.clean clean) is c at);
      accepts = λ clean is. subst (λ (c : Content). BreaksNoRule c.rows) (same clean is) (o.accepts clean (sound clean is));
      in_step = λ clean is counted. o.in_step clean (sound clean is) (subst IsCounted (sym (same clean is)) counted);
      starts = λ p clean is whole.
          let starts = o.starts p clean (sound clean is) (subst (λ (c : Content). IsSound (together p c)) (sym (same clean is)) whole) in
          (is, starts.1, starts.2, starts.3);
    }

-- ---- one desk after another

module _ {S T L : Type 0} (asks : List ℕ → L) (One : S → L → List ℕ → S → Type 0) (Other : T → L → List ℕ → T → Type 0) (f : S → T) (Kept : S → Type 0)
    (step : (s : S) (line : L) (out : List ℕ) (t : S) → Kept s → One s line out t → Kept t × Other (f s) line out (f t)) where
  answers_as : (s : S) (pieces outs : List (List ℕ)) (t : S) → Kept s → AnswersEach asks One s pieces outs t → Kept t × AnswersEach asks Other (f s) pieces outs (f t)
  answers_as s [] [] t k h = (subst Kept (sym h) k, ap f h)
  answers_as s [] (out ∷ outs) t k h = absurd h
  answers_as s (piece ∷ pieces) [] t k h = absurd h
  answers_as s (piece ∷ pieces) (out ∷ outs) t k h =
      let one = step s (asks (text_of_line piece)) out h.0 k h.1 in
      let rest = answers_as h.0 pieces outs t one.0 h.2 in
      (rest.0, (f h.0, one.1, rest.1))

-- of what each desk keeps, and of what it did, as it is seen
pub record Views {D T : Type 0} (stands : D → DeskState) (stood : T → DeskState) (view : D → T) (Kept : D → Type 0) : Type 1 where
  pub failed : (d : D) → (stood (view d)).failed ≡ (stands d).failed
  pub took : (d e : D) (a : Arrival) (x : Taken) → Kept d → Took (stands d) a x (stands e) → Kept e × Took (stood (view d)) a x (stood (view e))
  pub read : (d e : D) (r : Result (Option (List ℕ)) DeskFault) (P : Content → Option (List ℕ) → Type 0) → Kept d → ReadDone (stands d) (stands e) r P → Kept e × ReadDone (stood (view d)) (stood (view e)) r P
  pub looked : (d e : D) (moment : ℕ) (taken : Option Taken) → Kept d → Looked moment (stands d) taken (stands e) → Kept e × Looked moment (stood (view d)) taken (stood (view e))
  pub ran : (d e : D) (l : List Arrival) (ts : List Taken) → Kept d → Ran (stands d) l ts (stands e) → Ran (stood (view d)) l ts (stood (view e))

module _ {D T : Type 0} (stands : D → DeskState) (stood : T → DeskState) (view : D → T) (Kept : D → Type 0) (v : Views stands stood view Kept) where
  same_kept : (d e : D) → e ≡ d → Kept d → Kept e
  same_kept d e same k = subst Kept (sym same) k

  -- ---- lines

  line_seen : (d : D) (line : Line) (out : List ℕ) (e : D) → Kept d → Answers stands d line out e → Kept e × Answers stood (view d) line out (view e)
  line_seen d no_moment out e k h = (same_kept d e h.1 k, (h.0, ap view h.1))
  line_seen d too_long out e k h = (same_kept d e h.1 k, (h.0, ap view h.1))
  line_seen d (faulty member) out e k h = (same_kept d e h.1 k, (h.0, ap view h.1))
  line_seen d (arrival moment r) out e k h = let took = v.took d e _ h.0 k h.2 in (took.0, (h.0, h.1, took.1))

  read_seen : (d : D) (line : ReadingLine) (out : List ℕ) (e : D) → Kept d → ReadingAnswers stands d line out e → Kept e × ReadingAnswers stood (view d) line out (view e)
  read_seen d (plain line) out e k h = line_seen d line out e k h
  read_seen d (get moment (Err why)) out e k h = (same_kept d e h.1 k, (h.0, ap view h.1))
  read_seen d (get moment (Ok question)) out e k (inl none) = (same_kept d e none.1 k, inl (none.0, ap view none.1))
  read_seen d (get moment (Ok question)) out e k (inr said) = let read = v.read d e said.0 _ k said.2 in (read.0, inr (said.0, said.1, read.1))

  reads_seen : (d e : D) (pieces outs : List (List ℕ)) → Kept d → in_turn true stands d e pieces outs → Kept e × in_turn true stood (view d) (view e) pieces outs
  reads_seen d e pieces outs k h = answers_as reading_line_of (ReadingAnswers stands) (ReadingAnswers stood) view Kept read_seen d pieces outs e k h

  module _ (d e : D) (k : Kept d) where
    lines_seen : (P : List (List ℕ) → Type 0) (W : List ℕ → Type 0) → LinesAnswered P (in_turn true stands d e) W → LinesAnswered P (in_turn true stood (view d) (view e)) W
    lines_seen P W h = answered_so P (in_turn true stands d e) (in_turn true stood (view d) (view e)) W (λ pieces outs x. (reads_seen d e pieces outs k x).1) h

    kept_after : (P : List (List ℕ) → Type 0) (W : List ℕ → Type 0) → LinesAnswered P (in_turn true stands d e) W → Kept e
    kept_after P W h = (reads_seen d e h.taken h.answers k h.answered).0

    ended_seen : (io : Streams) (why : LinesFault) → EndedBy (in_turn true stands) io d e why → EndedBy (in_turn true stood) io (view d) (view e) why
    ended_seen io lines.Read h = lines_seen _ _ h
    ended_seen io lines.Write h = lines_seen _ _ h
    ended_seen io lines.NoMemory h = (h.0, ap view h.1)

    pub done_seen : (ends : Bool) (io : Streams) (r : Result (Unit {0}) LinesFault) → LinesDone stands (in_turn true stands) ends io d e r → Kept e × LinesDone stood (in_turn true stood) ends io (view d) (view e) r
    done_seen ends io (Ok u) h = (
      kept_after (FirstLines io.old_input) _ h.first,
      record { all = λ well. lines_seen _ _ (h.all (λ asked. sym (v.failed e) ∙ well asked)); first = lines_seen _ _ h.first; begun = tt; cause = tt },
    )
    done_seen ends io (Err why) h = (kept_after (FirstLines io.old_input) _ h.begun, record { all = tt; first = tt; begun = lines_seen _ _ h.begun; cause = ended_seen io why h.cause })

    pub lines_ended_seen : (ends : Bool) (io : Streams) (r : Result (Unit {0}) WorkFault) → LinesLeave stands (in_turn true stands) ends io r d e → Kept e × LinesLeave stood (in_turn true stood) ends io r (view d) (view e)
    lines_ended_seen ends io r h =
        let done = done_seen ends io h.ended h.lines in
        (done.0, record { ended = h.ended; lines = done.1; outcome = h.outcome ∙ ap (λ (b : Bool). command_result h.ended (ends && b)) (sym (v.failed e)) })

    pub whole_seen : (ends : Bool) (io : Streams) → Whole stands (in_turn true stands) ends io d e → Whole stood (in_turn true stood) ends io (view d) (view e)
    whole_seen ends io h = record { answered = lines_seen _ _ h.answered; well = λ asked. v.failed e ∙ h.well asked }

  -- ---- connections

  replied_seen : (d : D) (moment : ℕ) (asked : WebRequest) (out : List ℕ) (e : D) → Kept d → Replies stands moment d asked out e → Kept e × Replies stood moment (view d) asked out (view e)
  replied_seen d moment ask.Truncated out e k h = absurd h
  replied_seen d moment (ask.Refused why bodiless) out e k h = (same_kept d e h.1 k, (h.0, ap view h.1))
  replied_seen d moment (ask.Look question bodiless) out e k h = let read = v.read d e h.0 _ k h.2 in (read.0, (h.0, h.1, read.1))
  replied_seen d moment (ask.Arrival r) out e k h = let took = v.took d e _ h.0 k h.2 in (took.0, (h.0, h.1, took.1, v.ran d e _ _ k h.3))

  answered_seen : (d : D) (moment : ℕ) (asked : WebRequest) (out : List ℕ) (e : D) → Kept d → AnswersAsked stands moment d asked out e → Kept e × AnswersAsked stood moment (view d) asked out (view e)
  answered_seen d moment asked out e k (inl h) = let replied = replied_seen d moment asked out e k h in (replied.0, inl replied.1)
  answered_seen d moment asked out e k (inr h) = (same_kept d e h.2 k, inr (h.0, h.1, ap view h.2))

  visited_seen : (d e : D) → Kept d → Visited stands d e → Kept e × Visited stood (view d) (view e)
  visited_seen d e k h =
      let answered = answered_seen d h.moment h.asked h.reply e k h.answers in
      (answered.0, record { moment = h.moment; input = h.input; asked = h.asked; reply = h.reply; asks = h.asks; answers = answered.1 })

  one_seen : (d : D) (x : Outcome) (e : D) → Kept d → AnsweredOne stands d x e → Kept e × AnsweredOne stood (view d) x (view e)
  one_seen d (Ok u) e k h = visited_seen d e k h
  one_seen d (Err fault.Write) e k h = visited_seen d e k h
  one_seen d (Err fault.Truncated) e k h = (same_kept d e h k, ap view h)
  one_seen d (Err fault.Read) e k h = (same_kept d e h k, ap view h)
  one_seen d (Err fault.NoMemory) e k h = (same_kept d e h k, ap view h)

  look_seen : (d : D) (taken : Option Taken) (e : D) → Kept d → LookedAt stands taken d e → Kept e × LookedAt stood taken (view d) (view e)
  look_seen d taken e k h =
      let look = v.looked d e h.moment taken k h.looked in
      (look.0, record { moment = h.moment; working = v.failed d ∙ h.working; looked = look.1 })

  module _ (looks : Bool) where
    turn_seen : (d : D) (x : ServiceTurn) (e : D) → Kept d → Turned stands looks d x e → Kept e × Turned stood looks (view d) x (view e)
    turn_seen d (turn.answered x) e k h = one_seen d x e k h
    turn_seen d (turn.looked taken told) e k h = let look = look_seen d taken e k h.1 in (look.0, (h.0, look.1))

    turns_seen : (d : D) (xs : List ServiceTurn) (e : D) → Kept d → TurnedEach stands looks d xs e → Kept e × TurnedEach stood looks (view d) xs (view e)
    turns_seen d [] e k h = (same_kept d e h k, ap view h)
    turns_seen d (x ∷ xs) e k h =
        let one = turn_seen d x h.0 k h.1 in
        let rest = turns_seen h.0 xs e one.0 h.2 in
        (rest.0, (view h.0, one.1, rest.1))

    well_seen : (d : D) (xs : List ServiceTurn) (e : D) (k : Kept d) (h : TurnedEach stands looks d xs e) → TurnedWell stands looks d xs e h → TurnedWell stood looks (view d) xs (view e) (turns_seen d xs e k h).1
    unfolding turns_seen
    well_seen d [] e k h w = w
    well_seen d (x ∷ xs) e k h w = (v.failed d ∙ w.0, well_seen h.0 xs e (turn_seen d x h.0 k h.1).0 h.2 w.1)

  module _ (d e : D) (k : Kept d) where
    still_failed : (b : Bool) → (stands e).failed ≡ b → (stood (view e)).failed ≡ b
    still_failed b is = v.failed e ∙ is

    ends_seen : (span : Option ℕ) (many : ℕ) → EndsAt stands span many e → EndsAt stood span many (view e)
    ends_seen (Some most) many h = h
    ends_seen None many h = elim h [ inl failed ↦ inl (still_failed true failed) | inr most ↦ inr most ]

    taken_seen : (span : Span) (W : List ℕ → Type 0) → TurnsOf stands span d e W → Kept e × TurnsOf stood span (view d) (view e) W
    taken_seen span W h =
        let looks : Bool = is_some span.step in
        let each = turns_seen looks d h.1.turns e k h.1.turned in (
          each.0,
          (
            h.0,
            record { turns = h.1.turns; count = h.1.count; turned = each.1; well = λ is. well_seen looks d h.1.turns e k h.1.turned (h.1.well is); out = h.1.out },
            ends_seen span.connections h.0 h.2,
          ),
        )

    pub serve_seen : (span : Span) (old_errors new_errors : Option (List ℕ)) (address : Address) (old_output new_output : Option (List ℕ)) (r : Result (Unit {0}) WorkFault) → ServiceLeaves span old_errors new_errors address old_output new_output stands r d e
        → Kept e × ServiceLeaves span old_errors new_errors address old_output new_output stood r (view d) (view e)
    serve_seen span old_errors new_errors address old_output new_output r (inl h) =
        (same_kept d e h.0.same k, inl (record { why = h.0.why; ended = h.0.ended; same = ap view h.0.same; quiet = h.0.quiet }, h.1))
    serve_seen span old_errors new_errors address old_output new_output r (inr h) =
        let each = taken_seen span (Begins old_errors new_errors) h.0.taken in
        (each.0, inr (record { taken = each.1; ended = h.0.ended ∙ ap (λ (b : Bool). command_result (Ok tt) (ends_failed span.connections b)) (sym (v.failed e)) }, h.1))

  -- ---- lines up to the order, and then connections

  pub standby_seen : (d e : D) → Kept d → (to_do : OrderedService) (r : Result (Unit {0}) WorkFault) → StandbyLeaves stands to_do r d e → Kept e × StandbyLeaves stood to_do r (view d) (view e)
  standby_seen d e k to_do r (inl h) =
      (same_kept d e h.same k, inl (record { why = h.why; ended = h.ended; same = ap view h.same; quiet = h.quiet; unsaid = h.unsaid }))
  standby_seen d e k to_do r (inr (inl h)) =
      let done = done_seen d e k false to_do.io h.ended h.lines in
      (done.0, inr (inl (record { ended = h.ended; lines = done.1; outcome = h.outcome; quiet = h.quiet })))
  standby_seen d e k to_do r (inr (inr h)) =
      let mid = kept_after d h.between k to_do.IsOrdered (Appends to_do.io.old_output h.answered) h.lines in
      let served = serve_seen h.between e mid to_do.span to_do.old_errors to_do.new_errors to_do.address h.answered to_do.io.new_output r h.served in (
        served.0,
        inr (inr (record { between = view h.between; answered = h.answered; lines = lines_seen d h.between k to_do.IsOrdered (Appends to_do.io.old_output h.answered) h.lines; served = served.1 })),
      )

-- ---- over a new book in memory

abbrev pub new_view : Desk Content → Seen Content
new_view d = record { book = d.book; switch = switch_of d.working; failed = is_failed d.working }

pub new_views : Views (state_of in_memory) (seen unfailing) new_view (λ (d : Desk Content). Unit {0})
new_views = record { failed = λ d. refl; took = λ d e a x k h. (tt, h); read = λ d e r P k h. (tt, h); looked = λ d e moment taken k h. (tt, h); ran = λ d e l ts k h. h }

pub seen_new : (Did : Desk Content → Desk Content → Type 0) (DidSeen : (Seen Content → DeskState) → Seen Content → Seen Content → Type 0) → ((d e : Desk Content) → Did d e → DidSeen (seen unfailing) (new_view d) (new_view e)) → OverNewDesk Did → SeenNew DidSeen
seen_new Did DidSeen see h = record { first = new_view h.first; final = new_view h.final; opened = h.opened; did = see h.first h.final h.did }

-- ---- over the book of a database

module _ {S : Type 0} (store : Ghosts S) where
  abbrev OfBook : Type 0
  OfBook = Desk (BookView S)

  abbrev stands_in : OfBook → DeskState
  stands_in = state_of (in_database store)

  abbrev pub view : OfBook → Seen (InDatabase S)
  view d = record { book = record { conn = d.book.conn; failures = d.book.failures }; switch = switch_of d.working; failed = is_failed d.working }

  abbrev pub IsKept : Type 0 → BookState → OfBook → Type 0
  IsKept Clean began d = SoundBy began.is_sound (stands_in d).book × ((stands_in d).book.is_clean → Clean)

  kept_after_look : (Clean : Type 0) (began : BookState) (d e : OfBook) (moment : ℕ) (taken : Option Taken) → IsKept Clean began d → Looked moment (stands_in d) taken (stands_in e) → IsKept Clean began e
  kept_after_look Clean began d e moment None k h = still_clean began.is_sound Clean (stands_in d).book (stands_in e).book k h.read.step
  kept_after_look Clean began d e moment (Some x) k h = still_clean began.is_sound Clean (stands_in d).book (stands_in e).book k h.took.step

  pub views : (Clean : Type 0) (began : BookState) → Views stands_in (seen (left_of store began)) view (IsKept Clean began)
  views Clean began = record {
    failed = λ d. refl;
    took = λ d e a x k h. (still_clean began.is_sound Clean (stands_in d).book (stands_in e).book k h.step, took_called began.is_sound (stands_in d) (stands_in e) k.0 a x h);
    read = λ d e r P k h. (still_clean began.is_sound Clean (stands_in d).book (stands_in e).book k h.step, read_called began.is_sound (stands_in d) (stands_in e) k.0 r P h);
    looked = λ d e moment taken k h. (kept_after_look Clean began d e moment taken k h, looked_called began.is_sound (stands_in d) (stands_in e) k.0 moment taken h);
    ran = λ d e l ts k h. ran_called began.is_sound (stands_in d) (stands_in e) k.0 l ts h;
  }

  module _ (Did : OfBook → OfBook → Type 0) (DidSeen : (Seen (InDatabase S) → DeskState) → Seen (InDatabase S) → Seen (InDatabase S) → Type 0)
      (see : (Clean : Type 0) (began : BookState) (d e : OfBook) → IsKept Clean began d → Did d e → IsKept Clean began e × DidSeen (seen (left_of store began)) (view d) (view e)) where
    over_seen : (old : BookState) (taken last : BookView S) (d e : OfBook) (conn : Held S) → IsHeldBook old (book_seen store taken) → Opened (book_seen store taken) (stands_in d) → Did d e → last ≡ e.book → conn ≡ last.conn
        → (HasCleanDisk (state store conn) → (book_seen store taken).is_clean) × SeenOver store DidSeen old conn
    over_seen old taken last d e conn of opened did final back =
        let Clean : Type 0 = (book_seen store taken).is_clean in
        let k : IsKept Clean old d = ((λ clean sound. opened.step.sound clean (of.step.sound (opened.step.clean clean) sound)), λ clean. opened.step.clean clean) in
        let done = see Clean old d e k did in
        let same : conn ≡ e.book.conn = back ∙ ap (λ (b : BookView S). b.conn) final in (
          subst (λ (x : Held S). HasCleanDisk (state store x) → Clean) (sym same) done.0.1,
          record {
            first = view d;
            final = view e;
            opened = opened_of old (book_seen store taken) (stands_in d) of opened;
            did = done.1;
            opens = subst (λ (x : Held S). HasCleanDisk (state store x) → old.is_sound → LeavesBooks (state store x)) (sym same)
                (λ clean sound. leaves_books (state store e.book.conn) e.book.cache e.book.failures (done.0.0 clean sound));
            back = same;
          },
        )

    pub seen_in : (makes : Bool) (s : State) (conn : Held S) → OverDatabase store makes Did s conn → SeenIn store DidSeen makes s conn
    seen_in makes s conn h = elim h.of_old [
      | inl found ↦ let seen = over_seen (held s) h.taken h.last h.over.first h.over.final conn found.of_held h.over.opened h.over.did h.over.back h.back in inl ((λ clean. found.tables (seen.0 clean)), seen.1)
      | inr made ↦ inr (made.0, made.1, (over_seen (unmade s) h.taken h.last h.over.first h.over.final conn made.2 h.over.opened h.over.did h.over.back h.back).1)
    ]

  -- it was known that a new one may be made
  pub seen_made : (DidSeen : (Seen (InDatabase S) → DeskState) → Seen (InDatabase S) → Seen (InDatabase S) → Type 0) (is_new makes : Bool) (s : State) (conn : Held S) → (is_new ≡ true → makes ≡ true)
      → SeenIn store DidSeen is_new s conn → SeenIn store DidSeen makes s conn
  seen_made DidSeen is_new makes s conn may h = elim h [ inl found ↦ inl found | inr made ↦ inr (may made.0, made.1, made.2) ]

  module _ (Did Done : (Seen (InDatabase S) → DeskState) → Seen (InDatabase S) → Seen (InDatabase S) → Type 0) (follows : (stands : Seen (InDatabase S) → DeskState) (d e : Seen (InDatabase S)) → Did stands d e → Done stands d e) where
    over_so : (old : BookState) (conn : Held S) → SeenOver store Did old conn → SeenOver store Done old conn
    over_so old conn h = record { first = h.first; final = h.final; opened = h.opened; did = follows _ h.first h.final h.did; opens = h.opens; back = h.back }

    -- whatever follows from the work
    pub seen_so : (makes : Bool) (s : State) (conn : Held S) → SeenIn store Did makes s conn → SeenIn store Done makes s conn
    seen_so makes s conn h = elim h [ inl found ↦ inl (found.0, over_so (held s) conn found.1) | inr made ↦ inr (made.0, made.1, over_so (unmade s) conn made.2) ]
