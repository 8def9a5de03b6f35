-- The tick of the desk's clock, by the calls of which it is made.
use Rattle.std.proofs.Common.{◌≡◌, ℕ, ◌+◌, ◌^◌, ◌<◌, ◌≤◌, inl, inr, Bool, true, false, ◌&&◌, cond, List, [], ◌∷◌, ◌++◌, length, decimal, take, drop, Option, Some, None, Result, Ok, Err, MatchResult, refl, sym, ap, subst, ◌∙◌, true≢false, arith}
use Rattle.std.specs.Prelude.{nat_lt, nat_le, codes, ◌||◌, ◌==◌}
use Rattle.std.specs.List.{list_all}
use Rattle.std.specs.Char.{is_ascii_digit}
use Rattle.std.proofs.lemmas.Bool.{and_parts, and_from, or_right}
use Rattle.std.proofs.lemmas.List.{length-append, take_at}
use Rattle.std.proofs.lemmas.List.Folds.{list_all-append}
use Rattle.std.proofs.lemmas.Fmt.{decimal_is_IsNumeral, length-decimal-le}
use Rattle.std.proofs.lemmas.Slice.{take-put_mid}
use Rattle.acd_terms.specs.Forms.{is_requester_byte, read_text, IsRequester}
use Rattle.acd_terms.proofs.Identifiers.{all_digits}
use Rattle.acd_terms.proofs.ReadBack.{text_again}
use Rattle.acd_terms.specs.declared.name.NameFault.{NameFault}
use Rattle.acd_terms.specs.declared.rows.Rows.{Rows}
use Rattle.acd_terms.specs.declared.command.Arrival.{Arrival}
use Rattle.acd_model.specs.Rules.First.{BreaksNoRule}
use Rattle.acd_model.specs.Step.{executed_moment}
use Rattle.acd_laws.specs.Due.{is_due_by}
use Rattle.acd_laws.proofs.InTime.{tick_bounds_answers, tick_leaves_none}
use Rattle.acd_book.specs.declared.kept.Kept.{Kept}
use Rattle.acd_book.specs.Content.{Content, kept_of}
use Rattle.acd_book.specs.State.{BookState}
use Rattle.acd_book.proofs.BookSteps.{no_step}
use Rattle.acd_desk.specs.declared.fault.DeskFault.{DeskFault}
use Rattle.acd_desk.specs.declared.fault.DeskFault.TheVariants as fault
use Rattle.acd_desk.specs.declared.taken.Taken.{Taken}
use Rattle.acd_desk.specs.declared.taken.Taken.TheVariants.{DeskFull}
use Rattle.acd_desk.specs.declared.working.LoadedSwitch.{LoadedSwitch}
use Rattle.acd_desk.specs.declared.working.Working.{Working}
use Rattle.acd_desk.specs.declared.working.Working.TheVariants.{Loaded, Unloaded, Failed}
use Rattle.acd_desk.specs.Contents.AcceptedArrivals.{is_fault, is_reply}
use Rattle.acd_desk.specs.Contents.Arrivals.{arrival_at}
use Rattle.acd_desk.specs.Desks.Faults.{taken_by}
use Rattle.acd_desk.specs.Contents.AbstractDesk.{executed}
use Rattle.acd_desk.specs.Contents.Replies.{answer_of, answer_in, after}
use Rattle.acd_desk.specs.Contents.SoundContent.{IsNew}
use Rattle.acd_desk.specs.Desks.DeskState.{DeskState, InStep, Mirrors, switch_of, is_failed, holding}
use Rattle.acd_desk.specs.Desks.DeskCalls.{Took}
use Rattle.acd_desk.specs.Reads.BookReads.{Reread}
use Rattle.acd_desk.specs.Reads.DeskReads.{ReadFailed}
use Rattle.acd_desk.specs.Desks.Clock.{clock_requester, clock_tick, may_be_due, NoneDue, LeavesNone, Ticked}
use Rattle.acd_desk.specs.Desks.LoadedDesk.{Brought, BringsNone}
use Rattle.acd_desk.proofs.Desks.Calls.{after_reread}
use Rattle.acd_desk.proofs.Desks.CallsInTurn.{reply_no_fault}
use Rattle.acd_desk.proofs.Pages.ReadsDone.{read_rows, read_so, took_nothing}

-- the text of the clock's requester is one

digit_fits : (b : ℕ) → is_ascii_digit b ≡ true → is_requester_byte b ≡ true
digit_fits b e = ap (λ x. x || b == 45) (or_right (nat_le 97 b && nat_le b 122) (is_ascii_digit b) e)

digits_fit : (ds : List ℕ) → list_all is_ascii_digit ds ≡ true → list_all is_requester_byte ds ≡ true
digits_fit [] e = refl
digits_fit (d ∷ ds) e = let both = and_parts (is_ascii_digit d) (list_all is_ascii_digit ds) e in and_from (is_requester_byte d) (list_all is_requester_byte ds) (digit_fits d both.0) (digits_fit ds both.1)

pub clock_formed : (moment : ℕ) → moment < 2 ^ 32 → IsRequester (clock_requester moment)
clock_formed moment h =
    let numeral = decimal_is_IsNumeral moment (omega (arith, h)) in
    let short : length (decimal moment) ≤ 10 = length-decimal-le 10 moment (omega arith) (omega (arith, h)) (omega (arith, h)) in
    let size : length (clock_requester moment) ≡ 6 + length (decimal moment) = length-append (codes "clock-") (decimal moment) in
    record {
      some = omega (arith, size);
      short = omega (arith, size, short);
      all = list_all-append is_requester_byte (codes "clock-") (decimal moment) ∙ digits_fit (decimal moment) (all_digits (decimal moment) numeral.0.1);
    }

-- the two parts of the text, written one after the other
pub clock_written : (moment : ℕ) (cells head digits : List ℕ) (k end : ℕ) → head ≡ codes "clock-" → digits ≡ decimal moment → end ≡ 6 + length digits
    → take end (take 6 (head ++ drop 6 cells) ++ (digits ++ drop k (drop 6 (head ++ drop 6 cells)))) ≡ clock_requester moment
clock_written moment cells head digits k end first rest size =
    let six : length head ≡ 6 = ap length first in
    take-put_mid 6 k (head ++ drop 6 cells) digits end size (omega (arith, six, length-append head (drop 6 cells)))
    ∙ ap (λ l. l ++ digits) (take_at head (drop 6 cells) 6 six ∙ first) ∙ ap (λ l. codes "clock-" ++ l) rest

-- it is read as the requester
pub clock_read : (moment : ℕ) (text : List ℕ) (read : Result (List ℕ) NameFault) → moment < 2 ^ 32 → read ≡ read_text is_requester_byte 32 text → text ≡ clock_requester moment → read ≡ Ok (clock_requester moment)
clock_read moment text read h by is = by ∙ ap (read_text is_requester_byte 32) is ∙ text_again is_requester_byte 32 (clock_requester moment) (clock_formed moment h)

pub same_read : {A E : Type 0} {x y : A} → ◌≡◌ {A = Result A E} (Ok x) (Ok y) → x ≡ y
same_read h = cc

-- nothing was read
pub not_read : (s : DeskState) → Reread s s
not_read s = record {
  step = no_step s.book;
  unchanged = record { same = λ clean sound up. (up, refl); stops = λ clean sound c at. at };
  stays = λ clean sound up. up;
  same = λ clean sound. refl;
  in_step = λ clean sound step. step;
  failed = refl;
  loaded = λ gone. gone;
}

-- a switch that was in memory, by what the desk had there
pub still_brought : (b : BookState) (w : Working) (l : LoadedSwitch) → w ≡ Loaded l → BreaksNoRule l.switch.value
    → Brought (record { book = b; switch = switch_of w; failed = is_failed w }) (record { book = b; switch = switch_of w; failed = is_failed w })
still_brought b w l is rules = record {
  reread = not_read (record { book = b; switch = switch_of w; failed = is_failed w });
  works = ap is_failed is;
  rows = l.switch.value;
  loaded = ap switch_of is;
  rules = rules;
  kept = inr refl;
}

none_loaded : (w : Working) → ((l : LoadedSwitch) → w ≡ Loaded l → ⊥) → switch_of w ≡ None
none_loaded (Loaded l) none = absurd (none l refl)
none_loaded Unloaded none = refl
none_loaded Failed none = refl

-- one that was loaded
pub now_brought : (b : BookState) (w : Working) (new : DeskState) (rows : Rows) → ((l : LoadedSwitch) → w ≡ Loaded l → ⊥) → BreaksNoRule rows
    → Reread (record { book = b; switch = switch_of w; failed = is_failed w }) (holding new rows)
    → Brought (record { book = b; switch = switch_of w; failed = is_failed w }) (holding new rows)
now_brought b w new rows none rules reread = record { reread = reread; works = refl; rows = rows; loaded = refl; rules = rules; kept = inl (none_loaded w none) }

-- one that couldn't be loaded
pub none_brought : (b : BookState) (w : Working) (new : DeskState) (f : DeskFault) (r : Result (Unit {0}) DeskFault) → ((l : LoadedSwitch) → w ≡ Loaded l → ⊥) → ReadFailed (record { book = b; switch = switch_of w; failed = is_failed w }) f new → r ≡ Err f
    → MatchResult r (λ u. Brought (record { book = b; switch = switch_of w; failed = is_failed w }) new) (λ (fault : DeskFault). BringsNone (record { book = b; switch = switch_of w; failed = is_failed w }) fault new)
none_brought b w new f r none failed is =
    subst (λ (x : Result (Unit {0}) DeskFault). MatchResult x (λ u. Brought (record { book = b; switch = switch_of w; failed = is_failed w }) new)
    (λ (fault : DeskFault). BringsNone (record { book = b; switch = switch_of w; failed = is_failed w }) fault new)) (sym is) (none_loaded w none, failed)

-- of a switch in memory
due_rows : (o : Option Rows) (s : Rows) (moment : ℕ) (b : Bool) → o ≡ Some s → may_be_due o moment ≡ b → is_due_by s moment ≡ b
due_rows o s moment b is due = sym (ap (λ (x : Option Rows). may_be_due x moment) is) ∙ due

pub none_due : (moment : ℕ) (old new : DeskState) → Brought old new → may_be_due new.switch moment ≡ false → NoneDue moment old new
none_due moment old new b due = record {
  look = due;
  read = read_so old new tt false (λ (c : Content) (u : Unit {0}). c.rows ≡ b.rows) (λ (c : Content) (found : Bool). found ≡ is_due_by c.rows moment)
      (λ c same. sym (ap (λ (s : Rows). is_due_by s moment) same ∙ due_rows new.switch b.rows moment false b.loaded due))
      (read_rows old new b.rows b.reread b.loaded b.works);
}

-- a new key that got a reply was executed
was_executed : (c : Content) (a : Arrival) (t : Taken) → IsNew c a.request → t ≡ answer_in (after c a) a.request → is_reply t ≡ true → after c a ≡ executed c a
was_executed c a t new said replied = by (nat_lt c.rows.last_stamp c.rows.limits.requests) (is_after new)
  where
    is_after : kept_of c.kept a.request.requester a.request.invoke ≡ None → after c a ≡ cond (nat_lt c.rows.last_stamp c.rows.limits.requests) (executed c a) c
    is_after e = rw e refl

    by : (b : Bool) → after c a ≡ cond b (executed c a) c → after c a ≡ executed c a
    by true e = e
    by false e = absurd (none (said ∙ ap (λ (x : Content). answer_in x a.request) e ∙ ap (λ (k : Option Kept). answer_of k a.request) new))
      where
        none : t ≡ DeskFull → ⊥
        none full = true≢false (sym replied ∙ ap is_reply full)

leaves_none : (c d : Content) (moment : ℕ) → BreaksNoRule c.rows → d ≡ executed c (arrival_at moment (clock_tick moment)) → LeavesNone (executed_moment c.rows moment) d.rows
leaves_none c d moment rules is =
    subst (λ (x : Content). LeavesNone (executed_moment c.rows moment) x.rows) (sym is)
    (record { due = tick_leaves_none c.rows moment rules; bounds = λ more. tick_bounds_answers c.rows moment more rules })

pub ticked : (moment : ℕ) (old mid new : DeskState) (t : Taken) → Brought old mid → may_be_due mid.switch moment ≡ true → Took mid (arrival_at moment (clock_tick moment)) t new → Ticked moment old t new
ticked moment old mid new t b due took =
    let a : Arrival = arrival_at moment (clock_tick moment) in
    let before : new.book.is_clean → mid.book.is_clean = took.step.clean in
    let sound_then : new.book.is_clean → old.book.is_sound → mid.book.is_sound = λ clean. b.reread.step.sound (before clean) in
    let same : new.book.is_clean → old.book.is_sound → mid.book.content ≡ old.book.content = λ clean. b.reread.same (before clean) in
    let in_step : new.book.is_clean → old.book.is_sound → InStep old → InStep mid = λ clean. b.reread.in_step (before clean) in
    let rows : is_fault t ≡ false → new.book.is_clean → old.book.is_sound → InStep old → mid.book.content.rows ≡ b.rows = λ fine clean sound step.
    subst (λ (o : Option Rows). Mirrors o mid.book.content.rows) b.loaded (in_step clean sound step (took.up fine clean (sound_then clean sound)).0 b.works).0 in
    record {
      took = after_reread old mid new a t b.reread took;
      look = elim b.kept [
        | inl none ↦ ap (λ (o : Option Rows). may_be_due o moment) none
        | inr kept ↦ ap (λ (o : Option Rows). may_be_due o moment) kept ∙ due
      ];
      due = λ fine clean sound step.
          ap (λ (c : Content). is_due_by c.rows moment) (sym (same clean sound)) ∙ ap (λ (s : Rows). is_due_by s moment) (rows fine clean sound step) ∙ due_rows mid.switch b.rows moment true b.loaded due;
      leaves = λ replied clean sound step is_new.
          let fine = reply_no_fault t replied in
          let is = same clean sound in
          let said = took.sent fine clean (sound_then clean sound) (in_step clean sound step) in
          let done : after mid.book.content a ≡ executed mid.book.content a = was_executed mid.book.content a t (subst (λ (c : Content). IsNew c a.request) (sym is) is_new) said.0 replied in
          let rules : BreaksNoRule mid.book.content.rows = subst BreaksNoRule (sym (rows fine clean sound step)) b.rules in
          subst (λ (c : Content). LeavesNone (executed_moment c.rows moment) new.book.content.rows) is
          (leaves_none mid.book.content new.book.content moment rules (said.1 ∙ done));
    }

no_answer : (f : DeskFault) → (is_fault (taken_by f) ≡ true) × (is_reply (taken_by f) ≡ false)
no_answer fault.NoMemory = (refl, refl)
no_answer fault.StoreFault = (refl, refl)

-- the switch couldn't be loaded
pub not_ticked : (moment : ℕ) (old new : DeskState) (f : DeskFault) → BringsNone old f new → Ticked moment old (taken_by f) new
not_ticked moment old new f b = record {
  took = took_nothing old new (arrival_at moment (clock_tick moment)) f b.1;
  look = ap (λ (o : Option Rows). may_be_due o moment) b.0;
  due = λ fine. absurd (true≢false (sym (no_answer f).0 ∙ fine));
  leaves = λ replied. absurd (true≢false (sym replied ∙ (no_answer f).1));
}
