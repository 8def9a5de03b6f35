-- A new desk's answers, by what its run leaves.
use Rattle.std.proofs.Common.{◌≡◌, ℕ, List, [], Option, Some, None, refl, sym, subst, ◌∙◌, inl, inr, true≢false, arith}
use Rattle.std.proofs.KnownBytes.{Appends-nil}
use Rattle.acd_terms.specs.Limits.{greatest_limits, limits_fit}
use Rattle.acd_terms.specs.declared.command.Arrival.{Arrival}
use Rattle.acd_book.specs.Content.{Content, HasRisen}
use Rattle.acd_book.specs.State.{BookState}
use Rattle.acd_desk.specs.declared.taken.Taken.{Taken}
use Rattle.acd_desk.specs.Contents.AcceptedArrivals.{accepted, answers_sent}
use Rattle.acd_desk.specs.Contents.SoundContent.{IsSound, replies}
use Rattle.acd_desk.specs.Contents.CarriedContent.{no_archive}
use Rattle.acd_desk.specs.Desks.DeskState.{DeskState, state_of}
use Rattle.acd_desk.specs.declared.desk.Desk.{Desk}
use Rattle.acd_desk.specs.Desks.Opening.{Opened, Refused}
use Rattle.acd_desk.specs.declared.open_fault.OpenFault.TheVariants.{Rows}
use Rattle.acd_terms.specs.declared.rows.Rule.{Rule}
use Rattle.acd_desk.specs.Desks.DeskCalls.{Ran}
use Rattle.acd_desk.proofs.Contents.ContentLaws.{empty_sound}
use Rattle.acd_io.specs.Streams.{IsInput}
use Rattle.acd_sessions.specs.MemoryAnswers.{nothing, in_memory, IsNewDesk, AnsweredFromNothing}
use Rattle.acd_lines.specs.Lines.{LinesAnswered, FirstLines, ArrivalsAnswered}
use Rattle.acd_io.specs.SentBytes.{Begins}
use Rattle.acd_lines.proofs.WeakerAnswers.{arrivals_so}

pub new_over : (old : BookState) (new : DeskState) → new.book.is_clean → old.is_sound → old.content ≡ nothing → Opened old new → IsNewDesk new
unfolding limits_fit
new_over old new clean sound e o = record {
  starts = o.starts no_archive clean sound (subst IsSound (sym e) (empty_sound greatest_limits refl));
  works = o.working;
  empty = (o.opened clean sound).2 ∙ e;
}

-- no rule is broken by a new book's rows
pub new_refused : (old new : BookState) (rule : Rule) → new.is_clean → old.is_sound → old.content ≡ nothing → Refused old (Rows rule) new → ⊥
unfolding limits_fit
new_refused old new rule clean sound e r = r.well no_archive clean sound (subst IsSound (sym e) (empty_sound greatest_limits refl))

-- the book of the desk is clean after the run, and has counted no failure
pub record IsQuiet (old new : DeskState) : Type 0 where
  pub clean : new.book.is_clean
  pub quiet : ¬ (HasRisen old.book.failures new.book.failures)

pub in_memory_quiet : (old new : Desk Content) → IsQuiet (state_of in_memory old) (state_of in_memory new)
in_memory_quiet old new = record {
  clean = tt;
  quiet = λ risen. elim risen [
    | inl more ↦ omega (arith, more)
    | inr full ↦ omega (arith, full)
  ];
}

from_nothing : (old new : DeskState) → IsNewDesk old → IsQuiet old new → (arrivals : List Arrival) (answers : List Taken) → Ran old arrivals answers new → AnsweredFromNothing arrivals answers
from_nothing old new first quiet arrivals answers ran = record {
  even = ran.even;
  replies = subst (λ (c : Content). answers_sent answers ≡ replies c (accepted arrivals answers)) first.empty (ran.replies quiet.clean first.starts);
  no_fault = λ found. elim (ran.desk.cause (ran.desk.shuts found)) [
    | inl cause ↦ elim cause [
      | inl failed ↦ absurd (true≢false (sym failed ∙ first.works))
      | inr risen ↦ quiet.quiet risen
    ]
    | inr deceived ↦ absurd (deceived.1 (quiet.clean, first.starts.0, first.starts.2))
  ];
}

-- lines over a new desk
pub lines_from_nothing : (P : List (List ℕ) → Type 0) (W : List ℕ → Type 0) (old new : DeskState) → IsNewDesk old → IsQuiet old new → LinesAnswered P (ArrivalsAnswered (λ (l : List Arrival) (ts : List Taken). Ran old l ts new)) W
    → LinesAnswered P (ArrivalsAnswered AnsweredFromNothing) W
lines_from_nothing P W old new first quiet h =
    arrivals_so P (λ (l : List Arrival) (ts : List Taken). Ran old l ts new) AnsweredFromNothing W (λ l ts ran. from_nothing old new first quiet l ts ran) h

-- no line was answered
none_from_nothing : AnsweredFromNothing [] []
none_from_nothing = record { even = refl; replies = refl; no_fault = λ found. omega (arith, found.1) }

abbrev some_input : Option (List ℕ) → List ℕ
some_input (Some input) = input
some_input None = []

is_some_input : (old_input : Option (List ℕ)) → IsInput old_input (some_input old_input)
is_some_input (Some input) = refl
is_some_input None = search

pub answers_none : (old_input old_output : Option (List ℕ)) → LinesAnswered (FirstLines old_input) (ArrivalsAnswered AnsweredFromNothing) (Begins old_output old_output)
answers_none old_input old_output = record {
  taken = [];
  answers = [];
  picked = (some_input old_input, 0, is_some_input old_input, refl);
  answered = ([], search, none_from_nothing);
  out = record { front = []; rest = []; whole = refl; written = Appends-nil old_output };
}
