-- The same answers, of which less is said.
use Rattle.std.proofs.Common.{ℕ, List, length, Option, sym, ◌∙◌, arith}
use Rattle.std.proofs.lemmas.List.{take_all}
use Rattle.std.specs.List.{concat}
use Rattle.acd_terms.specs.declared.command.Request.{Request}
use Rattle.acd_terms.specs.declared.command.Arrival.{Arrival}
use Rattle.acd_desk.specs.declared.taken.Taken.{Taken}
use Rattle.acd_lines.specs.Input.{cut}
use Rattle.acd_lines.specs.Lines.{LinesAnswered, AllLines, FirstLines, ArrivalsAnswered, RequestsAnswered}

-- of how much was answered
pub picked_so : {A : Type 0} (P Q : List A → Type 0) (R : List A → List (List ℕ) → Type 0) (W : List ℕ → Type 0) → ((l : List A) → P l → Q l) → LinesAnswered P R W → LinesAnswered Q R W
picked_so P Q R W f h = record { taken = h.taken; answers = h.answers; picked = f h.taken h.picked; answered = h.answered; out = h.out }

-- of how it was answered
pub answered_so : {A : Type 0} (P : List A → Type 0) (R S : List A → List (List ℕ) → Type 0) (W : List ℕ → Type 0) → ((l : List A) (outs : List (List ℕ)) → R l outs → S l outs) → LinesAnswered P R W → LinesAnswered P S W
answered_so P R S W f h = record { taken = h.taken; answers = h.answers; picked = h.picked; answered = f h.taken h.answers h.answered; out = h.out }

-- of how the answers were written
pub out_so : {A : Type 0} (P : List A → Type 0) (R : List A → List (List ℕ) → Type 0) (V W : List ℕ → Type 0) → ((text : List ℕ) → V text → W text) → LinesAnswered P R V → LinesAnswered P R W
out_so P R V W f h = record { taken = h.taken; answers = h.answers; picked = h.picked; answered = h.answered; out = f (concat h.answers) h.out }

-- of the arrivals and their answers
pub arrivals_so : (P : List (List ℕ) → Type 0) (Said So : List Arrival → List Taken → Type 0) (W : List ℕ → Type 0) → ((l : List Arrival) (ts : List Taken) → Said l ts → So l ts)
    → LinesAnswered P (ArrivalsAnswered Said) W → LinesAnswered P (ArrivalsAnswered So) W
arrivals_so P Said So W f h = answered_so P (ArrivalsAnswered Said) (ArrivalsAnswered So) W (λ l outs x. (x.0, x.1, f _ x.0 x.2)) h

pub requests_so : (P : List Request → Type 0) (Said So : List Arrival → List Taken → Type 0) (W : List ℕ → Type 0) → ((l : List Arrival) (ts : List Taken) → Said l ts → So l ts)
    → LinesAnswered P (RequestsAnswered Said) W → LinesAnswered P (RequestsAnswered So) W
requests_so P Said So W f h = answered_so P (RequestsAnswered Said) (RequestsAnswered So) W (λ l outs x. (x.0, x.1, f _ x.0 x.2)) h

-- all lines are the first ones
pub all_are_first : (old_input : Option (List ℕ)) (lines : List (List ℕ)) → AllLines old_input lines → FirstLines old_input lines
all_are_first old_input lines h = (h.0, length (cut h.0), h.1, h.2 ∙ sym (take_all (length (cut h.0)) (cut h.0) (omega arith)))
