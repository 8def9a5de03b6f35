-- Reads of a book, one after another, of which nothing is said; and whether a cut is a place.
use Rattle.std.proofs.Common.{◌≡◌, ◌≤◌, ℕ, Bool, true, false, Result, Ok, Err, sym, subst, ◌∙◌, true≢false}
use Rattle.std.specs.Bool.{Decides}
use Rattle.acd_terms.specs.declared.rows.Rows.{Rows}
use Rattle.acd_book.specs.Content.{Content}
use Rattle.acd_book.specs.State.{BookState, Reads}
use Rattle.acd_book.specs.declared.fault.BookFault.{BookFault}
use Rattle.acd_desk.specs.Audits.AuditWith.{StandsInTime}
use Rattle.acd_book.specs.BookReads.{Anything, ReadsIfOpen}
use Rattle.acd_desk.specs.Audits.Overlap.{IsCleanCut}
use Rattle.acd_book.proofs.ReadsAhead.{by_read, known, read_nothing, read_ok, read_twice}
use Rattle.acd_sessions.specs.Over.{OnlyAsked}
use Rattle.acd_program.specs.Archives.Pruning.{DecidesPlace, WasLeft}
use Rattle.acd_program.specs.Commands.Work.{WasAsked}

-- ---- reads, one after another ----

pub left_alone : (a : BookState) → WasLeft a a
left_alone a = known {C = Unit {0}} Anything a tt (λ c. tt)

pub left_if : {A : Type 0} {P : Content → A → Type 0} (a b : BookState) (x : A) → ReadsIfOpen a b (Ok x) P → WasLeft a b
left_if {A = A} a b x read = read_ok {A = A} {C = Unit {0}} Anything a b x tt read (λ c h. tt)

pub left_by : {A : Type 0} {P : Content → A → Type 0} (a b : BookState) (x : A) → Reads a b (Ok x) P → WasLeft a b
left_by {A = A} a b x read = left_if {A = A} a b x (by_read {A = A} Anything a b (Ok x) read (λ c y h. tt))

pub left_twice : (a b d : BookState) → WasLeft a b → WasLeft b d → WasLeft a d
left_twice a b d one two = read_twice {A = Unit {0}} {C = Unit {0}} Anything a b d tt (Ok tt) one two (λ c h y k. tt)

-- whatever was read, a reopening finds nothing new
pub only_if : {A : Type 0} {P : Content → A → Type 0} (a b : BookState) (r : Result A BookFault) → ReadsIfOpen a b r P → OnlyAsked a b
only_if a b r read = record { clean = read.step.clean; sound = read.step.sound; stops = read.unchanged.stops }

pub only_by : {A : Type 0} {P : Content → A → Type 0} (a b : BookState) (r : Result A BookFault) → Reads a b r P → OnlyAsked a b
only_by a b r read = record { clean = read.step.clean; sound = read.step.sound; stops = read.unchanged.stops }

pub only_then : (a b d : BookState) → OnlyAsked a b → OnlyAsked b d → OnlyAsked a d
only_then a b d one two = record {
  clean = λ clean. one.clean (two.clean clean);
  sound = λ clean sound. two.sound clean (one.sound (two.clean clean) sound);
  stops = λ clean sound c at. one.stops (two.clean clean) sound c (two.stops clean (one.sound (two.clean clean) sound) c at);
}

pub only_was : {A : Type 0} (a b : BookState) (x : A) (P : Content → A → Type 0) → WasAsked a P x b → OnlyAsked a b
only_was a b x P asked = record { clean = asked.step.clean; sound = asked.step.sound; stops = asked.stops }

-- reads of which nothing is said, one after another
pub read_with : {A C : Type 0} (a b d : BookState) (x : A) (r : Result C BookFault) → ReadsIfOpen {A = A} a b (Ok x) Anything → ReadsIfOpen {A = C} b d r Anything → ReadsIfOpen {A = C} a d r Anything
read_with {A = A} {C = C} a b d x r one two = read_twice {A = A} {C = C} Anything a b d x r one two (λ c h v k. tt)

module _ {A B C : Type 0} (a b d : BookState) (x : A) where
  pub read_on : (y : B) (z : C) → ReadsIfOpen {A = A} a b (Ok x) Anything → ReadsIfOpen {A = B} b d (Ok y) Anything → ReadsIfOpen {A = C} a d (Ok z) Anything
  read_on y z one two = read_ok {A = B} {C = C} Anything a d y z (read_twice {A = A} {C = B} Anything a b d x (Ok y) one two (λ c h v k. tt)) (λ c h. tt)

  pub fault_on : (f : BookFault) (r : Result C BookFault) → ReadsIfOpen {A = A} a b (Ok x) Anything → ReadsIfOpen {A = B} b d (Err f) Anything → r ≡ Err f → ReadsIfOpen {A = C} a d r Anything
  fault_on f r one two is = read_nothing {A = B} {C = C} Anything a d f r (read_twice {A = A} {C = B} Anything a b d x (Err f) one two (λ c h v k. tt)) is

pub fault_first : {A C : Type 0} (a b : BookState) (f : BookFault) (r : Result C BookFault) → ReadsIfOpen {A = A} a b (Err f) Anything → r ≡ Err f → ReadsIfOpen {A = C} a b r Anything
fault_first {A = A} {C = C} a b f r read is = read_nothing {A = A} {C = C} Anything a b f r read is

-- a read of an open book
pub read_any : {A C : Type 0} {P : Content → A → Type 0} (a b : BookState) (x : A) (y : C) → Reads a b (Ok x) P → ReadsIfOpen {A = C} a b (Ok y) Anything
read_any {A = A} {C = C} a b x y read = read_ok {A = A} {C = C} Anything a b x y (by_read {A = A} Anything a b (Ok x) read (λ c z h. tt)) (λ c h. tt)

pub read_so : {A C : Type 0} (a b : BookState) (x : A) (y : C) → ReadsIfOpen {A = A} a b (Ok x) Anything → ReadsIfOpen {A = C} a b (Ok y) Anything
read_so {A = A} {C = C} a b x y read = read_ok {A = A} {C = C} Anything a b x y read (λ c h. tt)

pub fault_any : {A C : Type 0} {P : Content → A → Type 0} (a b : BookState) (f : BookFault) (r : Result C BookFault) → Reads {A = A} a b (Err f) P → r ≡ Err f → ReadsIfOpen {A = C} a b r Anything
fault_any {A = A} {C = C} a b f r read is = read_nothing {A = A} {C = C} Anything a b f r (by_read {A = A} Anything a b (Err f) read (λ c z h. tt)) is

-- ---- whether it is a place ----

pub place_decided : (a : Content) (rows : Rows) (stamp number : ℕ) (b : Bool) → rows ≡ a.rows → (stamp ≤ rows.last_stamp) × (number ≤ rows.last_event)
    → (StandsInTime a → number ≤ a.rows.last_event → Decides b (IsCleanCut a stamp number)) → DecidesPlace stamp number a b
place_decided a rows stamp number b is within decides stands =
    let here : (stamp ≤ a.rows.last_stamp) × (number ≤ a.rows.last_event) = subst (λ (r : Rows). (stamp ≤ r.last_stamp) × (number ≤ r.last_event)) is within in
    (λ holds. record { records = here.0; events = here.1; clean = (decides stands here.1).0 holds }, λ place. (decides stands here.1).1 place.clean)

pub no_place : (a : Content) (rows : Rows) (stamp number : ℕ) (b : Bool) → b ≡ false → Decides b ((stamp ≤ rows.last_stamp) × (number ≤ rows.last_event)) → rows ≡ a.rows → DecidesPlace stamp number a false
no_place a rows stamp number b out within is stands = (
  λ holds. absurd (true≢false (sym holds)),
  λ place. absurd (true≢false (sym (within.1 (subst (λ (r : Rows). (stamp ≤ r.last_stamp) × (number ≤ r.last_event)) (sym is) (place.records, place.events))) ∙ out)),
)
