-- Reads of a book, one after the other.
use Rattle.std.proofs.Common.{◌≡◌, ℕ, Result, Ok, Err, ap, sym, subst}
use Rattle.std.proofs.lemmas.Result.{IfOk-weaker, on_ok_weaker}
use Rattle.acd_book.specs.Content.{Content, HasRisen}
use Rattle.acd_book.specs.State.{BookState, IfHonest, Reads}
use Rattle.acd_book.specs.declared.fault.BookFault.{BookFault}
use Rattle.acd_book.proofs.BookSteps.{step_so, step_then, unchanged_then, keeps_then}
use Rattle.acd_terms.proofs.Results.{ok_err, same_error}

-- what a read finds in a content
abbrev pub Finding : Type 0 → Type 1
Finding A = Content → A → Type 0

-- what two reads found says the more of the second
abbrev pub Together : {A C : Type 0} → Finding A → A → Finding C → Finding C → Type 0
Together {A} {C} P x Q R = (c : Content) → P c x → (y : C) → Q c y → R c y

-- what two reads found says the last
abbrev pub BothSay : {A C D : Type 0} → Finding A → A → Finding C → C → Finding D → D → Type 0
BothSay {A} {C} {D} P x Q y R z = (c : Content) → P c x → Q c y → R c z

-- another answer follows from what was read
pub then_ok : {A C : Type 0} {P : Finding A} (Q : Finding C) (a b : BookState) (x : A) (y : C) → Reads a b (Ok x) P
    → ((c : Content) → P c x → Q c y) → Reads a b (Ok y) Q
then_ok Q a b x y r follows = record {
  step = step_so r.step (λ is. absurd (ok_err is));
  unchanged = r.unchanged;
  value = λ clean sound. let holds = r.value clean sound in (holds.0, follows a.content holds.1);
  stays = r.stays;
  keeps = r.keeps;
  cause = λ is. absurd (ok_err is);
}

-- a read after a read
pub then_read : {A C : Type 0} {P : Finding A} {Q : Finding C} (R : Finding C) (a b d : BookState) (x : A)
    (r : Result C BookFault)
    → Reads a b (Ok x) P → Reads b d r Q → Together P x Q R → Reads a d r R
then_read {A = A} {C = C} {Q = Q} R a b d x r one two follows = record {
  step = step_then one.step two.step (λ is. absurd (ok_err is)) (λ is. is);
  unchanged = unchanged_then one.step two.step one.unchanged two.unchanged;
  value = λ clean sound.
      let before = two.step.clean clean in
      let first = one.value before sound in
      let same : b.content ≡ a.content = (one.unchanged.same before sound (one.stays before sound)).1 in
      IfOk-weaker r (λ (y : C). b.is_open × Q b.content y) (λ (y : C). a.is_open × R a.content y)
      (λ y next. (first.0, follows a.content first.1 y (subst (λ (c : Content). Q c y) same next.1))) (two.value clean (one.step.sound before sound));
  stays =
      on_ok_weaker r (λ (up : IfHonest b d d.is_open). λ (clean : d.is_clean) (sound : a.is_sound). up clean (one.step.sound (two.step.clean clean) sound))
      two.stays;
  keeps = keeps_then one.step two.step two.unchanged one.keeps two.keeps;
  cause = λ is. subst (λ (k : ℕ). HasRisen k d.failures) (one.step.quiet (λ is. ok_err is)) (two.cause is);
}

-- a fault says as little of one thing as of another
fault_alone : {A C : Type 0} {P : Finding A} (Q : Finding C) (a b : BookState) (f : BookFault) → Reads {A = A} a b (Err f) P
    → Reads {A = C} a b (Err f) Q
fault_alone Q a b f r = record {
  step = step_so r.step (λ is. ap Err (same_error is));
  unchanged = r.unchanged;
  value = λ clean sound. tt;
  stays = tt;
  keeps = r.keeps;
  cause = λ is. r.cause (ap Err (same_error is));
}

-- a read that fails after a read
pub then_fault : {A C D : Type 0} {P : Finding A} {Q : Finding C} (R : Finding D) (a b d : BookState) (x : A) (f : BookFault)
    (r : Result D BookFault)
    → Reads a b (Ok x) P → Reads {A = C} b d (Err f) Q → r ≡ Err f → Reads a d r R
then_fault {D = D} {Q = Q} R a b d x f r one two is =
    subst (λ (r : Result D BookFault). Reads a d r R) (sym is) (fault_alone R a d f (then_read Q a b d x (Err f) one two (λ c p y q. q)))

-- two reads give what follows from both
pub then_read_ok : {A C D : Type 0} {P : Finding A} {Q : Finding C} (R : Finding D) (a b d : BookState) (x : A) (y : C) (z : D)
    → Reads a b (Ok x) P → Reads b d (Ok y) Q → BothSay P x Q y R z → Reads a d (Ok z) R
then_read_ok {C = C} {P = P} {Q = Q} R a b d x y z one two follows =
    then_ok R a d y z (then_read (λ (c : Content) (found : C). P c x × Q c found) a b d x (Ok y) one two (λ c p found q. (p, q)))
    (λ c both. follows c both.0 both.1)
