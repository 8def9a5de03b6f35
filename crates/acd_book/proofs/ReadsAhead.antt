-- Reads of a book where earlier reads may give the answer.
use Rattle.std.proofs.Common.{◌≡◌, ◌↔◌, ℕ, Result, Ok, Err, IfOk, OnOk, IsErrOf, refl, ap, sym, subst}
use Rattle.std.proofs.lemmas.Result.{IfOk-weaker, on_ok_weaker}
use Rattle.acd_book.specs.Content.{Content, HasRisen}
use Rattle.acd_book.specs.State.{BookState, IfHonest, Reads}
use Rattle.acd_book.specs.declared.fault.BookFault.{BookFault}
use Rattle.acd_book.specs.declared.fault.BookFault.TheVariants.{NoMemory, Store}
use Rattle.acd_book.proofs.ReadsInTurn.{Finding, Together}
use Rattle.acd_book.proofs.BookSteps.{no_step, none_changed, step_so, step_then, unchanged_then, keeps_then}
use Rattle.acd_book.specs.BookReads.{ReadsIfOpen}
use Rattle.acd_terms.proofs.Results.{ok_err, same_error}

no_store : {A : Type 0} → ◌≡◌ {A = Result A BookFault} (Err NoMemory) (Err Store) → ⊥
no_store h = cc

-- it is known, and nothing is read
pub known : {C : Type 0} (Q : Finding C) (a : BookState) (y : C) → ((c : Content) → Q c y) → ReadsIfOpen a a (Ok y) Q
known Q a y follows = record {
  step = no_step a;
  unchanged = none_changed a;
  value = λ clean sound opened. follows a.content;
  stays = λ clean sound opened. opened;
  keeps = λ clean sound opened c at. at;
  cause = λ is. absurd (ok_err is);
}

-- it is read
pub by_read : {A : Type 0} {P : Finding A} (Q : Finding A) (a b : BookState) (r : Result A BookFault) → Reads a b r P
    → ((c : Content) (x : A) → P c x → Q c x) → ReadsIfOpen a b r Q
by_read {A = A} {P = P} Q a b r read follows = record {
  step = read.step;
  unchanged = read.unchanged;
  value =
      λ clean sound opened. IfOk-weaker r (λ (x : A). a.is_open × P a.content x) (Q a.content) (λ x holds. follows a.content x holds.1)
      (read.value clean sound);
  stays = on_ok_weaker r (λ (up : IfHonest a b b.is_open). λ (clean : b.is_clean) (sound : a.is_sound) (opened : a.is_open). up clean sound) read.stays;
  keeps = read.keeps;
  cause = read.cause;
}

-- another answer, which is a fault of the store where this one is
read_as : {A C : Type 0} {P : Finding A} (Q : Finding C) (a b : BookState) (r : Result A BookFault) (q : Result C BookFault)
    → ReadsIfOpen a b r P
    → (IsErrOf r Store ↔ IsErrOf q Store) → IfHonest a b (a.is_open → IfOk q (Q a.content))
    → OnOk q (IfHonest a b (a.is_open → b.is_open)) → ReadsIfOpen a b q Q
read_as Q a b r q read same value stays =
    record { step = step_so read.step same.0; unchanged = read.unchanged; value = value; stays = stays; keeps = read.keeps; cause = λ is. read.cause (same.1 is) }

-- another answer follows from what was read
pub read_ok : {A C : Type 0} {P : Finding A} (Q : Finding C) (a b : BookState) (x : A) (y : C) → ReadsIfOpen a b (Ok x) P
    → ((c : Content) → P c x → Q c y) → ReadsIfOpen a b (Ok y) Q
read_ok Q a b x y r follows =
    read_as Q a b (Ok x) (Ok y) r (λ is. absurd (ok_err is), λ is. absurd (ok_err is)) (λ clean sound opened. follows a.content (r.value clean sound opened))
    r.stays

-- a fault says as little of one thing as of another
pub read_nothing : {A C : Type 0} {P : Finding A} (Q : Finding C) (a b : BookState) (f : BookFault) (r : Result C BookFault)
    → ReadsIfOpen {A = A} a b (Err f) P → r ≡ Err f → ReadsIfOpen a b r Q
read_nothing {C = C} Q a b f r read is =
    subst (λ (r : Result C BookFault). ReadsIfOpen a b r Q) (sym is)
    (read_as Q a b (Err f) (Err f) read (λ is. ap Err (same_error is), λ is. ap Err (same_error is)) (λ clean sound opened. tt) tt)

-- no memory for what was read
pub read_no_memory : {A C : Type 0} {P : Finding A} (Q : Finding C) (a b : BookState) (x : A) (r : Result C BookFault)
    → ReadsIfOpen a b (Ok x) P → r ≡ Err NoMemory → ReadsIfOpen a b r Q
read_no_memory {C = C} Q a b x r read is =
    subst (λ (r : Result C BookFault). ReadsIfOpen a b r Q) (sym is)
    (read_as Q a b (Ok x) (Err NoMemory) read (λ is. absurd (ok_err is), λ is. absurd (no_store is)) (λ clean sound opened. tt) tt)

-- no memory for what would have been asked
pub none_alone : {C : Type 0} (Q : Finding C) (a : BookState) (r : Result C BookFault) → r ≡ Err NoMemory → ReadsIfOpen a a r Q
none_alone Q a r is = read_no_memory Q a a tt r (known (λ (c : Content) (u : Unit {0}). Unit {0}) a tt (λ c. tt)) is

-- another fact follows from the answer
pub read_more : {A : Type 0} {P : Finding A} (Q : Finding A) (a b : BookState) (r : Result A BookFault) → ReadsIfOpen a b r P
    → ((c : Content) (x : A) → P c x → Q c x) → ReadsIfOpen a b r Q
read_more {P = P} Q a b r read follows =
    read_as Q a b r r read (λ is. is, λ is. is)
    (λ clean sound opened. IfOk-weaker r (P a.content) (Q a.content) (follows a.content) (read.value clean sound opened)) read.stays

-- one after the other
pub read_twice : {A C : Type 0} {P : Finding A} {Q : Finding C} (R : Finding C) (a b d : BookState) (x : A)
    (r : Result C BookFault)
    → ReadsIfOpen a b (Ok x) P → ReadsIfOpen b d r Q → Together P x Q R → ReadsIfOpen a d r R
read_twice {A = A} {C = C} {Q = Q} R a b d x r one two follows =
    let up : d.is_clean → a.is_sound → a.is_open → b.is_open = λ clean. one.stays (two.step.clean clean) in
    let mid : d.is_clean → a.is_sound → b.is_sound = λ clean. one.step.sound (two.step.clean clean) in
    record {
      step = step_then one.step two.step (λ is. absurd (ok_err is)) (λ is. is);
      unchanged = unchanged_then one.step two.step one.unchanged two.unchanged;
      value = λ clean sound opened.
          let before = two.step.clean clean in
          let same : b.content ≡ a.content = (one.unchanged.same before sound (up clean sound opened)).1 in
          IfOk-weaker r (Q b.content) (R a.content) (λ y holds. follows a.content (one.value before sound opened) y (subst (λ (c : Content). Q c y) same holds))
          (two.value clean (mid clean sound) (up clean sound opened));
      stays =
          on_ok_weaker r
          (λ (stays : IfHonest b d (b.is_open → d.is_open)). λ (clean : d.is_clean) (sound : a.is_sound) (opened : a.is_open). stays clean (mid clean sound)
          (up clean sound opened))
          two.stays;
      keeps = keeps_then one.step two.step two.unchanged one.keeps two.keeps;
      cause = λ is. subst (λ (k : ℕ). HasRisen k d.failures) (one.step.quiet (λ is. ok_err is)) (two.cause is);
    }

-- and after a read, which shows that the book is open
pub read_then : {A C : Type 0} {P : Finding A} {Q : Finding C} (R : Finding C) (a b d : BookState) (x : A)
    (r : Result C BookFault)
    → Reads a b (Ok x) P → ReadsIfOpen b d r Q → Together P x Q R → Reads a d r R
read_then {A = A} {C = C} {P = P} {Q = Q} R a b d x r one two follows =
    let both : ReadsIfOpen a d r R = read_twice R a b d x r (by_read P a b (Ok x) one (λ c y holds. holds)) two follows in
    let was : d.is_clean → a.is_sound → a.is_open = λ clean sound. (one.value (two.step.clean clean) sound).0 in
    record {
      step = both.step;
      unchanged = both.unchanged;
      value =
          λ clean sound. IfOk-weaker r (R a.content) (λ (y : C). a.is_open × R a.content y) (λ y holds. (was clean sound, holds))
          (both.value clean sound (was clean sound));
      stays =
          on_ok_weaker r (λ (stays : IfHonest a d (a.is_open → d.is_open)). λ (clean : d.is_clean) (sound : a.is_sound). stays clean sound (was clean sound))
          both.stays;
      keeps = both.keeps;
      cause = both.cause;
    }

-- a read that fails after a read
pub read_fault : {A C D : Type 0} {P : Finding A} {Q : Finding C} (R : Finding D) (a b d : BookState) (x : A) (f : BookFault)
    (r : Result D BookFault)
    → Reads a b (Ok x) P → ReadsIfOpen {A = C} b d (Err f) Q → r ≡ Err f → Reads a d r R
read_fault {D = D} R a b d x f r one two is =
    subst (λ (r : Result D BookFault). Reads a d r R) (sym is) (read_then R a b d x (Err f) one (read_nothing R b d f (Err f) two refl) (λ c p y q. q))
