-- Statements on both outcomes, handed on.
use Rattle.std.proofs.Common.{◌≡◌, ◌∙◌, Option, None, MatchOption, Result, Ok, Err, IfErr, IfOk, IsErrAnd, MatchResult, OnOk, ap, sym, subst}
use Rattle.std.proofs.lemmas.Result.{err_from_is_err_and}

-- whatever follows from both
pub match_so : {A E : Type 0} (r : Result A E) (P Q : A → Type 0) (S T : E → Type 0) → ((x : A) → P x → Q x) → ((e : E) → S e → T e) → MatchResult r P S → MatchResult r Q T
match_so (Ok x) P Q S T good bad h = good x h
match_so (Err e) P Q S T good bad h = bad e h

-- an error that was handed on
pub match_err : {A E : Type 0} (r : Result A E) (e : E) (P : A → Type 0) (S : E → Type 0) → r ≡ Err e → S e → MatchResult r P S
match_err {A} {E} r e P S is h = subst (λ (x : Result A E). MatchResult x P S) (sym is) h

-- one that was made another
pub match_from : {A E : Type 0} (r : Result A E) (e : E) (P : A → Type 0) (S : E → Type 0) → IsErrAnd r (λ (x : E). x ≡ e) → S e → MatchResult r P S
match_from r e P S failed h =
    let p = err_from_is_err_and r failed in
    match_err r e P S (p.1 ∙ ap Err p.2) h

pub err_made : {A E : Type 0} (r : Result A E) (e : E) (S : E → Type 0) → IsErrAnd r (λ (x : E). x ≡ e) → S e → IfErr r S
err_made {A} {E} r e S failed h =
    let p = err_from_is_err_and r failed in
    subst (λ (x : Result A E). IfErr x S) (sym (p.1 ∙ ap Err p.2)) h

-- from each outcome alone, and to it
pub match_of : {A E : Type 0} (r : Result A E) (P : A → Type 0) (S : E → Type 0) → IfOk r P → ((e : E) → S e) → MatchResult r P S
match_of (Ok x) P S h always = h
match_of (Err e) P S h always = always e

pub match_with : {A E : Type 0} (r : Result A E) (P Q : A → Type 0) (S : E → Type 0) → MatchResult r P S → IfOk r Q → MatchResult r (λ (x : A). P x × Q x) S
match_with (Ok x) P Q S h k = (h, k)
match_with (Err e) P Q S h k = h

pub match_ok : {A E : Type 0} (r : Result A E) (P : A → Type 0) (S : E → Type 0) → MatchResult r P S → IfOk r P
match_ok (Ok x) P S h = h
match_ok (Err e) P S h = tt

pub match_fail : {A E : Type 0} (r : Result A E) (P : A → Type 0) (S : E → Type 0) → MatchResult r P S → IfErr r S
match_fail (Ok x) P S h = tt
match_fail (Err e) P S h = h

-- where there was no fault
pub on_ok : {A E : Type 0} (r : Result A E) (x : A) (P : Type 0) → r ≡ Ok x → OnOk r P → P
on_ok {A} {E} r x P is h = subst (λ (y : Result A E). OnOk y P) is h

-- where it is known which it is
pub match_is_ok : {A E : Type 0} (r : Result A E) (x : A) (P : A → Type 0) (S : E → Type 0) → r ≡ Ok x → MatchResult r P S → P x
match_is_ok {A} {E} r x P S is h = subst (λ (y : Result A E). MatchResult y P S) is h

pub match_is_err : {A E : Type 0} (r : Result A E) (e : E) (P : A → Type 0) (S : E → Type 0) → r ≡ Err e → MatchResult r P S → S e
match_is_err {A} {E} r e P S is h = subst (λ (y : Result A E). MatchResult y P S) is h

pub if_is_ok : {A E : Type 0} (r : Result A E) (x : A) (P : A → Type 0) → r ≡ Ok x → IfOk r P → P x
if_is_ok {A} {E} r x P is h = subst (λ (y : Result A E). IfOk y P) is h

pub if_is_err : {A E : Type 0} (r : Result A E) (e : E) (P : E → Type 0) → r ≡ Err e → IfErr r P → P e
if_is_err {A} {E} r e P is h = subst (λ (y : Result A E). IfErr y P) is h

-- nothing was handed on
pub match_none : {A : Type 0} (o : Option A) (N : Type 0) (P : A → Type 0) → o ≡ None → N → MatchOption o N P
match_none {A} o N P is h = subst (λ (x : Option A). MatchOption x N P) (sym is) h

pub err_follows : {A E : Type 0} (r : Result A E) (P Q : E → Type 0) → IsErrAnd r P → ((e : E) → P e → Q e) → IfErr r Q
err_follows r P Q failed follows =
    let p = err_from_is_err_and r failed in
    subst (λ (x : Result _ _). IfErr x Q) (sym p.1) (follows p.0 p.2)

-- a statement on an error that was handed on
pub err_from : {A E : Type 0} (r : Result A E) (e : E) (P : E → Type 0) → r ≡ Err e → P e → IfErr r P
err_from {A} {E} r e P is h = subst (λ (x : Result A E). IfErr x P) (sym is) h

pub ok_so : {A F : Type 0} (r : Result A F) (P Q : A → Type 0) → ((x : A) → P x → Q x) → IfOk r P → IfOk r Q
ok_so (Ok x) P Q follows h = follows x h
ok_so (Err e) P Q follows h = tt
