-- The request whose one text bytes are.
use Rattle.std.proofs.Common.{◌≡◌, ℕ, List, Bool, true, false, cond, Some, None, option_and_then, Result, Ok, Err, refl, ap, subst, ◌∙◌}
use Rattle.std.specs.Result.{result_ok}
use Rattle.std.specs.Str.{bytes_eq}
use Rattle.std.proofs.lemmas.Slice.Eq.{bytes_eq-Decides}
use Rattle.acd_terms.specs.declared.command.Request.{Request}
use Rattle.acd_codec.specs.declared.member.Member.{Member}
use Rattle.acd_codec.specs.RequestReading.{reads_as}
use Rattle.acd_codec.specs.RequestTexts.{request_text}
use Rattle.acd_codec.specs.KeptTexts.{if_written, request_of_text}

-- bytes that are the text of a request are no other's, since they read as that request
pub text_again : (bytes : List ℕ) (q : Request) → reads_as (request_text q) ≡ Ok q → bytes_eq bytes (request_text q) ≡ true → Some q ≡ request_of_text bytes
unfolding request_of_text
text_again bytes q reads same =
    let is : bytes ≡ request_text q = (bytes_eq-Decides bytes (request_text q)).0 same in
    rw (ap reads_as is ∙ reads, same) refl

-- what a text is read as, if it is the request's one text
pub record IsTextOf (bytes : List ℕ) (q : Request) : Type 0 where
  pub same : bytes ≡ request_text q
  pub reads : reads_as bytes ≡ Ok q

if_same : (bytes : List ℕ) (x q : Request) (b : Bool) → bytes_eq bytes (request_text x) ≡ b → reads_as bytes ≡ Ok x → cond b (Some x) None ≡ Some q → IsTextOf bytes q
if_same bytes x q true e reads h = subst (IsTextOf bytes) (cc h) (record { same = (bytes_eq-Decides bytes (request_text x)).0 e; reads = reads })
if_same bytes x q false e reads h = absurd (cc h)

of_reading : (bytes : List ℕ) (q : Request) (r : Result Request Member) → reads_as bytes ≡ r → option_and_then (if_written bytes) (result_ok r) ≡ Some q → IsTextOf bytes q
of_reading bytes q (Ok x) e h = if_same bytes x q (bytes_eq bytes (request_text x)) refl e h
of_reading bytes q (Err m) e h = absurd (cc h)

pub text_read : (bytes : List ℕ) (q : Request) → request_of_text bytes ≡ Some q → IsTextOf bytes q
unfolding request_of_text
text_read bytes q h = of_reading bytes q (reads_as bytes) refl h
