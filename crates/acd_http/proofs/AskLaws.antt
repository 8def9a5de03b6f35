-- Bytes ask one thing, and by a beginning of theirs.
use Rattle.std.proofs.Common.{◌≡◌, ◌≢◌, ℕ, ◌≤◌, Bool, true, false, nat_le, nat_lt, List, [], ◌++◌, length, take, drop, Option, Some, None, inl, inr, refl, sym, ap, ◌∙◌, subst, arith, length-append}
use Rattle.std.proofs.lemmas.List.{take-append-le, drop-append-le}
use Rattle.std.proofs.lemmas.Bool.Decides.{nat_tests}
use Rattle.httparse.specs.Grammar.{RequestHead}
use Rattle.httparse.proofs.GrammarLemmas.{request_unique}
use Rattle.acd_codec.specs.RequestReading.{reads_as}
use Rattle.acd_http.specs.Head.{head_len, lines_in}
use Rattle.acd_http.specs.declared.head_request.HeadRequest.{HeadRequest}
use Rattle.acd_http.specs.declared.head_request.HeadRequest.TheVariants as want
use Rattle.acd_http.specs.declared.web_request.WebRequest.{WebRequest}
use Rattle.acd_http.specs.declared.web_request.WebRequest.TheVariants.{Truncated, Refused}
use Rattle.acd_http.specs.declared.refused.Refused.TheVariants as refused
use Rattle.acd_http.specs.HeadRequests.{wanted_of, has_no_body}
use Rattle.acd_http.specs.WebRequests.{ReadAsks, AsksUnless, HeadAsks, AsksBy, Asks, parse, body_in, body_asks}
use Rattle.acd_http.proofs.Readings.{head_is, no_head_is}
use Rattle.acd_http.proofs.Asks.{by_head}

one_read : (head rest : List ℕ) (a b : WebRequest) → ReadAsks head rest a → ReadAsks head rest b → a ≡ b
one_read head rest a b (inl h) (inl k) = h.1 ∙ sym k.1
one_read head rest a b (inl h) (inr k) = absurd (h.0 k.0 k.1)
one_read head rest a b (inr h) (inl k) = absurd (k.0 h.0 h.1)
one_read head rest a b (inr h) (inr k) =
    let same = (request_unique head h.0 k.0 [] [] h.1.0 k.1.0).0 in
    h.2 ∙ ap (λ (x : RequestHead). parse (wanted_of x) (has_no_body x) rest) same ∙ sym k.2

one_unless : (long : Bool) (head rest : List ℕ) (a b : WebRequest) → AsksUnless long head rest a → AsksUnless long head rest b → a ≡ b
one_unless true head rest a b h k = h ∙ sym k
one_unless false head rest a b h k = one_read head rest a b h k

one_by : (o : Option ℕ) (input : List ℕ) (a b : WebRequest) → AsksBy o input a → AsksBy o input b → a ≡ b
one_by None input a b h k = h ∙ sym k
one_by (Some n) input a b h k = one_unless (nat_lt 33 (lines_in (take n input))) (take n input) (drop n input) a b h k

pub one_thing : (input : List ℕ) (a b : WebRequest) → Asks input a → Asks input b → a ≡ b
unfolding Asks
one_thing input a b h k = one_by (head_len (take 8192 input)) input a b h k

-- ---- more bytes

body_longer : (whole : Bool) (n : ℕ) (rest more : List ℕ) (asked : WebRequest) → nat_le n (length rest) ≡ whole → asked ≡ body_in n rest → asked ≢ Truncated → asked ≡ body_in n (rest ++ more)
body_longer false n rest more asked less e other = absurd (other (e ∙ (rw less refl)))
body_longer true n rest more asked enough e other =
    let size : n ≤ length rest = grind (arith, nat_tests) in
    let still : nat_le n (length (rest ++ more)) ≡ true = let grown = length-append rest more in grind (arith, nat_tests) in
    let here : body_in n rest ≡ body_asks (reads_as (take n rest)) = rw enough refl in
    let there : body_in n (rest ++ more) ≡ body_asks (reads_as (take n (rest ++ more))) = rw still refl in
    e ∙ here ∙ ap (λ (l : List ℕ). body_asks (reads_as l)) (sym (take-append-le n rest more size)) ∙ sym there

asked_longer : (w : HeadRequest) (bodiless : Bool) (rest more : List ℕ) (asked : WebRequest) → asked ≡ parse w bodiless rest → asked ≢ Truncated → asked ≡ parse w bodiless (rest ++ more)
asked_longer (want.Refused why) bodiless rest more asked e other = e
asked_longer (want.Look question) bodiless rest more asked e other = e
asked_longer (want.Body n) bodiless rest more asked e other = body_longer (nat_le n (length rest)) n rest more asked refl e other

read_longer : (head rest more : List ℕ) (asked : WebRequest) → ReadAsks head rest asked → asked ≢ Truncated → ReadAsks head (rest ++ more) asked
read_longer head rest more asked (inl h) other = inl h
read_longer head rest more asked (inr h) other = inr (h.0, h.1, asked_longer (wanted_of h.0) (has_no_body h.0) rest more asked h.2 other)

head_longer : (long : Bool) (head rest more : List ℕ) (asked : WebRequest) → AsksUnless long head rest asked → asked ≢ Truncated → AsksUnless long head (rest ++ more) asked
head_longer true head rest more asked h other = h
head_longer false head rest more asked h other = read_longer head rest more asked h other

none_longer : (full : Bool) (input more : List ℕ) (asked : WebRequest) → nat_le 8192 (length input) ≡ full → head_len (take 8192 input) ≡ None → AsksBy None input asked → asked ≢ Truncated → Asks (input ++ more) asked
none_longer false input more asked less none h other = absurd (other (h ∙ (rw less refl)))
none_longer true input more asked enough none h other =
    let size : 8192 ≤ length input = grind (arith, nat_tests) in
    let is = no_head_is 8192 input more size none in
    let still : nat_le 8192 (length (input ++ more)) ≡ true = let grown = is.1 in grind (arith, nat_tests) in
    let large : asked ≡ Refused refused.HeadTooLarge false = h ∙ (rw enough refl) in
    by_head (input ++ more) None asked is.0 (large ∙ (rw still refl))

longer : (o : Option ℕ) (input more : List ℕ) (asked : WebRequest) → head_len (take 8192 input) ≡ o → AsksBy o input asked → asked ≢ Truncated → Asks (input ++ more) asked
longer None input more asked e h other = none_longer (nat_le 8192 (length input)) input more asked refl e h other
longer (Some n) input more asked e h other =
    let is = head_is 8192 n input more e in
    let dropped = drop-append-le n input more is.2 in
    let here : HeadAsks (take n input) (drop n input ++ more) asked = head_longer (nat_lt 33 (lines_in (take n input))) (take n input) (drop n input) more asked h other in
    by_head (input ++ more) (Some n) asked is.0 (subst (λ (l : List ℕ). HeadAsks l (drop n (input ++ more)) asked) is.1 (subst (λ (l : List ℕ). HeadAsks (take n input) l asked) (sym dropped) here))

pub by_a_beginning : (input more : List ℕ) (asked : WebRequest) → Asks input asked → asked ≢ Truncated → Asks (input ++ more) asked
unfolding Asks
by_a_beginning input more asked h other = longer (head_len (take 8192 input)) input more asked refl h other
