-- A body that is asked for has at most 4096 bytes.
use Rattle.std.proofs.Common.{◌≡◌, ℕ, ◌≤◌, Bool, true, false, nat_lt, if◌then◌else◌, List, [], inr, codes, Option, Some, None, Result, Ok, Err, refl, sym, ap, ◌∙◌, subst, arith}
use Rattle.std.proofs.lemmas.Bool.Decides.{nat_tests}
use Rattle.std.proofs.lemmas.Bool.{true≢false}
use Rattle.std.specs.declared.alloc.AllocError.{AllocError}
use Rattle.httparse.specs.Grammar.{RequestHead}
use Rattle.acd_desk.specs.declared.question.Question.{Question}
use Rattle.acd_io.specs.Digits.{number_up_to}
use Rattle.acd_http.specs.declared.fields.Length.{Length}
use Rattle.acd_http.specs.declared.fields.Length.TheVariants as len
use Rattle.acd_http.specs.declared.method.Method.{Method}
use Rattle.acd_http.specs.declared.method.Method.TheVariants.{Get, Head, Post}
use Rattle.acd_http.specs.declared.routes.Route.{Route}
use Rattle.acd_http.specs.declared.refused.Refused.{Refused}
use Rattle.acd_http.specs.declared.refused.Refused.TheVariants as refused
use Rattle.acd_http.specs.declared.refused.Allow.TheVariants as allow
use Rattle.acd_http.specs.declared.head_request.HeadRequest.{HeadRequest}
use Rattle.acd_http.specs.declared.head_request.HeadRequest.TheVariants as want
use Rattle.acd_http.specs.Fields.{count_named, first_named, length_of, length_or_none, length_in, fields_refused}
use Rattle.acd_http.specs.Lookups.{target_looked}
use Rattle.acd_http.specs.Target.{path_of}
use Rattle.acd_http.specs.Routing.{is_services, route_of}
use Rattle.acd_http.specs.HeadRequests.{looked, by_length, posted, by_method, or_refused, from_head, is_body, IsSmallBody, wanted_of, method_of, fields_of, IsHeadRead}
use Rattle.acd_http.specs.declared.web_request.WebRequest.{WebRequest}
use Rattle.acd_http.specs.declared.web_request.WebRequest.TheVariants.{Truncated}
use Rattle.acd_http.specs.Head.{lines_in}
use Rattle.acd_http.specs.WebRequests.{ReadAsks, AsksUnless, IsHeadAsked, parse, is_bodiless}

abbrev IsShort : Length → Type 0
IsShort (len.Given n) = n ≤ 4096
IsShort len.Absent = Unit {0}
IsShort len.Faulty = Unit {0}
IsShort len.TooLarge = Unit {0}

given : (n : ℕ) (b : Bool) → nat_lt 4096 n ≡ b → IsShort (if b then len.TooLarge else len.Given n)
given n true e = tt
given n false e = grind (arith, nat_tests)

short_number : (o : Option ℕ) → IsShort (length_of o)
short_number None = tt
short_number (Some n) = given n (nat_lt 4096 n) refl

short_or_none : (o : Option (List ℕ)) → IsShort (length_or_none o)
short_or_none None = tt
short_or_none (Some v) = short_number (number_up_to v)

unless : (b : Bool) (l : Length) → IsShort l → IsShort (if b then len.Faulty else l)
unless true l h = tt
unless false l h = h

short_in : (fields : List (List ℕ × List ℕ)) → IsShort (length_in fields)
unfolding length_in
short_in fields = unless (nat_lt 1 (count_named (codes "content-length") fields)) (length_or_none (first_named (codes "content-length") fields)) (short_or_none (first_named (codes "content-length") fields))

small_length : (l : Length) → IsShort l → IsSmallBody (by_length l)
small_length (len.Given n) h = h
small_length len.Absent h = tt
small_length len.Faulty h = tt
small_length len.TooLarge h = tt

small_look : (r : Result Question Refused) → IsSmallBody (looked r)
small_look (Ok x) = tt
small_look (Err e) = tt

small_if : (b : Bool) (w v : HeadRequest) → IsSmallBody w → IsSmallBody v → IsSmallBody (if b then w else v)
small_if true w v h k = h
small_if false w v h k = k

small_post : (r : Option Route) (l : Length) → IsShort l → IsSmallBody (posted r l)
small_post None l h = tt
small_post (Some r) l h = small_if (is_services r) (by_length l) (want.Refused (refused.MethodNotAllowed allow.Reads)) (small_length l h) tt

small_method : (m : Option Method) (target : List ℕ) (l : Length) → IsShort l → IsSmallBody (by_method m target l)
small_method None target l h = tt
small_method (Some Post) target l h = small_post (route_of (path_of target)) l h
small_method (Some Get) target l h = small_look (target_looked target)
small_method (Some Head) target l h = small_look (target_looked target)

small_or : (o : Option Refused) (w : HeadRequest) → IsSmallBody w → IsSmallBody (or_refused o w)
small_or None w h = h
small_or (Some why) w h = tt

small : (minor : ℕ) (m : Option Method) (target : List ℕ) (fields : List (List ℕ × List ℕ)) → IsSmallBody (from_head minor m target fields)
unfolding from_head
small minor m target fields = small_or (fields_refused minor fields) (by_method m target (length_in fields)) (small_method m target (length_in fields) (short_in fields))

small_wanted : (h : RequestHead) → IsSmallBody (wanted_of h)
small_wanted h = small h.minor (method_of h.method) h.target (fields_of h)

-- ---- what a head asks

pub any_rest : (w : HeadRequest) (bodiless : Bool) (rest : List ℕ) → is_body w ≡ false → parse w bodiless [] ≡ parse w bodiless rest
any_rest (want.Refused why) bodiless rest e = refl
any_rest (want.Look lookup) bodiless rest e = refl
any_rest (want.Body n) bodiless rest e = absurd (true≢false e)

pub not_truncated : (w : HeadRequest) (bodiless : Bool) → is_body w ≡ false → (parse w bodiless [] ≡ Truncated → ⊥)
not_truncated (want.Refused why) bodiless e h = cc
not_truncated (want.Look lookup) bodiless e h = cc
not_truncated (want.Body n) bodiless e h = absurd (true≢false e)

pub bodiless_is : (w : HeadRequest) (bodiless : Bool) → is_body w ≡ false → bodiless ≡ is_bodiless (parse w bodiless [])
bodiless_is (want.Refused why) bodiless e = refl
bodiless_is (want.Look lookup) bodiless e = refl
bodiless_is (want.Body n) bodiless e = absurd (true≢false e)

unless_long : (b : Bool) (head rest : List ℕ) (asked : WebRequest) → b ≡ false → ReadAsks head rest asked → AsksUnless b head rest asked
unless_long true head rest asked e h = absurd (true≢false e)
unless_long false head rest asked e h = h

pub head_seen : (head : List ℕ) (bodiless : Bool) (r : Result HeadRequest AllocError) → nat_lt 33 (lines_in head) ≡ false → IsHeadRead head (Some (bodiless, r)) → IsHeadAsked head bodiless r
head_seen head bodiless (Ok w) few h = (
  subst IsSmallBody (sym h.3) (small_wanted h.0),
  λ rest. unless_long (nat_lt 33 (lines_in head)) head rest (parse w bodiless rest) few
      (inr (h.0, h.1, ap (λ (x : HeadRequest). parse x bodiless rest) h.3 ∙ ap (λ (b : Bool). parse (wanted_of h.0) b rest) h.2)),
)
head_seen head bodiless (Err e) few h = (
  wanted_of h.0,
  h.3,
  λ rest. unless_long (nat_lt 33 (lines_in head)) head rest (parse (wanted_of h.0) bodiless rest) few (inr (h.0, h.1, ap (λ (b : Bool). parse (wanted_of h.0) b rest) h.2)),
)

pub few_lines : (head : List ℕ) (n : ℕ) → n ≡ lines_in head → n ≤ 33 → nat_lt 33 (lines_in head) ≡ false
few_lines head n e h = let small : lines_in head ≤ 33 = omega (arith, e) in grind (arith, nat_tests)
