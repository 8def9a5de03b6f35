-- The question of an input, by the bytes read so far.
use Rattle.std.proofs.Common.{◌≡◌, ℕ, ◌+◌, ◌-◌, ◌<◌, ◌≤◌, Bool, true, false, nat_le, List, [], ◌++◌, inl, inr, length, take, drop, Option, Some, None, Result, Ok, Err, refl, sym, ap, ◌∙◌, subst, arith, length-append, length-drop}
use Rattle.std.specs.Io.KnownBytes.{Consumes, IsAtEnd}
use Rattle.std.proofs.KnownBytes.{Consumes-trans, Consumes-whole}
use Rattle.std.proofs.lemmas.List.{take-append-le, drop-append-le}
use Rattle.std.proofs.lemmas.Bool.{cases_lt}
use Rattle.std.proofs.lemmas.Bool.Decides.{nat_tests}
use Rattle.std.specs.declared.alloc.AllocError.{AllocError}
use Rattle.acd_codec.specs.RequestReading.{reads_as}
use Rattle.acd_io.specs.Streams.{IsInput}
use Rattle.acd_http.specs.Head.{head_len}
use Rattle.acd_http.specs.ReceivedBytes.{Found, BodyFound, IsRead, StopsInBody, StopsInHead}
use Rattle.acd_http.specs.declared.web_request.WebRequest.{WebRequest}
use Rattle.acd_http.specs.declared.web_request.WebRequest.TheVariants.{Truncated, Refused}
use Rattle.acd_http.specs.declared.refused.Refused.TheVariants as refused
use Rattle.acd_http.specs.HeadRequests.{IsSmallBody}
use Rattle.acd_http.specs.WebRequests.{HeadAsks, AsksBy, Asks, IsAsked, IsBodyAsked, IsHeadOf, IsWanted, IsHeadAsked, IsUnasked, IsUnknown, IsSeen, parse, headless, is_bodiless, body_in, body_asks}
use Rattle.acd_http.specs.declared.web_request.ParseFault.{ParseFault}
use Rattle.acd_http.specs.declared.web_request.ParseFault.TheVariants as unknown
use Rattle.acd_http.specs.declared.head_request.HeadRequest.{HeadRequest}
use Rattle.acd_http.specs.declared.head_request.HeadRequest.TheVariants as want
use Rattle.acd_terms.specs.declared.command.Request.{Request}
use Rattle.acd_codec.specs.declared.member.Member.{Member}
use Rattle.acd_http.proofs.Readings.{head_is, no_head_is}
use Rattle.acd_http.proofs.SmallBodies.{any_rest, not_truncated, bodiless_is}
use Rattle.acd_io.proofs.Inputs.{input_begun}

pub by_head : (input : List ℕ) (o : Option ℕ) (asked : WebRequest) → head_len (take 8192 input) ≡ o → AsksBy o input asked → Asks input asked
unfolding Asks
by_head input o asked e h = subst (λ (p : Option ℕ). AsksBy p input asked) (sym e) h

-- the question of a head, whatever follows it
pub head_finds : (first left : Option (List ℕ)) (seen : List ℕ) (n : ℕ) (asked : WebRequest) → Consumes first left seen → head_len (take 8192 seen) ≡ Some n → ((rest : List ℕ) → HeadAsks (take n seen) rest asked) → IsAsked first asked
head_finds first left seen n asked read e h =
    let more = input_begun first left seen read in
    let is = head_is 8192 n seen more.0 e in
    (seen ++ more.0, more.1, by_head (seen ++ more.0) (Some n) asked is.0 (subst (λ (l : List ℕ). HeadAsks l (drop n (seen ++ more.0)) asked) is.1 (h (drop n (seen ++ more.0)))))

consumed_all : (known left : Option (List ℕ)) (seen : List ℕ) → Consumes known left seen → IsAtEnd left → IsInput known seen
consumed_all known left seen read last = Consumes-whole known left seen (λ (xs : List ℕ). xs ≡ seen) read last refl

-- the input ends within its head, or the head is too large
pub too_short : (first left : Option (List ℕ)) (seen : List ℕ) → Consumes first left seen → head_len (take 8192 seen) ≡ None → length seen < 8192 → IsAtEnd left → IsAsked first Truncated
too_short first left seen read none short last =
    let less : nat_le 8192 (length seen) ≡ false = grind (arith, nat_tests) in
    (seen, consumed_all first left seen read last, by_head seen None Truncated none (rw less refl))

-- reading stopped within a head
pub head_unasked : (first left : Option (List ℕ)) (seen : List ℕ) → StopsInHead seen first left → IsUnasked first left
head_unasked first left seen h =
    let few : length seen < 8192 = h.short in
    let less : nat_le 8192 (length seen) ≡ false = grind (arith, nat_tests) in
    (seen, h.read, by_head seen None Truncated h.none (rw less refl))

pub too_large : (first left : Option (List ℕ)) (seen : List ℕ) → Consumes first left seen → head_len (take 8192 seen) ≡ None → 8192 ≤ length seen → IsAsked first (Refused refused.HeadTooLarge false)
too_large first left seen read none full =
    let more = input_begun first left seen read in
    let is = no_head_is 8192 seen more.0 full none in
    let enough : nat_le 8192 (length (seen ++ more.0)) ≡ true = let size = is.1 in grind (arith, nat_tests) in
    (seen ++ more.0, more.1, by_head (seen ++ more.0) None (Refused refused.HeadTooLarge false) is.0 (rw enough refl))

body_of : (now rest : List ℕ) (n len : ℕ) → n + len ≤ length now → body_in len (drop n (now ++ rest)) ≡ body_asks (reads_as (take len (drop n now)))
body_of now rest n len whole =
    let dropped = drop-append-le n now rest (omega arith) in
    let front : take len (drop n (now ++ rest)) ≡ take len (drop n now) = ap (take len) dropped ∙ take-append-le len (drop n now) rest (omega (arith, length-drop n now)) in
    let size : len ≤ length (drop n (now ++ rest)) = omega (arith, length-drop n (now ++ rest), length-append now rest) in
    let enough : nat_le len (length (drop n (now ++ rest))) ≡ true = grind (arith, nat_tests) in
    rw enough (ap (λ (l : List ℕ). body_asks (reads_as l)) front)

-- the head stays that of what was read, with more after it
pub head_stays : (was more now : List ℕ) (n : ℕ) → now ≡ was ++ more → IsHeadOf n was → (head_len (take 8192 now) ≡ Some n) × (take n was ≡ take n now) × (n ≤ length now)
head_stays was more now n e h =
    let is = head_is 8192 n was more h.0 in
    (ap (λ (l : List ℕ). head_len (take 8192 l)) e ∙ is.0, is.1 ∙ ap (take n) (sym e), omega (arith, h.2, ap length e, length-append was more))

no_head : (first left : Option (List ℕ)) (seen : List ℕ) → Found None seen first left → IsAsked first (headless (length seen))
no_head first left seen h = elim (cases_lt (length seen) 8192) [
  | inl few ↦
      let less : nat_le 8192 (length seen) ≡ false = grind (arith, nat_tests) in
      let is : headless (length seen) ≡ Truncated = rw less refl in
      subst (λ (x : WebRequest). IsAsked first x) (sym is) (too_short first left seen h.read h.head.0 few (h.head.1 few))
  | inr full ↦
      let enough : nat_le 8192 (length seen) ≡ true = grind (arith, nat_tests) in
      let is : headless (length seen) ≡ Refused refused.HeadTooLarge false = rw enough refl in
      subst (λ (x : WebRequest). IsAsked first x) (sym is) (too_large first left seen h.read h.head.0 full)
]

-- no head has ended; s is the slice whose length was measured
pub no_head_finds : (first left : Option (List ℕ)) (seen s : List ℕ) (found : Option ℕ) (a : WebRequest) → found ≡ None → s ≡ seen → Found found seen first left → a ≡ headless (length s) → IsAsked first a
no_head_finds first left seen s found a none same h is =
    subst (λ (x : WebRequest). IsAsked first x) (sym (is ∙ ap (λ (l : List ℕ). headless (length l)) same)) (no_head first left seen (subst (λ (o : Option ℕ). Found o seen first left) none h))

-- ---- what is known after a head; s is the slice that was looked at

wants_so : (head : List ℕ) (bodiless : Bool) (r : Result HeadRequest AllocError) (v w : HeadRequest) → IsHeadAsked head bodiless r → r ≡ Ok v → v ≡ w → IsSmallBody w × IsWanted head bodiless w
wants_so head bodiless r v w h is same = subst (λ (x : Result HeadRequest AllocError). IsHeadAsked head bodiless x) (is ∙ ap Ok same) h

-- A head was read, and wants this: facts that travel together.
pub record HeadWants (first left : Option (List ℕ)) (seen : List ℕ) (n : ℕ) (bodiless : Bool) (w : HeadRequest) : Type 0 where
  pub read : Consumes first left seen
  pub head : IsHeadOf n seen
  pub wants : IsWanted (take n seen) bodiless w

pub head_wants : (first left : Option (List ℕ)) (seen s : List ℕ) (n : ℕ) (asked : Bool × Result HeadRequest AllocError) (v w : HeadRequest) → s ≡ seen → IsHeadOf n seen
    → IsHeadAsked (take n s) asked.0 asked.1 → asked.1 ≡ Ok v → v ≡ w → Consumes first left seen → HeadWants first left seen n asked.0 w
head_wants first left seen s n asked v w same h wanted is e read = record {
  read = read;
  head = h;
  wants = λ rest. subst (λ (l : List ℕ). HeadAsks (take n l) rest (parse w asked.0 rest)) same ((wants_so (take n s) asked.0 asked.1 v w wanted is e).1 rest);
}

-- it does with more after it
wants_still : (first left later : Option (List ℕ)) (was more now : List ℕ) (n : ℕ) (bodiless : Bool) (w : HeadRequest) → HeadWants first left was n bodiless w → now ≡ was ++ more → Consumes left later more
    → HeadWants first later now n bodiless w
wants_still first left later was more now n bodiless w k e read =
    let stays = head_stays was more now n e k.head in
    record {
      read = subst (λ (l : List ℕ). Consumes first later l) (sym e) (Consumes-trans first left later was more k.read read);
      head = (stays.0, k.head.1, stays.2);
      wants = λ rest. subst (λ (l : List ℕ). HeadAsks l rest (parse w bodiless rest)) stays.1 (k.wants rest);
    }

pub known_finds : (first left : Option (List ℕ)) (seen : List ℕ) (n : ℕ) (bodiless : Bool) (w : HeadRequest) (a : WebRequest) → HeadWants first left seen n bodiless w
    → ((rest : List ℕ) → parse w bodiless rest ≡ a) → IsAsked first a
known_finds first left seen n bodiless w a k asks =
    head_finds first left seen n a k.read k.head.0 (λ rest. subst (λ (x : WebRequest). HeadAsks (take n seen) rest x) (asks rest) (k.wants rest))

pub unknown_finds : (first left : Option (List ℕ)) (seen s : List ℕ) (n : ℕ) (bodiless : Bool) (r : Result HeadRequest AllocError) (f : AllocError) → s ≡ seen → IsHeadOf n seen → IsHeadAsked (take n s) bodiless r → r ≡ Err f → Consumes first left seen
    → IsUnknown first left (unknown.NoMemory bodiless)
unknown_finds first left seen s n bodiless r f same h wanted is read =
    let unseen : IsHeadAsked (take n s) bodiless (Err f) = subst (λ (x : Result HeadRequest AllocError). IsHeadAsked (take n s) bodiless x) is wanted in
    let a = parse unseen.0 bodiless [] in (
      a,
      not_truncated unseen.0 bodiless unseen.1,
      bodiless_is unseen.0 bodiless unseen.1,
      head_finds first left seen n a read h.0 (λ rest. subst (λ (l : List ℕ). HeadAsks (take n l) rest a) same (subst (λ (x : WebRequest). HeadAsks (take n s) rest x) (sym (any_rest unseen.0 bodiless rest unseen.1)) (unseen.2 rest))),
    )

-- ---- a head that wants a body of so many bytes

-- a body that has come whole
body_finds : (first left : Option (List ℕ)) (seen : List ℕ) (n len : ℕ) (bodiless : Bool) (body : List ℕ) (asked : WebRequest) → HeadWants first left seen n bodiless (want.Body len) → n + len ≤ length seen
    → body ≡ take len (drop n seen) → asked ≡ body_asks (reads_as body) → IsAsked first asked
body_finds first left seen n len bodiless body asked k whole is asks =
    let more = input_begun first left seen k.read in
    let front = head_is 8192 n seen more.0 k.head.0 in
    let all = seen ++ more.0 in
    let rest = drop n all in
    let here : HeadAsks (take n all) rest (body_in len rest) = subst (λ (l : List ℕ). HeadAsks l rest (body_in len rest)) front.1 (k.wants rest) in
    let same : body_in len rest ≡ asked = body_of seen more.0 n len whole ∙ sym (asks ∙ ap (λ (l : List ℕ). body_asks (reads_as l)) is) in
    (all, more.1, by_head all (Some n) asked front.0 (subst (λ (a : WebRequest). HeadAsks (take n all) rest a) same here))

short_asks : (first left : Option (List ℕ)) (seen : List ℕ) (n len : ℕ) (bodiless : Bool) → HeadWants first left seen n bodiless (want.Body len) → length seen < n + len → Asks seen Truncated
short_asks first left seen n len bodiless k short =
    let size : length (drop n seen) < len = omega (arith, length-drop n seen, k.head.2) in
    let less : nat_le len (length (drop n seen)) ≡ false = grind (arith, nat_tests) in
    let same : body_in len (drop n seen) ≡ Truncated = rw less refl in
    by_head seen (Some n) Truncated k.head.0 (subst (λ (a : WebRequest). HeadAsks (take n seen) (drop n seen) a) same (k.wants (drop n seen)))

-- a body that is too short
body_short : (first left : Option (List ℕ)) (seen : List ℕ) (n len : ℕ) (bodiless : Bool) → HeadWants first left seen n bodiless (want.Body len) → length seen < n + len → IsAtEnd left → IsAsked first Truncated
body_short first left seen n len bodiless k short last = (seen, consumed_all first left seen k.read last, short_asks first left seen n len bodiless k short)

body_whole : (r : Result Request Member) → (body_asks r ≡ Truncated → ⊥)
body_whole (Ok request) h = cc
body_whole (Err member) h = cc

not_bodiless : (r : Result Request Member) → false ≡ is_bodiless (body_asks r)
not_bodiless (Ok request) = refl
not_bodiless (Err member) = refl

-- a body that has come whole, and what its reading gave
no_memory : (first left : Option (List ℕ)) (seen : List ℕ) (n len : ℕ) (bodiless : Bool) (body : List ℕ) → HeadWants first left seen n bodiless (want.Body len) → n + len ≤ length seen → body ≡ take len (drop n seen)
    → IsUnknown first left (unknown.NoMemory false)
no_memory first left seen n len bodiless body k whole is =
    let a = body_asks (reads_as body) in
    (a, body_whole (reads_as body), not_bodiless (reads_as body), body_finds first left seen n len bodiless body a k whole is refl)

read_finds : (first left : Option (List ℕ)) (seen : List ℕ) (n len : ℕ) (bodiless : Bool) (body : List ℕ) (r : Result WebRequest ParseFault) → HeadWants first left seen n bodiless (want.Body len)
    → n + len ≤ length seen → body ≡ take len (drop n seen) → IsBodyAsked body r → IsSeen first left r
read_finds first left seen n len bodiless body (Ok a) k whole is answer = body_finds first left seen n len bodiless body a k whole is answer
read_finds first left seen n len bodiless body (Err u) k whole is answer =
    subst (λ (v : ParseFault). IsUnknown first left v) (sym answer) (no_memory first left seen n len bodiless body k whole is)

-- it came whole; s is the slice that was read
pub whole_finds : (first left later : Option (List ℕ)) (seen : List ℕ × List ℕ) (s : List ℕ) (n len : ℕ) (bodiless whole : Bool) (r : Result WebRequest ParseFault)
    → HeadWants first left seen.0 n bodiless (want.Body len) → whole ≡ true → BodyFound whole (n + len) seen (left, later) → s ≡ seen.1
    → IsBodyAsked (take (n + len - n) (drop n s)) r → IsSeen first later r
whole_finds first left later seen s n len bodiless whole r k here found same answer =
    let now = seen.1 in
    let still = wants_still first left later seen.0 found.more now n bodiless (want.Body len) k found.grown found.read in
    let ends : IsRead true (n + len) now later = subst (λ (b : Bool). IsRead b (n + len) now later) here found.end in
    let slice : take (n + len - n) (drop n s) ≡ take len (drop n now) =
    ap (λ (k : ℕ). take k (drop n s)) (omega arith) ∙ ap (λ (l : List ℕ). take len (drop n l)) same in
    read_finds first later now n len bodiless (take (n + len - n) (drop n s)) r still ends slice answer

-- the input ended before
pub part_finds : (first left later : Option (List ℕ)) (seen : List ℕ × List ℕ) (n len : ℕ) (bodiless whole : Bool) → HeadWants first left seen.0 n bodiless (want.Body len) → whole ≡ false
    → BodyFound whole (n + len) seen (left, later) → IsAsked first Truncated
part_finds first left later seen n len bodiless whole k here found =
    let now = seen.1 in
    let still = wants_still first left later seen.0 found.more now n bodiless (want.Body len) k found.grown found.read in
    let ends : IsRead false (n + len) now later = subst (λ (b : Bool). IsRead b (n + len) now later) here found.end in
    body_short first later now n len bodiless still ends.0 ends.1

-- reading stopped before
pub body_unasked : (first left later : Option (List ℕ)) (seen : List ℕ × List ℕ) (n len : ℕ) (bodiless : Bool) → HeadWants first left seen.0 n bodiless (want.Body len)
    → StopsInBody (n + len) seen (left, later) → IsUnasked first later
body_unasked first left later seen n len bodiless k stops =
    let still = wants_still first left later seen.0 stops.more seen.1 n bodiless (want.Body len) k stops.grown stops.read in
    (seen.1, still.read, short_asks first later seen.1 n len bodiless still stops.short)
