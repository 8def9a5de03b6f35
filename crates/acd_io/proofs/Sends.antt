-- A write of a part of the bytes that are left.
use Rattle.std.proofs.Common.{◌≡◌, ℕ, ◌+◌, ◌-◌, ◌<◌, ◌≤◌, List, ◌++◌, length, take, drop, Option, sym, ap, ◌∙◌, arith, subst, length-drop, length-append, append_assoc, append-nil, [], Result, Ok, Err, MatchResult}
use Rattle.std.proofs.lemmas.List.{take_all, take-append-drop}
use Rattle.std.proofs.Math.Seq.{take-add}
use Rattle.std.specs.Io.KnownBytes.{Appends}
use Rattle.std.specs.Result.{IsErrAnd}
use Rattle.acd_io.specs.SentBytes.{Passes, Begins, Breaks, WasSent}
use Rattle.std.proofs.KnownBytes.{Appends-trans, Appends-nil}

pub one_write : (a b c : Option (List ℕ)) (bytes : List ℕ) (done n : ℕ) → Appends a b (take done bytes) → Appends b c (take n (take (length bytes - done) (drop done bytes))) → Appends a c (take (done + n) bytes)
one_write a b c bytes done n before wrote =
    let same : take (length bytes - done) (drop done bytes) ≡ drop done bytes = take_all _ _ (omega (arith, length-drop done bytes)) in
    let part : Appends b c (take n (drop done bytes)) = subst (λ (l : List ℕ). Appends b c (take n l)) same wrote in
    subst (Appends a c) (sym (take-add done n bytes)) (Appends-trans a b c (take done bytes) (take n (drop done bytes)) before part)

pub room_left : (bytes : List ℕ) (done n : ℕ) → done ≤ length bytes → n ≤ length (take (length bytes - done) (drop done bytes)) → done + n ≤ length bytes
room_left bytes done n within h =
    let same : take (length bytes - done) (drop done bytes) ≡ drop done bytes = take_all _ _ (omega (arith, length-drop done bytes)) in
    omega (arith, h, ap length same, length-drop done bytes)

pub breaks_part : (a c : Option (List ℕ)) (bytes : List ℕ) (n : ℕ) → n < length bytes → Appends a c (take n bytes) → Breaks a c bytes
breaks_part a c bytes n few h = record { front = take n bytes; rest = drop n bytes; short = omega (arith, few, length-drop n bytes); whole = sym (take-append-drop n bytes); written = h }

pub begins_so : (a c : Option (List ℕ)) (bytes : List ℕ) → Breaks a c bytes → Begins a c bytes
begins_so a c bytes h = record { front = h.front; rest = h.rest; whole = h.whole; written = h.written }

pub breaks_front : (a c : Option (List ℕ)) (xs ys : List ℕ) → Breaks a c xs → Breaks a c (xs ++ ys)
breaks_front a c xs ys h = record {
  front = h.front;
  rest = h.rest ++ ys;
  short = omega (arith, h.short, length-append h.rest ys);
  whole = ap (λ (l : List ℕ). l ++ ys) h.whole ∙ append_assoc h.front h.rest ys;
  written = h.written;
}

pub breaks_more : (a c : Option (List ℕ)) (v xs ys : List ℕ) → Breaks a c (v ++ xs) → Breaks a c (v ++ (xs ++ ys))
breaks_more a c v xs ys h = subst (Breaks a c) (append_assoc v xs ys) (breaks_front a c (v ++ xs) ys h)

-- the same text
pub breaks_same : (a c : Option (List ℕ)) (v xs ys : List ℕ) → xs ≡ ys → Breaks a c (v ++ ys) → Breaks a c (v ++ xs)
breaks_same a c v xs ys e h = record { front = h.front; rest = h.rest; short = h.short; whole = ap (λ (l : List ℕ). v ++ l) e ∙ h.whole; written = h.written }

pub passes_same : (a c : Option (List ℕ)) (v w xs ys : List ℕ) → xs ≡ ys → Passes a c w (v ++ ys) → Passes a c w (v ++ xs)
passes_same a c v w xs ys e h = record { sent = h.sent; whole = ap (λ (l : List ℕ). v ++ l) e ∙ h.whole; written = h.written }

pub passes_same_front : (a c : Option (List ℕ)) (v : List ℕ) → Passes a c [] v → Passes a c [] (v ++ [])
passes_same_front a c v h = record { sent = h.sent; whole = append-nil v ∙ h.whole; written = h.written }

-- nothing was pushed
pub passes_nothing : (a : Option (List ℕ)) (v : List ℕ) → Passes a a v (v ++ [])
passes_nothing a v = record { sent = []; whole = append-nil v; written = Appends-nil a }

-- the waiting bytes were written, and then a text
pub passes_sent : (a b c : Option (List ℕ)) (v w text : List ℕ) → Passes a b [] v → Appends b c text → w ≡ [] → Passes a c w (v ++ text)
passes_sent a b c v w text h sent none = record {
  sent = v ++ text;
  whole = sym (append-nil (v ++ text)) ∙ ap (λ (l : List ℕ). (v ++ text) ++ l) (sym none);
  written = Appends-trans a b c v text (subst (Appends a b) (sym (h.whole ∙ append-nil h.sent)) h.written) sent;
}

pub breaks_sent : (a b c : Option (List ℕ)) (v text : List ℕ) → Passes a b [] v → Breaks b c text → Breaks a c (v ++ text)
breaks_sent a b c v text h sent = record {
  front = v ++ sent.front;
  rest = sent.rest;
  short = sent.short;
  whole = ap (λ (l : List ℕ). v ++ l) sent.whole ∙ sym (append_assoc v sent.front sent.rest);
  written = Appends-trans a b c v sent.front (subst (Appends a b) (sym (h.whole ∙ append-nil h.sent)) h.written) sent.written;
}

-- one text, and then another
pub passes_then : (a b c : Option (List ℕ)) (v w u x y : List ℕ) → Passes a b w (v ++ x) → Passes b c u (w ++ y) → Passes a c u (v ++ (x ++ y))
passes_then a b c v w u x y h k = record {
  sent = h.sent ++ k.sent;
  whole = sym (append_assoc v x y) ∙ ap (λ (l : List ℕ). l ++ y) h.whole ∙ append_assoc h.sent w y ∙ ap (λ (l : List ℕ). h.sent ++ l) k.whole ∙ sym (append_assoc h.sent k.sent u);
  written = Appends-trans a b c h.sent k.sent h.written k.written;
}

pub breaks_then : (a b c : Option (List ℕ)) (v w x y : List ℕ) → Passes a b w (v ++ x) → Breaks b c (w ++ y) → Breaks a c (v ++ (x ++ y))
breaks_then a b c v w x y h k = record {
  front = h.sent ++ k.front;
  rest = k.rest;
  short = k.short;
  whole = sym (append_assoc v x y) ∙ ap (λ (l : List ℕ). l ++ y) h.whole ∙ append_assoc h.sent w y ∙ ap (λ (l : List ℕ). h.sent ++ l) k.whole ∙ sym (append_assoc h.sent k.front k.rest);
  written = Appends-trans a b c h.sent k.front h.written k.written;
}

-- what waits after a text was written too
pub passes_out : (a b c : Option (List ℕ)) (w text : List ℕ) → Passes a b w text → Passes b c [] w → Passes a c [] text
passes_out a b c w text h k = record {
  sent = h.sent ++ k.sent;
  whole = h.whole ∙ ap (λ (l : List ℕ). h.sent ++ l) k.whole ∙ sym (append_assoc h.sent k.sent []);
  written = Appends-trans a b c h.sent k.sent h.written k.written;
}

pub breaks_out : (a b c : Option (List ℕ)) (w text : List ℕ) → Passes a b w text → Breaks b c w → Breaks a c text
breaks_out a b c w text h k = record {
  front = h.sent ++ k.front;
  rest = k.rest;
  short = k.short;
  whole = h.whole ∙ ap (λ (l : List ℕ). h.sent ++ l) k.whole ∙ sym (append_assoc h.sent k.front k.rest);
  written = Appends-trans a b c h.sent k.front h.written k.written;
}

-- nothing waits after a text
pub passes_whole : (a c : Option (List ℕ)) (text : List ℕ) → Passes a c [] text → Appends a c text
passes_whole a c text h = subst (Appends a c) (sym (h.whole ∙ append-nil h.sent)) h.written

-- ---- by how a call ended

pub stopped : {T E : Type 0} (r : Result T E) (x : E) (P : T → Type 0) (Q : Type 0) → IsErrAnd r (λ e. e ≡ x) → Q → MatchResult r P (λ _. Q)
stopped (Ok v) x P Q is q = absurd is
stopped (Err e) x P Q is q = q

pub so_of : {T E : Type 0} (r : Result T E) (P P' Q Q' : Type 0) → (P → P') → (Q → Q') → MatchResult r (λ _. P) (λ _. Q) → MatchResult r (λ _. P') (λ _. Q')
so_of (Ok v) P P' Q Q' f g h = f h
so_of (Err e) P P' Q Q' f g h = g h

-- a text was written, and then another or a beginning of it
pub sent_after : {E : Type 0} (r : Result (Unit {0}) E) (a b c : Option (List ℕ)) (xs ys : List ℕ) → Appends a b xs → WasSent r b c ys → WasSent r a c (xs ++ ys)
sent_after (Ok u) a b c xs ys h k = Appends-trans a b c xs ys h k
sent_after (Err e) a b c xs ys h k = record {
  front = xs ++ k.front;
  rest = k.rest;
  short = k.short;
  whole = ap (λ (l : List ℕ). xs ++ l) k.whole ∙ sym (append_assoc xs k.front k.rest);
  written = Appends-trans a b c xs k.front h k.written;
}

-- the writer stopped at a text, and none was written after it
pub sent_first : {E : Type 0} (r : Result (Unit {0}) E) (x : E) (a c : Option (List ℕ)) (xs ys : List ℕ) → IsErrAnd r (λ e. e ≡ x) → Breaks a c xs → WasSent r a c (xs ++ ys)
sent_first r x a c xs ys is h = stopped r x (λ _. Appends a c (xs ++ ys)) (Breaks a c (xs ++ ys)) is (breaks_front a c xs ys h)
