-- Reads of two books, one after the other.
use Rattle.std.proofs.Common.{◌≡◌, Result, Ok, Err, IfOk, refl, sym, subst}
use Rattle.std.proofs.lemmas.Result.{IfOk-weaker}
use Rattle.acd_book.specs.Content.{Content}
use Rattle.acd_book.specs.State.{BookState, Reads}
use Rattle.acd_book.specs.declared.fault.BookFault.{BookFault}
use Rattle.acd_book.specs.declared.fault.BookFault.TheVariants as book
use Rattle.acd_desk.specs.declared.open_fault.OpenFault.{OpenFault}
use Rattle.acd_desk.specs.declared.open_fault.OpenFault.TheVariants as open_fault
use Rattle.acd_desk.specs.declared.pair.PairFault.{PairFault}
use Rattle.acd_desk.specs.declared.pair.PairFault.TheVariants.{Current, Archive}
use Rattle.acd_desk.specs.Desks.Opening.{by_book}
use Rattle.acd_desk.specs.Audits.Pairs.{of_current, of_archive, of_opening, by_opening, current_part, archive_part, ReadsBoth}
use Rattle.acd_book.specs.BookReads.{Anything, ReadsIfOpen}
use Rattle.acd_book.proofs.ReadsAhead.{known, by_read, read_ok, read_nothing, read_twice, none_alone, read_more}
use Rattle.acd_book.proofs.ReadsInTurn.{Finding}

-- what the archive and the book say of themselves at a moment
pub record Books : Type 1 where
  pub archive : BookState
  pub current : BookState

-- what reads find in the contents of both
abbrev pub FindingOfBoth : Type 0 → Type 1
FindingOfBoth T = Content → Content → T → Type 0

-- in that of one of them
abbrev pub OfArchive : {T : Type 0} → Finding T → FindingOfBoth T
OfArchive P a c found = P a found

abbrev pub OfCurrent : {T : Type 0} → Finding T → FindingOfBoth T
OfCurrent P a c found = P c found

-- in two reads of both
abbrev pub AndThen : {T S : Type 0} → FindingOfBoth T → FindingOfBoth S → FindingOfBoth (T × S)
AndThen P Q a c found = P a c found.0 × Q a c found.1

-- what two reads found says the more of the second
abbrev pub TogetherOfBoth : {T S : Type 0} → FindingOfBoth T → T → FindingOfBoth S → FindingOfBoth S → Type 0
TogetherOfBoth {T} {S} P x Q R = (a c : Content) → P a c x → (y : S) → Q a c y → R a c y

-- reads of both, from one moment to another
abbrev pub ReadsFrom : {T : Type 0} → Books → Books → Result T PairFault → FindingOfBoth T → Type 0
ReadsFrom old new result IsAnswer = ReadsBoth old.archive new.archive old.current new.current result IsAnswer

-- ---- one of them is read ----

-- it is known
pub both_known : {T : Type 0} {Q : FindingOfBoth T} {a : Books} {y : T} → ((x z : Content) → Q x z y) → ReadsFrom a a (Ok y) Q
both_known {T = T} {a = a} {y = y} follows = record {
  archive = known {C = T} Anything a.archive y (λ x. tt);
  current = known {C = T} Anything a.current y (λ x. tt);
  value = λ clean sound current_clean current_sound opened current_opened. follows a.archive.content a.current.content;
}

-- no memory for what would have been asked
pub both_no_memory : {a : Books} → ReadsFrom a a (Err (Current book.NoMemory)) (OfArchive {T = Unit {0}} Anything)
both_no_memory {a = a} = record {
  archive = none_alone Anything a.archive (Err book.NoMemory) refl;
  current = none_alone Anything a.current (Err book.NoMemory) refl;
  value = λ clean sound current_clean current_sound opened current_opened. tt;
}

-- the archive is opened
pub both_opening : {T : Type 0} {P : Finding T} {a b c : BookState} (r : Result T OpenFault) {result : Result T PairFault} → ReadsIfOpen a b (by_opening r) P
    → result ≡ of_opening r → ReadsBoth a b c c result (OfArchive P)
both_opening {T = T} {P = P} {a = a} {b = b} {c = c} (Ok y) read is =
    subst (λ (r : Result T PairFault). ReadsBoth a b c c r (OfArchive P)) (sym is)
    (record {
      archive = read_more Anything a b (Ok y) read (λ x y holds. tt);
      current = known {C = T} Anything c y (λ x. tt);
      value = λ clean sound current_clean current_sound opened current_opened. read.value clean sound opened;
    })
both_opening {T = T} {P = P} {a = a} {b = b} {c = c} (Err fault) read is =
    subst (λ (r : Result T PairFault). ReadsBoth a b c c r (OfArchive P)) (sym is)
    (record {
      archive = read_more Anything a b (by_opening (Err fault)) read (λ x y holds. tt);
      current = none_alone {C = T} Anything c (Err book.NoMemory) refl;
      value = λ clean sound current_clean current_sound opened current_opened. tt;
    })

-- it is read
pub both_archive : {T : Type 0} {P : Finding T} {a b c : BookState} {r : Result T BookFault} {result : Result T PairFault} → ReadsIfOpen a b r P
    → result ≡ of_archive r → ReadsBoth a b c c result (OfArchive P)
both_archive {r = Ok y} read is = both_opening (Ok y) read is
both_archive {r = Err book.NoMemory} read is = both_opening (Err open_fault.NoMemory) read is
both_archive {r = Err book.Store} read is = both_opening (Err open_fault.Store) read is

-- the book is read
pub both_current : {T : Type 0} {P : Finding T} {a c d : BookState} {r : Result T BookFault} {result : Result T PairFault} → ReadsIfOpen c d r P
    → result ≡ of_current r → ReadsBoth a a c d result (OfCurrent P)
both_current {T = T} {P = P} {a = a} {c = c} {d = d} {r = Ok y} read is =
    subst (λ (r : Result T PairFault). ReadsBoth a a c d r (OfCurrent P)) (sym is)
    (record {
      archive = known {C = T} Anything a y (λ x. tt);
      current = read_more Anything c d (Ok y) read (λ x y holds. tt);
      value = λ clean sound current_clean current_sound opened current_opened. read.value current_clean current_sound current_opened;
    })
both_current {T = T} {P = P} {a = a} {c = c} {d = d} {r = Err fault} read is =
    subst (λ (r : Result T PairFault). ReadsBoth a a c d r (OfCurrent P)) (sym is)
    (record {
      archive = none_alone {C = T} Anything a (Err book.NoMemory) refl;
      current = read_more Anything c d (Err fault) read (λ x y holds. tt);
      value = λ clean sound current_clean current_sound opened current_opened. tt;
    })

-- the same by a read that shows that it is open
pub archive_read : {T : Type 0} {P : Finding T} {a b c : BookState} {r : Result T BookFault} {result : Result T PairFault} → Reads a b r P
    → result ≡ of_archive r → ReadsBoth a b c c result (OfArchive P)
archive_read {P = P} {a = a} {b = b} {r = r} read is = both_archive (by_read P a b r read (λ x y holds. holds)) is

pub current_read : {T : Type 0} {P : Finding T} {a c d : BookState} {r : Result T BookFault} {result : Result T PairFault} → Reads c d r P
    → result ≡ of_current r → ReadsBoth a a c d result (OfCurrent P)
current_read {P = P} {c = c} {d = d} {r = r} read is = both_current (by_read P c d r read (λ x y holds. holds)) is

-- a property of the book's answer is one of the answer of both
pub if_current : {T : Type 0} (P : T → Type 0) (r : Result T BookFault) (result : Result T PairFault) → result ≡ of_current r → IfOk r P → IfOk result P
if_current {T = T} P (Ok found) result is holds = subst (λ (r : Result T PairFault). IfOk r P) (sym is) holds
if_current {T = T} P (Err fault) result is holds = subst (λ (r : Result T PairFault). IfOk r P) (sym is) tt

-- the answer of both is that of the archive
pub if_archive : {T : Type 0} (P : T → Type 0) (r : Result T BookFault) (found : T) → Ok found ≡ of_archive r → IfOk r P → P found
if_archive {T = T} P (Ok x) found is holds = subst P (sym (same found x is)) holds
  where
    same : (a b : T) → ◌≡◌ {A = Result T PairFault} (Ok a) (Ok b) → a ≡ b
    same a b e = cc
if_archive {T = T} P (Err fault) found is holds = absurd (other found (Archive (by_book fault)) is)
  where
    other : (a : T) (f : PairFault) → ◌≡◌ {A = Result T PairFault} (Ok a) (Err f) → ⊥
    other a f e = cc

-- ---- one read after the other ----

-- another answer follows from what was read
pub both_ok : {T S : Type 0} {P : FindingOfBoth T} {Q : FindingOfBoth S} {a b : Books} {x : T} {y : S} → ReadsFrom a b (Ok x) P
    → ((p q : Content) → P p q x → Q p q y) → ReadsFrom a b (Ok y) Q
both_ok {T = T} {S = S} {a = a} {b = b} {x = x} {y = y} read follows = record {
  archive = read_ok {A = T} {C = S} Anything a.archive b.archive x y read.archive (λ p u. tt);
  current = read_ok {A = T} {C = S} Anything a.current b.current x y read.current (λ p u. tt);
  value = λ clean sound current_clean current_sound opened current_opened.
      follows a.archive.content a.current.content (read.value clean sound current_clean current_sound opened current_opened);
}

-- the answer is this one
pub both_as : {T : Type 0} {P : FindingOfBoth T} {a b : Books} {x y : T} → x ≡ y → ReadsFrom a b (Ok x) P → ReadsFrom a b (Ok y) P
both_as {T = T} {P = P} {a = a} {b = b} is read = subst (λ (z : T). ReadsFrom a b (Ok z) P) is read

pub both_then : {T S : Type 0} {P : FindingOfBoth T} {Q R : FindingOfBoth S} {a b e : Books} {x : T} {r : Result S PairFault} → ReadsFrom a b (Ok x) P
    → ReadsFrom b e r Q → TogetherOfBoth P x Q R → ReadsFrom a e r R
both_then {T = T} {S = S} {Q = Q} {R = R} {a = a} {b = b} {e = e} {x = x} {r = r} one two follows = record {
  archive = read_twice {A = T} {C = S} Anything a.archive b.archive e.archive x (archive_part r) one.archive two.archive (λ p u y v. tt);
  current = read_twice {A = T} {C = S} Anything a.current b.current e.current x (current_part r) one.current two.current (λ p u y v. tt);
  value = λ clean sound current_clean current_sound opened current_opened.
      let before = two.archive.step.clean clean in
      let current_before = two.current.step.clean current_clean in
      let up = one.archive.stays before sound opened in
      let current_up = one.current.stays current_before current_sound current_opened in
      let same : b.archive.content ≡ a.archive.content = (one.archive.unchanged.same before sound up).1 in
      let current_same : b.current.content ≡ a.current.content = (one.current.unchanged.same current_before current_sound current_up).1 in
      IfOk-weaker r (Q b.archive.content b.current.content) (R a.archive.content a.current.content)
      (λ y holds.
      follows a.archive.content a.current.content (one.value before sound current_before current_sound opened current_opened) y
      (subst (λ (p : Content). Q p a.current.content y) same (subst (λ (q : Content). Q b.archive.content q y) current_same holds)))
      (two.value clean (one.archive.step.sound before sound) current_clean (one.current.step.sound current_before current_sound) up current_up);
}

-- two answers
pub both_and : {T S : Type 0} {P : FindingOfBoth T} {Q : FindingOfBoth S} {a b e : Books} {x : T} {y : S} → ReadsFrom a b (Ok x) P → ReadsFrom b e (Ok y) Q
    → ReadsFrom a e (Ok (x, y)) (AndThen P Q)
both_and {S = S} {P = P} {Q = Q} {x = x} one two =
    both_ok {P = λ (p q : Content) (z : S). P p q x × Q p q z} (both_then one two (λ p q holds z more. (holds, more))) (λ p q both. both)

-- ---- a fault ----

-- it says as little of one thing as of another
archive_fault : {T S : Type 0} {a b : BookState} (f : PairFault) → ReadsIfOpen {A = T} a b (archive_part (Err f)) Anything
    → ReadsIfOpen {A = S} a b (archive_part (Err f)) Anything
archive_fault {a = a} {b = b} (Current fault) read = read_nothing Anything a b book.NoMemory (Err book.NoMemory) read refl
archive_fault {a = a} {b = b} (Archive (open_fault.Rows rule)) read = read_nothing Anything a b book.NoMemory (Err book.NoMemory) read refl
archive_fault {a = a} {b = b} (Archive open_fault.NoMemory) read = read_nothing Anything a b book.NoMemory (Err book.NoMemory) read refl
archive_fault {a = a} {b = b} (Archive open_fault.Store) read = read_nothing Anything a b book.Store (Err book.Store) read refl

current_fault : {T S : Type 0} {c d : BookState} (f : PairFault) → ReadsIfOpen {A = T} c d (current_part (Err f)) Anything
    → ReadsIfOpen {A = S} c d (current_part (Err f)) Anything
current_fault {c = c} {d = d} (Current fault) read = read_nothing Anything c d fault (Err fault) read refl
current_fault {c = c} {d = d} (Archive fault) read = read_nothing Anything c d book.NoMemory (Err book.NoMemory) read refl

pub both_fault : {T S : Type 0} {P : FindingOfBoth T} {Q : FindingOfBoth S} {a b : Books} {f : PairFault} {r : Result S PairFault}
    → ReadsFrom {T = T} a b (Err f) P → r ≡ Err f → ReadsFrom a b r Q
both_fault {T = T} {S = S} {Q = Q} {a = a} {b = b} {f = f} read is =
    subst (λ (r : Result S PairFault). ReadsFrom a b r Q) (sym is)
    (record {
      archive = archive_fault {T = T} f read.archive;
      current = current_fault {T = T} f read.current;
      value = λ clean sound current_clean current_sound opened current_opened. tt;
    })

-- after other reads
pub both_then_fault : {T S V : Type 0} {P : FindingOfBoth T} {Q : FindingOfBoth S} {R : FindingOfBoth V} {a b e : Books} {x : T} {f : PairFault}
    {r : Result V PairFault} → ReadsFrom a b (Ok x) P → ReadsFrom {T = S} b e (Err f) Q → r ≡ Err f → ReadsFrom a e r R
both_then_fault {S = S} one two is = both_fault {P = λ (p q : Content) (y : S). Unit {0}} (both_then one two (λ p q u y v. tt)) is
