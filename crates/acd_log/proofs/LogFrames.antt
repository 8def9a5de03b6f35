-- Going through the frames of a log.
use Rattle.std.proofs.Common.{◌≡◌, ◌≢◌, ◌↔◌, ℕ, suc, ◌+◌, ◌-◌, ◌<◌, ◌≤◌, Bool, true, false, List, length, take, drop, IsTrue, sym, refl, ◌∙◌, ap, ap₂, subst, subst₂, inl, inr, arith}
use Rattle.std.proofs.lemmas.Bool.{cases_lt, cases_order, false≢true}
use Rattle.sqlite_wal.specs.Format.{part, be32, stored_sum, IsFrame, commit_size}
use Rattle.sqlite_wal.specs.Recovery.{frame_at, header, frame, sum_before, Passes}
use Rattle.sqlite_wal.proofs.PartLemmas.{part-part, frames_len-zero, frames_len-suc, frames_len-le}
use Rattle.sqlite_wal.proofs.FormatLemmas.{be32-part}
use Rattle.acd_log.specs.Ending.{IsSalted, IsFirstBad, IsBeforeCommit}

abbrev two : ℕ → ℕ → ℕ × ℕ
two x y = (x, y)

-- the bytes between two places
pub part_between : (bytes : List ℕ) (at len : ℕ) → take (at + len - at) (drop at bytes) ≡ part bytes at len
unfolding part
part_between bytes at len =
    let same : at + len - at ≡ len = omega arith in
    ap (λ (n : ℕ). take n (drop at bytes)) same

-- ---- up to the first bad frame

-- the frames before this offset pass the store's test, which continues from this checksum
pub record Good (page : ℕ) (log : List ℕ) (before : ℕ × ℕ) (at : ℕ) : Type 0 where
  pub count : ℕ
  pub place : at ≡ frame_at page count
  pub sum : before ≡ sum_before page log count
  pub good : (i : ℕ) → i < count → Passes page log i

pub good_begun : (page : ℕ) (log : List ℕ) → Good page log (stored_sum log 24) 32
good_begun page log = record {
  count = 0;
  place = omega (arith, frames_len-zero page);
  sum = ap₂ two (sym (be32-part log 0 32 24 (omega arith))) (sym (be32-part log 0 32 28 (omega arith)));
  good = λ i low. absurd (omega arith);
}

-- the frame here passes too
pub good_on : (page : ℕ) (log : List ℕ) (before : ℕ × ℕ) (at : ℕ) → Good page log before at → at + (24 + page) ≤ length log → IsFrame (header log) before (part log at (24 + page))
    → Good page log (stored_sum log (at + 16)) (at + (24 + page))
good_on page log before at g within passes =
    let second : at + 16 + 4 ≡ at + 20 = omega arith in
    let sum : stored_sum log (at + 16) ≡ stored_sum (part log at (24 + page)) 16 =
    ap₂ two (sym (be32-part log at (24 + page) 16 (omega arith))) (ap (be32 log) second ∙ sym (be32-part log at (24 + page) 20 (omega arith))) in
    record {
      count = suc g.count;
      place = omega (arith, frames_len-suc page g.count, g.place);
      sum = sum ∙ ap (λ (x : ℕ). stored_sum (part log x (24 + page)) 16) g.place;
      good = λ i low. elim (cases_lt i g.count) [
        | inl lower ↦ g.good i lower
        | inr no_lower ↦ let same : g.count ≡ i = omega arith in subst (Passes page log) same (record {
          within = subst (λ (x : ℕ). x + (24 + page) ≤ length log) g.place within;
          passes = subst₂ (λ (s : ℕ × ℕ) (x : ℕ). IsFrame (header log) s (part log x (24 + page))) g.sum g.place passes;
        })
      ];
    }

-- there is one first bad frame
pub first_once : (page : ℕ) (log : List ℕ) (n k : ℕ) → IsFirstBad page log n → IsFirstBad page log k → n ≡ k
first_once page log n k a b = elim (cases_order n k) [
  | inl same ↦ same
  | inr (inl low) ↦ absurd (a.bad (b.good n low))
  | inr (inr high) ↦ absurd (b.bad (a.good k high))
]

-- ---- after it

-- the salt of a frame, and the mark of a commit, by the offset of the frame
pub salted : (page : ℕ) (log : List ℕ) (i at : ℕ) → 32 ≤ length log → at ≡ frame_at page i → at + (24 + page) ≤ length log → (part log (at + 8) 8 ≡ part log 16 8) ↔ IsSalted page log i
salted page log i at long place within =
    let ours : part (part log at (24 + page)) 8 8 ≡ part log (at + 8) 8 = part-part log at (24 + page) 8 8 within (omega arith) in
    let theirs : part (header log) 16 8 ≡ part log 16 8 = part-part log 0 32 16 8 (omega arith) (omega arith) in (
      λ same. record {
        within = subst (λ (x : ℕ). x + (24 + page) ≤ length log) place within;
        salt = subst (λ (x : ℕ). part (part log x (24 + page)) 8 8 ≡ part (header log) 16 8) place (ours ∙ same ∙ sym theirs);
      },
      λ h. sym ours ∙ subst (λ (x : ℕ). part (part log x (24 + page)) 8 8 ≡ part (header log) 16 8) (sym place) h.salt ∙ theirs,
    )

pub marked : (page : ℕ) (log : List ℕ) (i at : ℕ) → at ≡ frame_at page i → be32 log (at + 4) ≡ commit_size (frame page log i)
marked page log i at place = sym (be32-part log at (24 + page) 4 (omega arith)) ∙ ap (λ (x : ℕ). be32 (part log x (24 + page)) 4) place

-- The first commit after frame n, before frame `next`: no frame between has the salt.
pub record Committed (page : ℕ) (log : List ℕ) (n next : ℕ) : Type 0 where
  pub last : ℕ
  pub after : n < last
  pub before : last < next
  pub salted : IsSalted page log last
  pub ends : commit_size (frame page log last) ≢ 0
  pub first : (i : ℕ) → n < i → i < last → IsSalted page log i → commit_size (frame page log i) ≡ 0
  pub alone : (i : ℕ) → last < i → i < next → ¬ IsSalted page log i

-- all frames after frame n and before this offset were looked at, and whether one of them ends a commit
pub record Looking (page : ℕ) (log : List ℕ) (n at : ℕ) (is_committed : Bool) : Type 0 where
  pub next : ℕ
  pub place : at ≡ frame_at page next
  pub after : n < next
  pub none : is_committed ≡ false → (i : ℕ) → n < i → i < next → IsSalted page log i → commit_size (frame page log i) ≡ 0
  pub some : is_committed ≡ true → Committed page log n next

next_place : (page at k : ℕ) → at ≡ frame_at page k → at + (24 + page) ≡ frame_at page (suc k)
next_place page at k place = omega (arith, frames_len-suc page k, place)

pub looking_begun : (page : ℕ) (log : List ℕ) (n at : ℕ) → at ≡ frame_at page n → Looking page log n (at + (24 + page)) false
looking_begun page log n at place = record {
  next = suc n;
  place = next_place page at n place;
  after = omega arith;
  none = λ no' i above low. absurd (omega arith);
  some = λ yes'. absurd (false≢true yes');
}

-- the frame here hasn't the salt
pub looking_past : (page : ℕ) (log : List ℕ) (n at : ℕ) (is_committed : Bool) (h : Looking page log n at is_committed) → ¬ IsSalted page log h.next → Looking page log n (at + (24 + page)) is_committed
looking_past page log n at is_committed h other = record {
  next = suc h.next;
  place = next_place page at h.next h.place;
  after = omega (arith, h.after);
  none = λ no' i above low it. elim (cases_lt i h.next) [
    | inl lower ↦ h.none no' i above lower it
    | inr no_lower ↦ let same : i ≡ h.next = omega arith in absurd (other (subst (IsSalted page log) same it))
  ];
  some = λ yes'. let c = h.some yes' in record {
    last = c.last;
    after = c.after;
    before = omega (arith, c.before);
    salted = c.salted;
    ends = c.ends;
    first = c.first;
    alone = λ i above low it. elim (cases_lt i h.next) [
      | inl lower ↦ c.alone i above lower it
      | inr no_lower ↦ let same : i ≡ h.next = omega arith in other (subst (IsSalted page log) same it)
    ];
  };
}

-- it has, and it is the first that ends a commit, or it doesn't end one
pub looking_on : (page : ℕ) (log : List ℕ) (n at : ℕ) (is_committed is_last : Bool) → is_committed ≡ false → (h : Looking page log n at is_committed) → IsSalted page log h.next
    → IsTrue is_last ↔ (be32 log (at + 4) ≢ 0) → Looking page log n (at + (24 + page)) is_last
looking_on page log n at is_committed is_last not_yet h here mark =
    let mark_is = marked page log h.next at h.place in
    record {
      next = suc h.next;
      place = next_place page at h.next h.place;
      after = omega (arith, h.after);
      none = λ no' i above low it. elim (cases_lt i h.next) [
        | inl lower ↦ h.none not_yet i above lower it
        | inr no_lower ↦
            let same : h.next ≡ i = omega arith in
            let zero_here : be32 log (at + 4) ≡ 0 = elim (cases_lt 0 (be32 log (at + 4))) [
              | inl more ↦ absurd (false≢true (sym no' ∙ mark.1 (λ none. absurd (omega (arith, more, none)))))
              | inr none ↦ omega (arith, none)
            ] in
            subst (λ (k : ℕ). commit_size (frame page log k) ≡ 0) same (sym mark_is ∙ zero_here)
      ];
      some = λ yes'. record {
        last = h.next;
        after = h.after;
        before = omega arith;
        salted = here;
        ends = λ none. mark.0 yes' (mark_is ∙ none);
        first = h.none not_yet;
        alone = λ i above low it. absurd (omega arith);
      };
    }

-- it has, and a commit was seen before it
pub looking_done : (page : ℕ) (log : List ℕ) (n at : ℕ) (is_committed : Bool) → is_committed ≡ true → (h : Looking page log n at is_committed) → IsSalted page log h.next → IsBeforeCommit page log n
looking_done page log n at is_committed yes' h here =
    let c = h.some yes' in
    record { last = c.last; later = h.next; after = c.after; salted = c.salted; ends = c.ends; further = c.before; written = here }

inside : (page : ℕ) (log : List ℕ) (next at i : ℕ) → at ≡ frame_at page next → ¬ (at + (24 + page) ≤ length log) → IsSalted page log i → i < next
inside page log next at i place ends it = elim (cases_lt i next) [
  | inl low ↦ low
  | inr past ↦ let further = frames_len-le page next i past in let within = it.within in absurd (ends (omega (arith, further, within, place)))
]

-- there is no more frame
pub looking_ends : (page : ℕ) (log : List ℕ) (n at : ℕ) (is_committed : Bool) → Looking page log n at is_committed → ¬ (at + (24 + page) ≤ length log) → ¬ IsBeforeCommit page log n
looking_ends page log n at false h ends b = b.ends (h.none refl b.last b.after (inside page log h.next at b.last h.place ends b.salted) b.salted)
looking_ends page log n at true h ends b =
    let c = h.some refl in
    elim (cases_lt b.last c.last) [
      | inl lower ↦ b.ends (c.first b.last b.after lower b.salted)
      | inr past ↦ c.alone b.later (omega (arith, past, b.further)) (inside page log h.next at b.later h.place ends b.written) b.written
    ]

-- there is none after frame n, where frame n isn't whole itself
pub none_after : (page : ℕ) (log : List ℕ) (n at : ℕ) → at ≡ frame_at page n → ¬ (at + (24 + page) ≤ length log) → ¬ IsBeforeCommit page log n
none_after page log n at place ends b =
    let low = inside page log n at b.last place ends b.salted in
    absurd (omega (arith, low, b.after))
