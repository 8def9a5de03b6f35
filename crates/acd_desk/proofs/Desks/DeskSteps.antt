-- Steps of a desk, one after the other.
use Rattle.std.proofs.Common.{◌≡◌, ◌⊎◌, Bool, true, false, refl, sym, ◌∙◌, arith, inl, inr, true≢false}
use Rattle.acd_book.specs.State.{IfHonest, BookStep}
use Rattle.acd_desk.specs.Desks.DeskState.{DeskState, InStep}
use Rattle.acd_desk.specs.Desks.DeskCalls.{DeskStep, IsCause, IsDeceived}
use Rattle.acd_desk.specs.Reads.BookReads.{Reread}

-- a desk that works after it
pub works : {F U : Type 0} (old new : DeskState) → ¬ F → old.failed ≡ false → new.failed ≡ false → IfHonest old.book new.book (InStep old → InStep new) → DeskStep F U old new
works old new none before working in_step = record {
  in_step = in_step;
  shuts = λ failed. absurd (none failed);
  answers = λ failed. absurd (true≢false (sym failed ∙ working));
  lasts = λ failed. absurd (true≢false (sym failed ∙ before));
  cause = λ failed. absurd (true≢false (sym failed ∙ working));
}

-- one that has failed
pub fails : {F U : Type 0} (old new : DeskState) → F → new.failed ≡ true → IsCause old new ⊎ (U × IsDeceived old new) → DeskStep F U old new
fails old new answered failed cause = record {
  in_step = λ clean sound step opened working. absurd (true≢false (sym failed ∙ working));
  shuts = λ is. failed;
  answers = λ is. inr answered;
  lasts = λ is. failed;
  cause = λ is. cause;
}

-- one that holds what it read again
pub rereads : {F U : Type 0} (old new : DeskState) → ¬ F → Reread old new → DeskStep F U old new
rereads old new none r = record {
  in_step = r.in_step;
  shuts = λ failed. absurd (none failed);
  answers = λ failed. inl (sym r.failed ∙ failed);
  lasts = λ failed. r.failed ∙ failed;
  cause = λ failed. inl (inl (sym r.failed ∙ failed));
}

-- in other words of what was answered
pub desk_so : {F G U : Type 0} {old new : DeskState} → DeskStep F U old new → (F → G) → (G → F) → DeskStep G U old new
desk_so s there back = record {
  in_step = s.in_step;
  shuts = λ answered. s.shuts (back answered);
  answers = λ failed. elim (s.answers failed) [
    | inl before ↦ inl before
    | inr now ↦ inr (there now)
  ];
  lasts = s.lasts;
  cause = s.cause;
}

module _ {F G U V : Type 0} (a b d : DeskState) (first : BookStep F a.book b.book) (second : BookStep G b.book d.book) (one : DeskStep F U a b) (two : DeskStep G V b d) where
  -- the second step makes it fail, or it failed before
  caused : {W : Type 0} → (U → W) → (b.failed ≡ false → V → W) → d.failed ≡ true → (failed : Bool) → b.failed ≡ failed → IsCause a d ⊎ (W × IsDeceived a d)
  caused before later now true was = elim (one.cause was) [
    | inl cause ↦ inl (elim cause [
      | inl failed ↦ inl failed
      | inr risen ↦ inr (elim risen [
        | inl more ↦ let counts = second.counts in inl (omega (arith, more, counts))
        | inr top ↦ let counts = second.counts in inr (omega (arith, top, counts))
      ])
    ])
    | inr why ↦ inr (before why.0, λ honest. why.1 (second.clean honest.0, honest.1, honest.2))
  ]
  caused before later now false was = elim (two.cause now) [
    | inl cause ↦ inl (elim cause [
      | inl failed ↦ absurd (true≢false (sym failed ∙ was))
      | inr risen ↦ inr (elim risen [
        | inl more ↦ let counts = first.counts in inl (omega (arith, more, counts))
        | inr top ↦ inr top
      ])
    ])
    | inr why ↦ inr (
      later was why.0,
      λ honest. why.1 (honest.0, first.sound (second.clean honest.0) honest.1, one.in_step (second.clean honest.0) honest.1 honest.2),
    )
  ]

  -- one after another
  pub desk_then : {H W : Type 0} → (F → H) → (G → H) → (H → F ⊎ G) → (U → W) → (b.failed ≡ false → V → W) → DeskStep H W a d
  desk_then left right either before later = record {
    in_step = λ clean sound step. two.in_step clean (first.sound (second.clean clean) sound) (one.in_step (second.clean clean) sound step);
    shuts = λ why. elim (either why) [
      | inl early ↦ two.lasts (one.shuts early)
      | inr late ↦ two.shuts late
    ];
    answers = λ failed. elim (two.answers failed) [
      | inl mid ↦ elim (one.answers mid) [
        | inl old ↦ inl old
        | inr early ↦ inr (left early)
      ]
      | inr late ↦ inr (right late)
    ];
    lasts = λ failed. two.lasts (one.lasts failed);
    cause = λ failed. caused before later failed b.failed refl;
  }
