use Rattle.std.proofs.Common.{sym, ◌∙◌, ap, ap₂}
use Rattle.std.proofs.lemmas.Bool.{false≢true}
use Rattle.sqlite_wal.specs.Format.{checksum, is_big}
use Rattle.sqlite_wal.proofs.FormatLemmas.{same_sums, part_front, salts_differ, salts_agree}
use Rattle.std.proofs.lemmas.List.{take_rest}
use Rattle.acd_log.proofs.frames.is_frame.Goals.{then-ne-via-then-ne, then-ne-via-else-ne+then-number_at-eq0}
use Rattle.acd_log.proofs.frames.is_frame.Goals as goal

pub returns-then-ne : goal.returns-then-ne
returns-then-ne c = (
  λ no'. absurd (false≢true no'),
  λ passes. elim (c.then-ne.branch) [
    | then-ne-via-then-ne w ↦ absurd (salts_differ _ _ (sym w.if-ne.true ∙ c.ne.ensures) passes.salt)
    | then-ne-via-else-ne+then-number_at-eq0 w ↦ absurd (passes.page (sym w.number_at.ensures ∙ w.if-number_at-eq0.true))
  ],
)

pub returns : goal.returns
returns c =
    let decides = same_sums _ _ _ c.eq.ensures in
    let big = is_big c.args.head.now in
    let front = ap (checksum big c.args.before) (part_front c.args.frame.now 8) ∙ sym c.checksum_of-front.ensures in
    let ours = ap₂ (checksum big) front (sym (take_rest c.args.frame.now 24)) ∙ sym c.checksum_of.ensures in (
      λ same. record {
        salt = salts_agree _ _ c.if-ne.ensures;
        page = λ none. c.if-number_at-eq0.false (c.number_at.ensures ∙ none);
        sum = ours ∙ decides.0 same ∙ c.sum_at.ensures;
      },
      λ passes. decides.1 (sym ours ∙ passes.sum ∙ sym c.sum_at.ensures),
    )
