use Rattle.std.proofs.Common.{List, ℕ, refl, sym, subst₂}
use Rattle.sqlite_wal.specs.Format.{IsFrame}
use Rattle.acd_log.proofs.frames.passes.Goals as goal

pub returns : goal.returns
returns c =
    let head = c.part_of.ensures.value in
    let frame = c.part_of-2.ensures.value in (
      λ yes'. (c.if-not-has_frame.ensures.0 refl, subst₂ (λ (h f : List ℕ). IsFrame h c.args.before f) head frame (c.is_frame.ensures.0 yes')),
      λ h. c.is_frame.ensures.1 (subst₂ (λ (h f : List ℕ). IsFrame h c.args.before f) (sym head) (sym frame) h.1),
    )
