use Rattle.std.proofs.Common.{List, ℕ, refl, ◌∙◌, ap}
use Rattle.std.proofs.lemmas.Bool.{false≢true}
use Rattle.sqlite_wal.specs.Format.{be32}
use Rattle.acd_log.proofs.Heads.{readable, unreadable}
use Rattle.acd_log.proofs.head.page_size.Goals as goal

pub returns-then-not-has_head-clause-none : goal.returns-then-not-has_head-clause-none
returns-then-not-has_head-clause-none c none page h = absurd (false≢true (c.if-not-has_head.ensures.1 (h.long, h.head.signed, h.head.version)))

pub returns-clause-some : goal.returns-clause-some
returns-clause-some c =
    readable c.new.result c.args.log.now c.number_at.result c.new.ensures.valid c.new.ensures.value
    (c.number_at.ensures ∙ ap (λ (b : List ℕ). be32 b 8) c.part_of.ensures.value) (c.if-not-has_head.ensures.0 refl)

pub returns-clause-none : goal.returns-clause-none
returns-clause-none c =
    unreadable c.new.result c.args.log.now c.number_at.result c.new.ensures.valid (c.number_at.ensures ∙ ap (λ (b : List ℕ). be32 b 8) c.part_of.ensures.value)
