use Rattle.std.proofs.Common.{◌≡◌, ◌+◌, sym, ◌∙◌, ap₂}
use Rattle.std.proofs.lemmas.Slice.Eq.{bytes_eq-Decides}
use Rattle.std.specs.Str.{bytes_eq}
use Rattle.sqlite_wal.specs.Format.{part}
use Rattle.acd_log.proofs.frames.is_salted.Goals as goal

pub returns : goal.returns
returns c =
    let log = c.args.log.now in
    let is : c.eq.result ≡ bytes_eq (part log (c.args.at + 8) 8) (part log 16 8) = c.eq.ensures ∙ ap₂ bytes_eq c.part_of.ensures.value c.part_of-2.ensures.value in
    (λ yes'. (bytes_eq-Decides _ _).0 (sym is ∙ yes'), λ same. is ∙ (bytes_eq-Decides _ _).1 same)
