use Rattle.std.proofs.Common.{◌≡◌, ◌-◌, length, not, sym, ◌∙◌, ap, arith}
use Rattle.std.proofs.lemmas.Bool.{not-true}
use Rattle.std.specs.List.{list_all}
use Rattle.sqlite_wal.specs.Format.{part}
use Rattle.acd_log.specs.Ending.{is_zero}
use Rattle.acd_log.proofs.ending.is_filled.Goals as goal

pub returns : goal.returns
returns c =
    let log = c.args.log.now in
    let is : c.are_zeros.result ≡ list_all is_zero (part log 32 (length log - 32)) = c.are_zeros.ensures ∙ ap (list_all is_zero) c.part_of.ensures.value in
    (λ yes'. record { long = omega (arith, c.if-log-lt-SHORTEST.false); begun = c.if-log-eq0.false; holds = sym is ∙ not-true _ yes' }, λ h. ap not (is ∙ h.holds))
