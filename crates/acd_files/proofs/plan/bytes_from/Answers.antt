use Rattle.std.proofs.Common.{take, IfSome, ◌≡◌, subst}
use Rattle.acd_files.proofs.Plans.{read_enough}
use Rattle.acd_files.proofs.plan.bytes_from.Goals as goal

pub returns : goal.returns
returns g c =
    let bytes : _ = c.read_to_end.new.buf.items in
    subst (λ (r : _). IfSome (g.R.Read.remaining r) (λ (all : _). bytes ≡ take 1048577 all)) c.take.ensures.inner
    (read_enough (g.R.Read.remaining c.take.result.inner) c.take.result.limit c.new-bytes.result.items bytes c.take.ensures.limit c.new-bytes.ensures.items c.in_ok-read_to_end.ensures.bytes)
