use Rattle.std.proofs.Common.{◌≡◌, rules, sym}
use Rattle.acd_codec.proofs.writing.put_seconds.Goals as goal

pub returns : goal.returns
returns c =
    let same : c.from.result ≡ c.args.value = search rules in
    rw (sym same) c.put_number.ensures
