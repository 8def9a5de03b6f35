use Rattle.std.proofs.Common.{◌≡◌, rules, sym}
use Rattle.acd_codec.proofs.writing.put_invoke.Goals as goal

pub returns : goal.returns
returns c =
    let same : c.from.result ≡ c.args.invoke = search rules in
    rw (sym same) c.put_number.ensures
