use Rattle.std.proofs.Common.{◌≡◌, ◌++◌, drop}
use Rattle.acd_codec.specs.Tokens.{each_tokens}
use Rattle.acd_codec.proofs.writing.put_each.Given as goal

abbrev pub invariant-loop-item : goal.invariant-loop-item
invariant-loop-item g l =
    (l.out.before ≡ l.fn.out.before)
    × (l.out.tokens ++ each_tokens g.F.Form.data_of (drop l.item-index l.items) ≡ l.fn.out.tokens ++ each_tokens g.F.Form.data_of l.items)
