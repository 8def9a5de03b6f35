use Rattle.std.proofs.Common.{sym, ap, ◌∙◌, arith}
use Rattle.std.proofs.lemmas.List.{length-take-le, take_all}
use Rattle.acd_http.specs.Head.{head_len}
use Rattle.acd_http.proofs.receive.front_len.Goals as goal

pub slice_bounds-head_len-end : goal.slice_bounds-head_len-end
slice_bounds-head_len-end c = sym (length-take-le 8192 c.args.bytes.now (omega arith))

pub returns : goal.returns
returns c = c.head_len-2.ensures ∙ ap head_len (sym (take_all 8192 c.args.bytes.now (omega arith)))
