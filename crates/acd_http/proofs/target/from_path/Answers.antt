use Rattle.std.proofs.Common.{sym, ◌∙◌, arith}
use Rattle.acd_http.proofs.Steps.{path_here, path_later, no_path, to_end}
use Rattle.acd_http.proofs.target.from_path.Goals as goal

pub returns-then-begins_path : goal.returns-then-begins_path
returns-then-begins_path c =
    let bytes = c.args.bytes.now in
    let i = c.loop-i.i in
    to_end bytes i (omega (arith, c.loop-i-test.true)) ∙ sym (path_here bytes i c.loop-i-test.true (sym c.begins_path.ensures ∙ c.if-begins_path.true)) ∙ c.loop-i.invariant

pub loop-i-preserved : goal.loop-i-preserved
loop-i-preserved c = sym (path_later c.args.bytes.now c.loop-i.i c.loop-i-test.true (sym c.begins_path.ensures ∙ c.if-begins_path.false)) ∙ c.loop-i.invariant

pub returns : goal.returns
returns c = sym (no_path c.args.bytes.now c.loop-i.i c.loop-i-test.false) ∙ c.loop-i.invariant
