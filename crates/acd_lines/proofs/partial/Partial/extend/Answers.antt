use Rattle.std.proofs.Common.{◌-◌, ◌++◌, length, arith, ap, refl, ◌∙◌}
use Rattle.acd_lines.proofs.BoundedLines.{take_room, kept_room}
use Rattle.acd_lines.proofs.partial.Partial.extend.Goals as goal

pub returns : goal.returns
returns c =
    let kept = c.self.inside.bytes.items in
    let more = c.args.more.now in
    let size = c.self.inside.bytes.ok.0 in
    let room = 4109 - length kept in
    rw (← c.self.view_is)
    (c.in-Ok.ensures.items ∙ ap (λ l. kept ++ l) (take_room room c.min-count.result more (omega arith) (λ less. omega arith)) ∙ kept_room 4109 kept more room (omega arith) refl)
