use Rattle.std.proofs.Common.{◌≡◌, rules, sym}
use Rattle.std.specs.Prelude.{option_map}
use Rattle.acd_terms.specs.States.{pending_name}
use Rattle.acd_codec.specs.Parts.{groups_parts}
use Rattle.acd_codec.proofs.TokensInTurn.{adds_then, parts_append}
use Rattle.acd_codec.proofs.read_texts.put_agent_members.Goals as goal

pub returns : goal.returns
returns c =
    let pending : option_map (λ t. t.now) c.map.result ≡ option_map pending_name c.args.agent.now.pending = search rules in
    let since : c.from.result ≡ c.args.agent.now.since = search rules in
    let r = c.put_text-2.result in
    let end = c.put_text-2.new.out in
    let stamp = adds_then r c.put_number.new.out c.put_number_if.new.out end _ _ c.in_ok-put_number_if.ensures c.put_text-2.ensures in
    let from = adds_then r c.put_text_if.new.out c.put_number.new.out end _ _ c.in_ok-put_number.ensures stamp in
    let kept = adds_then r c.put_text.new.out c.put_text_if.new.out end _ _ c.in_ok-put_text_if.ensures from in
    let named = adds_then r c.put_groups.new.out c.put_text.new.out end _ _ c.in_ok-put_text.ensures kept in
    let groups = adds_then r c.put_device.new.out c.put_groups.new.out end _ _ c.in_ok-put_groups.ensures named in
    let at = adds_then r c.put_agent.new.out c.put_device.new.out end _ _ c.in_ok-put_device.ensures groups in
    rw (
      parts_append (groups_parts c.args.agent.now.groups) _,
      sym pending,
      sym since,
      sym c.in_full.ensures,
      sym c.as_str.ensures.value,
      sym c.name.ensures,
    ) (adds_then r c.args.out.now c.put_agent.new.out end _ _ c.in_ok-put_agent.ensures at)
