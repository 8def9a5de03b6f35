use Rattle.std.proofs.Common.{◌≡◌, ℕ, true, take, ◌++◌, [], ◌∷◌, ap, sym, subst, ◌∙◌, List}
use Rattle.std.proofs.lemmas.List.{take_more}
use Rattle.acd_terms.specs.Groups.{is_one_of}
use Rattle.acd_tables.specs.IndexedRows.{lists}
use Rattle.acd_tables.proofs.Entries.{waits_more, no_longer}
use Rattle.acd_tables.proofs.indexes.waiting_groups.Goals as goal
use Rattle.std.proofs.lemmas.Bool.{not-false}

pub loop-group-preserved : goal.loop-group-preserved
loop-group-preserved c =
    let i = c.loop-group.group-index in
    let more = take_more c.args.groups.now i c.group-item.result c.loop-group-test.true in
    record {
      all = subst (λ (l : List ℕ). (g : ℕ) (p : ℕ × ℕ) → is_one_of l g ≡ true → lists c.args.queues.now g p ≡ true → is_one_of c.push_if.new.entered g ≡ true)
          (sym (more ∙ ap (λ (v : ℕ). take i c.args.groups.now ++ v ∷ []) (sym c.group-item.is)))
          (waits_more c.args.queues.now _ c.loop-group.waiting c.push_if.new.entered _ _ c.loop-group.invariant.all
          (λ e. c.has_none-is_waiting.ensures.none (not-false c.has_none-is_waiting.result e)) c.push_if.ensures);
      few = no_longer _ _ _ _ _ c.push_if.ensures c.loop-group.invariant.few;
    }
