use Rattle.std.proofs.Common.{◌≡◌, ℕ, List, [], ◌∷◌, ◌++◌, refl, sym, ap, ◌∙◌, decimal}
use Rattle.acd_lines.specs.Answers.{line_text}
use Rattle.acd_desk.specs.Reads.AnswerTexts.{Said, said}
use Rattle.acd_io.proofs.Sends.{breaks_same, passes_same, breaks_more, breaks_then, passes_then, stopped, so_of}
use Rattle.acd_lines.proofs.conversation.push_answer.Goals as goal

-- the line, in the parts that are pushed
in_parts : (s : Said) (bytes part : List ℕ) (n : ℕ) → n ≡ s.status → bytes ≡ decimal n → part ≡ s.body → line_text s ≡ bytes ++ (32 ∷ (part ++ 10 ∷ []))
in_parts s bytes part n f g h = ap (λ (k : ℕ). decimal k ++ 32 ∷ (s.body ++ 10 ∷ [])) (sym f) ∙ ap (λ (l : List ℕ). l ++ 32 ∷ (s.body ++ 10 ∷ [])) (sym g) ∙ ap (λ (l : List ℕ). bytes ++ 32 ∷ (l ++ 10 ∷ [])) (sym h)

pub returns-in_err-push : goal.returns-in_err-push
returns-in_err-push g c =
    let a = c.args.answered.now in
    let v = c.args.outbox.now.waiting.items in
    let parts = in_parts (said a) c.as_bytes.result.now (said a).body c.status.result c.status.ensures (c.as_bytes.ensures.value ∙ c.format.ensures.text) refl in
    stopped c.from_residual.result _ _ _ c.from_residual.ensures.1 (breaks_same _ _ v _ _ parts (breaks_more _ _ v c.as_bytes.result.now _ c.in_err-push.ensures))

pub returns-in_err-push-2 : goal.returns-in_err-push-2
returns-in_err-push-2 g c =
    let a = c.args.answered.now in
    let v = c.args.outbox.now.waiting.items in
    let parts = in_parts (said a) c.as_bytes.result.now (said a).body c.status.result c.status.ensures (c.as_bytes.ensures.value ∙ c.format.ensures.text) refl in
    stopped c.from_residual-in_err-push-2.result _ _ _ c.from_residual-in_err-push-2.ensures.1
    (breaks_same _ _ v _ _ parts (breaks_then _ _ _ v _ c.as_bytes.result.now _ c.in_ok-push.ensures (breaks_more _ _ _ (32 ∷ []) ((said a).body ++ 10 ∷ []) c.in_err-push-2.ensures)))

pub returns-in_err-push-3 : goal.returns-in_err-push-3
returns-in_err-push-3 g c =
    let a = c.args.answered.now in
    let v = c.args.outbox.now.waiting.items in
    let body = c.body.result.now in
    let parts = in_parts (said a) c.as_bytes.result.now body c.status.result c.status.ensures (c.as_bytes.ensures.value ∙ c.format.ensures.text) c.body.ensures in
    stopped c.from_residual-in_err-push-3.result _ _ _ c.from_residual-in_err-push-3.ensures.1
    (breaks_same _ _ v _ _ parts (breaks_then _ _ _ v _ c.as_bytes.result.now _ c.in_ok-push.ensures (breaks_then _ _ _ _ _ (32 ∷ []) (body ++ 10 ∷ []) c.in_ok-push-2.ensures (breaks_more _ _ _ body (10 ∷ []) c.in_err-push-3.ensures))))

pub returns : goal.returns
returns g c =
    let a = c.args.answered.now in
    let v = c.args.outbox.now.waiting.items in
    let body = c.body.result.now in
    let parts = in_parts (said a) c.as_bytes.result.now body c.status.result c.status.ensures (c.as_bytes.ensures.value ∙ c.format.ensures.text) c.body.ensures in
    so_of c.push-4.result _ _ _ _
    (λ h. passes_same _ _ v _ _ _ parts (passes_then _ _ _ v _ _ c.as_bytes.result.now _ c.in_ok-push.ensures (passes_then _ _ _ _ _ _ (32 ∷ []) (body ++ 10 ∷ []) c.in_ok-push-2.ensures (passes_then _ _ _ _ _ _ body (10 ∷ []) c.in_ok-push-3.ensures h))))
    (λ h. breaks_same _ _ v _ _ parts (breaks_then _ _ _ v _ c.as_bytes.result.now _ c.in_ok-push.ensures (breaks_then _ _ _ _ _ (32 ∷ []) (body ++ 10 ∷ []) c.in_ok-push-2.ensures (breaks_then _ _ _ _ _ body (10 ∷ []) c.in_ok-push-3.ensures h))))
    c.push-4.ensures
