use Rattle.std.proofs.Common.{◌≡◌, rules, inl, inr, Err, ap, refl, ◌∙◌}
use Rattle.acd_sessions.proofs.standby.stand_by_at.Goals as goal

pub returns-in_err-door : goal.returns-in_err-door
returns-in_err-door g c = inl (record { why = c.in_err-door.field-0.0; ended = search rules; same = refl; quiet = refl; unsaid = refl })

pub returns-in_err-follow : goal.returns-in_err-follow
returns-in_err-follow g c =
    let is : c.from_residual-in_err-follow.result ≡ Err c.in_err-follow.field-0.0 = search rules in
    inr (inl (record { ended = c.in_err-follow.ensures.0; lines = c.in_err-follow.ensures.1; outcome = is ∙ ap Err c.in_err-follow.ensures.2; quiet = refl }))

pub returns : goal.returns
returns g c = inr (inr (record { between = c.follow.new.desk; answered = g.W.Write.contents c.follow.new.writer; lines = c.in_ok-follow.ensures; served = c.say_and_answer.ensures }))
