use Rattle.acd_http.proofs.serving.next_peer.Goals as goal

pub loop-init : goal.loop-init
loop-init g c = λ first start many h. h

pub loop-preserved : goal.loop-preserved
loop-preserved g c = λ first start many h. c.look_in_time.ensures first start many (c.loop.invariant first start many h)

pub returns-then-has_ended-clause-looks : goal.returns-then-has_ended-clause-looks
returns-then-has_ended-clause-looks g c = λ first start many h. c.look_in_time.ensures first start many (c.loop.invariant first start many h)
