-- Which state it is that a test finds.
use Rattle.std.proofs.Common.{◌≡◌, true, refl}
use Rattle.acd_lemmas.proofs.Words.{ConnectionState, AgentState, is_null, is_ready, is_busy, is_initiated, is_alerting, is_connected, is_hold, is_queued}
use Rattle.acd_terms.specs.declared.state.AgentState.TheVariants as A
use Rattle.acd_terms.specs.declared.state.ConnectionState.TheVariants as S

pub initiated_is : (st : ConnectionState) → is_initiated st ≡ true → st ≡ S.Initiated
initiated_is S.Initiated e = refl
initiated_is _ e = absurd (cc (e))

pub alerting_is : (st : ConnectionState) → is_alerting st ≡ true → st ≡ S.Alerting
alerting_is S.Alerting e = refl
alerting_is _ e = absurd (cc (e))

pub connected_is : (st : ConnectionState) → is_connected st ≡ true → st ≡ S.Connected
connected_is S.Connected e = refl
connected_is _ e = absurd (cc (e))

pub hold_is : (st : ConnectionState) → is_hold st ≡ true → st ≡ S.Hold
hold_is S.Hold e = refl
hold_is _ e = absurd (cc (e))

pub queued_is : (st : ConnectionState) → is_queued st ≡ true → st ≡ S.Queued
queued_is S.Queued e = refl
queued_is _ e = absurd (cc (e))

pub null_is : (st : AgentState) → is_null st ≡ true → st ≡ A.Null
null_is A.Null e = refl
null_is _ e = absurd (cc (e))

pub ready_is : (st : AgentState) → is_ready st ≡ true → st ≡ A.Ready
ready_is A.Ready e = refl
ready_is _ e = absurd (cc (e))

pub busy_is : (st : AgentState) → is_busy st ≡ true → st ≡ A.Busy
busy_is A.Busy e = refl
busy_is _ e = absurd (cc (e))
