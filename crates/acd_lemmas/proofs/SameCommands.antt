-- Commands that compare equal are equal.
use Rattle.std.proofs.Common.{◌≡◌, ℕ, List, true, true≢false, sym, refl, ap, ap₂, ◌&&◌, ◌==◌, eqb-true, nat_eq}
use Rattle.std.specs.Str.{bytes_eq}
use Rattle.acd_terms.specs.declared.command.Requested.{Requested}
use Rattle.acd_terms.specs.declared.command.Requested.TheVariants.{LoggedOn, State}
use Rattle.acd_terms.specs.declared.command.Command.{Command}
use Rattle.acd_terms.specs.declared.command.Command.TheVariants.{AddGroup, AddStation, AddAgent, ArriveCall, MakeCall, PhoneOffHook, AnswerCall, HoldCall, RetrieveCall, ClearConnection, DeflectCall, SingleStepTransfer, SetAgentState, MonitorStart, MonitorStop, Tick, SetGroupPriority, RejectCall, ChangeGroup, ChangeAgent}
use Rattle.acd_terms.specs.contracts.command.RequestedPartialEq.TheImpl as requested
use Rattle.acd_terms.specs.contracts.command.CommandPartialEq.TheImpl as command
use Rattle.acd_lemmas.proofs.EqualParts.{two, numbers, same_list}
use Rattle.acd_lemmas.proofs.SameRecords.{same_pending}

same_requested : (a b : Requested) → (requested.eq-value).it a b ≡ true → a ≡ b
same_requested (LoggedOn d gs) (LoggedOn e fs) h = let both = two h in ap₂ LoggedOn (eqb-true d e both.0) (same_list nat_eq eqb-true gs fs both.1)
same_requested (State p) (State q) h = ap State (same_pending p q h)
same_requested _ _ h = absurd (true≢false (sym h))

pair : (K : ℕ → ℕ → Command) (c d e f : ℕ) → ((c == e) && (d == f)) ≡ true → K c d ≡ K e f
pair K c d e f h = let both = two h in ap₂ K (eqb-true c e both.0) (eqb-true d f both.1)

triple : (K : ℕ → ℕ → ℕ → Command) (c d t e f u : ℕ) → ((c == e) && ((d == f) && (t == u))) ≡ true → K c d t ≡ K e f u
triple K c d t e f u h =
    let first = two h in
    let rest = two first.1 in
    let e1 : c ≡ e = eqb-true c e first.0 in
    let e2 : d ≡ f = eqb-true d f rest.0 in
    let e3 : t ≡ u = eqb-true t u rest.1 in
    cc (e1, e2, e3)

named : (K : ℕ → List ℕ → Command) (d : ℕ) (n : List ℕ) (e : ℕ) (m : List ℕ) → ((d == e) && bytes_eq n m) ≡ true → K d n ≡ K e m
named K d n e m h = let both = two h in ap₂ K (eqb-true d e both.0) (numbers n m both.1)

group : (K : ℕ → List ℕ → ℕ → ℕ → Command) (d : ℕ) (n : List ℕ) (r w e : ℕ) (m : List ℕ) (s x : ℕ)
    → ((d == e) && (bytes_eq n m && ((r == s) && (w == x)))) ≡ true → K d n r w ≡ K e m s x
group K d n r w e m s x h =
    let first = two h in
    let next = two first.1 in
    let rest = two next.1 in
    let e1 : d ≡ e = eqb-true d e first.0 in
    let e2 : n ≡ m = numbers n m next.0 in
    let e3 : r ≡ s = eqb-true r s rest.0 in
    let e4 : w ≡ x = eqb-true w x rest.1 in
    cc (e1, e2, e3, e4)

pub same_command : (a b : Command) → (command.eq-value).it a b ≡ true → a ≡ b
same_command (AddGroup d n r w) (AddGroup e m s x) h = group AddGroup d n r w e m s x h
same_command (AddStation d) (AddStation e) h = ap AddStation (eqb-true d e h)
same_command (AddAgent a n) (AddAgent b m) h = named AddAgent a n b m h
same_command (ArriveCall c d) (ArriveCall e f) h = pair ArriveCall c d e f h
same_command (MakeCall c d) (MakeCall e f) h = pair MakeCall c d e f h
same_command (PhoneOffHook c d) (PhoneOffHook e f) h = pair PhoneOffHook c d e f h
same_command (AnswerCall c d) (AnswerCall e f) h = pair AnswerCall c d e f h
same_command (HoldCall c d) (HoldCall e f) h = pair HoldCall c d e f h
same_command (RetrieveCall c d) (RetrieveCall e f) h = pair RetrieveCall c d e f h
same_command (ClearConnection c d) (ClearConnection e f) h = pair ClearConnection c d e f h
same_command (DeflectCall c d t) (DeflectCall e f u) h = triple DeflectCall c d t e f u h
same_command (SingleStepTransfer c d t) (SingleStepTransfer e f u) h = triple SingleStepTransfer c d t e f u h
same_command (SetAgentState a q) (SetAgentState b r) h =
    let both = two h in
    ap₂ SetAgentState (eqb-true a b both.0) (same_requested q r both.1)
same_command (MonitorStart d) (MonitorStart e) h = ap MonitorStart (eqb-true d e h)
same_command (MonitorStop m) (MonitorStop n) h = ap MonitorStop (eqb-true m n h)
same_command Tick Tick h = refl
same_command (SetGroupPriority d p) (SetGroupPriority e q) h = pair SetGroupPriority d p e q h
same_command (RejectCall c d) (RejectCall e f) h = pair RejectCall c d e f h
same_command (ChangeGroup d n r w) (ChangeGroup e m s x) h = group ChangeGroup d n r w e m s x h
same_command (ChangeAgent a n) (ChangeAgent b m) h = named ChangeAgent a n b m h
same_command _ _ h = absurd (true≢false (sym h))
