-- Bytes that were read as a request are read as the same request.
use Rattle.std.proofs.Common.{◌≡◌, ℕ, List, [], ◌∷◌, ◌++◌, Bool, true, false, cond, Option, Some, None, option_and_then, Result, Ok, Err, refl, ◌∙◌}
use Rattle.std.specs.Option.{ok_or, is_some}
use Rattle.std.specs.List.{find}
use Rattle.std.specs.Str.{is_utf8, bytes_eq}
use Rattle.std.proofs.lemmas.List.Folds.{find-append}
use Rattle.serde_json.specs.Data.{Data}
use Rattle.serde_json.specs.Find.{get, as_str, as_object}
use Rattle.serde_json.specs.Read.{read}
use Rattle.acd_terms.specs.Results.{◌>>=◌}
use Rattle.acd_terms.specs.declared.command.Requested.TheVariants as requested
use Rattle.acd_codec.specs.declared.member.Member.{Member}
use Rattle.acd_codec.specs.declared.member.Member.TheVariants as member
use Rattle.acd_codec.specs.declared.service.RequestedState.{RequestedState}
use Rattle.acd_codec.specs.declared.service.RequestedState.TheVariants as requested_state
use Rattle.acd_codec.specs.declared.service.Service.{Service}
use Rattle.acd_codec.specs.declared.service.Service.TheVariants as service
use Rattle.acd_codec.specs.Members.{member_name}
use Rattle.acd_codec.specs.Services.{service_name, first_services, later_services, service_of}
use Rattle.acd_codec.specs.MemberReading.{text_in, is_there, device_of, device_in, agent_in, requester_in, invoke_in, service_in, requested_state_in}
use Rattle.acd_codec.specs.RequestReading.{two_devices_in, one_group_in, chosen_in, requested_in, set_agent_state_in, command_in, request_in, request_from, reads_as}
use Rattle.acd_codec.specs.OldReading.{old_service_of, old_service_in, old_requested_in, old_set_agent_state_in, old_command_in, old_request_in, old_request_from, old_reads_as, OldReadsTheSame}

-- the second reading gives what the first one gives
abbrev Kept : {A : Type 0} → Result A Member → Result A Member → Type 0
Kept {A} old new = (a : A) → old ≡ Ok a → new ≡ Ok a

kept_then : {A B : Type 0} (x y : Result A Member) (f g : A → Result B Member) → Kept x y → ((a : A) → Kept (f a) (g a)) → Kept (x >>= f) (y >>= g)
kept_then {A} {B} (Ok a) y f g h k b e = rw (h a refl) (k a b e)
kept_then {A} {B} (Err m) y f g h k b e = absurd (cc (e))

-- the same reading, and then another
then_kept : {A B : Type 0} (x : Result A Member) (f g : A → Result B Member) → ((a : A) → Kept (f a) (g a)) → Kept (x >>= f) (x >>= g)
then_kept {A} {B} x f g k = kept_then x x f g (λ a e. e) k

-- what was found among the first is found among more
found_first : {A : Type 0} (p : A → Bool) (xs ys : List A) (a : A) → find p xs ≡ Some a → find p (xs ++ ys) ≡ Some a
found_first {A} p xs ys a e = find-append p xs ys ∙ rw e refl

kept_name : (o : Option (List ℕ)) → Kept (ok_or (option_and_then old_service_of o) member.Service) (ok_or (option_and_then service_of o) member.Service)
kept_name None s e = e
kept_name (Some text) s e = by (old_service_of text) refl e
  where
    by : (found : Option Service) → old_service_of text ≡ found → ok_or found member.Service ≡ Ok s → ok_or (service_of text) member.Service ≡ Ok s
    by None q e = absurd (cc (e))
    by (Some t) q e = rw (found_first (λ s. bytes_eq text (service_name s)) first_services later_services t q) e

kept_service : (d : Data) → Kept (old_service_in d) (service_in d)
unfolding old_service_in service_in
kept_service d = kept_name (text_in member.Service d)

-- what is read is there
there : (o : Option Data) (m : Member) (n : ℕ) → ok_or (option_and_then device_of (option_and_then as_str o)) m ≡ Ok n → is_some o ≡ true
there None m n e = absurd (cc (e))
there (Some d) m n e = refl

device_there : (m : Member) (d : Data) (n : ℕ) → device_in m d ≡ Ok n → is_there m d ≡ true
unfolding device_in
device_there m d n e = there (get (member_name m) d) m n e

chosen : (d : Data) (g : ℕ) → device_in member.Group d ≡ Ok g → chosen_in d ≡ Ok (g ∷ [])
unfolding chosen_in one_group_in
chosen d g e = rw (device_there member.Group d g e, e) refl

-- a group that was read is the one that is chosen
kept_group : (d : Data) (device : ℕ) (group : Result ℕ Member) → device_in member.Group d ≡ group
    → Kept ((group >>= (λ g. Ok (device, g))) >>= (λ (p : ℕ × ℕ). Ok (requested.LoggedOn p.0 (p.1 ∷ [])))) (chosen_in d >>= (λ (gs : List ℕ). Ok (requested.LoggedOn device gs)))
kept_group d device (Ok g) q r e = rw (chosen d g q) e
kept_group d device (Err m) q r e = absurd (cc (e))

kept_log_on : (d : Data) (device : Result ℕ Member)
    → Kept ((device >>= (λ f. device_in member.Group d >>= (λ g. Ok (f, g)))) >>= (λ (p : ℕ × ℕ). Ok (requested.LoggedOn p.0 (p.1 ∷ []))))
    (device >>= (λ f. chosen_in d >>= (λ (gs : List ℕ). Ok (requested.LoggedOn f gs))))
kept_log_on d (Ok f) r e = kept_group d f (device_in member.Group d) refl r e
kept_log_on d (Err m) r e = absurd (cc (e))

kept_requested : (d : Data) (state : RequestedState) → Kept (old_requested_in d state) (requested_in d state)
unfolding old_requested_in requested_in two_devices_in
kept_requested d requested_state.LoggedOn = kept_log_on d (device_in member.Device d)
kept_requested d (requested_state.State state) = λ r e. e

kept_set_agent_state : (d : Data) → Kept (old_set_agent_state_in d) (set_agent_state_in d)
unfolding old_set_agent_state_in set_agent_state_in
kept_set_agent_state d =
    then_kept (agent_in d) _ _ (λ agent. then_kept (requested_state_in d) _ _ (λ state. kept_then (old_requested_in d state) (requested_in d state) _ _ (kept_requested d state) (λ r c e. e)))

kept_command : (s : Service) (d : Data) → Kept (old_command_in s d) (command_in s d)
unfolding old_command_in
kept_command service.SetAgentState d = kept_set_agent_state d
kept_command s d = λ c e. e

kept_request : (d : Data) → Kept (old_request_in d) (request_in d)
unfolding old_request_in request_in
kept_request d =
    then_kept (requester_in d) _ _ (λ requester. then_kept (invoke_in d) _ _ (λ invoke.
    kept_then (old_service_in d) (service_in d) _ _ (kept_service d) (λ s. kept_then (old_command_in s d) (command_in s d) _ _ (kept_command s d) (λ c r e. e))))

kept_object : (b : Bool) (d : Data) → Kept (cond b (old_request_in d) (Err member.Json)) (cond b (request_in d) (Err member.Json))
kept_object true d = kept_request d
kept_object false d = λ r e. e

kept_from : (o : Option Data) → Kept (old_request_from o) (request_from o)
kept_from None = λ r e. e
kept_from (Some d) = kept_object (is_some (as_object d)) d

kept_text : (b : Bool) (o : Option Data) → Kept (cond b (old_request_from o) (Err member.Json)) (cond b (request_from o) (Err member.Json))
kept_text true o = kept_from o
kept_text false o = λ r e. e

pub reads_the_same : OldReadsTheSame
unfolding old_reads_as reads_as
reads_the_same bytes = kept_text (is_utf8 bytes) (read bytes)
