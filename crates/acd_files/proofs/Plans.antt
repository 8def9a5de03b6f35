-- The requests of a whole plan, of which a byte more was read than one may have.
use Rattle.std.proofs.Common.{◌≡◌, ℕ, ◌<◌, Bool, true, false, cond, nat_lt, List, [], ◌++◌, length, take, Option, Some, None, option_map, Ok, Err, IfSome, refl, sym, ap, subst, ◌∙◌, arith, lt-ltb, ltb-true, ltb-false, take_all, length-take-le}
use Rattle.acd_terms.specs.declared.command.Request.{Request}
use Rattle.acd_reports.specs.Plan.{plan_requests, requests_of, records_of, without_mark}
use Rattle.acd_reports.specs.declared.fault.PlanFault.TheVariants.{TooLong}
use Rattle.acd_io.specs.Streams.{IsInput}

too_long : (bytes : List ℕ) → 1048576 < length bytes → plan_requests bytes ≡ Err TooLong
unfolding plan_requests
too_long bytes long = ap (λ (b : Bool). cond b (Err TooLong) (requests_of (records_of (without_mark bytes)))) (lt-ltb 1048576 (length bytes) long)

whole_by : (all : List ℕ) (requests : List Request) (b : Bool) → nat_lt 1048577 (length all) ≡ b → plan_requests (take 1048577 all) ≡ Ok requests → plan_requests all ≡ Ok requests
whole_by all requests true more h =
    let long : 1048577 < length all = ltb-true 1048577 (length all) more in
    let still : 1048576 < length (take 1048577 all) = subst (λ (n : ℕ). 1048576 < n) (sym (length-take-le 1048577 all (omega (arith, long)))) (omega arith) in
    let none : Err TooLong ≡ Ok requests = sym (too_long (take 1048577 all) still) ∙ h in
    absurd cc
whole_by all requests false few h = subst (λ (l : List ℕ). plan_requests l ≡ Ok requests) (take_all 1048577 all (ltb-false 1048577 (length all) few)) h

-- as many bytes as are enough
pub read_enough : (old_input : Option (List ℕ)) (limit : ℕ) (before bytes : List ℕ) → limit ≡ 1048577 → before ≡ [] → IfSome (option_map (take limit) old_input) (λ (xs : List ℕ). bytes ≡ before ++ xs) → IfSome old_input (λ (all : List ℕ). bytes ≡ take 1048577 all)
read_enough None limit before bytes is none h = search
read_enough (Some all) limit before bytes is none h = h ∙ ap (λ (l : List ℕ). l ++ take limit all) none ∙ ap (λ (n : ℕ). take n all) is

-- so much of what a reader held was read
pub read_whole : (old_input : Option (List ℕ)) (bytes : List ℕ) (requests : List Request) → IfSome old_input (λ (all : List ℕ). bytes ≡ take 1048577 all) → plan_requests bytes ≡ Ok requests
    → (all : List ℕ) × IsInput old_input all × (plan_requests all ≡ Ok requests)
read_whole None bytes requests read is = (bytes, search, is)
read_whole (Some all) bytes requests read is = (all, refl, whole_by all requests (nat_lt 1048577 (length all)) refl (subst (λ (l : List ℕ). plan_requests l ≡ Ok requests) read is))
