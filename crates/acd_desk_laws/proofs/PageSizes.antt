-- A page of executed requests is short, and what a sound content keeps are replies.
use Rattle.std.proofs.Common.{ℕ, zero, suc, ◌+◌, ◌*◌, ◌^◌, ◌<◌, ◌≤◌, List, [], ◌∷◌, ◌++◌, length, take, filter, nat_lt, codes, decimal, refl, sym, ap, subst, arith, length-append, leb-true}
use Rattle.std.proofs.lemmas.Fmt.{length-decimal-le}
use Rattle.std.specs.List.{join_by}
use Rattle.acd_terms.specs.Lists.{Every}
use Rattle.acd_terms.specs.Rows.{empty_rows}
use Rattle.acd_terms.specs.declared.rows.Limits.{Limits}
use Rattle.acd_terms.specs.declared.answer.Outcome.{Outcome}
use Rattle.acd_terms.specs.declared.answer.Outcome.TheVariants.{Done, Refused}
use Rattle.acd_terms.specs.declared.command.Arrival.{Arrival}
use Rattle.acd_model.specs.Run as terms
use Rattle.acd_model.specs.Rules.First.{BreaksNoRule}
use Rattle.acd_codec.specs.ReplyTexts.{outcome_status}
use Rattle.acd_codec.specs.RequestTexts.{request_text}
use Rattle.acd_lemmas.proofs.Lists.{every-append, every-take, every-filter}
use Rattle.acd_laws.proofs.Rules.RulesAll.{step_keeps_rules, run_keeps_rules, rules_bound}
use Rattle.acd_book.specs.declared.kept.Kept.{Kept}
use Rattle.acd_book.specs.Content.{Content, empty_content}
use Rattle.acd_desk.specs.Contents.AbstractDesk.{stepped, record_of, executed, run_from}
use Rattle.acd_desk.specs.Contents.SoundContent.{arrivals_of}
use Rattle.acd_desk.specs.Reads.RequestPages.{executed_text, further_texts, requests_text}
use Rattle.acd_desk.specs.Reads.ReadAnswers.{requests_size, requests_page}
use Rattle.acd_desk_laws.specs.PageSizes.{IsReplied, IsFormed, longest_page, PagesAreShort, SoundIsReplied}
use Rattle.acd_desk_laws.proofs.Outcomes.{step_outcome}
use Rattle.acd_desk.proofs.Contents.SoundRuns.{sound_list, length-arrivals}
use Rattle.acd_desk.proofs.Contents.Steps.{step_limits, step_stamp}
use Rattle.acd_desk_laws.proofs.TextSizes.{request_short, reply_short}

joined : (xs ys : List ℕ) (m n k : ℕ) → length xs ≤ m → length ys ≤ n → m + n ≤ k → length (xs ++ ys) ≤ k
joined xs ys m n k hx hy fits = let e = length-append xs ys in omega (arith, e, hx, hy, fits)

status_short : (o : Outcome) → length (decimal (outcome_status o)) ≤ 3
status_short (Done a) = length-decimal-le 3 200 (omega arith) (omega arith) (omega arith)
status_short (Refused r) = length-decimal-le 3 409 (omega arith) (omega arith) (omega arith)

executed_short : (k : Kept) → IsFormed k → IsReplied k → length (executed_text k) ≤ 579
unfolding executed_text
executed_short k f r =
    let early = f.moment in
    let low = f.stamp in
    let body : length k.body ≤ 148 = subst (λ (l : List ℕ). length l ≤ 148) (sym r.body) (reply_short k.request.requester k.request.invoke r.outcome f.request.requester f.request.invoke r.formed) in
    let moment : length (decimal k.moment) ≤ 10 = length-decimal-le 10 k.moment (omega arith) (omega (arith, early)) (omega (arith, early)) in
    let stamp : length (decimal k.stamp) ≤ 20 = length-decimal-le 20 k.stamp (omega arith) (omega (arith, low)) low in
    let status : length (decimal k.status) ≤ 3 = subst (λ (n : ℕ). length (decimal n) ≤ 3) (sym r.status) (status_short r.outcome) in
    let t1 : List ℕ = decimal k.status ++ codes "}" in
    let t2 : List ℕ = codes ",\"status\":" ++ t1 in
    let t3 : List ℕ = decimal k.stamp ++ t2 in
    let t4 : List ℕ = codes ",\"stamp\":" ++ t3 in
    let t5 : List ℕ = request_text k.request ++ t4 in
    let t6 : List ℕ = codes ",\"request\":" ++ t5 in
    let t7 : List ℕ = k.body ++ t6 in
    let t8 : List ℕ = codes ",\"reply\":" ++ t7 in
    let t9 : List ℕ = decimal k.moment ++ t8 in
    let h1 : length t1 ≤ 4 = joined (decimal k.status) (codes "}") 3 1 4 status (leb-true _ 1 refl) (omega arith) in
    let h2 : length t2 ≤ 14 = joined (codes ",\"status\":") t1 10 4 14 (leb-true _ 10 refl) h1 (omega arith) in
    let h3 : length t3 ≤ 34 = joined (decimal k.stamp) t2 20 14 34 stamp h2 (omega arith) in
    let h4 : length t4 ≤ 43 = joined (codes ",\"stamp\":") t3 9 34 43 (leb-true _ 9 refl) h3 (omega arith) in
    let h5 : length t5 ≤ 391 = joined (request_text k.request) t4 348 43 391 (request_short k.request f.request) h4 (omega arith) in
    let h6 : length t6 ≤ 402 = joined (codes ",\"request\":") t5 11 391 402 (leb-true _ 11 refl) h5 (omega arith) in
    let h7 : length t7 ≤ 550 = joined k.body t6 148 402 550 body h6 (omega arith) in
    let h8 : length t8 ≤ 559 = joined (codes ",\"reply\":") t7 9 550 559 (leb-true _ 9 refl) h7 (omega arith) in
    let h9 : length t9 ≤ 569 = joined (decimal k.moment) t8 10 559 569 moment h8 (omega arith) in
    joined (codes "{\"moment\":") t9 10 569 579 (leb-true _ 10 refl) h9 (omega arith)

further_short : (kept : List Kept) → Every IsFormed kept → Every IsReplied kept → length (further_texts kept) ≤ 580 * length kept
further_short [] f r = omega arith
further_short (k ∷ kept) f r =
    let one = executed_short k f.0 r.0 in
    let rest = further_short kept f.1 r.1 in
    let comma = joined (codes ",") (executed_text k) 1 579 580 (leb-true _ 1 refl) one (omega arith) in
    let e = length-append (codes "," ++ executed_text k) (further_texts kept) in
    omega (arith, comma, rest, e)

joined_short : (kept : List Kept) → Every IsFormed kept → Every IsReplied kept → length (join_by executed_text (codes ",") kept) ≤ 580 * length kept
joined_short [] f r = omega arith
joined_short (k ∷ kept) f r =
    let one = executed_short k f.0 r.0 in
    let rest = further_short kept f.1 r.1 in
    let e = length-append (executed_text k) (further_texts kept) in
    omega (arith, one, rest, e)

taken_few : (n : ℕ) (xs : List Kept) → length (take n xs) ≤ n
taken_few zero xs = omega arith
taken_few (suc n) [] = omega arith
taken_few (suc n) (x ∷ xs) = let e = taken_few n xs in omega (arith, e)

text_short : (kept : List Kept) (last : ℕ) → length kept ≤ requests_size → last < 2 ^ 64 → Every IsFormed kept → Every IsReplied kept → length (requests_text kept last) ≤ longest_page
unfolding requests_text
text_short kept last few low f r =
    let all = joined_short kept f r in
    let size : length (decimal last) ≤ 20 = length-decimal-le 20 last (omega arith) (omega (arith, low)) low in
    let t1 : List ℕ = codes "{\"last\":" ++ decimal last in
    let t2 : List ℕ = t1 ++ codes ",\"requests\":[" in
    let t3 : List ℕ = t2 ++ join_by executed_text (codes ",") kept in
    let h1 : length t1 ≤ 28 = joined (codes "{\"last\":") (decimal last) 8 20 28 (leb-true _ 8 refl) size (omega arith) in
    let h2 : length t2 ≤ 41 = joined t1 (codes ",\"requests\":[") 28 13 41 h1 (leb-true _ 13 refl) (omega arith) in
    let h3 : length t3 ≤ 580041 = joined t2 (join_by executed_text (codes ",") kept) 41 580000 580041 h2 (omega (arith, all, few)) (omega arith) in
    joined t3 (codes "]}") 580041 2 600000 h3 (leb-true _ 2 refl) (omega arith)

pub pages_are_short : PagesAreShort
pages_are_short c after low f r =
    let newer : List Kept = filter (λ (k : Kept). nat_lt after k.stamp) c.kept in
    text_short (requests_page c after) c.rows.last_stamp (taken_few requests_size newer) low
    (every-take IsFormed requests_size newer (every-filter IsFormed (λ (k : Kept). nat_lt after k.stamp) c.kept f))
    (every-take IsReplied requests_size newer (every-filter IsReplied (λ (k : Kept). nat_lt after k.stamp) c.kept r))

-- ---- what a run keeps are replies ----

run_replied : (l : List Arrival) (c : Content) → BreaksNoRule c.rows → c.rows.last_stamp + length l ≤ c.rows.limits.requests → Every IsReplied c.kept → Every IsReplied (run_from c l).kept
run_replied [] c rules room h = h
run_replied (a ∷ l) c rules room h =
    let short : c.rows.last_stamp < c.rows.limits.requests = omega (arith, room) in
    let stamp = step_stamp c.rows a.moment a.request.command in
    let limits = ap (λ (n : Limits). n.requests) (step_limits c.rows a.moment a.request.command) in
    let one : IsReplied (record_of c.rows a) = record {
      outcome = (stepped c.rows a).outcome;
      formed = step_outcome c.rows a.moment a.request.command (rules_bound c.rows rules) short;
      status = refl;
      body = refl;
    } in
    run_replied l (executed c a) (step_keeps_rules c.rows a.moment a.request.command rules short) (omega (arith, room, stamp, limits))
    (every-append IsReplied c.kept (record_of c.rows a ∷ []) h (one, tt))

pub sound_is_replied : SoundIsReplied
unfolding terms.run
sound_is_replied c sound =
    let few = sound.few in
    let size = length-arrivals c.kept in
    let limits : Limits = c.rows.limits in
    let rules : BreaksNoRule (empty_rows limits) = run_keeps_rules limits [] sound.fits (omega arith) in
    subst (λ (x : Content). Every IsReplied x.kept) (sym (sound_list c sound)) (run_replied (arrivals_of c.kept) (empty_content limits) rules (omega (arith, few, size)) tt)
