-- A table of events has each event once.
use Rattle.std.proofs.Common.{◌≡◌, ◌≤◌, ◌<◌, ◌+◌, ℕ, suc, Bool, true, false, cond, List, [], ◌∷◌, ◌++◌, append-nil, append_assoc, arith, length, length-append, max, string_bytes, refl, sym, subst, ap, ◌∙◌}
use Rattle.std.specs.Prelude.{nat_lt}
use Rattle.std.proofs.lemmas.Bool.Decides.{nat_tests}
use Rattle.acd_terms.specs.declared.command.Arrival.{Arrival}
use Rattle.acd_terms.specs.declared.event.Event.{Event}
use Rattle.acd_book.specs.Content.{Content, GoOn, empty_content}
use Rattle.acd_reports.specs.Export.{header_record, records_text, events_csv}
use Rattle.acd_reports.proofs.ExportLemmas.{joined}
use Rattle.acd_desk.specs.Contents.CarriedContent.{together}
use Rattle.acd_desk.specs.Contents.AbstractDesk.{executed, firsts, run_from, stepped}
use Rattle.acd_desk.specs.Reads.ReadAnswers.{above}
use Rattle.acd_desk.specs.Contents.SoundContent.{IsSound, arrivals_of}
use Rattle.acd_desk.proofs.Contents.Steps.{step_event, step_numbers}
use Rattle.acd_program.specs.Archives.EachOnce.{AreAdded, AreChained, TablesTellOnce, told}
use Rattle.acd_program.specs.Archives.ArchiveExport.{IsNewTable}
use Rattle.acd_program.specs.declared.export.EventTable.{EventTable}

-- ---- what is written

no_records : records_text [] ≡ []
unfolding records_text
no_records = refl

written : (contents : List Content) (old new : EventTable) → AreAdded contents old new → string_bytes new.text ≡ string_bytes old.text ++ records_text (told old.last contents)
written [] old new same = ap (λ (t : EventTable). string_bytes t.text) same ∙ sym (append-nil (string_bytes old.text)) ∙ ap (λ (t : List ℕ). string_bytes old.text ++ t) (sym no_records)
written (c ∷ rest) old new (mid, one, more) =
    let here = above c.events old.last in
    let on = told (max old.last c.rows.last_event) rest in
    written rest mid new more ∙ ap (λ (n : ℕ). string_bytes mid.text ++ records_text (told n rest)) one.number ∙ ap (λ (t : List ℕ). t ++ records_text on) one.rows
    ∙ append_assoc (string_bytes old.text) (records_text here) (records_text on) ∙ ap (λ (t : List ℕ). string_bytes old.text ++ t) (sym (joined here on))

exported : (contents : List Content) (begun whole : EventTable) → IsNewTable begun → AreAdded contents begun whole → string_bytes whole.text ≡ events_csv (told 0 contents)
unfolding events_csv
exported contents begun whole new added =
    written contents begun whole added ∙ ap (λ (t : List ℕ). t ++ records_text (told begun.last contents)) new.0 ∙ ap (λ (n : ℕ). header_record ++ records_text (told n contents)) new.1

-- ---- numbered on

is_less : (n m : ℕ) → nat_lt n m ≡ true → n < m
is_less n m h = grind (arith, nat_tests)

isnt_less : (n m : ℕ) → nat_lt n m ≡ false → m ≤ n
isnt_less n m h = grind (arith, nat_tests)

less : (n m : ℕ) → n < m → nat_lt n m ≡ true
less n m lt = grind (arith, nat_tests)

from_none : (n : ℕ) → 0 + n ≡ n
from_none n = omega arith

goes_append : (n : ℕ) (xs ys : List Event) → GoOn n xs → GoOn (n + length xs) ys → GoOn n (xs ++ ys)
goes_append n [] ys h k = subst (λ (m : ℕ). GoOn m ys) (let is : n + 0 ≡ n = omega arith in is) k
goes_append n (x ∷ xs) ys h k = (h.0, goes_append (n + 1) xs ys h.1 (subst (λ (m : ℕ). GoOn m ys) (let is : n + suc (length xs) ≡ n + 1 + length xs = omega arith in is) k))

goes_right : (n : ℕ) (xs ys : List Event) → GoOn n (xs ++ ys) → GoOn (n + length xs) ys
goes_right n [] ys h = subst (λ (m : ℕ). GoOn m ys) (let is : n ≡ n + 0 = omega arith in is) h
goes_right n (x ∷ xs) ys h = subst (λ (m : ℕ). GoOn m ys) (let is : n + 1 + length xs ≡ n + suc (length xs) = omega arith in is) (goes_right (n + 1) xs ys h.1)

-- those of a sound content
run_goes : (l : List Arrival) (c : Content) → GoOn 0 c.events → c.rows.last_event ≡ length c.events
    → GoOn 0 (run_from c l).events × ((run_from c l).rows.last_event ≡ length (run_from c l).events)
run_goes [] c h last = (h, last)
run_goes (a ∷ l) c h last =
    let new = (stepped c.rows a).events in
    run_goes l (executed c a) (goes_append 0 c.events new h (subst (λ (m : ℕ). GoOn m new) (last ∙ sym (from_none (length c.events))) (step_numbers c.rows a.moment a.request.command)))
    (step_event c.rows a.moment a.request.command ∙ ap (λ (m : ℕ). m + length new) last ∙ sym (length-append c.events new))

sound_goes : (c : Content) → IsSound c → GoOn 0 c.events × (c.rows.last_event ≡ length c.events)
sound_goes c sound =
    subst (λ (d : Content). GoOn 0 d.events × (d.rows.last_event ≡ length d.events)) (sym sound.replays)
    (run_goes (firsts c.rows.limits.requests (arrivals_of c.kept)) (empty_content c.rows.limits) tt refl)

-- those above a number before which they begin
all_above : (n f : ℕ) (es : List Event) → n ≤ f → GoOn f es → above es n ≡ es
all_above n f [] le h = refl
all_above n f (e ∷ es) le h =
    ap (λ b. cond b (e ∷ above es n) (above es n)) (less n e.number (let here = h.0 in omega (arith, here, le))) ∙ ap (λ l. e ∷ l) (all_above n (f + 1) es (omega (arith, le)) h.1)

goes_above : (n f : ℕ) (es : List Event) → f ≤ n → GoOn f es → GoOn n (above es n) × (n + length (above es n) ≡ max n (f + length es))
goes_above n f [] le h = (tt, omega (arith, le))
goes_above n f (e ∷ es) le h = by (nat_lt n e.number) refl (λ up. goes_above n (f + 1) es up h.1)
  where
    by : (b : Bool) → nat_lt n e.number ≡ b → (f + 1 ≤ n → GoOn n (above es n) × (n + length (above es n) ≡ max n (f + 1 + length es)))
        → GoOn n (cond b (e ∷ above es n) (above es n)) × (n + length (cond b (e ∷ above es n) (above es n)) ≡ max n (f + suc (length es)))
    by true p more =
        let here = h.0 in
        let lt = is_less n e.number p in
        let is : f ≡ n = omega (arith, here, lt, le) in
        let all = all_above n (f + 1) es (omega (arith, le, is)) h.1 in
        let many : length (above es n) ≡ length es = ap length all in
        ((here ∙ ap (λ (m : ℕ). m + 1) is, subst (λ (m : ℕ). GoOn (m + 1) (above es n)) is (subst (λ (l : List Event). GoOn (f + 1) l) (sym all) h.1)), omega (arith, is, many))
    by false p more =
        let here = h.0 in
        let up = isnt_less n e.number p in
        let rest = more (omega (arith, here, up)) in
        let many = rest.1 in
        (rest.0, omega (arith, many))

-- ---- of a chain

chained : (contents : List Content) (old new : EventTable) → AreAdded contents old new → AreChained old.last contents → GoOn old.last (told old.last contents) × (new.last ≡ old.last + length (told old.last contents))
chained [] old new same chain = (tt, let is = ap (λ (t : EventTable). t.last) same in omega (arith, is))
chained (c ∷ rest) old new (mid, one, more) (p, sound, before, on) =
    let n = old.last in
    let m = max n c.rows.last_event in
    let all = sound_goes (together p c) sound in
    let here = goes_above n (length p.events) c.events before (subst (λ (k : ℕ). GoOn k c.events) (from_none (length p.events)) (goes_right 0 p.events c.events all.0)) in
    let many : n + length (above c.events n) ≡ m = here.1 ∙ ap (λ (k : ℕ). max n k) (sym (length-append p.events c.events) ∙ sym all.1) in
    let later = subst (λ (k : ℕ). GoOn k (told k rest) × (new.last ≡ k + length (told k rest))) one.number (chained rest mid new more (subst (λ (k : ℕ). AreChained k rest) (sym one.number) on)) in
    let end = later.1 in
    let size = length-append (above c.events n) (told m rest) in
    (goes_append n (above c.events n) (told m rest) here.0 (subst (λ (k : ℕ). GoOn k (told m rest)) (sym many) later.0), omega (arith, many, end, size))

pub tables_tell_once : TablesTellOnce
tables_tell_once contents begun whole new added = (exported contents begun whole new added, λ chain. from_first chain)
  where
    from_first : AreChained 0 contents → GoOn 0 (told 0 contents) × (whole.last ≡ length (told 0 contents))
    from_first chain = let all = from in (all.0, all.1 ∙ from_none (length (told 0 contents)))
      where
        from : GoOn 0 (told 0 contents) × (whole.last ≡ 0 + length (told 0 contents))
        from = subst (λ (k : ℕ). GoOn k (told k contents) × (whole.last ≡ k + length (told k contents))) new.1 (chained contents begun whole added (subst (λ (k : ℕ). AreChained k contents) (sym new.1) chain))
