-- The size of the pages of a log, by its head.
use Rattle.std.proofs.Common.{◌≡◌, ◌≢◌, ◌↔◌, ℕ, ◌≤◌, List, length, Option, Some, None, is_some, IsSome, IfSome, sym, refl, ◌∙◌, ap, subst}
use Rattle.std.proofs.lemmas.Bool.{false≢true}
use Rattle.sqlite_wal.specs.declared.page_size.PageSize.{PageSize}
use Rattle.sqlite_wal.specs.Format.{be32, IsSigned}
use Rattle.sqlite_wal.specs.PageSize.{bytes_of, IsPageSize}
use Rattle.sqlite_wal.specs.Recovery.{header}
use Rattle.acd_log.specs.declared.ending.Ending.{Ending}
use Rattle.acd_log.specs.declared.ending.Ending.TheVariants.{Early, Headless}
use Rattle.acd_log.specs.Ending.{IsReadableLog, IsDamagedIn, IsDamaged, IsFilled, IsEndingOf}

pub readable : (r : Option PageSize) (log : List ℕ) (n : ℕ) → IsSome r ↔ IsPageSize n → IfSome r (λ (size : PageSize). bytes_of size ≡ n) → n ≡ be32 (header log) 8
    → (56 ≤ length log) × IsSigned (header log) × (be32 (header log) 4 ≡ 3007000) → IfSome r (λ (size : PageSize). IsReadableLog (bytes_of size) log)
readable None log n valid value is head = tt
readable (Some size) log n valid value is head = record {
  long = head.0;
  head = record { signed = head.1; version = head.2; size = sym is ∙ sym value };
  size = subst IsPageSize (sym value) (valid.0 refl);
}

pub unreadable : (r : Option PageSize) (log : List ℕ) (n : ℕ) → IsSome r ↔ IsPageSize n → n ≡ be32 (header log) 8 → r ≡ None → (page : ℕ) → ¬ IsReadableLog page log
unreadable r log n valid is none page h =
    let some = valid.1 (subst IsPageSize (sym h.head.size ∙ sym is) h.size) in
    false≢true (sym (ap is_some none) ∙ some)

-- a log has one length of pages
damaged_in : (page : ℕ) (log : List ℕ) → IsReadableLog page log → IsDamaged log → IsDamagedIn page log
damaged_in page log h damaged = subst (λ (p : ℕ). IsDamagedIn p log) (sym damaged.1.head.size ∙ h.head.size) damaged.2

pub found_in : (page : ℕ) (log : List ℕ) (ending : Ending) → IsReadableLog page log → (ending ≡ Early) ↔ IsDamagedIn page log → ending ≢ Headless → IsEndingOf log ending
found_in page log ending h early head = record {
  early = (λ is. (page, h, early.0 is), λ damaged. early.1 (damaged_in page log h damaged));
  headless = (λ is. absurd (head is), λ none. absurd (none.1 page h));
}

pub found_without : (log : List ℕ) (ending : Ending) → ((page : ℕ) → ¬ IsReadableLog page log) → (ending ≡ Headless) ↔ IsFilled log → ending ≢ Early → IsEndingOf log ending
found_without log ending none filled early = record {
  early = (λ is. absurd (early is), λ damaged. absurd (none damaged.0 damaged.1));
  headless = (λ is. (filled.0 is, none), λ h. filled.1 h.0);
}
