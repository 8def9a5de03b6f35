use Rattle.std.proofs.Common.{ℕ, ◌/◌, ap, ◌∙◌}
use Rattle.acd_files.proofs.paging.cache_pages.Goals as goal

pub returns-clause-kept : goal.returns-clause-kept
returns-clause-kept g c = (
  c.in_ok-found.found,
  record { by_log = c.in_ok-found.ensures.by_log; by_file = c.in_ok-found.ensures.by_file },
  c.kept_pages.ensures.kept c.page_bytes.ensures.some ∙ ap (λ (n : ℕ). 8192000 / n) c.page_bytes.ensures.length,
)
