use Rattle.acd_files.proofs.Begun.{same_options}
use Rattle.acd_files.proofs.paging.options.Goals as goal

pub returns-in-Ok-clause-treated : goal.returns-in-Ok-clause-treated
returns-in-Ok-clause-treated g c =
    let kept = c.in-Ok.ensures.kept in
    (kept.0, kept.1, same_options kept.2 c.new.ensures.memory.1 c.new.ensures.log c.new.ensures.seed)
