-- Names are inert, from the empty state.
use Rattle.acd_laws.proofs.Names.NamesInert.{run_ignores_names}
use Rattle.acd_laws.proofs.run_ignores_names.Goals as goal

pub returns : goal.returns
returns c = run_ignores_names
