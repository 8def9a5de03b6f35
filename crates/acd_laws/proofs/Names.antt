-- Names are inert (`names_are_inert`, `run_ignores_names`).
pub mod UnnamedScans
pub mod UnnamedMoves
pub mod UnnamedServices
pub mod NamesInert
