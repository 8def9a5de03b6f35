-- The offer that is found, and that no step leaves one (`finds_the_offer`, `finds_the_distribution`, `step_leaves_no_offer`, `run_has_one_offer`), and how one is rejected (`rejects_as_a_tick`).
pub mod FoundOffer
pub mod OneOffer
pub mod DistributionSteps
pub mod RejectedOffer
