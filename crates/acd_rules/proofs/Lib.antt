pub mod EqualNumbers
pub mod LookUpLemmas
pub mod RuleLists
