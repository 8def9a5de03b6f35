pub mod OnLiterals
pub mod MoveLemmas
pub mod ChangeLemmas
pub mod OptionLists
