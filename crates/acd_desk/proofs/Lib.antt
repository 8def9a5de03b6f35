pub mod Contents
pub mod Desks
pub mod Pages
pub mod Replays
pub mod Archives
