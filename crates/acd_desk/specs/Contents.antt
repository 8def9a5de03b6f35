-- What a book holds: what a run makes of it, when it is sound, and what is carried over from an archive.
pub mod AbstractDesk
pub mod Replies
pub mod Arrivals
pub mod AcceptedArrivals
pub mod SoundContent
pub mod AnyContent
pub mod CarriedContent
pub mod WithArchive
pub mod Pruning
pub mod KeyPlaces
