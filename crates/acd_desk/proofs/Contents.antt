-- What a run makes of a content: its first arrivals, one arrival more, a sound content, one that was carried over.
pub mod Steps
pub mod Keys
pub mod SameRequests
pub mod SameKept
pub mod CountersBound
pub mod Runs
pub mod LongerLists
pub mod SoundRuns
pub mod ContentLaws
pub mod RunsOfAnyContent
pub mod AddedRecords
pub mod OlderRecords
pub mod AscendingEvents
