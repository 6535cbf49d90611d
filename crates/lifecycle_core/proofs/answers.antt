-- What calls come to: an answer is exact for what it names, nothing is damaged, and a miss is explained.
pub mod KeptCalls
pub mod ExactKept
pub mod KeptSources
pub mod KeptAnswers
pub mod SoundCalls
pub mod Joining
pub mod SeveralGateways
pub mod LastViews
pub mod EndsAreCalls
pub mod GivenParts
pub mod NamedUploads
pub mod UnbrokenNamed
pub mod RunCalls
