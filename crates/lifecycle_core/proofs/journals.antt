-- What the entries of a journal show, and what they tell where the bucket is honest.
pub mod Positions
pub mod Honesty
pub mod Differing
pub mod OwedPages
pub mod UnbrokenHonest
pub mod Unbroken
pub mod OneSync
pub mod OneViewAt
pub mod OneBreach
pub mod Told
pub mod Standing
pub mod Rising
pub mod LastNumbers
