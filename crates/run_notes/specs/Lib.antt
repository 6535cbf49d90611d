pub mod LineHands
pub mod LineTold
pub mod Notes
pub mod RunHands
