-- Laws.
pub mod Count
pub mod Frame
pub mod Gather
pub mod InPlace
pub mod Holding
pub mod KindOf
pub mod Outcomes
pub mod Ports
pub mod Remaining
pub mod Rooting
pub mod Rows
pub mod Steps
pub mod Visits
pub mod Wrote
