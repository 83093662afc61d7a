-- The three demands, and known plans, texts and lists computed.
pub mod KnownTexts
pub mod Demand2
pub mod Demand1
pub mod KnownRun
pub mod Demand3
pub mod KnownLine
pub mod PrintedLine
pub mod ReadBack
pub mod KnownWritten
pub mod TakenBack
