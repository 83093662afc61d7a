pub mod KnownTexts
pub mod ReadBack
pub mod ReadThenLoad
pub mod TakenBack
pub mod TextToPlan
