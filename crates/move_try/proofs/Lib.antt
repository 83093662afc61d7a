pub mod OpenMove
