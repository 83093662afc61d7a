-- Laws.
pub mod Cell
pub mod Depths
pub mod Numbers
pub mod Rows
pub mod Used
