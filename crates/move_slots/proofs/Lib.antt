-- Laws.
mod Adding
mod Asking
pub mod Atom
mod Numbers
pub mod Putting
mod Taken
