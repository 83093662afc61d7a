-- Laws.
mod Both
mod Reading
mod Roots
