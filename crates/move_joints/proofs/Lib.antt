-- Laws.
mod Adding
mod Numbers
mod Taken
