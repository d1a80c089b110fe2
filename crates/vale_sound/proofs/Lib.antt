mod Fine
mod Fits
mod Functions
mod Lexed
mod Literals
mod Main
mod Parts
mod Sound
