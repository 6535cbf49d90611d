mod Steps
mod Keys
mod Walked
mod Blocks
mod Deletions
