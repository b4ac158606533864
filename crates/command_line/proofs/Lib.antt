mod Outcome
mod Seen
mod Walked
mod WordsAgree
