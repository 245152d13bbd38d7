-- Calls and answers as words, and what a replay of them gives.
pub mod Words
pub mod Replaying
pub mod Claim
