-- Laws of calls and answers as words, of their replay, and of what is claimed of it.
pub mod WordLaws
pub mod ReplayLaws
pub mod Claim
