-- What is claimed of a job and a list of calls on it. Read `Term3`; it speaks of `Pressures` and of the rules. `StandsStill` is of a
-- layer that opened by start 2.
pub mod Pressures
pub mod Term3
pub mod StandsStill
