-- The proofs of what is claimed: `Term3`, from what holds after a list of calls, and `StandsStill`.
-- numbers and causes
pub mod Causes
pub mod Extremes
pub mod TableLoads
-- accepted events, and what states keep along them
pub mod Accepted
pub mod Events
pub mod Kept
pub mod Excesses
pub mod Outflows
-- records, and those that opening leaves
pub mod Fixed
pub mod Stands
pub mod Described
pub mod Starts
pub mod StartedParts
pub mod Opened
-- lists of calls
pub mod Answers
pub mod Courses
pub mod Replay
pub mod After
pub mod Term3
-- a layer opened by start 2
pub mod StandsStill
