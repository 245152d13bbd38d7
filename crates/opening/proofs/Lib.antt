-- What is read of a job, and what an opened job says of its opening.
pub mod Reading
pub mod OpenedLaws
