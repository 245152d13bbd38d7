-- What is true of the rules.
-- lists
pub mod Every
pub mod Lengths
-- curves
pub mod Segment
pub mod Interpolating
pub mod OpenFaces
pub mod Rising
pub mod Reading
pub mod Slope
pub mod Steep
pub mod VoidRatio
pub mod OnCurve
pub mod Bounds
-- the maximum principle
pub mod Amid
pub mod Flow
pub mod Principle
pub mod Spread
-- the ranges of what a step reads and of what flows out
pub mod Ranges
pub mod Excess
pub mod Outflow
-- the balance of water
pub mod Balance
-- the longest step
pub mod Contacts
pub mod Longest
pub mod Shorten
-- what a sound header, sound fields, sound sizes, a sound site and a sound state say
pub mod SoundHeader
pub mod SoundFields
pub mod Sizes
pub mod SiteFacts
pub mod StateFacts
-- lists by index, as loops over arrays read them
pub mod Index
