-- Laws of a description's water and of its layer, and of what accepting it leaves.
pub mod Starting
pub mod SoundDescription
pub mod AcceptingLaws
