pub mod StringParts
pub mod Undone
pub mod Ctr
pub mod Opening
