pub mod Uncloned
pub mod Reasons
pub mod Origins
