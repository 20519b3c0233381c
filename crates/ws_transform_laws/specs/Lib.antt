pub mod HalfLaws
pub mod TransformHistory
pub mod TransformLaws
