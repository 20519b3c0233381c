pub mod Credit
pub mod First
