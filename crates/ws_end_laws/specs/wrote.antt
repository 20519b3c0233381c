pub mod WroteLaws
