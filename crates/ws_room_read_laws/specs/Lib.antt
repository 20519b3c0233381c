pub mod HandingOut
