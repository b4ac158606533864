pub mod Changing
pub mod Following
pub mod Keeping
pub mod Origins
pub mod Requests
