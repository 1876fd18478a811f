pub mod Comparing
pub mod Folders
pub mod Following
pub mod Origins
