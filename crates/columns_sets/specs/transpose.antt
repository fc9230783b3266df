pub mod InFile
