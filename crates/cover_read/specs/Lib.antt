pub mod chosen
