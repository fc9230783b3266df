pub mod RootRows
