pub mod DeltaBytes
