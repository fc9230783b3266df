-- Document 01, "Archive records": numbers as big-endian bytes, passed on from the crate that reads and writes them.
unfoldable pub use Rattle.archive_bytes.specs.Bytes.{be, signed_of, unsigned_of, bytes_of, several}
