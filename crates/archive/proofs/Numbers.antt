-- The laws of numbers and their bytes, passed on from the crate that reads and writes them.
pub use Rattle.archive_bytes.proofs.Numbers.{
  length-bytes_of,
  be-skip,
  be-at,
  AllBytes,
  get_or-small,
  be-small,
  bytes_of-be,
  signed_back,
  unsigned-fits,
  signed_all,
  unsigned-all,
  unsigned_back,
  unsigned-all-back,
}
