-- The first i of each column are written; each column and the links are as long as the links that are carried.
use Rattle.std.proofs.Common.{◌≡◌, take, ◌≤◌, length}
use Rattle.cover_links.specs.Links.{from_chain_of, from_seq_of, to_chain_of, to_seq_of}
use Rattle.cover_links.proofs.Written.{column}
use Rattle.cover_links.proofs.ridgeoven_links_apart.Given as goal

abbrev pub invariant-loop-i : goal.invariant-loop-i
invariant-loop-i l = record {
  within : l.i ≤ l.n;
  in_links : l.n ≤ length l.links;
  in_a : l.n ≤ length l.fn.a;
  in_b : l.n ≤ length l.fn.b;
  in_c : l.n ≤ length l.fn.c;
  in_d : l.n ≤ length l.fn.d;
  a_is : l.a ≡ column from_chain_of (take l.n l.links) l.fn.a l.i;
  b_is : l.b ≡ column from_seq_of (take l.n l.links) l.fn.b l.i;
  c_is : l.c ≡ column to_chain_of (take l.n l.links) l.fn.c l.i;
  d_is : l.d ≡ column to_seq_of (take l.n l.links) l.fn.d l.i;
}
