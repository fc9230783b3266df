-- The first i of the links are written; each column and the links are as long as the links that are carried.
use Rattle.std.proofs.Common.{◌≡◌, ◌≤◌, length}
use Rattle.cover_links.specs.Links.{link_in, places}
use Rattle.cover_links.proofs.Written.{column}
use Rattle.cover_links.proofs.ridgeoven_links_together.Given as goal

abbrev pub invariant-loop-i : goal.invariant-loop-i
invariant-loop-i l = record {
  within : l.i ≤ l.n;
  in_links : l.n ≤ length l.fn.links;
  in_a : l.n ≤ length l.a;
  in_b : l.n ≤ length l.b;
  in_c : l.n ≤ length l.c;
  in_d : l.n ≤ length l.d;
  links_is : l.links ≡ column (link_in l.a l.b l.c l.d) (places l.n) l.fn.links l.i;
}
