use Rattle.std.proofs.Common.{refl, rules, arith}
use Rattle.cover_links.specs.Links.{none, from_chain_of, from_seq_of, to_chain_of, to_seq_of}
use Rattle.cover_links.proofs.Carried.{least-1, least-2, least-3, least-4, least-5}
use Rattle.cover_links.proofs.Written.{turned, all_turned}
use Rattle.cover_links.proofs.ridgeoven_links_apart.Goals as goal

pub loop-i-init : goal.loop-i-init
loop-i-init c = record {
  within = search rules;
  in_links = rw c.least_of-n.ensures (least-1 _ _ _ _ _);
  in_a = rw c.least_of-n.ensures (least-2 _ _ _ _ _);
  in_b = rw c.least_of-n.ensures (least-3 _ _ _ _ _);
  in_c = rw c.least_of-n.ensures (least-4 _ _ _ _ _);
  in_d = rw c.least_of-n.ensures (least-5 _ _ _ _ _);
  a_is = refl;
  b_is = refl;
  c_is = refl;
  d_is = refl;
}

pub loop-i-preserved : goal.loop-i-preserved
loop-i-preserved c =
    let h = c.loop-i.invariant in record {
      within = omega arith;
      in_links = h.in_links;
      in_a = h.in_a;
      in_b = h.in_b;
      in_c = h.in_c;
      in_d = h.in_d;
      a_is = turned from_chain_of c.args.links.now c.args.a.now _ h.in_links h.in_a none c.loop-i.i c.loop-i.a c.loop-i-test.true h.a_is;
      b_is = turned from_seq_of c.args.links.now c.args.b.now _ h.in_links h.in_b none c.loop-i.i c.loop-i.b c.loop-i-test.true h.b_is;
      c_is = turned to_chain_of c.args.links.now c.args.c.now _ h.in_links h.in_c none c.loop-i.i c.loop-i.c c.loop-i-test.true h.c_is;
      d_is = turned to_seq_of c.args.links.now c.args.d.now _ h.in_links h.in_d none c.loop-i.i c.loop-i.d c.loop-i-test.true h.d_is;
    }

pub returns : goal.returns
returns c =
    let h = c.loop-i.invariant in rw (← c.least_of-n.ensures) (
      refl,
      (
        all_turned from_chain_of c.args.links.now c.args.a.now _ h.in_links h.in_a c.loop-i.i c.loop-i.a c.loop-i-test.false h.within h.a_is,
        (
          all_turned from_seq_of c.args.links.now c.args.b.now _ h.in_links h.in_b c.loop-i.i c.loop-i.b c.loop-i-test.false h.within h.b_is,
          (
            all_turned to_chain_of c.args.links.now c.args.c.now _ h.in_links h.in_c c.loop-i.i c.loop-i.c c.loop-i-test.false h.within h.c_is,
            all_turned to_seq_of c.args.links.now c.args.d.now _ h.in_links h.in_d c.loop-i.i c.loop-i.d c.loop-i-test.false h.within h.d_is,
          ),
        ),
      ),
    )
