use Rattle.std.proofs.Common.{refl, rules, arith}
use Rattle.cover_links.specs.Links.{link_in}
use Rattle.cover_links.proofs.Carried.{least-1, least-2, least-3, least-4, least-5}
use Rattle.cover_links.proofs.Written.{placed, all_placed}
use Rattle.cover_links.proofs.ridgeoven_links_together.Goals as goal

pub loop-i-init : goal.loop-i-init
loop-i-init c = record {
  within = search rules;
  in_links = rw c.least_of-n.ensures (least-1 _ _ _ _ _);
  in_a = rw c.least_of-n.ensures (least-2 _ _ _ _ _);
  in_b = rw c.least_of-n.ensures (least-3 _ _ _ _ _);
  in_c = rw c.least_of-n.ensures (least-4 _ _ _ _ _);
  in_d = rw c.least_of-n.ensures (least-5 _ _ _ _ _);
  links_is = refl;
}

pub loop-i-preserved : goal.loop-i-preserved
loop-i-preserved c =
    let h = c.loop-i.invariant in record {
      within = omega arith;
      in_links = h.in_links;
      in_a = h.in_a;
      in_b = h.in_b;
      in_c = h.in_c;
      in_d = h.in_d;
      links_is = placed (link_in c.args.a.now c.args.b.now c.args.c.now c.args.d.now) c.args.links.now _ h.in_links c.loop-i.i c.loop-i.links c.loop-i-test.true h.links_is;
    }

pub returns : goal.returns
returns c =
    let h = c.loop-i.invariant in rw (← c.least_of-n.ensures) (
      refl,
      all_placed (link_in c.args.a.now c.args.b.now c.args.c.now c.args.d.now) c.args.links.now _ h.in_links c.loop-i.i c.loop-i.links c.loop-i-test.false h.within h.links_is,
    )
