use Rattle.run_list.proofs.OneFile.{head-fits, forward-fits, reverse-fits, inbound-fits, group-shown}
use borrow.Author.Rules.{rules}
use Rattle.run_list.proofs.files.put_group.Goals as goal

pub put_head-p-requires : goal.put_head-p-requires
put_head-p-requires c = search (rules, head-fits)

pub returns : goal.returns
returns c = group-shown _ _ _ _ _ _ _ _ _ _ c.requires.kids_in_bounds c.put_head-p.ensures c.put_lists-q.ensures c.put_lists-r.ensures c.put_lists.ensures

pub put_lists-q-requires : goal.put_lists-q-requires
put_lists-q-requires c = let pre = c.requires in
    record {
      shown = pre.shown.0;
      targets_in_bounds = search (rules, forward-fits _ _ _ _ _ _ _ _ _ _ pre.kids_in_bounds c.put_head-p.ensures);
    }

pub put_lists-r-requires : goal.put_lists-r-requires
put_lists-r-requires c = let pre = c.requires in
    record {
      shown = pre.shown.1;
      targets_in_bounds = search (rules, reverse-fits _ _ _ _ _ _ _ _ _ _ pre.kids_in_bounds c.put_head-p.ensures c.put_lists-q.ensures);
    }

pub put_lists-requires : goal.put_lists-requires
put_lists-requires c = let pre = c.requires in
    record {
      shown = pre.shown.1;
      targets_in_bounds = search (rules, inbound-fits _ _ _ _ _ _ _ _ _ _ pre.kids_in_bounds c.put_head-p.ensures c.put_lists-q.ensures c.put_lists-r.ensures);
    }
