use Rattle.columns.proofs.Handed.{handed-on}
use Rattle.cover_build.proofs.Ruled.{may_write, may-sort}
use Rattle.cover_build.proofs.Verdict.{refused-told, refused-ranges, refused-links, built-told, built-ranges, built-links}
use Rattle.cover_build.proofs.build.Goals as goal

pub returns-clause-value : goal.returns-clause-value
returns-clause-value c = search (built-told, c.in_ok-build_rules.was)

pub returns-clause-maxima_after : goal.returns-clause-maxima_after
returns-clause-maxima_after c = search (built-ranges, c.in_ok-build_rules.was)

pub returns-clause-d_after : goal.returns-clause-d_after
returns-clause-d_after c = search (built-links, c.in_ok-build_rules.was)

pub returns-in_err-build_rules-clause-value : goal.returns-in_err-build_rules-clause-value
returns-in_err-build_rules-clause-value c = handed-on _ c.from_residual.ensures (search (refused-told, c.in_err-build_rules.was))

pub returns-in_err-build_rules-clause-maxima_after : goal.returns-in_err-build_rules-clause-maxima_after
returns-in_err-build_rules-clause-maxima_after c = search (refused-ranges, c.in_err-build_rules.was)

pub returns-in_err-build_rules-clause-d_after : goal.returns-in_err-build_rules-clause-d_after
returns-in_err-build_rules-clause-d_after c = search (refused-links, c.in_err-build_rules.was)

pub write_ranges-ranges-requires : goal.write_ranges-ranges-requires
write_ranges-ranges-requires c =
    let may = may_write _ _ _ _ _ _ _ _ _ _ _ _ _ _ c.build_rules.ensures c.in_ok-build_rules.was in record {
      chains_len_bound = may.0;
      in_bounds = may.1;
    }

pub sort_links-links-requires : goal.sort_links-links-requires
sort_links-links-requires c =
    let may = may-sort _ _ _ _ _ _ _ _ _ _ _ _ _ _ c.build_rules.ensures c.in_ok-build_rules.was in record {
      b_len = may.0;
      a_len_bound = may.1.0;
      a_in_bounds = may.1.1;
    }
