use borrow.Author.Rules.{rules}
use Rattle.lent.proofs.Standing.{site_is, counted}
use Rattle.steady_test.proofs.Flowing.{stands, range_within, steady_by_range}
use Rattle.steady_test.proofs.is_steady.Goals as goal

pub of_flows-range-requires : goal.of_flows-range-requires
of_flows-range-requires c =
    let is = c.requires.r_value in
    let site = site_is _ is in
    record { elements_nonzero = counted _ is; held_within = (site.top_held, site.bottom_held); stands = stands _ is _ c.requires.by_index }

pub overflow_sub-result : goal.overflow_sub-result
overflow_sub-result c =
    let range = range_within _ c.requires.r_value _ c.requires.by_index c.of_flows-range.ensures in search rules

pub returns : goal.returns
returns c =
    let range = range_within _ c.requires.r_value _ c.requires.by_index c.of_flows-range.ensures in
    let steady = steady_by_range _ c.requires.r_value _ c.requires.by_index c.of_flows-range.ensures in search rules
