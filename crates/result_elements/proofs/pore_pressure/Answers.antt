use borrow.Author.Rules.{rules}
use Rattle.quantities.proofs.Limits.{pressure-within}
use Rattle.result_elements.proofs.Ranges.{level_within, head-within, pore_within}
use Rattle.rules.specs.Result.{pore_over}
use Rattle.result_elements.proofs.pore_pressure.Goals as goal

pub overflow_sub-top_level : goal.overflow_sub-top_level
overflow_sub-top_level c =
    let (limited, low) = c.requires.top_level_value in
    let level = level_within _ c.args.z limited low in
    let head = head-within _ c.args.z limited low in search rules

pub as_pressure-over-requires : goal.as_pressure-over-requires
as_pressure-over-requires c =
    let (limited, low) = c.requires.top_level_value in
    let level = level_within _ c.args.z limited low in
    let head = head-within _ c.args.z limited low in search rules

pub overflow_add-result : goal.overflow_add-result
unfolding pore_over
overflow_add-result c =
    let (limited, low) = c.requires.top_level_value in
    let level = level_within _ c.args.z limited low in
    let head = head-within _ c.args.z limited low in
    let held = pressure-within head in
    let pore = pore_within _ c.args.z limited low c.requires.within in search rules

pub returns : goal.returns
unfolding pore_over
returns c =
    let (limited, low) = c.requires.top_level_value in
    let level = level_within _ c.args.z limited low in
    let head = head-within _ c.args.z limited low in
    let held = pressure-within head in
    let pore = pore_within _ c.args.z limited low c.requires.within in search rules
