use Rattle.std.proofs.Common.{◌≡◌, ◌+◌, ◌-◌, ◌≤◌}
use Rattle.scenarios.specs.Divisions.{kept}
use Rattle.scenarios.proofs.divisions.kept.Given as goal

abbrev pub invariant-loop-i : goal.invariant-loop-i
invariant-loop-i l = record {
  counted : l.count + kept (129 - l.i) l.i l.buffer ≡ kept (129 - l.first) l.first l.buffer;
  few : l.count + l.first ≤ l.i;
  most : l.count ≤ 129;
}
