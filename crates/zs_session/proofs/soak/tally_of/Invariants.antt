use Rattle.std.proofs.Common.{◌≡◌, ◌≤◌, ◌+◌, length, codes}
use Rattle.zs_session.specs.Soak.{count_of}
use Rattle.zs_session.proofs.soak.tally_of.Given as goal

abbrev pub decreases-lines : goal.decreases-lines
decreases-lines l = length l.output

abbrev pub invariant-lines : goal.invariant-lines
invariant-lines l = record {
  handed : l.tally.handed + count_of (codes "hand\tsub\t") l.output ≡ count_of (codes "hand\tsub\t") l.fn.output;
  sent : l.tally.sent + count_of (codes "send\t") l.output ≡ count_of (codes "send\t") l.fn.output;
  refused : l.tally.refused + count_of (codes "refused\t") l.output ≡ count_of (codes "refused\t") l.fn.output;
  few_handed : l.tally.handed + length l.output ≤ length l.fn.output;
  few_sent : l.tally.sent + length l.output ≤ length l.fn.output;
  few_refused : l.tally.refused + length l.output ≤ length l.fn.output;
  events : l.tally.events ≡ l.fn.events;
}
