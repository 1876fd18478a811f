use Rattle.std.proofs.Common.{◌≡◌, ◌++◌, take}
use Rattle.mls_monitor.specs.Journal.{fold}
use Rattle.mls_page.specs.ByTrust.{trusting_over}
use Rattle.mls_page.proofs.walked.Walked.look_at_all.Given as goal

-- the state is that before the next entry, and the subjects of those so far that trust granted are added
abbrev pub invariant-loop-place : goal.invariant-loop-place
invariant-loop-place l = record {
  folded : l.state ≡ fold l.fn.state (take l.place l.entries);
  trusting : l.self.trusting.items ≡ l.fn.self.trusting.items ++ trusting_over l.fn.state (take l.place l.entries);
}
