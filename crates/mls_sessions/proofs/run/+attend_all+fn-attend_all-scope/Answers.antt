use Rattle.std.proofs.Common.{rules}
use Rattle.mls_sessions.proofs.Feeds.{served_put}
use Rattle.mls_sessions.proofs.Runs.{returned_snoc}
use Rattle.mls_sessions.proofs.run.+attend_all+fn-attend_all-scope.Goals as goal

pub scope-returns-in-Ok : goal.scope-returns-in-Ok
scope-returns-in-Ok g t c = record {
  sessions = search (rules, returned_snoc);
  counts = search rules;
  room = search rules;
  done = search rules;
  served = served_put _ _ _ _ _ _ _ _ _ _ _ _ _ _ _ _ _ _ c.attend_all-back.ensures.served (search rules) c.put_last.ensures.items c.put_last.ensures.both;
}

pub scope-returns-in-Err : goal.scope-returns-in-Err
scope-returns-in-Err g t c = record {
  sessions = search (rules, returned_snoc);
  counts = search rules;
  room = search rules;
  done = search rules;
  served = served_put _ _ _ _ _ _ _ _ _ _ _ _ _ _ _ _ _ _ c.attend_all-back-in-Err.ensures.served (search rules) c.put_last-in-Err.ensures.items c.put_last-in-Err.ensures.both;
}
