use Rattle.mls_answers.proofs.Describing.{place_within}
use Rattle.mls_answers.proofs.described.number_told.Goals as goal

pub returns-then-has_journal-clause-within : goal.returns-then-has_journal-clause-within
returns-then-has_journal-clause-within c = place_within c.args.history.now.at _ _ c.number.ensures c.replay.ensures.of_files.replays.sees.seen.within
