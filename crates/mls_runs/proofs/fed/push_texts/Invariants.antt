use Rattle.std.proofs.Common.{◌≡◌, ◌++◌, take}
use Rattle.mls_runs.specs.RunFeeds.{fed_texts}
use Rattle.mls_runs.proofs.fed.push_texts.Given as goal

abbrev pub invariant-loop-feed : goal.invariant-loop-feed
invariant-loop-feed l = record { text : l.output.items ≡ l.initial.output.items ++ fed_texts 0 (take l.feed-index l.feeds); session : l.session ≡ l.feed-index }
