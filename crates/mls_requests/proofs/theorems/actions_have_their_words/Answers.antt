use Rattle.mls_requests.specs.ActionWords.{action_word, all_actions}
use Rattle.mls_requests.proofs.WordTables.{word_written, words_apart, action_reads}
use Rattle.mls_requests.proofs.theorems.actions_have_their_words.Goals as goal

pub returns : goal.returns
returns c = record {
  apart = words_apart action_word all_actions action_reads;
  read = action_reads;
  written = word_written action_word all_actions;
}
