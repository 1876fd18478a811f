use Rattle.mls_requests.specs.ModeWords.{mode_word, all_modes}
use Rattle.mls_requests.proofs.WordTables.{word_written, words_apart, mode_reads}
use Rattle.mls_requests.proofs.theorems.modes_have_their_words.Goals as goal

pub returns : goal.returns
returns c = record {
  apart = words_apart mode_word all_modes mode_reads;
  read = mode_reads;
  written = word_written mode_word all_modes;
}
