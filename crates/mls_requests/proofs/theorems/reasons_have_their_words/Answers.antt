use Rattle.mls_requests.specs.ReasonWords.{reason_word, all_reasons}
use Rattle.mls_requests.proofs.WordTables.{word_written, words_apart, reason_reads}
use Rattle.mls_requests.proofs.theorems.reasons_have_their_words.Goals as goal

pub returns : goal.returns
returns c = record {
  apart = words_apart reason_word all_reasons reason_reads;
  read = reason_reads;
  written = word_written reason_word all_reasons;
}
