use Rattle.mls_requests.specs.ReplyWords.{reply_word, all_replies}
use Rattle.mls_requests.proofs.WordTables.{word_written, words_apart, reply_reads}
use Rattle.mls_requests.proofs.theorems.replies_have_their_words.Goals as goal

pub returns : goal.returns
returns c = record {
  apart = words_apart reply_word all_replies reply_reads;
  read = reply_reads;
  written = word_written reply_word all_replies;
}
