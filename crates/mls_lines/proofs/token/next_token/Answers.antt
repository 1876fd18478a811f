use Rattle.std.proofs.Common.{sym, ◌∙◌, rules}
use Rattle.mls_lines.proofs.TokenLemmas.{token_at}
use Rattle.mls_lines.proofs.token.next_token.Goals as goal

pub returns : goal.returns
returns c =
    let from = c.skip_spaces-from.result.now in
    rw (c.split_at.ensures.front, c.split_at.ensures.back)
    (sym c.skip_spaces-from.ensures.same
    ∙ token_at from c.word_len.result c.skip_spaces-from.ensures.begins (search rules) c.word_len.ensures.within c.word_len.ensures.word c.word_len.ensures.ends)
