use Rattle.std.proofs.Common.{sym}
use Rattle.mls_settings.proofs.Spelled.{split_word}
use Rattle.mls_settings.proofs.setting.Setting.read.Goals as goal

pub returns : goal.returns
returns c =
    split_word c.args.word.now c.in_ok-name.name c.in_ok-name.rest c.in_ok-member.member c.in_ok-member.value c.in_ok-member-2.member
    c.in_ok-name.ensures.cases c.in_ok-member.ensures.cases (sym c.in_ok-member-2.ensures)
