use Rattle.mls_lines.proofs.TokensLaw.{line_spells, spelled_alone}
use Rattle.mls_lines.proofs.token.tokens_law.Goals as goal

pub returns-clause-spelled : goal.returns-clause-spelled
returns-clause-spelled c = line_spells c.args._line.now

pub returns-clause-alone : goal.returns-clause-alone
returns-clause-alone c = spelled_alone c.args._line.now
