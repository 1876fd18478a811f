use Rattle.std.proofs.Common.{sym}
use Rattle.mls_lines.proofs.AsciiBytes.{name_is_ascii}
use Rattle.mls_lines.proofs.token.read_name.Goals as goal

pub as_text-requires : goal.as_text-requires
as_text-requires c = name_is_ascii c.args.token.now (sym c.if-is_name.ensures)
