use Rattle.std.proofs.Common.{sym}
use Rattle.std.proofs.lemmas.Str.{IsUtf8-from_ascii}
use Rattle.mls_lines.proofs.AsciiBytes.{name_is_ascii}
use Rattle.mls_scripts.proofs.access.as_name.Goals as goal

pub from_utf8_unchecked-requires : goal.from_utf8_unchecked-requires
from_utf8_unchecked-requires c = IsUtf8-from_ascii c.args.bytes.now (name_is_ascii c.args.bytes.now (sym c.if-not-is_name.ensures))
