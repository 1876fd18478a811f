use Rattle.std.proofs.Common.{sym}
use Rattle.mls_lines.proofs.AsciiBytes.{label_is_ascii}
use Rattle.mls_lines.proofs.label.read_scheme_label.Goals as goal

pub as_text-requires : goal.as_text-requires
as_text-requires g c = label_is_ascii c.args.token.now (sym c.if-not-has_label_bytes.ensures)
