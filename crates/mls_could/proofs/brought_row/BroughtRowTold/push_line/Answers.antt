use Rattle.std.proofs.Common.{string_bytes}
use Rattle.std.specs.Prelude.{codes}
use Rattle.mls_could.specs.Brought.{access_text}
use Rattle.mls_could.proofs.Lacking.{pushed_three}
use Rattle.mls_could.proofs.brought_row.BroughtRowTold.push_line.Goals as goal

pub returns : goal.returns
returns c =
    pushed_three c.push_str-2.result (string_bytes c.args.text.now) (string_bytes c.push_str.new.self) (string_bytes c.push_access.new.text)
    (string_bytes c.push_str-2.new.self) (codes "could: ") (access_text c.args.names.now c.args.self.now.access) (codes ", by untrusted subjects\n")
    c.push_str-2.ensures.bytes c.in_ok-push_access.ensures c.in_ok-push_str.ensures.bytes
