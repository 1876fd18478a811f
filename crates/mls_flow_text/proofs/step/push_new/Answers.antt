use Rattle.std.proofs.Common.{string_bytes}
use Rattle.std.specs.Prelude.{codes}
use Rattle.mls_wording.specs.Wording.{object_text}
use Rattle.mls_flow_text.proofs.Texts.{pushed_three}
use Rattle.mls_flow_text.proofs.step.push_new.Goals as goal

pub returns : goal.returns
returns c =
    pushed_three c.push_str-2.result (string_bytes c.args.text.now) (string_bytes c.push_str.new.self) (string_bytes c.push_object.new.text)
    (string_bytes c.push_str-2.new.self) (codes "a new object below ") (object_text c.args.names.now c.args.parent) (codes " (append)")
    c.push_str-2.ensures.bytes c.in_ok-push_object.ensures.ok c.in_ok-push_str.ensures.bytes
