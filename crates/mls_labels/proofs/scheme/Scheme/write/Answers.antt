use Rattle.std.proofs.Common.{◌≡◌, nat_lt, IsTrue, length, string_bytes, sym}
use Rattle.std.proofs.lemmas.Bool.{and_parts}
use Rattle.std.specs.Str.{IsCharBoundary}
use Rattle.std.specs.String.{string_len}
use Rattle.std.proofs.lemmas.Str.{IsUtf8-string_bytes}
use Rattle.mls_facts.specs.Each.{each}
use Rattle.mls_labels.proofs.TextParts.{old_end}
use Rattle.mls_labels.proofs.scheme.Scheme.write.Goals as goal

pub truncate-requires : goal.truncate-requires
truncate-requires g c =
    let end = old_end (string_bytes c.args.text.now) (string_bytes c.push_label.new.text) c.in-Err.ensures.err.0 (IsUtf8-string_bytes c.args.text.now) (IsUtf8-string_bytes c.push_label.new.text) c.in-Err.ensures.err.1 in
    let len : length (string_bytes c.args.text.now) ≡ string_len c.args.text.now = sym c.args.text.now.bytes.ok.0 in
    let boundary : IsCharBoundary (string_bytes c.push_label.new.text) c.len-start.result = rw (c.len-start.ensures, ← len) end in
    λ _. (boundary.0, λ _. boundary.1)

pub push_label-requires-clause-categories : goal.push_label-requires-clause-categories
push_label-requires-clause-categories g c =
    let has = rw (← c.self.view_is) at c.requires in
    (and_parts (nat_lt c.args.label.level (length c.self.inside.levels)) (each c.args.label.categories (λ n. nat_lt n (length c.self.inside.categories))) has).1
