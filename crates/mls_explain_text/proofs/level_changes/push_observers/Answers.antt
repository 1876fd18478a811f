use Rattle.std.proofs.Common.{◌≡◌, ◌++◌, codes, string_bytes, OnOk, subst}
use Rattle.mls_explain_text.specs.Bases.{all_text}
use Rattle.mls_explain_text.proofs.level_changes.push_observers.Goals as goal

pub returns : goal.returns
returns c =
    subst (λ before. OnOk c.push_all.result (string_bytes c.push_all.new.text
    ≡ string_bytes c.args.text.now ++ all_text c.args.names.now before c.args.o (codes " meet simple at new ") c.args.l))
    c.either-before.ensures c.push_all.ensures
