use Rattle.std.proofs.Common.{◌∷◌, ◌∙◌, ap, map}
use Rattle.std.specs.Prelude.{slice_get}
use Rattle.mls_start_faults.proofs.Known.{labels_behind}
use Rattle.mls_start_faults.proofs.starts.labels_at.Goals as goal

pub returns : goal.returns
returns c =
    let found = c.in_ok-child.ensures.lookup in
    labels_behind c.args.labels.now.root c.deref.result.now c.args.n c.in_ok-child.child.now c.if-n-eq0.false found.3.0 found.1
    ∙ ap (λ children. slice_get (c.args.labels.now.root ∷ map (λ c. c.labels) children) c.args.n) c.deref.ensures.value
