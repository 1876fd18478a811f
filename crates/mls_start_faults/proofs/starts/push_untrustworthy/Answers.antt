use Rattle.std.proofs.Common.{◌≡◌, [], ◌++◌, subst, map}
use Rattle.std.specs.Prelude.{OnOk, if◌then◌else◌}
use Rattle.mls_facts.specs.Numbered.{holds_of}
use Rattle.mls_labels.specs.Label.{dominates}
use Rattle.mls_start_text.specs.LabelViews.{labels_view}
use Rattle.mls_start_faults.specs.Starts.{object_labels, parent_labels}
use Rattle.mls_start_faults.specs.Places.{located_view, located, place_view}
use Rattle.mls_start_faults.proofs.starts.push_untrustworthy.Goals as goal

pub returns : goal.returns
returns c =
    let old = map located_view c.args.found.now.items in
    let judged =
    subst (λ right. OnOk c.push_unless.result (map located_view c.push_unless.new.found.items ≡ old ++ (if right then [] else located (place_view c.member-place.result))))
    c.is_trustworthy.ensures c.push_unless.ensures in
    subst (λ wrong. OnOk c.push_unless.result (map located_view c.push_unless.new.found.items ≡ old ++ (if holds_of (λ p. dominates p.integrity c.args.child.now.labels.integrity) (parent_labels (object_labels (labels_view c.args.labels.now)) c.args.child.now) then [] else located wrong))) c.member-place.ensures judged
