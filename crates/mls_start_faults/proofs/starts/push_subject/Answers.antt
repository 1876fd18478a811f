use Rattle.std.proofs.Common.{◌≡◌, [], ◌++◌, subst, map}
use Rattle.std.specs.Prelude.{OnOk, if◌then◌else◌}
use Rattle.mls_start.specs.StartFaults.{current_fits}
use Rattle.mls_start_faults.specs.Places.{located_view, located, place_view}
use Rattle.mls_start_faults.proofs.starts.push_subject.Goals as goal

pub returns : goal.returns
returns c =
    let old = map located_view c.args.found.now.items in
    let judged =
    subst (λ right. OnOk c.push_unless.result (map located_view c.push_unless.new.found.items ≡ old ++ (if right then [] else located (place_view c.member-place.result))))
    c.dominates.ensures c.push_unless.ensures in
    subst (λ wrong. OnOk c.push_unless.result (map located_view c.push_unless.new.found.items ≡ old ++ (if current_fits c.args.subject.now then [] else located wrong))) c.member-place.ensures judged
