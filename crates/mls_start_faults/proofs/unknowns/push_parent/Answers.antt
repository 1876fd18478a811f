use Rattle.std.proofs.Common.{◌≡◌, [], ◌++◌, map, is_some, subst}
use Rattle.std.specs.Prelude.{OnOk, if◌then◌else◌}
use Rattle.mls_labels.specs.Reading.{place_of}
use Rattle.mls_start_faults.specs.Places.{located, located_view}
use Rattle.mls_start_faults.proofs.unknowns.push_parent.Goals as goal

pub returns : goal.returns
returns c =
    subst (λ wrong. OnOk c.push_named.result (map located_view c.push_named.new.found.items ≡ map located_view c.args.found.now.items ++ (if is_some (place_of c.args.objects.now c.args.child.now.parent.now) then [] else located wrong)))
    c.member-place.ensures c.push_named.ensures
