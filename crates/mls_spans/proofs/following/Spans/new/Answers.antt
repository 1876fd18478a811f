use Rattle.std.proofs.Common.{rules, ◌≡◌, length}
use Rattle.mls_spans.proofs.Begins.{new_stand}
use Rattle.mls_spans.proofs.Places.{all_among}
use Rattle.mls_spans.proofs.following.Spans.new.Goals as goal

pub returns-clause-places : goal.returns-clause-places
returns-clause-places c =
    let many : c.len.result ≡ length c.in_ok-spans.spans.items = search rules in
    all_among c.in_ok-spans.spans.items c.in_ok-places.places.items c.len.result many c.in_ok-places.ensures

pub returns-clause-stand : goal.returns-clause-stand
returns-clause-stand c = new_stand c.args.state.now c.in_ok-spans.spans.items c.in_ok-spans.ensures
