use Rattle.std.proofs.Common.{rules, ◌≡◌, ◌∙◌}
use Rattle.mls_rows.specs.Times.{rows_lent}
use Rattle.mls_spans.specs.EverListings.{permissions_seen}
use Rattle.mls_spans.specs.Turning.{AreTurns}
use Rattle.mls_spans.proofs.EverListed.{ever_ok}
use Rattle.mls_spans.proofs.ever.tell_object.Goals as goal

pub returns : goal.returns
returns c =
    let r = c.args.replay.now in
    let same : c.names-known.result.now ≡ r.names = search rules in
    let object : c.in_ok-turns.turns.object ≡ c.args.o = search rules in
    let turns : AreTurns r.start r.entries c.in_ok-turns.turns = search rules in
    let are : c.in_ok-accesses.accesses.items ≡ permissions_seen r c.args.states c.args.asked c.args.o = search rules in
    ever_ok c.args.form r c.names-known.result.now (rows_lent c.args.marks) c.args.states c.args.asked c.args.o c.in_ok-turns.turns c.deref.result.now
    c.deref-2.result.now c.told-listing.result same object turns c.deref.ensures.value (c.deref-2.ensures.value ∙ are)
    c.told-listing.ensures.bytes c.told-listing.ensures.positive
