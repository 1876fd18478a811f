use Rattle.std.proofs.Common.{subst}
use Rattle.mls_labels.specs.Scheme.{IsScheme}
use Rattle.mls_snapshots.proofs.RowsSeen.{row_seen}
use Rattle.mls_snapshots.proofs.state_line.words_are_seen.Goals as goal

pub returns : goal.returns
returns c =
    let security = subst IsScheme c.security.ensures c.bounds.ensures.sound in
    let integrity = subst IsScheme c.integrity.ensures c.bounds-2.ensures.sound in
    λ row has within. row_seen c.args.names.now has c.a_written_label_is_spelled.ensures security integrity row within
