use Rattle.std.proofs.Common.{sym, subst}
use Rattle.mls_start_file.specs.Says.{SaysStart}
use Rattle.mls_start_file.specs.Ties.{Loaded}
use Rattle.mls_seen.proofs.KeptStates.{kept_stands, kept_reads}
use Rattle.mls_seen.proofs.kept.is_kept_state.Goals as goal

pub returns-clause-text : goal.returns-clause-text
returns-clause-text c =
    kept_reads c.args.seeing.now c.opened-opened.result.now c.monitor-monitor.result.now c.names.result.now c.state.result.now c.args.bytes.now
    c.is_text_of.result c.opened-opened.ensures c.monitor-monitor.ensures.monitor c.names.ensures.names c.state.ensures.folded c.is_text_of.ensures.text

pub returns-clause-stands : goal.returns-clause-stands
returns-clause-stands c =
    kept_stands c.args.seeing.now c.opened-opened.result.now c.monitor-monitor.result.now c.loaded.result.now c.names.result.now c.start.result.now
    c.state.result.now c.args.bytes.now c.is_text_of.result c.earlier_entries_take_their_places.ensures.legal
    c.earlier_entries_take_their_places.ensures.state
    (λ v w.
    let says : SaysStart c.opened-opened.result.now.file c.loaded.result.now =
    subst (λ (l : Loaded). SaysStart c.opened-opened.result.now.file l) (sym c.loaded.ensures) c.names.ensures.says in
    c.a_text_is_of_one_state.ensures v w (c.a_start_has_names.ensures c.opened-opened.result.now.file c.loaded.result.now says))
    c.opened-opened.ensures c.monitor-monitor.ensures.monitor c.loaded.ensures c.names.ensures.names c.start.ensures c.state.ensures.folded
    c.monitor-monitor.ensures.from c.entries.ensures.legal c.is_text_of.ensures.text c.is_text_of.ensures.over
