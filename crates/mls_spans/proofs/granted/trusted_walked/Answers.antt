use Rattle.std.proofs.Common.{List, [], ◌∷◌, ◌++◌, if◌then◌else◌, ◌∙◌}
use Rattle.mls_requests.specs.declared.entry.Entry.{Entry}
use Rattle.mls_spans.proofs.TextReads.{told_first, told_none}
use Rattle.mls_spans.proofs.Walked.{trusted_begin, trusted_walk, trusted_end}
use Rattle.mls_spans.specs.UsageListings.{entries_between}
use Rattle.mls_spans.proofs.granted.trusted_walked.Goals as goal

pub loop-entry-init : goal.loop-entry-init
loop-entry-init c =
    let entries : List Entry = entries_between c.args.states c.args.replay.now.entries in
    trusted_begin entries c.text_between-rest.result.now c.args.state.now c.new-found.result.items c.new-found.ensures.items c.text_between-rest.ensures

pub loop-entry-preserved : goal.loop-entry-preserved
loop-entry-preserved c =
    let entries : List Entry = entries_between c.args.states c.args.replay.now.entries in
    trusted_walk entries c.loop-entry.rest.now c.in-Some.more.now c.args.state.now c.loop-entry.state c.apply.new.state c.in-Some.entry
    c.loop-entry.found.items c.push_where.new.found.items
    (λ left is. told_first c.first_of-next.result _ left c.in-Some.is (c.first_of-next.ensures.some left is)) c.in_ok-apply-in-Some.ensures.ok
    (c.in_ok-push_where-in-Some.ensures ∙ (λ i. c.loop-entry.found.items ++ (if c.uses_trust-used.ensures i then c.in-Some.entry ∷ [] else [])))
    c.loop-entry.invariant

pub returns-in-None : goal.returns-in-None
returns-in-None c =
    let entries : List Entry = entries_between c.args.states c.args.replay.now.entries in
    trusted_end entries c.loop-entry.rest.now c.args.state.now c.loop-entry.state c.loop-entry.found.items
    (λ left is. told_none c.first_of-next.result left c.in-None.is (c.first_of-next.ensures.none left is)) c.loop-entry.invariant
