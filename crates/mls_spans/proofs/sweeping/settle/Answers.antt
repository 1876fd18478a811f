use Rattle.std.proofs.Common.{rules, ◌≡◌, ◌<◌, true, length, get_or, set, sym, ap, ◌∙◌}
use Rattle.std.specs.Prelude.{◌&&◌, nat_lt}
use Rattle.std.proofs.lemmas.Bool.{and_parts}
use Rattle.mls_spans.specs.Sweeping.{is_lost}
use Rattle.mls_spans.proofs.Swept.{swept_end}
use Rattle.mls_spans.proofs.sweeping.settle.Goals as goal

pub returns : goal.returns
returns c = λ first rest so_far.
    let spans = c.args.spans.now.items in
    let span = c.index.result.now in
    let lost : c.is_lost_at.result ≡ true = search rules in
    let within : c.args.at < length spans = search rules in
    let there : span ≡ get_or spans c.args.at span = search rules in
    let both : (nat_lt c.args.at (length spans) && is_lost c.args.state.now (get_or spans c.args.at span)) ≡ true =
    ap (λ l. nat_lt c.args.at (length l) && is_lost c.args.state.now (get_or l c.args.at span)) (sym c.deref.ensures.value) ∙ sym (c.is_lost_at.ensures.lost span) ∙ lost in
    let is : is_lost c.args.state.now span ≡ true =
    ap (is_lost c.args.state.now) there ∙ (and_parts (nat_lt c.args.at (length spans)) (is_lost c.args.state.now (get_or spans c.args.at span)) both).1 in
    swept_end c.args.state.now c.args.ending first spans (set spans c.args.at c.ended-span.result) c.args.at rest c.args.kept.now.items span within is there
    (ap (set spans c.args.at) c.ended-span.ensures) so_far
