use Rattle.std.proofs.Common.{◌≡◌, ℕ, ◌+◌, ◌-◌, ◌<◌, ◌&&◌, not, length, get_or, sym, ap, ◌∙◌, arith}
use Rattle.std.proofs.lemmas.List.{get_or_default}
use Rattle.mls_tables.specs.Rows.{is_in_run}
use Rattle.mls_tables.specs.Table.{without_objects}
use Rattle.mls_tables.specs.Held.{is_held}
use Rattle.mls_tables.proofs.Held.{held_without_group}
use Rattle.mls_tables.proofs.Indexes.{Indexes-same}
use Rattle.mls_tables.proofs.IndexedTable.{holders_below, IsIndexed-changed}
use Rattle.mls_tables.proofs.TakenRuns.{any_in_run}
use Rattle.mls_tables.proofs.access_set.AccessSet.drop_run.Goals as goal

pub unlink_run-requires-clause-subjects : goal.unlink_run-requires-clause-subjects
unlink_run-requires-clause-subjects g c o =
    let index = c.self.inside.index in
    holders_below (is_held c.self.inside.matrix.triples) index.objects.lists index.subjects.lists c.self.invariant.held o

pub invariant_of-self : goal.invariant_of-self
invariant_of-self g c =
    let index = c.self.inside.index in
    let matrix = c.self.inside.matrix in
    let after = c.unlink_run.new.self in
    let run = c.args.run.now in
    let first = c.number-first.result in
    let end = c.number-last.result + 1 in
    let head : get_or run 0 0 ≡ first = get_or_default run 0 0 c.index-run-0.result c.requires.some ∙ sym c.index-run-0.is ∙ sym c.number-first.ensures in
    let back : get_or run (length run - 1) 0 ≡ c.number-last.result = get_or_default run (length run - 1) 0 c.index-run-run.result (omega arith) ∙ sym c.index-run-run.is ∙ sym c.number-last.ensures in
    let each : (k : ℕ) → k < length run → get_or run k 0 ≡ first + k = λ k within. c.requires.run k within ∙ ap (λ n. n + k) head in
    let tail : first + length run ≡ end = let step = each (length run - 1) (omega arith) in omega arith in
    rw c.clear_objects.ensures (IsIndexed-changed matrix index.objects.lists index.subjects.lists after.objects.lists after.subjects.lists (without_objects matrix.triples run) c.self.invariant c.unlink_run.ensures.rows c.unlink_run.ensures.columns
    (Indexes-same _ (is_held (without_objects matrix.triples run)) after.objects.lists after.subjects.lists (λ a b. sym (held_without_group matrix.triples run a b ∙ ap (λ e. is_held matrix.triples a b && not e) (any_in_run run first each b ∙ ap (λ n. is_in_run first n b) tail))) (c.unlink_run.ensures.gone.told (is_held matrix.triples) c.self.invariant.held)))
