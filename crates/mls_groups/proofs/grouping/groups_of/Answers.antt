use Rattle.std.proofs.Common.{◌≡◌, ◌++◌, ◌∷◌, ◌-◌, ◌+◌, ◌<◌, ◌≤◌, length, drop, slice_index_or, sym, ap, ◌∙◌, arith}
use Rattle.std.specs.Prelude.{map}
use Rattle.mls_groups.specs.Groups.{run_of, runs, runs_from}
use Rattle.mls_groups.specs.declared.grouping.Group.{Group}
use Rattle.mls_groups.proofs.Runs.{drop_here, runs_push, last_step, groups_count}
use Rattle.mls_groups.proofs.grouping.groups_of.Goals as goal

pub loop-place-preserved : goal.loop-place-preserved
loop-place-preserved c =
    let keys = c.args.keys.now in
    let i = c.loop-place.place in
    let within : i < length keys = omega arith in
    let front = map run_of c.loop-place.groups.items in
    let here : drop i keys ≡ slice_index_or keys i 0 ∷ drop (i + 1) keys = drop_here keys i within in
    record {
      begun = c.in_ok-next_key.ensures.before;
      within = omega arith;
      told = c.in_ok-next_key.ensures.runs (drop (i + 1) keys)
          ∙ ap (λ t. front ++ runs_from c.loop-place.key (i - c.loop-place.begin) t) (sym here) ∙ c.loop-place.invariant.told;
    }

pub returns : goal.returns
returns c =
    let keys = c.args.keys.now in
    let over : length keys ≤ c.loop-place.place = omega arith in
    let upto = c.loop-place.invariant.within in
    let last : Group = record { key = c.loop-place.key; begin = c.loop-place.begin; count = length keys - c.loop-place.begin } in
    groups_count keys c.push.new.self.items c.requires
    (ap (map run_of) c.in_ok-push.ensures.items ∙ runs_push c.loop-place.groups.items last
    ∙ last_step keys c.loop-place.key c.loop-place.begin c.loop-place.place (map run_of c.loop-place.groups.items) (runs keys) over upto c.loop-place.invariant.told)
