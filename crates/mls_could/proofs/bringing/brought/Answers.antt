use Rattle.std.proofs.Common.{◌≡◌, ◌++◌, [], ap, ◌∙◌, arith}
use Rattle.std.specs.Prelude.{filter}
use Rattle.mls_could.specs.Brought.{accesses_by, accesses_of, is_lacking}
use Rattle.mls_could.proofs.Tested.{is_could, decides, more_lacking}
use Rattle.mls_could.proofs.bringing.brought.Goals as goal

pub loop-n-preserved : goal.loop-n-preserved
loop-n-preserved c = λ test right.
    more_lacking (is_lacking c.args.state.now test) accesses_by c.loop-n.n [] c.loop-n.found.items c.push_subject.new.found.items (c.loop-n.invariant test right)
    (c.in_ok-push_subject.ensures test right ∙ ap (λ k. c.loop-n.found.items ++ filter (is_lacking c.args.state.now test) (accesses_by k)) c.new.ensures)

pub returns : goal.returns
returns c =
    let all : c.loop-n.n ≡ c.subject_count-n-end.result = omega arith in
    let right = decides c.args.state.now c.args.outset.now c.agrees.ensures.tree c.requires in
    record {
      test = is_could c.args.state.now c.args.outset.now;
      right = right;
      subjects = c.subject_count-n-end.result;
      known = c.subject_count-n-end.ensures.count;
      all = c.loop-n.invariant (is_could c.args.state.now c.args.outset.now) right
          ∙ ap (λ k. filter (is_lacking c.args.state.now (is_could c.args.state.now c.args.outset.now)) (accesses_of k)) all;
    }
