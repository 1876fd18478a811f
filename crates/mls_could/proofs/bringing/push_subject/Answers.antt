use Rattle.std.proofs.Common.{◌≡◌, ◌++◌, sym, ap, ◌∙◌, arith}
use Rattle.std.specs.Prelude.{filter}
use Rattle.std.specs.List.{flat_map, range_with_len}
use Rattle.mls_tables.specs.declared.limits.TheConstants.{MAX_OBJECTS}
use Rattle.mls_could.specs.Brought.{accesses_to, is_lacking}
use Rattle.mls_could.proofs.Tested.{more_lacking, accesses_all}
use Rattle.mls_could.proofs.bringing.push_subject.Goals as goal

pub loop-n-preserved : goal.loop-n-preserved
loop-n-preserved c = λ test right.
    more_lacking (is_lacking c.args.state.now test) (accesses_to c.args.s) c.loop-n.n c.args.found.now.items c.loop-n.found.items c.push_object.new.found.items
    (c.loop-n.invariant test right)
    (c.in_ok-push_object.ensures test right ∙ ap (λ k. c.loop-n.found.items ++ filter (is_lacking c.args.state.now test) (accesses_to c.args.s k)) c.new.ensures)

pub returns : goal.returns
returns c = λ test right.
    let all : c.loop-n.n ≡ MAX_OBJECTS = omega arith in
    c.loop-n.invariant test right
    ∙ ap (λ k. c.args.found.now.items ++ filter (is_lacking c.args.state.now test) (flat_map (accesses_to c.args.s) (range_with_len 0 k))) all
    ∙ ap (λ ts. c.args.found.now.items ++ filter (is_lacking c.args.state.now test) ts) (sym (accesses_all c.args.s))
