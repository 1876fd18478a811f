use Rattle.std.proofs.Common.{◌≡◌, ℕ, nat_lt, ap, subst, sym, ◌∙◌, arith}
use Rattle.mls_ways.specs.Releases.{IsFree}
use Rattle.mls_ways.proofs.Freeing.{releases_none, releases_on, no_subject, one_subject, all_free}
use Rattle.mls_ways.proofs.releasing.release_all.Goals as goal

pub loop-n-init : goal.loop-n-init
loop-n-init c = record {
  releases = releases_none c.args.state.now c.args.script.now.items;
  free = no_subject c.args.state.now;
}

pub loop-n-preserved : goal.loop-n-preserved
loop-n-preserved c = record {
  releases = releases_on c.args.state.now c.loop-n.state c.release_subject.new.state c.args.script.now.items c.loop-n.script.items c.release_subject.new.script.items
      c.loop-n.invariant.releases c.in_ok-release_subject.ensures.releases;
  free = one_subject c.loop-n.state c.release_subject.new.state c.loop-n.script.items c.release_subject.new.script.items c.loop-n.n
      c.in_ok-release_subject.ensures.releases c.loop-n.invariant.free
      (subst (λ s. (o : ℕ) → IsFree c.release_subject.new.state s o) c.new.ensures c.in_ok-release_subject.ensures.free);
}

pub returns-clause-nothing : goal.returns-clause-nothing
returns-clause-nothing c =
    let all : c.loop-n.n ≡ c.subject_count-n-end.result = omega arith in
    all_free c.args.state.now c.loop-n.state c.args.script.now.items c.loop-n.script.items c.loop-n.n c.agrees.ensures.tree
    (λ s. c.subject_count-n-end.ensures.count s ∙ ap (nat_lt s) (sym all)) c.loop-n.invariant.releases c.loop-n.invariant.free
