use Rattle.std.proofs.Common.{sym, ◌∙◌}
use Rattle.std.proofs.lemmas.Bool.{and_from}
use Rattle.mls_state.specs.State.{is_subject, is_active}
use Rattle.mls_ways.proofs.Freeing.{releases_none, releases_one, released_free, release_granted}
use Rattle.mls_ways.proofs.releasing.release_mode.Goals as goal

pub returns-then-not-has_access-clause-releases : goal.returns-then-not-has_access-clause-releases
returns-then-not-has_access-clause-releases c = releases_none c.args.state.now c.args.script.now.items

pub ask-requires : goal.ask-requires
ask-requires c =
    release_granted c.args.state.now (c.args.s, c.args.o, c.args.x)
    (and_from (is_subject c.args.state.now c.args.s) (is_active c.args.state.now c.args.o) c.requires.subject c.requires.object)

pub returns-clause-releases : goal.returns-clause-releases
returns-clause-releases c =
    releases_one c.args.state.now (c.args.s, c.args.o, c.args.x) c.ask.new.state c.args.script.now.items c.ask.new.script.items
    (and_from (is_subject c.args.state.now c.args.s) (is_active c.args.state.now c.args.o) c.requires.subject c.requires.object)
    c.in_ok-ask.ensures.state c.in_ok-ask.ensures.script

pub returns-clause-free : goal.returns-clause-free
returns-clause-free c =
    released_free c.args.state.now (c.args.s, c.args.o, c.args.x) c.ask.new.state
    (and_from (is_subject c.args.state.now c.args.s) (is_active c.args.state.now c.args.o) c.requires.subject c.requires.object)
    c.in_ok-ask.ensures.state
