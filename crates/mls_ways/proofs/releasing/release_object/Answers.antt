use Rattle.mls_tables.specs.declared.mode.Mode.TheVariants.{Execute, Read, Append}
use Rattle.mls_ways.proofs.Freeing.{releases_on, still_free, subject_still, object_still, four_free}
use Rattle.mls_ways.proofs.releasing.release_object.Goals as goal

pub release_mode-requires-2-clause-subject : goal.release_mode-requires-2-clause-subject
release_mode-requires-2-clause-subject c =
    subject_still c.args.state.now c.release_mode.new.state c.args.script.now.items c.release_mode.new.script.items c.args.s
    c.in_ok-release_mode.ensures.releases c.requires.subject

pub release_mode-requires-2-clause-object : goal.release_mode-requires-2-clause-object
release_mode-requires-2-clause-object c =
    object_still c.args.state.now c.release_mode.new.state c.args.script.now.items c.release_mode.new.script.items c.args.o
    c.in_ok-release_mode.ensures.releases c.requires.object

pub release_mode-requires-3-clause-subject : goal.release_mode-requires-3-clause-subject
release_mode-requires-3-clause-subject c =
    subject_still c.args.state.now c.release_mode-2.new.state c.args.script.now.items c.release_mode-2.new.script.items c.args.s
    (releases_on c.args.state.now c.release_mode.new.state c.release_mode-2.new.state c.args.script.now.items c.release_mode.new.script.items c.release_mode-2.new.script.items
    c.in_ok-release_mode.ensures.releases c.in_ok-release_mode-2.ensures.releases) c.requires.subject

pub release_mode-requires-3-clause-object : goal.release_mode-requires-3-clause-object
release_mode-requires-3-clause-object c =
    object_still c.args.state.now c.release_mode-2.new.state c.args.script.now.items c.release_mode-2.new.script.items c.args.o
    (releases_on c.args.state.now c.release_mode.new.state c.release_mode-2.new.state c.args.script.now.items c.release_mode.new.script.items c.release_mode-2.new.script.items
    c.in_ok-release_mode.ensures.releases c.in_ok-release_mode-2.ensures.releases) c.requires.object

pub release_mode-requires-4-clause-subject : goal.release_mode-requires-4-clause-subject
release_mode-requires-4-clause-subject c =
    subject_still c.args.state.now c.release_mode-3.new.state c.args.script.now.items c.release_mode-3.new.script.items c.args.s
    (releases_on c.args.state.now c.release_mode-2.new.state c.release_mode-3.new.state c.args.script.now.items c.release_mode-2.new.script.items c.release_mode-3.new.script.items
    (releases_on c.args.state.now c.release_mode.new.state c.release_mode-2.new.state c.args.script.now.items c.release_mode.new.script.items c.release_mode-2.new.script.items
    c.in_ok-release_mode.ensures.releases c.in_ok-release_mode-2.ensures.releases) c.in_ok-release_mode-3.ensures.releases) c.requires.subject

pub release_mode-requires-4-clause-object : goal.release_mode-requires-4-clause-object
release_mode-requires-4-clause-object c =
    object_still c.args.state.now c.release_mode-3.new.state c.args.script.now.items c.release_mode-3.new.script.items c.args.o
    (releases_on c.args.state.now c.release_mode-2.new.state c.release_mode-3.new.state c.args.script.now.items c.release_mode-2.new.script.items c.release_mode-3.new.script.items
    (releases_on c.args.state.now c.release_mode.new.state c.release_mode-2.new.state c.args.script.now.items c.release_mode.new.script.items c.release_mode-2.new.script.items
    c.in_ok-release_mode.ensures.releases c.in_ok-release_mode-2.ensures.releases) c.in_ok-release_mode-3.ensures.releases) c.requires.object

pub returns-clause-releases : goal.returns-clause-releases
returns-clause-releases c =
    releases_on c.args.state.now c.release_mode-3.new.state c.release_mode-4.new.state c.args.script.now.items c.release_mode-3.new.script.items c.release_mode-4.new.script.items
    (releases_on c.args.state.now c.release_mode-2.new.state c.release_mode-3.new.state c.args.script.now.items c.release_mode-2.new.script.items c.release_mode-3.new.script.items
    (releases_on c.args.state.now c.release_mode.new.state c.release_mode-2.new.state c.args.script.now.items c.release_mode.new.script.items c.release_mode-2.new.script.items
    c.in_ok-release_mode.ensures.releases c.in_ok-release_mode-2.ensures.releases) c.in_ok-release_mode-3.ensures.releases) c.in_ok-release_mode-4.ensures.releases

pub returns-clause-free : goal.returns-clause-free
returns-clause-free c =
    four_free c.release_mode-4.new.state c.args.s c.args.o
    (still_free c.release_mode-3.new.state c.release_mode-4.new.state c.release_mode-3.new.script.items c.release_mode-4.new.script.items (c.args.s, c.args.o, Execute) c.in_ok-release_mode-4.ensures.releases (still_free c.release_mode-2.new.state c.release_mode-3.new.state c.release_mode-2.new.script.items c.release_mode-3.new.script.items (c.args.s, c.args.o, Execute) c.in_ok-release_mode-3.ensures.releases (still_free c.release_mode.new.state c.release_mode-2.new.state c.release_mode.new.script.items c.release_mode-2.new.script.items (c.args.s, c.args.o, Execute) c.in_ok-release_mode-2.ensures.releases c.in_ok-release_mode.ensures.free)))
    (still_free c.release_mode-3.new.state c.release_mode-4.new.state c.release_mode-3.new.script.items c.release_mode-4.new.script.items (c.args.s, c.args.o, Read) c.in_ok-release_mode-4.ensures.releases (still_free c.release_mode-2.new.state c.release_mode-3.new.state c.release_mode-2.new.script.items c.release_mode-3.new.script.items (c.args.s, c.args.o, Read) c.in_ok-release_mode-3.ensures.releases c.in_ok-release_mode-2.ensures.free))
    (still_free c.release_mode-3.new.state c.release_mode-4.new.state c.release_mode-3.new.script.items c.release_mode-4.new.script.items (c.args.s, c.args.o, Append) c.in_ok-release_mode-4.ensures.releases c.in_ok-release_mode-3.ensures.free)
    c.in_ok-release_mode-4.ensures.free
