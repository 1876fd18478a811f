use Rattle.std.proofs.Common.{ap, ◌∙◌}
use Rattle.std.specs.Prelude.{slice_get}
use Rattle.mls_snapshots.proofs.Likes.{named_old, named_new}
use Rattle.mls_snapshots.proofs.names.is_named.Goals as goal

pub returns-in-Some-object_name : goal.returns-in-Some-object_name
returns-in-Some-object_name c = λ same.
    named_old c.args.old.now.objects c.args.new.now.objects c.args.k c.args.o c.in-Some.name.now c.in-Some-object_name.given.now (c.in-Some.ensures ∙ ap (slice_get c.args.new.now.objects) c.new.ensures) c.in-Some-object_name.ensures
    (c.is_same_text.ensures.same same)

pub returns-in-None : goal.returns-in-None
returns-in-None c =
    named_new c.args.old.now.objects c.args.new.now.objects c.args.k c.args.o c.in-Some.name.now c.is_first_free.result (c.in-Some.ensures ∙ ap (slice_get c.args.new.now.objects) c.new.ensures) c.in-None.ensures
    c.is_first_free.ensures
