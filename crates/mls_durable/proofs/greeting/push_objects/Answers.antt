use Rattle.std.proofs.Common.{ap, codes, ◌∙◌, ◌++◌, string_bytes}
use Rattle.mls_durable.specs.Greeting.{named_line}
use Rattle.mls_durable.proofs.Greetings.{begins, grows, objects_none, objects_more}
use Rattle.mls_durable.proofs.greeting.push_objects.Goals as goal

pub loop-o-init : goal.loop-o-init
loop-o-init c = begins _ _ (objects_none _)

pub loop-o-preserved : goal.loop-o-preserved
loop-o-preserved c =
    grows _ _ _ _ _ _ c.loop-o.invariant (c.in_ok-push_named.ensures ∙ ap (λ n. string_bytes c.loop-o.text ++ named_line (codes "object ") c.loop-o.o n) c.object_name.ensures) (objects_more _ _)
