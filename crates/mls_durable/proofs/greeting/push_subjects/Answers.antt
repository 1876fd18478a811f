use Rattle.std.proofs.Common.{ap, codes, ◌∙◌, ◌++◌, string_bytes}
use Rattle.mls_durable.specs.Greeting.{named_line}
use Rattle.mls_durable.proofs.Greetings.{begins, grows, subjects_none, subjects_more}
use Rattle.mls_durable.proofs.greeting.push_subjects.Goals as goal

pub loop-s-init : goal.loop-s-init
loop-s-init c = begins _ _ (subjects_none _)

pub loop-s-preserved : goal.loop-s-preserved
loop-s-preserved c =
    grows _ _ _ _ _ _ c.loop-s.invariant (c.in_ok-push_named.ensures ∙ ap (λ n. string_bytes c.loop-s.text ++ named_line (codes "subject ") c.loop-s.s n) c.subject_name.ensures) (subjects_more _ _)
