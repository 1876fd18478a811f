use Rattle.std.proofs.Common.{sym, ap, ◌∙◌}
use Rattle.std.proofs.lemmas.Bool.{and_from}
use Rattle.std.specs.FinMap as map
use Rattle.mls_state.specs.State.{State, is_subject, is_active}
use Rattle.mls_laws.proofs.Lowered.{get_answer, get_change, get_held, all_lowered}
use Rattle.mls_laws.proofs.machine_z.system_z_grants_every_access.Goals as goal

pub returns : goal.returns
returns c = record {
  reply = λ v s o x subject object. get_answer v s o x (and_from (is_subject v s) (is_active v o) subject object);
  held = λ v s o x subject object. get_held v s o x (and_from (is_subject v s) (is_active v o) subject object);
  maximum = λ v s o t x l subject object at.
      all_lowered v.maximum t l (sym (ap (λ (w : State). map.get w.maximum t) (get_change v s o x (and_from (is_subject v s) (is_active v o) subject object))) ∙ at);
  current = λ v s o t x l subject object at.
      all_lowered v.maximum t l (sym (ap (λ (w : State). map.get w.current t) (get_change v s o x (and_from (is_subject v s) (is_active v o) subject object))) ∙ at);
  subject_integrity = λ v s o t x l subject object at.
      all_lowered v.maximum t l (sym (ap (λ (w : State). map.get w.subject_integrity t) (get_change v s o x (and_from (is_subject v s) (is_active v o) subject object))) ∙ at);
  object_label = λ v s o q x l subject object at.
      all_lowered v.object_label q l (sym (ap (λ (w : State). map.get w.object_label q) (get_change v s o x (and_from (is_subject v s) (is_active v o) subject object))) ∙ at);
  object_integrity = λ v s o q x l subject object at.
      all_lowered v.object_label q l (sym (ap (λ (w : State). map.get w.object_integrity q) (get_change v s o x (and_from (is_subject v s) (is_active v o) subject object))) ∙ at);
}
