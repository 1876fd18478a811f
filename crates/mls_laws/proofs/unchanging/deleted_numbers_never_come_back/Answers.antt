use Rattle.std.proofs.Common.{ap, sym, ◌∙◌}
use Rattle.mls_state.specs.State.{State, is_active}
use Rattle.mls_rules.specs.Rules.{reply}
use Rattle.mls_monitor.specs.Journal.{fold}
use Rattle.mls_laws.proofs.Answered.{fold-append, fold_secure}
use Rattle.mls_laws.proofs.Kept.{fold_profile, stays_gone, never_before, stays_between}
use Rattle.mls_laws.proofs.unchanging.deleted_numbers_never_come_back.Goals as goal

pub returns : goal.returns
returns c = record {
  gone = λ v front rest o h one active gone. ap (λ (w : State). is_active w o) (fold-append v front rest) ∙ stays_gone v front rest o h one active gone;
  new = λ v front rest r o h one made.
      never_before (fold v front) rest r o (fold_secure v front h) (fold_profile v front ∙ one) (ap (λ (w : State). reply w r) (sym (fold-append v front rest)) ∙ made);
  between = λ v entries o h one active there. stays_between v entries o one h.tree active there;
}
