use Rattle.std.proofs.Common.{ap}
use Rattle.std.specs.FinMap as map
use Rattle.mls_laws.proofs.Kept.{Fixed, fold_fixed, fold_profile}
use Rattle.mls_laws.proofs.unchanging.what_subjects_may_never_changes.Goals as goal

pub returns : goal.returns
returns c = record {
  subjects = λ v entries s. ap (λ (f : Fixed). map.contains_key f.0 s) (fold_fixed v entries);
  maximum = λ v entries. ap (λ (f : Fixed). f.0) (fold_fixed v entries);
  integrity = λ v entries. ap (λ (f : Fixed). f.1) (fold_fixed v entries);
  trusted = λ v entries. ap (λ (f : Fixed). f.2) (fold_fixed v entries);
  security_bounds = λ v entries. ap (λ (f : Fixed). f.3) (fold_fixed v entries);
  integrity_bounds = λ v entries. ap (λ (f : Fixed). f.4) (fold_fixed v entries);
  profile = fold_profile;
}
